pub mod ClapKeys
pub mod ClapWalks
pub mod ClapRows
pub mod ClapAsks
pub mod ClapFacts
pub mod ClapSaid
pub mod ClapLaw
pub mod WordLaws
