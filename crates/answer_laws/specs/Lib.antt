pub mod GuideLaws
pub mod MatchLaws
pub mod PlaceLaws
