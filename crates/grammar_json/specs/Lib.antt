pub mod FileFalls
pub mod FileViews
pub mod BracketViews
pub mod Faults
pub mod GrammarViews
pub mod Members
pub mod NamedViews
