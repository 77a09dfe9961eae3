pub mod ArenaLemmas
pub mod ListLemmas
