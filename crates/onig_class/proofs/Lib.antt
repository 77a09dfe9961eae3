pub mod ClassLemmas
pub mod EscapeLemmas
pub mod HexLemmas
pub mod SideLemmas
