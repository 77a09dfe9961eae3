pub mod InsideLaws
pub mod LevelLaws
pub mod PairLaws
pub mod Pairing
pub mod RowLaws
