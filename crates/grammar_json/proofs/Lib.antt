pub mod FaultLemmas
pub mod MemberLemmas
pub mod CountLemmas
pub mod PairLemmas
pub mod ReadingLemmas
