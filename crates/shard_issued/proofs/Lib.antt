pub mod AwaitingLemmas
pub mod EachLemmas
pub mod DispatchLemmas
pub mod SendingLemmas
pub mod TakenLemmas
