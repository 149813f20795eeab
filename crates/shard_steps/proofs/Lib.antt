pub mod StartLemmas
pub mod TaskLemmas
pub mod ClosingLemmas
pub mod AttemptLemmas
pub mod EndingLemmas
mod ActivityTurnLemmas
pub mod TurnLemmas
