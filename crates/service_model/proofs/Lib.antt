pub mod ListLemmas
pub mod LatestLemmas
pub mod DispatchLemmas
pub mod ThereLemmas
pub mod ShownLemmas
pub mod GrowthLemmas
pub mod WaitLemmas
pub mod AddingLemmas
mod OrderLemmas
mod TransferLemmas
pub mod WholeLemmas
pub mod GroundLemmas
pub mod TakenLemmas
pub mod QueueLemmas
pub mod NamedLemmas
mod RowWords
mod TaskRows
mod TimerRows
mod ExecutionRows
mod RetentionRows
mod ActivityRows
mod PolicyRows
mod TransferRows
mod ExternalRows
mod ChildRows
mod ShardRows
mod WaitingRows
mod AgingLawLemmas
