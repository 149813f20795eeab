pub mod Steps
pub mod LineLemmas
pub mod PartLemmas
pub mod OutputLemmas
pub mod SortLemmas
pub mod TicketLemmas
pub mod OnePassLemmas
pub mod QueueLemmas
mod TransferLemmas
pub mod CallLemmas
pub mod OpenLemmas
pub mod ResumeLemmas
mod CloseLemmas
mod OpeningLaws
pub mod RanLemmas
pub mod JournaledLemmas
mod KeptLemmas
mod RecordLaws
pub mod EndLemmas
pub mod FaultLemmas
pub mod TakenLemmas
pub mod TailLemmas
