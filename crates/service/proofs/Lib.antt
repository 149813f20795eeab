pub mod CloseLemmas
pub mod OpenLemmas
pub mod ReopenLemmas
mod OnceLemmas
pub mod StartLemmas
mod ResumeLemmas
pub mod JournalLemmas
pub mod ServedLemmas
mod RouteLemmas
mod TurnLemmas
mod TransferLemmas
mod GroundLemmas
mod HistoryLemmas
