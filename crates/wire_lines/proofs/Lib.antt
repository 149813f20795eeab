pub mod FreeLemmas
pub mod LineLemmas
pub mod PendingLemmas
