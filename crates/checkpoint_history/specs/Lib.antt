pub mod Orders
pub mod Histories
pub mod Counts
pub mod CountedPairs
pub mod StoreCounts
