pub mod Paths
pub mod Status
