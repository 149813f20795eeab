pub mod Attempts
pub mod Starts
pub mod Tasks
