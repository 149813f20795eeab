pub mod CommandLine
pub mod Queues
pub mod Settings
