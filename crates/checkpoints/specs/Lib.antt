pub mod Checkpoints
pub mod Faults
pub mod Queues
pub mod Restored
pub mod Resumed
