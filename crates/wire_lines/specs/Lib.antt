pub mod Lines
pub mod Pending
