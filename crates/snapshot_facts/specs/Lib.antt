pub mod Facts
pub mod Restored
pub mod Restoring
