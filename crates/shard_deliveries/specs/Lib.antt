pub mod Accepting
pub mod Children
pub mod Pending
