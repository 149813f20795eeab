pub mod Limits
pub mod Older
pub mod Reading
pub mod Trees
