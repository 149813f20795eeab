pub mod Borrowed
pub mod Reading
