pub mod Laws
pub mod Resumed
