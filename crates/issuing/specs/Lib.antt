pub mod Behind
pub mod Settled
