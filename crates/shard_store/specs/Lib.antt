pub mod Places
pub mod Lending
pub mod ShardView
pub mod Open
pub mod Fitting
pub mod Standing
