pub mod Awaiting
pub mod Issuing
pub mod Outstanding
pub mod Sending
pub mod HandedOver
