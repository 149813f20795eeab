pub mod Found
pub mod Laid
pub mod Restored
pub mod SoFar
pub mod Stages
pub mod Texts
pub mod Written
