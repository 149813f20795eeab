pub mod GateViews
pub mod Sources
pub mod Starts
pub mod Opening
pub mod Grounding
pub mod GroundsOn
