pub mod PlaceLemmas
pub mod GoneLemmas
mod SlotLemmas
pub mod IndexLemmas
pub mod StepLemmas
pub mod OpenLemmas
pub mod TakenLemmas
pub mod KeptLemmas
pub mod OutgoingLemmas
pub mod PlanLemmas
pub mod WaitingLemmas
mod CaughtUpLemmas
