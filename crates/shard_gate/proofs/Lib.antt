mod StepLemmas
pub mod OpenLemmas
mod CloseLemmas
mod MomentLemmas
