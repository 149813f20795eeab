pub mod AcceptLemmas
pub mod FitLemmas
pub mod ChildLemmas
