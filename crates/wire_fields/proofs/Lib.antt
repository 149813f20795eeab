pub mod ListLemmas
pub mod ElementLemmas
