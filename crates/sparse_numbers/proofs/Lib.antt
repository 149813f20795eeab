mod BeforeLemmas
pub mod NumberLemmas
mod PageLemmas
