mod Examples
mod RowLemmas
mod TestLemmas
