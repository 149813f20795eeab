mod LineLemmas
pub mod NamesBack
pub mod SheetLemmas
mod CountLemmas
pub mod ValuesBack
pub mod PlainLemmas
pub mod TextsUtf8
pub mod PieceLemmas
pub mod ListLemmas
pub mod ReadLemmas
