pub mod CommandsBack
pub mod ListLemmas
pub mod OlderBack
pub mod TextsUtf8
pub mod ValuesBack
