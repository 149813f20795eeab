pub mod Again
pub mod RowLemmas
pub mod RowTexts
pub mod NoControl
pub mod Utf8Texts
pub mod KeysBack
