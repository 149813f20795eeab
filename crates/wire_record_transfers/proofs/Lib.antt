pub mod NamesBack
pub mod TransfersBack
pub mod TextsUtf8
