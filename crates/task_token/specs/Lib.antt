pub mod RunTexts
pub mod TokenTexts
