pub mod Paragraph
pub mod PrintableTexts
mod Refuted
pub mod Text
pub mod Common
