pub mod Common
pub mod FullLines
pub mod InSteps
pub mod Paragraph
pub mod PieceLines
pub mod PlacedPieces
pub mod PrintableTexts
pub mod PrintableWords
mod Refuted
pub mod Text
pub mod WordLines
