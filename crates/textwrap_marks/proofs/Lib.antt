pub mod ContainedTexts
pub mod Letterless
pub mod ListLemmas
pub mod PlainWords
pub mod SpacedLemmas
pub mod Common
pub mod WordCuts
