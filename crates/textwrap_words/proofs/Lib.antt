pub mod Common
mod Refuted
pub mod Word
