pub mod Common
pub mod Cost
pub mod Division
mod Refuted
pub mod Rows
pub mod Search
