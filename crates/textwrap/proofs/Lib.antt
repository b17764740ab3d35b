pub mod Common
pub mod Cutting
pub mod Dividing
mod Refuted
pub mod Text
mod WorkedRows
