pub mod Elements
pub mod Parts
