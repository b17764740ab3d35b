pub mod Columns
pub mod Fences
pub mod Prefixes
pub mod Reading
pub mod Blocks
pub mod Hanging
pub mod Lines
