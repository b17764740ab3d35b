pub mod Bounds
pub mod Lines
pub mod Sums
pub mod Texts
