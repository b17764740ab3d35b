pub mod Units
pub mod Reading
pub mod Kept
pub mod Measured
pub mod Rows
pub mod Refuted
