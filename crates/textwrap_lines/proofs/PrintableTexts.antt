pub mod Bytes
pub mod Lines
pub mod Pieces
