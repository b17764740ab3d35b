pub mod Covered
pub mod LeftOff
pub mod Pieces
pub mod Room
pub mod Standing
pub mod Widths
