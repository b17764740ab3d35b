pub mod Pieces
pub mod FirstFit
pub mod Reflow
pub mod Choosing
pub mod Within
