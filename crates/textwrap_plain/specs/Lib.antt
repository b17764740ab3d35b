pub mod Balance
pub mod CutSides
pub mod Hyphenated
pub mod Laws
pub mod Options
pub mod Tables
pub mod Widest
