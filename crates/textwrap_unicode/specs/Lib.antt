pub mod Before
pub mod Rules
pub mod Breaks
pub mod BreaksLeft
pub mod Cuts
pub mod Pairs
pub mod WordStarts
pub mod Laws
