pub mod TerminalUnits
pub mod States
pub mod Laws
pub mod Stripped
