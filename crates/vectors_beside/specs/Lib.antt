pub mod Help
pub mod Styled
pub mod Tables
