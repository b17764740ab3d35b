pub mod Dictionaries
pub mod Entries
pub mod Faults
pub mod Laws
pub mod Parsing
pub mod Sections
