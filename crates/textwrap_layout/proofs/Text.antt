pub mod Lines
pub mod Paragraphs
pub mod Sinks
