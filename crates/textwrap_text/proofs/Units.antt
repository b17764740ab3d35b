pub mod Characters
pub mod Reading
pub mod Texts
pub mod Chunks
