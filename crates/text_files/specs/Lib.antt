pub mod Rights
pub mod Files
pub mod Differences
pub mod Laws
pub mod Reading
