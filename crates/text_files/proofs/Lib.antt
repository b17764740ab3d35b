pub mod FileLemmas
mod Rows
pub mod DiffHunks
pub mod DiffLaws
pub mod DiffLines
pub mod DiffNearest
pub mod DiffReading
pub mod DiffRuns
