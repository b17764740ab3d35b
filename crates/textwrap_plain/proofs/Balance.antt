pub mod Counted
pub mod Counts
pub mod Narrower
pub mod Room
pub mod Search
