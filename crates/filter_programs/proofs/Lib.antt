pub mod Joined
pub mod ReadDictionaries
