pub mod FirstWords
pub mod ReadLemmas
