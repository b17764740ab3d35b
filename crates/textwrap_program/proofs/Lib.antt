pub mod ArgumentLemmas
pub mod FillingLemmas
mod Refuted
pub mod WriteLemmas
