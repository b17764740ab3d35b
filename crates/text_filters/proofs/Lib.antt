pub mod CommandLemmas
pub mod InputLemmas
pub mod MessageLemmas
mod Refuted
mod SoundStreams
pub mod TreatedInputs
