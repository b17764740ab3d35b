pub mod Common
pub mod Lengths
pub mod PlaceLemmas
pub mod PrintableLines
pub mod ReadOptions
pub mod RoomLemmas
pub mod TextLemmas
