pub mod Cards
pub mod Days
pub mod Given
