pub mod Chosen
pub mod LineCosts
pub mod Measures
pub mod QueueCase
pub mod Results
pub mod Table
