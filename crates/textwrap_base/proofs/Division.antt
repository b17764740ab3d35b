pub mod Greedy
pub mod Grown
pub mod Map
