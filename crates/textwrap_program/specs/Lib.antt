pub mod Arguments
pub mod Filling
pub mod Program
