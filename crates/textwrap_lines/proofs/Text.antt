pub mod Groups
pub mod Printed
pub mod Promises
