pub mod Marks
pub mod Signs
pub mod Words
