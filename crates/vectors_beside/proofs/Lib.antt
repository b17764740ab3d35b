mod Common
pub mod Fitted
