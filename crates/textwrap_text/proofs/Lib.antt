pub mod Units
pub mod Lists
pub mod Numbers
pub mod Texts
pub mod TextLines
pub mod ClassLemmas
pub mod ClassNames
pub mod Common
