pub mod KeepsTo
