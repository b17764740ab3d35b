pub mod Common
pub mod FirstFitLines
pub mod LaidLemmas
pub mod PieceLemmas
pub mod PieceSums
pub mod PrintedLines
