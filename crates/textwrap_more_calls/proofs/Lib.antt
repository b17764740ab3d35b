pub mod BalanceLemmas
pub mod EndLemmas
pub mod OffsetLemmas
pub mod PieceLemmas
pub mod StepLemmas
pub mod TextStepLemmas
pub mod Common
