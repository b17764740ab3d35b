pub mod CutLemmas
pub mod Common
pub mod PrintableBytes
pub mod PrintableCuts
pub mod TextBreaks
pub mod WordVerdicts
pub mod RuleLemmas
