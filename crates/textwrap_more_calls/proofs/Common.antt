-- The names of the definitions of this crate that most proofs cite. Declares nothing.
pub use Rattle.textwrap_calls.proofs.RoomLemmas.{WritesLines-reported, WritesText-answer}
pub use Rattle.textwrap_more_calls.specs.TextSteps.{text_step_cuts}
pub use Rattle.textwrap_more_calls.specs.{Fragments.ends_of, Pieces.offsets_past}
