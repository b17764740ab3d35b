-- The names that most proofs cite: those of the standard library, of the crates below, and of the
-- definitions of this crate. Declares nothing.
pub use Rattle.textwrap_hyphens.specs.Levels.{dotted, level, pattern_level_from, level_in}
pub use Rattle.textwrap_hyphens.specs.Levels.{levels_of}
pub use Rattle.textwrap_patterns.specs.{Listed.{PatternText, pattern_view}, Merging.greatest}
pub use Rattle.textwrap_text.proofs.Common.{All, All-head, All-tail, Bool, List, [], ap}
pub use Rattle.textwrap_text.proofs.Common.{append_assoc, arith, cases_Bool, cond, drop, false}
pub use Rattle.textwrap_text.proofs.Common.{get_or, get_or-take, get_or-map, get_or_default, inl}
pub use Rattle.textwrap_text.proofs.Common.{inr, length, length-append, length-map, map}
pub use Rattle.textwrap_text.proofs.Common.{length-take, map-append, max, min, nat_tests, refl}
pub use Rattle.textwrap_text.proofs.Common.{rules, subst, suc, sym, take, true, zero, ℕ, ◌+◌, ◌++◌}
pub use Rattle.textwrap_text.proofs.Common.{◌-◌, ◌<◌, ◌∙◌, ◌∷◌, ◌≡◌, ◌≤◌, nat_eq, filter}
pub use Rattle.textwrap_text.proofs.Common.{starts_with, range_with_len, slice_index}
