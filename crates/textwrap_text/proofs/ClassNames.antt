-- The names that most proofs on the classes of characters cite, those of this crate and of others.
-- Declares nothing.
pub use Rattle.std.proofs.{Common.slice_index_or, Math.Bool.and-false}
pub use Rattle.std.specs.Str.{IsUtf8, Iter.char_indices_rest, chars}
pub use Rattle.textwrap_text.specs.ClassSets.{is_after_text, is_opening, is_space, takes_no_mark}
pub use Rattle.textwrap_text.specs.ClassSets.{is_mark, is_number}
pub use Rattle.textwrap_text.specs.Classes.{class_of, unit_of}
pub use Rattle.textwrap_text.specs.Ideographs.{IsIdeographAt, ideograph_places}
pub use Rattle.textwrap_text.specs.declared.{ascii.TheConstants.CLASSES, classes.Unit.Unit}
pub use Rattle.textwrap_text.{proofs.Units.Reading.read-next, specs.Escapes.visible_in}
pub use Rattle.textwrap_text.proofs.Common.{append_assoc, if◌then◌else◌, length-append, slice_index}
pub use Rattle.textwrap_text.proofs.Common.{and_from, and_parts, append-nil, cases_Bool, true≢false}
pub use Rattle.textwrap_text.proofs.Common.{Bool, cases_lt, is_blank, list_any, nat_tests, not-true}
pub use Rattle.textwrap_text.proofs.Common.{add-one, arith, false, get_or, length, nat_lt, ne_eqb}
pub use Rattle.textwrap_text.proofs.Common.{List, drop, refl, subst, take, true, zero, ◌&&◌, ◌++◌}
pub use Rattle.textwrap_text.proofs.Common.{inl, inr, map, not, suc, sym, ◌*◌, ◌+◌, ◌-◌, ◌==◌, ◌||◌}
pub use Rattle.textwrap_text.proofs.Common.{[], ap, ℕ, ◌<◌, ◌↔◌, ◌∙◌, ◌∷◌, ◌≡◌, ◌≢◌, ◌≤◌}
pub use Rattle.unicode.specs.declared.properties.LineBreak.{LineBreak}
pub use Rattle.unicode.specs.declared.properties.LineBreak.TheVariants.{Alphabetic, Ideographic}
pub use Rattle.unicode.specs.declared.properties.LineBreak.TheVariants.{Ambiguous, Space}
pub use lib.Utf8.{encode}
