-- The names that most proofs cite: those of the standard library, of the crates below, and of the
-- definitions of this crate. Declares nothing.
pub use Rattle.std.specs.Prelude.{bytes_eq}
pub use Rattle.textwrap_marks.specs.Words.{behind_spaced, spaced_words, SpacedText, has_letter, AreWhite}
pub use Rattle.textwrap_marks.specs.declared.options.ReflowOptions.{ReflowOptions}
pub use Rattle.textwrap_marks.specs.{Marks.is_comment_at, Words.contains, Words.is_white, Words.is_ink}
pub use Rattle.textwrap_text.proofs.Common.{ap, ℕ}
pub use Rattle.textwrap_text.proofs.Common.{arith, codes, false, rules, subst, drop, refl, take, true, []}
pub use Rattle.textwrap_text.proofs.Common.{false_from_ne_true, length-drop, cases_Bool, prefix_len, Bool}
pub use Rattle.textwrap_text.proofs.Common.{true≢false, nat_tests, list_any, IsUtf8, get_or, length, List}
pub use Rattle.textwrap_text.proofs.Common.{◌++◌, ◌==◌, ◌||◌, not, sym, ◌+◌, ◌-◌, ◌<◌, ◌∙◌, ◌∷◌, ◌≡◌, ◌≤◌}
