-- The names that most proofs cite. Declares nothing.
pub use Rattle.std.proofs.Common.{string_bytes, ℕ}
pub use Rattle.std.proofs.Common.{All, arith, codes, get_or, length}
pub use Rattle.std.proofs.Common.{List, drop, map, refl, rules, subst, sym, take, ◌++◌, ◌+◌}
pub use Rattle.std.proofs.Common.{[], ap, ◌-◌, ◌<◌, ◌∙◌, ◌∷◌, ◌≡◌, ◌≤◌}
pub use Rattle.std.proofs.lemmas.{Str.IsCharBoundary-after_ascii}
pub use Rattle.std.proofs.lemmas.List.{length-map, length_push}
pub use Rattle.std.proofs.lemmas.Result.{IfOk-weaker, on_ok_weaker}
pub use Rattle.std.proofs.lemmas.Str.{IsUtf8-string_bytes, length-encode}
pub use Rattle.std.specs.{Char.len_utf8, Str.Lines.lines}
pub use Rattle.textwrap.proofs.{Text.Tables.AreTextLines-methods}
pub use Rattle.textwrap.proofs.Cutting.{EndWith, HasReadTo-next, HasReadTo-start, inner-push-after}
pub use Rattle.textwrap.proofs.Cutting.{EndWith-push, HasReadTo, ends-push, inner-none, inner-push}
pub use Rattle.textwrap.specs.{Text.AreTextLines}
pub use Rattle.textwrap.specs.{Laws.unbroken_at, Refilling.line_prefix}
pub use Rattle.textwrap.specs.{Paragraph.line_view, WordSplitters.AtHyphens, WordSplitters.Whole}
pub use Rattle.textwrap.specs.Cuts.{AreInnerCuts}
pub use Rattle.textwrap.specs.LineEnds.{AreEnds}
pub use Rattle.textwrap.specs.Options.{HasParts, default_algorithm, settings_at, settings_view}
pub use Rattle.textwrap.specs.Paragraph.{DividesUnder, line_bytes}
pub use Rattle.textwrap_base.proofs.Division.{Greedy.one-width}
pub use Rattle.vectors_beside.specs.{Help.help_columns}
