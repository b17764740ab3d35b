-- The names that most proofs cite: those of the standard library, of the crates below, and of the
-- definitions of this crate. Declares nothing.
pub use Rattle.std.{proofs.lemmas.Grind.flat_map-append, specs.Str.chars}
pub use Rattle.textwrap.proofs.Common.{Built, is_blank_line, Line, Slice}
pub use Rattle.textwrap.specs.Refilling.{IsRefilled, unfilled_parts}
pub use Rattle.textwrap.specs.{Columns.{IsInColumns, table_rows}, Indentation.dedented}
pub use Rattle.textwrap_calls.specs.Options.{Divides, options_settings, says_yes, step_settings}
pub use Rattle.textwrap_calls.specs.declared.options.TextwrapOptions.{TextwrapOptions}
pub use Rattle.textwrap_calls.specs.{Columns.ArePlacedRows, Options.{options_algorithm, separator_of}}
pub use Rattle.textwrap_calls.specs.{Status.{done, too_small}, Texts.bytes_of, Wrapping.ShowLines}
pub use Rattle.textwrap_display.specs.JustifiedText.{added_lines}
pub use Rattle.textwrap_display.specs.{Shortening.texts_of, Tables.shape_of}
pub use Rattle.textwrap_layout.proofs.Common.{AreGroups, line_from, line_view, LineParts, widths_of}
pub use Rattle.textwrap_layout.proofs.Common.{covered_by, line_bytes, parts_from, settings_view}
pub use Rattle.textwrap_layout.proofs.Text.Lines.{paragraphs_left, paragraphs_left-split}
pub use Rattle.textwrap_layout.proofs.Text.Paragraphs.{ending_bytes-some, join-paragraphs_of}
pub use Rattle.textwrap_layout.proofs.Text.{Paragraphs.rest-within, Sinks.further-cut_lines}
pub use Rattle.textwrap_layout.proofs.{Common.{is_whole, IsFilled, Settings}, Text.Lines.bytes_left}
pub use Rattle.textwrap_layout.specs.Places.{ArePlacedLines, ArePlacesOf, built_text, HasPlacesMore}
pub use Rattle.textwrap_layout.specs.Places.{HasPlaces, lines_of, place_of, places_of}
pub use Rattle.textwrap_layout.specs.declared.places.{Place.Place, TextwrapLine.TextwrapLine}
pub use Rattle.textwrap_lines.specs.Steps.{pieces_at}
pub use Rattle.textwrap_text.proofs.Common.{All, All-from_get_or, IsPrintableByte, take-append-drop}
pub use Rattle.textwrap_text.proofs.Common.{All-cons, All-head, All-tail, Bool, cases_lt, nat_tests}
pub use Rattle.textwrap_text.proofs.Common.{[], inl, inr, map, suc, sym, ◌*◌, ◌++◌, ◌+◌, ◌==◌, ◌||◌}
pub use Rattle.textwrap_text.proofs.Common.{ap, ◌-◌, ◌<◌, ◌^◌, ◌↔◌, ◌∙◌, ◌∷◌, ◌≡◌, ◌≢◌, ◌≤◌, ◌⊎◌}
pub use Rattle.textwrap_text.proofs.Common.{append-nil, cases_Bool, IsUtf8, slice_range, StartsWith}
pub use Rattle.textwrap_text.proofs.Common.{append_assoc, length-append, length-drop, paragraphs_of}
pub use Rattle.textwrap_text.proofs.Common.{arith, eqb-true, flat_map, map_push, stripped, take_all}
pub use Rattle.textwrap_text.proofs.Common.{cond, drop, List, refl, subst, take, true, units, ◌&&◌}
pub use Rattle.textwrap_text.proofs.Common.{drop_more, eqb-false, join_with, length-map, true≢false}
pub use Rattle.textwrap_text.proofs.Common.{ending_bytes, length-take, slice_index, string_bytes, ℕ}
pub use Rattle.textwrap_text.proofs.Common.{false, filter, get_or, length, lt-ltb, nat_lt, rules}
pub use Rattle.textwrap_text.specs.{Characters.shown, CharactersLeft.characters_left, Units.visible}
pub use Rattle.textwrap_text.{proofs.Lists.Parts.{flat, length-slice}, specs.Characters.shown_text}
pub use Rattle.textwrap_words.proofs.Common.{as_splitter, sizes_of, word_of, word_view, WordText}
pub use Rattle.textwrap_words.specs.{LineEnds.AreEnds, PiecesLeft.standing_left}
pub use Rattle.textwrap_words.{proofs.Common.{tiled, Tiles}, specs.LineEnds.lines_between}
