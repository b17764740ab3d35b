-- The names that most proofs cite: those of the standard library, of the crates below, and of the
-- definitions of this crate. Declares nothing.
pub use Rattle.std.proofs.{Common.IfSome, Common.replicate, Common.ap₂, lemmas.Result.IfOk-weaker}
pub use Rattle.std.proofs.lemmas.{Grind.common_steps, Grind.div_ceil_times, Str.IsUtf8-string_bytes}
pub use Rattle.std.proofs.lemmas.{Iterator.Adapters.YieldsList-from_bytes, Str.Ascii.IsAscii-cons}
pub use Rattle.std.proofs.lemmas.Iterator.{Consumers.count_from_yields_List, YieldsList-from_zip}
pub use Rattle.std.{proofs.lemmas.Iterator.Search.YieldsList-from_take_while, specs.Str.chars}
pub use Rattle.std.proofs.lemmas.List.{append_cancel_left, with_items_is, set_at, length-replicate}
pub use Rattle.std.proofs.lemmas.List.Elements.{All-replicate, length_all_zip, All-filter}
pub use Rattle.std.proofs.lemmas.List.Elements.{AllZip-get_or, All-get_or}
pub use Rattle.std.proofs.lemmas.List.Folds.{list_all-append, flat_map-map, map_fixed}
pub use Rattle.std.proofs.lemmas.Str.{len_utf8_bounds, IsCharBoundary-from_ascii, IsAscii-take}
pub use Rattle.std.{specs.Char.is_whitespace, specs.Char.len_utf8, proofs.lemmas.Str.scalars-chars}
pub use Rattle.textwrap.specs.Columns.{at_column_width, cells_by_column, column_cells, IsInColumns}
pub use Rattle.textwrap.specs.Columns.{inner_width, cell_parts, table_rows, column_row, RowLayout}
pub use Rattle.textwrap.specs.Columns.{row_layout, row_count, row_parts, blanks, padded, cells, cell}
pub use Rattle.textwrap.specs.InPlace.{IsFilledInPlace, with_line_feeds, broken_lines, FitsOneLine}
pub use Rattle.textwrap.specs.{InPlace.breaks_from, InPlace.breaks_of, Rows.framed}
pub use Rattle.textwrap.specs.Indentation.{leading_whitespace, indent_of_part, without_margin}
pub use Rattle.textwrap.specs.Indentation.{is_blank_line, margin_of, dedented, indented}
pub use Rattle.textwrap.specs.Paragraph.{Built, Slice, Line}
pub use Rattle.textwrap.specs.Refilling.{is_prefix_character, unfilled_subsequent, unfilled_initial}
pub use Rattle.textwrap.specs.Refilling.{detected_ending, with_indents_of, detected_among, has_text}
pub use Rattle.textwrap.specs.Refilling.{nonempty_lines, unfilled_width, common_prefix, IsPlainByte}
pub use Rattle.textwrap.specs.Refilling.{added_ending, common_start, keeps_ending, IsPlainLine}
pub use Rattle.textwrap.specs.Refilling.{IsPlainWord, ended_lines, joined_text, line_prefix}
pub use Rattle.textwrap.specs.Refilling.{IsRefilled, EndedLine, IsPlain, blanked}
pub use Rattle.textwrap_base.proofs.{Common.IsGreedy, Division.Greedy.line_width-one}
pub use Rattle.textwrap_base.proofs.Division.{Grown.grown-greedy, Grown.grown, Greedy.greedy_unique}
pub use Rattle.textwrap_layout.proofs.Common.{AreParagraphParts, settings_view, layout_view}
pub use Rattle.textwrap_layout.proofs.Common.{line_bytes, parts_from, AreGroups, DividesAs, covered}
pub use Rattle.textwrap_layout.proofs.Common.{DividesAt, LineParts, indent_of, line_from, line_view}
pub use Rattle.textwrap_layout.proofs.Common.{widths_of, IsFilled, Settings, is_whole, parts_of}
pub use Rattle.textwrap_layout.proofs.Paragraph.Covered.{IsBroken-greedy, AreLinesApart, apart_from}
pub use Rattle.textwrap_layout.proofs.Paragraph.Covered.{shortened, IsBroken}
pub use Rattle.textwrap_layout.proofs.Text.Paragraphs.{ending_bytes-some, parts_past-some}
pub use Rattle.textwrap_layout.specs.{Direct.as_algorithm, declared.options.Options.Options}
pub use Rattle.textwrap_layout.specs.Options.{KeepsMethods, MayOverflow, settings_at}
pub use Rattle.textwrap_layout.specs.Paragraph.{DividesUnder}
pub use Rattle.textwrap_lines.proofs.PrintableTexts.Bytes.{split-whole}
pub use Rattle.textwrap_text.proofs.Common.{map-range_with_len_more, chars_from_encodes, All-weaker}
pub use Rattle.textwrap_text.proofs.Common.{starts_with_length, IsUtf8-from_ascii, take-append-drop}
pub use Rattle.textwrap_text.proofs.Common.{common_prefix_len, length-prefix_len, starts_with_of_eq}
pub use Rattle.textwrap_text.proofs.Common.{starts_with_trans, encode_utf8_all, IsCharBoundary, All}
pub use Rattle.textwrap_text.proofs.Common.{range_with_len, length-append, paragraphs_of, and_parts}
pub use Rattle.textwrap_text.proofs.Common.{append_assoc, ending_bytes, string_bytes, length_push}
pub use Rattle.textwrap_text.proofs.Common.{sum_by-cons, trimmed_len, StartsWith, append-nil, arith}
pub use Rattle.textwrap_text.proofs.Common.{false≢true, get_or-map, length-map, map-append, All-nil}
pub use Rattle.textwrap_text.proofs.Common.{option_map, prefix_len, text_width, ends_with, All-cons}
pub use Rattle.textwrap_text.proofs.Common.{join_with, line_feed, nat_tests, take_more, unwrap_or}
pub use Rattle.textwrap_text.proofs.Common.{All-head, All-tail, cases_lt, flat_map, take_all, blank}
pub use Rattle.textwrap_text.proofs.Common.{IsAscii, drop_at, IsUtf8, Option, chunks, eq-eqb, false}
pub use Rattle.textwrap_text.proofs.Common.{filter, get_or, length, nat_eq, ne_eqb, sum_by, ⊎_elim}
pub use Rattle.textwrap_text.proofs.Common.{lines, rules, subst, Bool, List, None, Some, cond, drop}
pub use Rattle.textwrap_text.proofs.Common.{fold, refl, take, true, zero, ◌++◌, ◌==◌, Bor, inl, inr}
pub use Rattle.textwrap_text.proofs.Common.{map, max, min, suc, sym, zip, ◌*◌, ◌+◌, ◌-◌, ◌<◌, ◌^◌}
pub use Rattle.textwrap_text.proofs.Common.{◌↔◌, ◌∙◌, ◌∷◌, ◌≡◌, ◌≢◌, ◌≤◌, ◌⊎◌, [], ap, ℕ}
pub use Rattle.textwrap_text.proofs.Lists.Parts.{some_from_nonempty, from_start, all-right, flat}
pub use Rattle.textwrap_text.proofs.Numbers.{either_short, SomeIff-ok}
pub use Rattle.textwrap_text.proofs.TextLines.{ended_lines-texts, by-lines, texts_of, made_of}
pub use Rattle.textwrap_text.specs.declared.line_ending.LineEnding.{LineEnding}
pub use Rattle.textwrap_text.specs.declared.line_ending.LineEnding.TheVariants.{CRLF, LF}
pub use Rattle.textwrap_words.proofs.Common.{AreInnerCuts, IsDividedBy, MaySeparate, as_splitter}
pub use Rattle.textwrap_words.proofs.Common.{AreWordsOf, Algorithm, ByOptimalFit, MayDivide, word_view}
pub use Rattle.textwrap_words.proofs.Common.{MaySplit, Splitter, WordText, sizes_of, words_of}
pub use Rattle.textwrap_words.proofs.Common.{tile_of, word_of, ByFirstFit, Whole, tiled}
pub use Rattle.textwrap_words.proofs.Word.Words.{text_width-nil, tiled-words_of, tiled-append}
pub use Rattle.textwrap_words.proofs.Word.Words.{words_unique}
pub use borrow.Author.Tests.{tests}
