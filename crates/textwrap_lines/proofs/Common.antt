-- The names that most proofs cite: those of the standard library, of the crates below, and of the
-- definitions of this crate. Declares nothing.
pub use Rattle.std.proofs.lemmas.Result.{IfOk-weaker}
pub use Rattle.textwrap_base.proofs.Common.{AreEqualFromSecond, closed_width, Fits, FollowStarts}
pub use Rattle.textwrap_base.proofs.Common.{open_width, priced_at}
pub use Rattle.textwrap_layout.proofs.Common.{AreDividedParts, AreParagraphParts, ArePrintedWithin}
pub use Rattle.textwrap_layout.proofs.Common.{assembled_line, CanKeepToWidth, Line, pieces_of_words}
pub use Rattle.textwrap_layout.proofs.Common.{CutLine, frame_settings, IsDividedInto, settings_view}
pub use Rattle.textwrap_layout.proofs.Common.{AreIndented, AreTextLines, BeforeOthers, KeepToWidths}
pub use Rattle.textwrap_layout.proofs.Common.{first_width, IsFirstLine, KeepsToWidth, NoCutBetween}
pub use Rattle.textwrap_layout.proofs.Common.{frame_lines, later_width, layout_view, line_bytes}
pub use Rattle.textwrap_layout.proofs.Common.{AreGroups, line_slice, parts_from, text_limit, Pushed}
pub use Rattle.textwrap_layout.proofs.Common.{cut_lines, DividesAs, DividesBy, indent_of, LineParts}
pub use Rattle.textwrap_layout.proofs.Common.{is_cut_by, line_from, line_view, pieces_of, places_of}
pub use Rattle.textwrap_layout.proofs.Common.{cut_line, front_of, is_whole, Settings, widths_of}
pub use Rattle.textwrap_layout.proofs.Common.{covered, lines_of, parts_of}
pub use Rattle.textwrap_layout.proofs.Paragraph.LeftOff.{laid_out-cases, tiled-word_of}
pub use Rattle.textwrap_layout.proofs.Paragraph.Pieces.{pieces_of_words-no_penalty, words_cut-texts}
pub use Rattle.textwrap_layout.proofs.Paragraph.Pieces.{pieces-tile, pieces_of_words-tile}
pub use Rattle.textwrap_layout.proofs.Text.Paragraphs.{paragraphs_of-utf8}
pub use Rattle.textwrap_layout.proofs.Text.Sinks.{HasTaken-next, HasTaken-start, lines_of-cut_lines}
pub use Rattle.textwrap_layout.proofs.Text.Sinks.{cut_lines-next, HasTaken-end, lines_of-more}
pub use Rattle.textwrap_layout.proofs.Text.Sinks.{HasTaken}
pub use Rattle.textwrap_layout.specs.Direct.{cuts_of, words_cut}
pub use Rattle.textwrap_layout.specs.Layout.{break_limit, limit_at}
pub use Rattle.textwrap_layout.specs.PiecesLeft.{left_standing}
pub use Rattle.textwrap_lines.specs.PieceLines.{line_so_far, lines_past, LineSoFar, with_piece}
pub use Rattle.textwrap_lines.specs.PieceLines.{line_of, no_pieces}
pub use Rattle.textwrap_lines.specs.Spans.{HaveTexts, span_lines}
pub use Rattle.textwrap_lines.specs.Steps.{split_at}
pub use Rattle.textwrap_lines.specs.declared.spans.Span.{Span}
pub use Rattle.textwrap_text.proofs.Common.{IsCharBoundary-start, IsPrintable, without_final_blanks}
pub use Rattle.textwrap_text.proofs.Common.{Bool, IsCharBoundary, IsPrintableByte, take-append-drop}
pub use Rattle.textwrap_text.proofs.Common.{chars-IsAscii, length-append, length-take-le, MatchBool}
pub use Rattle.textwrap_text.proofs.Common.{append_assoc, ending_bytes, on_ok_weaker, paragraphs_of}
pub use Rattle.textwrap_text.proofs.Common.{[], get_or-drop, get_or-take, IsUtf8-drop, string_bytes}
pub use Rattle.textwrap_text.proofs.Common.{All-append, length-drop, List, slice_range, trimmed_len}
pub use Rattle.textwrap_text.proofs.Common.{All-nil, All-weaker, append-nil, cases_Bool, StartsWith}
pub use Rattle.textwrap_text.proofs.Common.{and_parts, cond_both, drop-drop, drop_more, length-map}
pub use Rattle.textwrap_text.proofs.Common.{All, All-cons, All-drop, All-head, join_with, ltb-false}
pub use Rattle.textwrap_text.proofs.Common.{add-zero, All-tail, All-take, arith, cases_lt, drop_all}
pub use Rattle.textwrap_text.proofs.Common.{drop_at, flat_map, is_blank, IsUtf8, ltb-true, take_at}
pub use Rattle.textwrap_text.proofs.Common.{false, get_or, le-ltb, length, lt-ltb, nat_lt, Option}
pub use Rattle.textwrap_text.proofs.Common.{cond, drop, None, refl, rules, Some, subst, take, true}
pub use Rattle.textwrap_text.proofs.Common.{Bor, inl, inr, map, not, zero, ◌&&◌, ◌++◌, ◌==◌, ◌||◌}
pub use Rattle.textwrap_text.proofs.Common.{suc, sym, ◌+◌, ◌-◌, ◌<◌, ◌^◌, ◌↔◌, ◌∙◌, ◌∷◌, ◌≡◌, ◌≢◌}
pub use Rattle.textwrap_text.proofs.Common.{ap, ℕ, ⊤, ◌≤◌}
pub use Rattle.textwrap_text.proofs.Lists.Parts.{all-left, all-right, flat, length-slice}
pub use Rattle.textwrap_text.proofs.Units.Reading.{printable-width}
pub use Rattle.textwrap_words.proofs.Common.{algorithm_view, AreCuts, ends_in_hyphen, splitter_view}
pub use Rattle.textwrap_words.proofs.Common.{as_splitter, broken_words, IsDividedBy, MaySeparate}
pub use Rattle.textwrap_words.proofs.Common.{Algorithm, AreWordsOf, broken_word, piece, split_words}
pub use Rattle.textwrap_words.proofs.Common.{ArePoints, ByOptimalFit, MayDivide, MaySplit, word_view}
pub use Rattle.textwrap_words.proofs.Common.{sizes_of, Splitter, tile_of, tiled, words_of, WordText}
pub use Rattle.textwrap_words.proofs.Common.{ByFirstFit, word_of}
pub use Rattle.textwrap_words.proofs.Word.Pieces.{AreTexts, AreTexts-words}
pub use Rattle.textwrap_words.proofs.Word.Words.{HasNoPenalty, IsMeasured, tiled-append}
pub use Rattle.textwrap_words.specs.PieceCuts.{parts_by, pieces_from}
pub use Rattle.textwrap_words.specs.Pieces.{stand_from}
pub use Rattle.textwrap_words.specs.declared.words.Word.{Word}
