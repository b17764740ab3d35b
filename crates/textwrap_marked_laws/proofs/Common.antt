-- The names that most proofs cite: those of the crates below, and of the definitions of this crate.
pub use Rattle.std.{proofs.Common.ap₂, proofs.lemmas.Grind.flat_map-append}
pub use Rattle.std.{proofs.Math.Bool.{and-false, or-false}, proofs.lemmas.Slice.Eq.bytes_eq-Decides}
pub use Rattle.std.{proofs.lemmas.List.Elements.All-replicate, proofs.lemmas.List.Sums.suffix_len-le-length}
pub use Rattle.std.{proofs.lemmas.List.Splits.{length-slice_split, slice_split_none}, specs.Prelude.is_some}
pub use Rattle.textwrap_base.specs.Division.{IsDivision}
pub use Rattle.textwrap_layout.specs.Paragraph.{covered}
pub use Rattle.textwrap_marked.specs.Pieces.{words_of_lines, onto_front, with_blank, is_cut, pieces}
pub use Rattle.textwrap_marked.specs.Reflow.{IsReflowedFrom, filled_ending, AreOfBlocks, break_white, printed}
pub use Rattle.textwrap_marked.specs.Reflow.{dividing_algorithm, IsReflowedBehind, byte_order_mark, IsOfBlock}
pub use Rattle.textwrap_marked.specs.Reflow.{shown_lines, filled_end, first_room, later_room, line_texts}
pub use Rattle.textwrap_marked.{specs.Reflow.{ending_if, kept_line, line_text}, specs.Within.touches}
pub use Rattle.textwrap_marked.{specs.Within.AreOfBlocksWithin, specs.declared.within.LineRange.LineRange}
pub use Rattle.textwrap_marked_laws.specs.Laws.{lines_alone, piece_words, text_parts, IsSameBy, Part}
pub use Rattle.textwrap_marked_laws.specs.Laws.{words_between_white, parts_of_blocks, AreSameParts, AreShown}
pub use Rattle.textwrap_marked_lines.specs.Blocks.{is_beside, with_line, goes_on, blocks, stays}
pub use Rattle.textwrap_marked_lines.specs.Hanging.{hanging_comments, hanging_bullets, blanks}
pub use Rattle.textwrap_marked_lines.specs.Lines.{StateText, has_words, is_return, new_fence, LineText}
pub use Rattle.textwrap_marked_lines.specs.Lines.{as_title, fence_at, is_ended, entered, is_deep, passed}
pub use Rattle.textwrap_marked_lines.specs.Lines.{line_as_read, stands_apart, first_state, with_titles}
pub use Rattle.textwrap_marked_lines.specs.Lines.{line_from_words, without_returns, lines_of_text, read_lines}
pub use Rattle.textwrap_marked_lines.specs.Prefixes.{bullets_len, comment_len, quotes_len, is_box}
pub use Rattle.textwrap_marked_lines.{specs.Columns.marks_of, specs.Fences.FenceText}
pub use Rattle.textwrap_marks.proofs.Common.{contains, is_white, list_any, codes, false, subst, Bool, List, ℕ}
pub use Rattle.textwrap_marks.proofs.Common.{false_from_ne_true, is_comment_at, SpacedText, cases_Bool, arith}
pub use Rattle.textwrap_marks.proofs.Common.{has_letter, prefix_len, true≢false, nat_tests, bytes_eq, length}
pub use Rattle.textwrap_marks.proofs.Common.{refl, take, true, ◌++◌, ◌==◌, ◌||◌, not, sym, ◌-◌, ◌<◌, ◌∙◌, ◌∷◌}
pub use Rattle.textwrap_marks.proofs.ListLemmas.{told-apart, each-flat, flat-each, any-none, none-any}
pub use Rattle.textwrap_marks.specs.Marks.{is_comment_opening, is_bullet, is_quote}
pub use Rattle.textwrap_marks.specs.Signs.{closes_early, begins_text, has_columns, first_word, last_white}
pub use Rattle.textwrap_marks.specs.Signs.{words_before_last, opens_paragraph, is_column_word, closes_block}
pub use Rattle.textwrap_marks.specs.Words.{spaced_words, spaced_text, has_bytes, has_byte}
pub use Rattle.textwrap_marks.{proofs.Common.{◌≡◌, [], ap}, specs.Signs.{deeper_by, last_word, is_key}}
pub use Rattle.textwrap_marks.{proofs.ListLemmas.or-left, specs.declared.options.ReflowOptions.ReflowOptions}
pub use Rattle.textwrap_text.proofs.Common.{All-append, All-weaker, append-nil, length-map, map-append, blank}
pub use Rattle.textwrap_text.proofs.Common.{All-cons, All-head, All-tail, drop_all, eqb-true, flat_map, None}
pub use Rattle.textwrap_text.proofs.Common.{is_blank, take_all, All-nil, reverse, take_at, Option, get_or}
pub use Rattle.textwrap_text.proofs.Common.{length-drop, slice_range, slice_split, starts_with, trimmed_len}
pub use Rattle.textwrap_text.proofs.Common.{lt-ltb, nat_eq, nat_lt, ne_eqb, Some, cond, drop, zero, ◌&&◌, All}
pub use Rattle.textwrap_text.proofs.Common.{onto_first, option_map, suffix_len, drop_more, ends_with, All-map}
pub use Rattle.textwrap_text.proofs.Common.{take-append-drop, join_with_byte, length-append, append_assoc, ⊤}
pub use Rattle.textwrap_text.proofs.Lists.Parts.{starts_with-rest, all-right, all-left, flat}
pub use Rattle.textwrap_text.specs.Blanks.{final_blanks}
pub use Rattle.textwrap_text.specs.declared.line_ending.LineEnding.TheVariants.{CRLF, LF}
pub use Rattle.textwrap_text.{proofs.Common.{inl, inr, map, suc, ◌+◌, ◌≢◌, ◌≤◌, ◌⊎◌}, specs.Units.text_width}
pub use Rattle.textwrap_text.{specs.LineEnding.ending_bytes, specs.declared.line_ending.LineEnding.LineEnding}
pub use Rattle.textwrap_words.proofs.Common.{ByOptimalFit, IsDividedBy, Algorithm, WordText, sizes_of}
pub use Rattle.textwrap_words.proofs.Common.{word_of}
