-- The names that most proofs cite: those of the crates below, and of the definitions of this crate.
pub use Rattle.std.proofs.Common.{ap₂}
pub use Rattle.std.specs.Prelude.{is_some}
pub use Rattle.textwrap_layout.specs.Paragraph.{covered}
pub use Rattle.textwrap_marked_lines.specs.Blocks.{behind_block, first_block, is_beside, with_line}
pub use Rattle.textwrap_marked_lines.specs.Blocks.{goes_on, blocks, stays}
pub use Rattle.textwrap_marked_lines.specs.Lines.{LineText, marked_line_view}
pub use Rattle.textwrap_marked.specs.Pieces.{with_blank, with_words, is_cut, pieces, words_of_lines}
pub use Rattle.textwrap_marked.specs.Pieces.{joined_view, onto_front, piece_view, cuts_from}
pub use Rattle.textwrap_marked_lines.specs.Reading.{lines_ahead, lines_left}
pub use Rattle.textwrap_marked.specs.Reflow.{AreFilled, IsOfBlock, line_text, AreOfBlocks}
pub use Rattle.textwrap_marked.specs.Reflow.{dividing_algorithm, printed, shown_lines, filled_end}
pub use Rattle.textwrap_marked.specs.Reflow.{first_room, later_room, line_texts}
pub use Rattle.textwrap_marked.specs.Within.{AreOfBlocksWithin, range_behind, touches}
pub use Rattle.textwrap_marked.specs.declared.pieces.JoinedPiece.{JoinedPiece}
pub use Rattle.textwrap_marked.specs.declared.within.LineRange.{LineRange}
pub use Rattle.textwrap_marked.specs.FirstFit.{fitting_view, left}
pub use Rattle.textwrap_marks.proofs.Common.{Bool, List, refl, take, true, ◌++◌, ◌==◌, ◌||◌, ◌-◌}
pub use Rattle.textwrap_marks.proofs.Common.{◌<◌, ◌∙◌, list_any, length, false, subst, sym, not}
pub use Rattle.textwrap_marks.proofs.Common.{nat_tests, arith, ◌∷◌, ◌≡◌, [], ap, ℕ}
pub use Rattle.textwrap_marks.specs.Words.{spaced_words}
pub use Rattle.textwrap_marks.specs.declared.options.ReflowOptions.{ReflowOptions}
pub use Rattle.textwrap_text.proofs.Common.{Some, cond, drop, zero, ◌&&◌, map, suc, ◌+◌, drop_all}
pub use Rattle.textwrap_text.proofs.Common.{flat_map, take_all, IsUtf8, option_map, drop_more, None}
pub use Rattle.textwrap_text.proofs.Common.{trimmed_len, append-nil, length-map, string_bytes}
pub use Rattle.textwrap_text.proofs.Common.{length-drop, slice_range, take-append-drop}
pub use Rattle.textwrap_text.proofs.Common.{length-append, append_assoc, take_at, Option, get_or}
pub use Rattle.textwrap_text.proofs.Common.{lt-ltb, nat_lt, ne_eqb, blank, ◌≤◌}
pub use Rattle.textwrap_text.specs.Blanks.{final_blanks}
pub use Rattle.textwrap_words.proofs.Common.{ByOptimalFit, IsDividedBy, Algorithm, WordText}
pub use Rattle.textwrap_words.proofs.Common.{sizes_of, word_of}
pub use Rattle.textwrap_words.specs.Cuts.{parts_between, AreCuts}
