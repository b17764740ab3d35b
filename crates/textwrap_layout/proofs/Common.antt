-- The names of the definitions of this crate that most proofs cite. Declares nothing.
pub use Rattle.textwrap_layout.specs.Filling.{IsFilled}
pub use Rattle.textwrap_layout.specs.Frame.{frame_settings, frame_widths, frame_lines}
pub use Rattle.textwrap_layout.specs.Layout.{break_limit, front_of, limit_at}
pub use Rattle.textwrap_layout.specs.LineSinks.{Pushed}
pub use Rattle.textwrap_layout.specs.Options.{settings_view, MayOverflow, layout_view}
pub use Rattle.textwrap_layout.specs.Options.{HasParts, Settings}
pub use Rattle.textwrap_layout.specs.Paragraph.{OnlyCharactersPass, AreParagraphParts, KeepToWidths}
pub use Rattle.textwrap_layout.specs.Paragraph.{broken_pieces_of, keeps_whitespace, AreDividedParts}
pub use Rattle.textwrap_layout.specs.Paragraph.{pieces_of_words, IsOneCharacter, assembled_line}
pub use Rattle.textwrap_layout.specs.Paragraph.{IsDividedInto, KeepsToWidth, front_pieces, is_whole}
pub use Rattle.textwrap_layout.specs.Paragraph.{AreIndented, first_width, later_width, width_after}
pub use Rattle.textwrap_layout.specs.Paragraph.{empty_word, last_piece, last_space, line_bytes}
pub use Rattle.textwrap_layout.specs.Paragraph.{parts_from, text_limit, ArePieces, DividesAs, Slice}
pub use Rattle.textwrap_layout.specs.Paragraph.{DividesAt, DividesBy, LineParts, indent_of, covered}
pub use Rattle.textwrap_layout.specs.Paragraph.{line_from, line_view, pieces_by, pieces_of, Line}
pub use Rattle.textwrap_layout.specs.Paragraph.{fitting_pieces, room_of, widths_of, parts_of}
pub use Rattle.textwrap_layout.specs.Places.{ArePlacedLines, HasPlacesMore, AreCutLines, built_text}
pub use Rattle.textwrap_layout.specs.Places.{built_bytes, cut_lines, places_of, text_cuts, cut_line}
pub use Rattle.textwrap_layout.specs.Places.{lines_of, place_of, CutLine, further}
pub use Rattle.textwrap_layout.specs.Printable.{BeforeOthers, NoCutBetween, AfterOthers, line_slice}
pub use Rattle.textwrap_layout.specs.Printable.{IsFirstLine, is_cut_by}
pub use Rattle.textwrap_layout.specs.Text.{HasWholeSequences, ArePrintedWithin, LinesKeepToWidth}
pub use Rattle.textwrap_layout.specs.Text.{IsPrintedWithin, CanKeepToWidth, CutsNoSequence}
pub use Rattle.textwrap_layout.specs.Text.{AreTextLines, HasNoEscape, covered_by, AreGroups}
pub use Rattle.textwrap_layout.specs.Text.{IsWrapped}
pub use Rattle.textwrap_layout.specs.declared.options.Options.{Options}
pub use Rattle.std.proofs.Common.{MatchOption, Iter}
pub use Rattle.std.proofs.lemmas.List.{drop-append-le, drop-take, drop-map}
pub use Rattle.std.proofs.lemmas.Result.{IfOk-weaker}
pub use Rattle.std.proofs.lemmas.Str.{IsCharBoundary-from_rest}
pub use Rattle.textwrap_base.proofs.Common.{closed_width, total_width, IsDivision, Overflowed, Fits}
pub use Rattle.textwrap_base.proofs.Common.{line_width, IsGreedy, AllFit, Sizes}
pub use Rattle.textwrap_layout.specs.Direct.{as_algorithm, HasMethods, pieces_cut, words_cut}
pub use Rattle.textwrap_layout.specs.Direct.{AreWordsCut, CanBeCut, cuts_of}
pub use Rattle.textwrap_layout.specs.LentPlaces.{reported_line, AddsPlace}
pub use Rattle.textwrap_layout.specs.PiecesLeft.{left_standing}
pub use Rattle.textwrap_text.specs.declared.line_ending.LineEnding.{LineEnding}
pub use Rattle.textwrap_words.proofs.Common.{algorithm_view, ends_in_hyphen, broken_pieces, AreCuts}
pub use Rattle.textwrap_words.proofs.Common.{parts_between, splitter_view, broken_words, AreWordsOf}
pub use Rattle.textwrap_words.proofs.Common.{IsDividedBy, MaySeparate, as_splitter, broken_word}
pub use Rattle.textwrap_words.proofs.Common.{pieces_with, split_words, split_from, split_word}
pub use Rattle.textwrap_words.proofs.Common.{Algorithm, ArePoints, AtHyphens, ByOptimalFit, MayDivide}
pub use Rattle.textwrap_words.proofs.Common.{word_view, AreSplit, MaySplit, Splitter, WordText}
pub use Rattle.textwrap_words.proofs.Common.{sizes_of, words_of, tile_of, word_of, ByFirstFit, Tiles}
pub use Rattle.textwrap_words.proofs.Common.{Whole, piece, tiled}
pub use Rattle.textwrap_words.proofs.Word.Pieces.{AreSplit-computed, AreTexts}
pub use Rattle.textwrap_words.proofs.Word.Words.{IsNarrowWord-measured, HasNoPenalty, IsNarrowWord}
pub use Rattle.textwrap_words.proofs.Word.Words.{tiled-append, words_unique, IsMeasured}
pub use Rattle.textwrap_words.specs.PieceCuts.{is_point, parts_by, IsPart}
pub use Rattle.textwrap_words.specs.Pieces.{stand_from}
pub use Rattle.textwrap_words.specs.declared.pieces.Piece.{Piece}
pub use Rattle.textwrap_words.specs.declared.words.Word.{Word}
