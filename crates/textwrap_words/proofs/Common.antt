-- The names of the definitions of this crate that most proofs cite. Declares nothing.
pub use Rattle.textwrap_text.{proofs.Lists.Parts.slice-nil, specs.declared.escapes.State.State}
pub use Rattle.textwrap_text.proofs.Lists.Parts.{flat, last-push, length-slice, onto_front-nil}
pub use Rattle.textwrap_text.proofs.Lists.Parts.{Begins, onto_front-onto_first, some_from_nonempty}
pub use Rattle.textwrap_text.proofs.Lists.Parts.{onto_first-append, onto_first-some, onto_front}
pub use Rattle.textwrap_text.proofs.Lists.Parts.{slice_after, slice_before, slices_joined}
pub use Rattle.textwrap_text.proofs.Texts.{IsCharBoundary-after_blank, left-after, some-bytes}
pub use Rattle.textwrap_text.proofs.Texts.{one-byte, one-text, past-one, starts-within, utf8-back}
pub use Rattle.textwrap_text.proofs.Texts.{ascii-here, ascii_seam, before-last, utf8-front}
pub use Rattle.textwrap_text.specs.Units.{column_characters, visible}
pub use Rattle.std.{proofs.Math.Bool.or-true, specs.Iterator.IsFinite}
pub use Rattle.std.proofs.lemmas.{List.get_or-reverse, List.length-reverse, Str.IsCharBoundary-end}
pub use Rattle.std.proofs.lemmas.Bool.{not-false, not-true, not_from_false, or_cases, or_parts}
pub use Rattle.std.proofs.lemmas.List.{append_cancel_right, drop-map, drop-take, get_or-append-add}
pub use Rattle.std.proofs.lemmas.Str.{IsCharBoundary-before_ascii, IsCharBoundary-from_drop}
pub use Rattle.std.proofs.lemmas.Str.{encode_ascii, IsCharBoundary-at_seam, IsCharBoundary-start}
pub use Rattle.textwrap_words.specs.{declared.words.Word.Word, WordSeparators.MaySeparate}
pub use Rattle.textwrap_words.specs.{PieceCuts.is_point, WordSplitters.MaySplit}
pub use Rattle.textwrap_words.specs.Breaking.{AllPartsFull, broken_texts, IsKept, pieces_with}
pub use Rattle.textwrap_words.specs.Breaking.{broken_pieces, broken_units, broken_words, units_text}
pub use Rattle.textwrap_words.specs.Breaking.{broken_word, is_due, pieces_left}
pub use Rattle.textwrap_words.specs.Cuts.{AreCuts, AreNext, IsNextCut, parts_after, parts_between}
pub use Rattle.textwrap_words.specs.Cuts.{AreInnerCuts, IsNextPoint, parts_onward}
pub use Rattle.textwrap_words.specs.PieceCuts.{is_piece_cut, IsPart, IsPartWord, pieces_from_place}
pub use Rattle.textwrap_words.specs.PieceCuts.{AreFinalBlanks, parts_by, pieces_from, pieces_within}
pub use Rattle.textwrap_words.specs.Pieces.{empty_front, IsFirstStop, IsFirstWithin, stand_from}
pub use Rattle.textwrap_words.specs.Pieces.{as_splitter, is_stop, IsFirstWord, IsLetter}
pub use Rattle.textwrap_words.specs.WordOffsets.{cuts_among, ends_from, is_cut_after, shown_len}
pub use Rattle.textwrap_words.specs.WordOffsets.{cuts_at, VisibleEnd}
pub use Rattle.textwrap_words.specs.WordSplitters.{AreSplit, AtHyphens, split_words, splitter_view}
pub use Rattle.textwrap_words.specs.WordSplitters.{cut_penalty, hyphen, is_hyphen_point, points_of}
pub use Rattle.textwrap_words.specs.WordSplitters.{ends_in_hyphen, hyphen_points, split_word, Whole}
pub use Rattle.textwrap_words.specs.WordSplitters.{ArePoints, split_from, split_pieces, Splitter}
pub use Rattle.textwrap_words.specs.Words.{piece, tile_of, tiled, Tiles, word_of, word_view}
pub use Rattle.textwrap_words.specs.Words.{AreWordsOf, sizes_of, words_of, WordText}
pub use Rattle.textwrap_words.specs.WrapAlgorithms.{Algorithm, algorithm_view, ByFirstFit, ByOptimalFit}
pub use Rattle.textwrap_words.specs.WrapAlgorithms.{IsDividedBy, MayDivide, MayEnd}
