-- The names of this crate and of others that most proofs cite. Declares nothing.
pub use Rattle.std.proofs.{Math.Nat.suc-mul, lemmas.Bool.or_cases, lemmas.List.Folds.length-prefix_len}
pub use Rattle.std.proofs.lemmas.{Simd.map-map, Str.IsCharBoundary-start, Str.encode_ascii}
pub use Rattle.std.specs.{Cow.cow_str_bytes, List.AllZip, List.concat, List.flat_map, List.slice_index}
pub use Rattle.std.specs.Prelude.{String, chars, encode_utf8, ◌%◌}
pub use Rattle.std.specs.{Slice.Iter.chunks_rest, Slice.Iter.chunks_size, Str.Iter.char_indices_rest}
pub use Rattle.{std.specs.declared.borrow.CowStr.CowStr, textwrap.specs.Columns.blanks}
pub use Rattle.textwrap_display.specs.{JustifiedSinks.HoldsJustified, JustifiedText.IsJustifiedText}
pub use Rattle.textwrap_display.specs.Justifying.{gaps, indent_len, justified, line_words, widened_words}
pub use Rattle.textwrap_display.specs.{Laws.JustifiedLineKeepsWords, Laws.word_texts, Needs.column_texts}
pub use Rattle.textwrap_display.specs.{Needs.widest, Sharing.sure, Shortening.AreShortened, Shortening.CanCut}
pub use Rattle.textwrap_display.specs.Shortening.{CanEnd, IsCut, IsKeptBeginning, IsShortened, can_end}
pub use Rattle.{textwrap_display.specs.Shortening.word_width, textwrap_layout.proofs.Common.layout_view}
pub use Rattle.textwrap_layout.proofs.Text.Lines.{bytes_left, line_bytes-line_view, paragraphs_left}
pub use Rattle.textwrap_layout.proofs.Text.Paragraphs.{text_width-append, units-append}
pub use Rattle.textwrap_layout.specs.Paragraph.{Built, Line, Slice, line_bytes, line_view}
pub use Rattle.textwrap_lines.proofs.Paragraph.KeepsTo.{passed-on}
pub use Rattle.textwrap_styles.{proofs.SequenceTexts.nil-whole, specs.Styled.IsWholeText}
pub use Rattle.textwrap_styles.specs.Styles.{closing, sequence_of, sequences, texts_of}
pub use Rattle.textwrap_text.proofs.{Lists.Parts.flat, Units.Chunks.chunks-from}
pub use Rattle.textwrap_text.proofs.Units.Reading.{IsRead, added, read-all, read-next, read-start}
pub use Rattle.textwrap_text.specs.Blanks.{BlanksBetween, blank, final_blanks, is_blank}
pub use Rattle.textwrap_text.specs.Units.{IsWhole, ends, text_width, units}
pub use Rattle.textwrap_text.specs.declared.escapes.State.{State, TheVariants.Text}
pub use Rattle.textwrap_words.proofs.Word.{Texts.AreBlanks, Words.text_width-nil}
pub use Rattle.textwrap_words.specs.Words.{WordText, chunks, is_cut, tiled, word_of, words_of}
