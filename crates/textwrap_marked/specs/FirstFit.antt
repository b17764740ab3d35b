-- What is left of a paragraph that is laid out by first fit while its words are read.
use Rattle.std.specs.Prelude.{ℕ, ◌+◌, ◌&&◌, Bool, nat_lt, List, [], ◌∷◌, ◌++◌, length, string_bytes}
use Rattle.std.specs.Prelude.{if◌then◌else◌, is_some, Option, Some, None}
use Rattle.std.specs.Option.{option_map}
use Rattle.textwrap_text.specs.Blanks.{final_blanks, without_final_blanks}
use Rattle.textwrap_text.specs.Units.{text_width}
use Rattle.textwrap_display.specs.Justifying.{justified}
use Rattle.textwrap_layout.specs.Paragraph.{line_bytes}
use Rattle.textwrap_marked.specs.Pieces.{is_cut, onto_front, pieces}
use Rattle.textwrap_marks.specs.declared.options.ReflowOptions.{ReflowOptions}
use Rattle.textwrap_marked.specs.declared.first_fit.FittingLine.{FittingLine}
use Rattle.textwrap_marked.specs.declared.first_fit.OpenParagraph.{OpenParagraph}
use Rattle.textwrap_marked.specs.declared.first_fit.ParagraphForm.{ParagraphForm}

-- ---- the line that takes the next piece

-- its pieces, without the final blanks of the last one, those blanks, the columns of the text, if
-- there is a piece, and how many it may have
pub record FittingText : Type 0 where
  pub text : List ℕ
  pub blanks : List ℕ
  pub columns : Option ℕ
  pub room : ℕ

abbrev pub fitting_view : FittingLine → FittingText
fitting_view line = record {
  text = string_bytes line.text;
  blanks = string_bytes line.blanks;
  columns = line.columns;
  room = line.room;
}

-- one without pieces
abbrev pub fresh_line : ℕ → FittingText
fresh_line room = record { text = []; blanks = []; columns = None; room = room }

-- the columns of so many, of blanks, and of a word
abbrev pub columns_past : Option ℕ → ℕ → ℕ → ℕ
columns_past None blanks width = width
columns_past (Some columns) blanks width = columns + blanks + width

-- the columns with one more piece, of which the word has so many
abbrev pub columns_with : FittingText → ℕ → ℕ
columns_with line width = columns_past line.columns (length line.blanks) width

-- the line has a piece, and no room for one more
abbrev pub has_no_room : FittingText → ℕ → Bool
has_no_room line width = is_some line.columns && nat_lt line.room (columns_with line width)

abbrev pub with_piece_of : FittingText → List ℕ → List ℕ → ℕ → FittingText
with_piece_of line word blanks columns = record {
  text = (line.text ++ line.blanks) ++ word;
  blanks = blanks;
  columns = Some columns;
  room = line.room;
}

abbrev pub piece_width : List ℕ → ℕ
piece_width piece = text_width (without_final_blanks piece)

abbrev pub with_next_piece : FittingText → List ℕ → FittingText
with_next_piece line piece =
    with_piece_of line (without_final_blanks piece) (final_blanks piece)
    (columns_with line (piece_width piece))

-- a line that another follows
abbrev pub shown_line : Bool → FittingText → List ℕ
shown_line justify line = if justify then line_bytes (justified line.room line.text) else line.text

-- ---- what is left to be written

module _ (form : ParagraphForm) where
  -- of the line, and of these pieces
  abbrev pub left_of_pieces : FittingText → List (List ℕ) → List ℕ
  left_of_pieces line [] = line.text
  left_of_pieces line (piece ∷ pieces) =
      if has_no_room line (piece_width piece)
      then shown_line form.options.now.justify line ++ form.ending.now ++ form.hanging.now
      ++ left_of_pieces (with_next_piece (fresh_line form.room) piece) pieces
      else left_of_pieces (with_next_piece line piece) pieces

module _ (options : ReflowOptions) (starred : Bool) where
  -- the pieces of what is read of the first one, where this is the last word, if there is one, and
  -- of the words behind it
  abbrev pub pieces_behind : Option (List ℕ) → List ℕ → List (List ℕ) → List (List ℕ)
  pieces_behind None piece [] = []
  pieces_behind None piece (next ∷ words) =
      onto_front piece (pieces options starred (next ∷ words))
  pieces_behind (Some word) piece words =
      if is_cut options starred word words then piece ∷ pieces options starred words
      else onto_front piece (pieces options starred words)

-- of a paragraph, and of these words
abbrev pub left : ParagraphForm → OpenParagraph → List (List ℕ) → List ℕ
left form paragraph words =
    left_of_pieces form (fitting_view paragraph.line)
    (pieces_behind form.options.now form.starred (option_map (λ w. w.now) paragraph.last)
    (string_bytes paragraph.piece) words)
