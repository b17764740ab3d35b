-- Lines by first fit that are found piece by piece, by where the pieces stand.
use Rattle.std.specs.Prelude.{◌≡◌, ℕ, ◌+◌, ◌-◌, ◌≤◌, Bool, true, false, ◌&&◌, nat_lt, List, [], ◌∷◌}
use Rattle.std.specs.Prelude.{if◌then◌else◌, IsCharBoundary}
use Rattle.textwrap_words.specs.PieceCuts.{pieces_from_place}
use Rattle.textwrap_words.specs.Pieces.{stand_from}
use Rattle.textwrap_words.specs.WordSplitters.{Splitter}
use Rattle.textwrap_words.specs.declared.pieces.Piece.{Piece}
use Rattle.textwrap_layout.specs.Layout.{break_limit}
use Rattle.textwrap_layout.specs.Options.{Settings}
use Rattle.textwrap_layout.specs.Paragraph.{first_width, indent_of, later_width, pieces_of}
use Rattle.textwrap_layout.specs.Places.{CutLine}
use Rattle.textwrap_layout.specs.LineBounds.{line_between}
use Rattle.textwrap_layout.specs.declared.line_bounds.LineBounds.{LineBounds}
use Rattle.textwrap_lines.specs.declared.piece_lines.OpenLine.{OpenLine}

-- ---- the line that takes the next piece

-- the text that it stands in, its width and indent, where its pieces stand, their columns with all
-- their whitespace, and whether it has a piece
pub record LineSoFar : Type 0 where
  pub text : List ℕ
  pub width : ℕ
  pub indent : List ℕ
  pub bounds : LineBounds
  pub columns : ℕ
  pub has_piece : Bool

-- a line from a place on without pieces, or of one without text where that is asked
abbrev pub line_opened : List ℕ → ℕ → ℕ → List ℕ → Bool → LineSoFar
line_opened text start width indent has_piece = record {
  text = text;
  width = width;
  indent = indent;
  bounds = record { start = start; word_end = start; end = start };
  columns = 0;
  has_piece = has_piece;
}

abbrev pub no_pieces : List ℕ → ℕ → ℕ → List ℕ → LineSoFar
no_pieces text start width indent = line_opened text start width indent false

abbrev pub with_piece : LineSoFar → Piece → LineSoFar
with_piece line piece = record {
  text = line.text;
  width = line.width;
  indent = line.indent;
  bounds = record {
    start = line.bounds.start;
    word_end = piece.word_end;
    end = piece.end;
  };
  columns = line.columns + (piece.width + (piece.end - piece.word_end));
  has_piece = true;
}

abbrev pub line_so_far : OpenLine → LineSoFar
line_so_far line = record {
  text = line.text.now;
  width = line.width;
  indent = line.indent.now;
  bounds = line.bounds;
  columns = line.columns;
  has_piece = line.has_piece;
}

-- a piece stands after the place, characters end where its word and its whitespace do, and its
-- columns are at most its bytes
pub record ComesAt (text : List ℕ) (at : ℕ) (piece : Piece) : Type 0 where
  pub from : at ≤ piece.word_end
  pub order : piece.word_end ≤ piece.end
  pub word_ends : IsCharBoundary text piece.word_end
  pub ends : IsCharBoundary text piece.end
  pub width : piece.width + at ≤ piece.word_end

-- ---- the lines

-- a line without pieces is empty
abbrev pub line_of : Bool → LineSoFar → CutLine
line_of keeps_blanks line =
    line_between keeps_blanks line.text (if line.has_piece then line.indent else []) [] line.bounds

-- the line has a piece, and no room for one more
abbrev pub is_past : LineSoFar → Piece → Bool
is_past line piece = line.has_piece && nat_lt line.width (line.columns + piece.width)

module _ (settings : Settings) where
  -- the lines, where these pieces follow those on the line
  abbrev pub lines_past : LineSoFar → List Piece → List CutLine
  lines_past line [] = line_of settings.preserve_trailing_space line ∷ []
  lines_past line (p ∷ ps) =
      if is_past line p
      then line_of settings.preserve_trailing_space line
      ∷ lines_past (with_piece (no_pieces line.text line.bounds.end (later_width settings)
      settings.subsequent_indent) p) ps
      else lines_past (with_piece line p) ps

  -- the lines of these pieces, which follow those on the line: none where none is left
  abbrev pub lines_left : LineSoFar → List Piece → List CutLine
  lines_left line [] = []
  lines_left line (p ∷ ps) = lines_past line (p ∷ ps)

  -- of the lines of a paragraph this is the first, and it goes up to a place: the others are those
  -- of the pieces from there on
  abbrev pub IsFirstUpTo : Splitter → Bool → List ℕ → CutLine → ℕ → Type 0
  IsFirstUpTo splitter is_later text line end =
      lines_past (no_pieces text 0 (first_width settings is_later) (indent_of settings is_later))
      (stand_from 0 (pieces_of settings splitter text))
      ≡ line
      ∷ lines_left (no_pieces text end (later_width settings) settings.subsequent_indent)
      (stand_from end (pieces_from_place splitter (break_limit settings) text end))
