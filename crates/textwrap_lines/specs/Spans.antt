-- The pieces of a text by where they stand in it.
use Rattle.std.specs.Prelude.{ℕ, ◌+◌, ◌-◌, ◌<◌, Bool, true, List, [], ◌∷◌, length, ⊤}
use Rattle.std.specs.Prelude.{slice_index_or}
use Rattle.textwrap_base.specs.Cost.{PricedSizes}
use Rattle.textwrap_base.specs.PrefixSums.{HavePrefixSums}
use Rattle.textwrap_base.specs.Sizes.{Sizes}
use Rattle.textwrap_words.specs.Words.{WordText}
use Rattle.textwrap_layout.specs.Options.{Settings}
use Rattle.textwrap_layout.specs.Paragraph.{indent_of}
use Rattle.textwrap_layout.specs.Places.{CutLine}
use Rattle.textwrap_layout.specs.LineBounds.{AreBounds, line_between}
use Rattle.textwrap_lines.specs.declared.spans.Span.{Span}
use Rattle.textwrap_layout.specs.declared.line_bounds.LineBounds.{LineBounds}

-- where a piece stands that follows so many bytes and so many columns
abbrev pub span_of : ℕ → ℕ → WordText → Span
span_of at columns w = record {
  word_end = at + length w.word;
  end = at + length w.word + length w.whitespace;
  opens = columns;
  closes = columns + w.width;
}

-- where pieces stand, one after another
abbrev pub spans_from : ℕ → ℕ → List WordText → List Span
spans_from at columns [] = []
spans_from at columns (w ∷ ws) =
    span_of at columns w
    ∷ spans_from (at + length w.word + length w.whitespace)
    (columns + w.width + length w.whitespace) ws

-- ---- what they take

-- the sizes of a piece without a penalty
abbrev pub span_sizes : Span → Sizes
span_sizes s = record {
  width = s.closes - s.opens;
  whitespace = s.end - s.word_end;
  penalty = 0;
}

-- a line costs no more for ending with it
abbrev pub span_priced : Span → PricedSizes
span_priced s = record { sizes = span_sizes s; break_penalty = 0 }

-- each opens after the columns of those before it, and closes with its own
abbrev pub AreSpans : List Span → Type 0
AreSpans spans = HavePrefixSums span_priced (λ s. s.opens) (λ s. s.closes) spans

-- ---- the lines of a text, cut after the last piece of each

abbrev pub no_span : Span
no_span = record { word_end = 0; end = 0; opens = 0; closes = 0 }

abbrev pub last_span : List Span → Span
last_span line = slice_index_or line (length line - 1) no_span

-- where a line stands that begins after so many bytes and ends with this piece
abbrev pub bounds_to : ℕ → Span → LineBounds
bounds_to at last = record { start = at; word_end = last.word_end; end = last.end }

abbrev pub span_line : Settings → List ℕ → Bool → ℕ → Span → CutLine
span_line settings text is_later at last =
    line_between settings.preserve_trailing_space text (indent_of settings is_later) []
    (bounds_to at last)

abbrev pub span_lines : Settings → List ℕ → Bool → ℕ → List (List Span) → List CutLine
span_lines settings text is_later at [] = []
span_lines settings text is_later at (line ∷ lines) =
    span_line settings text is_later at (last_span line)
    ∷ span_lines settings text true (last_span line).end lines

-- each line has pieces, and the text may be cut at it
abbrev pub HaveTexts : List ℕ → ℕ → List (List Span) → Type 0
HaveTexts text at [] = ⊤
HaveTexts text at (line ∷ lines) =
    (0 < length line) × AreBounds text (bounds_to at (last_span line))
    × HaveTexts text (last_span line).end lines
