-- The lines of first fit, found piece by piece: the pieces that come, the line so far, the first
-- line.
use Rattle.textwrap_lines.proofs.Common.{pieces_of_words-no_penalty, IsCharBoundary-start, All-head}
use Rattle.textwrap_lines.proofs.Common.{pieces_of_words-tile, pieces_of_words, IsCharBoundary, All}
use Rattle.textwrap_lines.proofs.Common.{cut_lines-next, length-append, append_assoc, closed_width}
use Rattle.textwrap_lines.proofs.Common.{HasNoPenalty, tiled-append, break_limit, first_width, Bool}
use Rattle.textwrap_lines.proofs.Common.{later_width, slice_range, IsMeasured, cases_Bool, All-tail}
use Rattle.textwrap_lines.proofs.Common.{lines_past, open_width, parts_from, stand_from, text_limit}
use Rattle.textwrap_lines.proofs.Common.{with_piece, all-right, and_parts, LineSoFar, cond_both, []}
use Rattle.textwrap_lines.proofs.Common.{cut_lines, drop-drop, indent_of, line_from, ltb-false, inl}
use Rattle.textwrap_lines.proofs.Common.{no_pieces, pieces_of, widths_of, add-zero, all-left, arith}
use Rattle.textwrap_lines.proofs.Common.{AreTexts, Settings, Splitter, WordText, cut_line, front_of}
use Rattle.textwrap_lines.proofs.Common.{ltb-true, parts_of, sizes_of, words_of, covered, drop_at}
use Rattle.textwrap_lines.proofs.Common.{line_of, take_at, IsUtf8, length, lt-ltb, nat_lt, false, ℕ}
use Rattle.textwrap_lines.proofs.Common.{rules, subst, tiled, cond, drop, List, refl, true, ◌&&◌, ⊤}
use Rattle.textwrap_lines.proofs.Common.{◌++◌, inr, sym, ◌+◌, ◌-◌, ◌<◌, ◌∙◌, ◌∷◌, ◌≡◌, ◌≤◌, ap}
use Rattle.textwrap_text.proofs.Common.{length_push}
use Rattle.textwrap_base.proofs.Common.{IsGreedy}
use Rattle.textwrap_words.specs.Pieces.{empty_front}
use Rattle.textwrap_words.specs.declared.pieces.Piece.{Piece}
use Rattle.textwrap_text.proofs.Units.Reading.{text_width-le}
use Rattle.textwrap_lines.specs.PieceLines.{ComesAt, is_past, line_opened, lines_left}
use Rattle.textwrap_layout.proofs.Paragraph.LeftOff.{assembled-parts, covered-space}
use Rattle.textwrap_layout.proofs.Paragraph.Pieces.{pieces_of_words-measured, words_of-texts}
use Rattle.textwrap_words.specs.PieceCuts.{pieces_from_place}
use Rattle.textwrap_words.proofs.Word.SplitParts.{pieces-start}
use Rattle.textwrap_base.proofs.Division.Greedy.{closed_width-push, open_width-append}
use Rattle.textwrap_layout.proofs.Paragraph.Covered.{covered-push}
use Rattle.textwrap_base.proofs.Division.Grown.{grown, grown-full, grown-greedy, grown-room}
use Rattle.textwrap_layout.proofs.Paragraph.Widths.{later_is}
use Rattle.textwrap_layout.proofs.Paragraph.Standing.{limited-pieces, stands-at}

-- ---- the pieces of a text that stand after a place

module _ (text : List ℕ) where
  abbrev pub AllCome : ℕ → List Piece → Type 0
  AllCome at [] = ⊤
  AllCome at (p ∷ ps) = ComesAt text at p × AllCome p.end ps

  pub all-come : (at : ℕ) (ws : List WordText) → drop at text ≡ tiled ws → IsCharBoundary text at
      → IsUtf8 (drop at text) → All IsMeasured ws → AllCome at (stand_from at ws)
  all-come at [] seam begins utf8 measured = tt
  all-come at (w ∷ ws) seam begins utf8 measured =
      let here = All-head IsMeasured w ws measured in
      let stands = stands-at text at w (tiled ws) seam begins utf8 here in
      let wide = text_width-le w.word here.utf8 in
      let width = here.width in (
        record {
          from = omega arith;
          order = omega arith;
          word_ends = stands.word_ends;
          ends = stands.ends;
          width = omega (arith, wide, width);
        },
        all-come (at + length w.word + length w.whitespace) ws stands.next stands.ends stands.utf8
            (All-tail IsMeasured w ws measured),
      )

pub pieces-come : (settings : Settings) (splitter : Splitter) (paragraph : List ℕ)
    (words : List WordText) → IsUtf8 paragraph → AreTexts paragraph words
    → AllCome paragraph 0 (stand_from 0 (pieces_of_words settings splitter words))
pieces-come settings splitter paragraph words utf8 texts =
    all-come paragraph 0 (pieces_of_words settings splitter words)
    (sym (pieces_of_words-tile settings splitter paragraph words utf8 texts))
    (IsCharBoundary-start paragraph utf8) utf8
    (pieces_of_words-measured settings splitter paragraph words utf8 texts)

-- ---- the first line of a paragraph, found piece by piece, and the place that it goes up to

module _ (settings : Settings) (splitter : Splitter) (text : List ℕ) where
  -- the pieces from a place on
  abbrev pub left_at : ℕ → List Piece
  left_at at = stand_from at (pieces_from_place splitter (break_limit settings) text at)

  module _ (is_later : Bool) where
    abbrev pub begun_line : Bool → LineSoFar
    begun_line = line_opened text 0 (first_width settings is_later) (indent_of settings is_later)

    abbrev empty_line : LineSoFar
    empty_line = begun_line false

    -- the pieces so far all stand on this line, and the others are left
    pub record HoldsFirst (line : LineSoFar) : Type 0 where
      pub text_is : line.text ≡ text
      pub lines : lines_past settings empty_line (stand_from 0 (pieces_of settings splitter text))
          ≡ lines_past settings line (left_at line.bounds.end)
      pub come : AllCome text line.bounds.end (left_at line.bounds.end)

    front-taken : (front : Bool) (ws : List WordText)
        → AllCome text 0 (stand_from 0 (cond front empty_front [] ++ ws))
        → (lines_past settings empty_line (stand_from 0 (cond front empty_front [] ++ ws))
        ≡ lines_past settings (begun_line front) (stand_from 0 ws))
        × AllCome text 0 (stand_from 0 ws)
    front-taken true ws come = (refl, come.1)
    front-taken false ws come = (refl, come)

    pub goes_on-start : (front : Bool) → IsUtf8 text → length text < text_limit
        → cond front empty_front [] ≡ front_of settings → HoldsFirst (begun_line front)
    goes_on-start front utf8 short front_is =
        let rest = pieces_from_place splitter (break_limit settings) text 0 in
        let are : pieces_of settings splitter text ≡ cond front empty_front [] ++ rest =
        sym (limited-pieces settings splitter text (words_of text) utf8 (words_of-texts text utf8) short)
        ∙ ap (λ ws. front_of settings ++ ws)
        (sym (pieces-start splitter text (break_limit settings) utf8))
        ∙ ap (λ ws. ws ++ rest) (sym front_is) in
        let (taken, come) = front-taken front rest (rw are at (pieces-come settings splitter text
        (words_of text) utf8 (words_of-texts text utf8))) in
        record { text_is = refl; lines = rw are taken; come = come }

-- ---- the line so far, and the pieces in it

-- where a word stands
abbrev pub stands_at : ℕ → WordText → Piece
stands_at at w = record {
  word_end = at + length w.word;
  end = at + length w.word + length w.whitespace;
  width = w.width;
}

module _ (text : List ℕ) where
  -- the line of these pieces
  abbrev pub so_far : ℕ → ℕ → List ℕ → List WordText → LineSoFar
  so_far at width indent ps = record {
    text = text;
    width = width;
    indent = indent;
    bounds = record {
      start = at;
      word_end = at + length (covered ps);
      end = at + length (tiled ps);
    };
    columns = open_width sizes_of ps;
    has_piece = nat_lt 0 (length ps);
  }

  pub so_far-push : (at width : ℕ) (indent : List ℕ) (ps : List WordText) (x : WordText)
      → with_piece (so_far at width indent ps) (stands_at (at + length (tiled ps)) x)
      ≡ so_far at width indent (ps ++ x ∷ [])
  so_far-push at width indent ps x =
      search (
        rules,
        arith,
        covered-push,
        length-append,
        tiled-append,
        length_push,
        lt-ltb,
        open_width-append,
      )

  -- what it covers, with or without the whitespace at its end
  pub slice-pieces : (at : ℕ) (ps : List WordText) (after : List ℕ) (keeps : Bool)
      → drop at text ≡ tiled ps ++ after
      → slice_range text at (cond keeps (at + length (tiled ps)) (at + length (covered ps)))
      ≡ cond keeps (tiled ps) (covered ps)
  slice-pieces at ps after true seam = search (rules, arith, take_at)
  slice-pieces at ps after false seam =
      let len : at + length (covered ps) - at ≡ length (covered ps) = omega arith in
      rw (len, seam, ← covered-space, append_assoc, take_at)

-- ---- the lines that are found piece by piece are those of first fit

module _ (settings : Settings) (text : List ℕ) where
  module _ (at width : ℕ) (indent : List ℕ) (ps : List WordText) where
    abbrev here : LineSoFar
    here = so_far text at width indent ps

    -- a piece that has room stands on the line
    pub lines-room : (x : WordText) (left : List WordText)
        → (0 < length ps → open_width sizes_of ps + x.width ≤ width)
        → lines_past settings here (stand_from (at + length (tiled ps)) (x ∷ left))
        ≡ lines_past settings (so_far text at width indent (ps ++ x ∷ []))
        (stand_from (at + length (tiled (ps ++ x ∷ []))) left)
    lines-room x left room =
        let p = stands_at (at + length (tiled ps)) x in
        let pushed = so_far-push text at width indent ps x in
        let more = so_far text at width indent (ps ++ x ∷ []) in
        search (rules, arith, cond_both, ltb-true)

    -- one that has none begins the next line
    pub lines-full : (x : WordText) (left : List WordText) → 0 < length ps
        → width < open_width sizes_of ps + x.width
        → lines_past settings here (stand_from (at + length (tiled ps)) (x ∷ left))
        ≡ line_of settings.preserve_trailing_space here
        ∷ lines_left settings (no_pieces text (at + length (tiled ps)) (later_width settings)
        settings.subsequent_indent) (stand_from (at + length (tiled ps)) (x ∷ left))
    lines-full x left some over = search (rules, arith, lt-ltb)

  -- the line of these pieces is that of the settings
  pub line_of-pieces : (at width : ℕ) (is_later : Bool) (ps : List WordText) (after : List ℕ)
      → drop at text ≡ tiled ps ++ after → All HasNoPenalty ps
      → line_of settings.preserve_trailing_space
      (so_far text at width (indent_of settings is_later) ps)
      ≡ cut_line at (line_from (parts_of settings is_later ps))
  line_of-pieces at width is_later [] after seam none = grind (arith, slice-pieces)
  line_of-pieces at width is_later (w ∷ ws) after seam none =
      grind (
        arith,
        cut_line at,
        lt-ltb 0 (length (w ∷ ws)) (omega arith),
        slice-pieces text at (w ∷ ws) after settings.preserve_trailing_space seam,
        assembled-parts settings is_later w ws none,
      )

  abbrev AreLines : ℕ → ℕ → Bool → List WordText → List WordText → Type 0
  AreLines at width is_later left ps =
      lines_past settings (so_far text at width (indent_of settings is_later) ps)
      (stand_from (at + length (tiled ps)) left) ≡ cut_lines at (parts_from settings is_later
      (grown sizes_of (later_width settings) width left ps))

  lines-are : (left ps : List WordText) (at width : ℕ) (is_later : Bool)
      → drop at text ≡ tiled ps ++ tiled left
      → All HasNoPenalty (ps ++ left) → AreLines at width is_later left ps
  lines-are [] ps at width is_later seam none = search (rules, arith, line_of-pieces, all-left)
  lines-are (x ∷ left) ps at width is_later seam none =
      let later = later_width settings in
      let indent = indent_of settings is_later in
      let here = so_far text at width indent ps in
      let after = at + length (tiled ps) in
      let penalty : length x.penalty ≡ 0 =
      ap length (All-head HasNoPenalty x left (all-right HasNoPenalty ps (x ∷ left) none)) in
      let closed : closed_width sizes_of (ps ++ x ∷ []) ≡ open_width sizes_of ps + x.width =
      omega (arith, closed_width-push sizes_of ps x, penalty) in
      let begins : drop after text ≡ tiled (x ∷ left) = rw (← drop-drop, seam, drop_at) in
      elim (cases_Bool (is_past here (stands_at after x))) [
        | inl past ↦
            let (some, over) = and_parts (nat_lt 0 (length ps)) _ past in
            let filled = ltb-true 0 (length ps) some in
            let wide = ltb-true width (open_width sizes_of ps + x.width) over in
            cc (
              lines-full at width indent ps x left filled wide,
              line_of-pieces at width is_later ps (tiled (x ∷ left)) seam
                  (all-left HasNoPenalty ps (x ∷ left) none),
              rw (add-zero after) at (lines-room after later settings.subsequent_indent [] x left
                  (λ some. absurd (omega (arith, some)))),
              lines-are left (x ∷ []) after later true (begins ∙ tiled-append (x ∷ []) left)
                  (all-right HasNoPenalty ps (x ∷ left) none),
              cut_lines-next settings is_later at after ps
                  (grown sizes_of later later left (x ∷ [])) refl,
              grown-full sizes_of later width x left ps filled (omega (arith, closed, wide)),
            )
        | inr not ↦
            let room : 0 < length ps → open_width sizes_of ps + x.width ≤ width =
            λ some. ltb-false width (open_width sizes_of ps + x.width)
            (sym (ap (λ b. b && nat_lt width (open_width sizes_of ps + x.width))
            (lt-ltb 0 (length ps) some)) ∙ not) in
            lines-room at width indent ps x left room
            ∙ lines-are left (ps ++ x ∷ []) at width is_later
            (search (rules, arith, tiled-append, append_assoc))
            (subst (All HasNoPenalty) (sym (append_assoc ps (x ∷ []) left)) none)
            ∙ ap (λ ls. cut_lines at (parts_from settings is_later ls))
            (sym (grown-room sizes_of later width x left ps
            (λ some. omega (arith, closed, room some))))
      ]

  -- the lines of the pieces of words
  pub lines-greedy : (splitter : Splitter) (is_later : Bool) (words : List WordText)
      → IsUtf8 text → AreTexts text words
      → (division : List (List WordText))
      × IsGreedy sizes_of (widths_of settings is_later) (pieces_of_words settings splitter words)
      division × (lines_past settings
      (no_pieces text 0 (first_width settings is_later) (indent_of settings is_later))
      (stand_from 0 (pieces_of_words settings splitter words))
      ≡ cut_lines 0 (parts_from settings is_later division))
  lines-greedy splitter is_later words utf8 texts =
      let pieces = pieces_of_words settings splitter words in
      let first = first_width settings is_later in
      let later = later_width settings in (
        grown sizes_of later first pieces [],
        grown-greedy sizes_of later (widths_of settings is_later)
            (λ n. later_is first later (n + 1) (omega arith)) first refl pieces,
        lines-are pieces [] 0 first is_later
            (sym (pieces_of_words-tile settings splitter text words utf8 texts))
            (pieces_of_words-no_penalty settings splitter text words utf8 texts),
      )
