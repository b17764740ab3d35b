-- Words of a printable text that a line has room for, taken as one.
use Rattle.textwrap_lines.proofs.Common.{All, All-head, All-tail, All-take, All-weaker, BeforeOthers, HasNoPenalty}
use Rattle.textwrap_lines.proofs.Common.{IsMeasured, IsPrintable, IsPrintableByte, List, NoCutBetween, Settings, WordText}
use Rattle.textwrap_lines.proofs.Common.{false, Bool, CutLine, ap, append-nil, append_assoc, arith, closed_width}
use Rattle.textwrap_lines.proofs.Common.{covered, drop, later_width, length, length-take-le, line_from, map}
use Rattle.textwrap_lines.proofs.Common.{open_width, parts_by, parts_of, refl, sizes_of}
use Rattle.textwrap_lines.proofs.Common.{slice_range, subst, sym, take, tile_of, tiled, tiled-append, trimmed_len, true, without_final_blanks}
use Rattle.textwrap_lines.proofs.Common.{word_of, ℕ, [], ◌++◌, ◌+◌, ◌-◌, ◌<◌, ◌==◌, ◌^◌, ◌∙◌, ◌∷◌, ◌≡◌, ◌≤◌, length-append}
use Rattle.textwrap_text.proofs.Common.{All-map, map-append}
use Rattle.textwrap_text.specs.Blanks.{final_blanks}
use Rattle.textwrap_layout.specs.Paragraph.{last_space}
use Rattle.textwrap_lines.proofs.Common.{IsCharBoundary, length-slice, tiled-word_of}
use Rattle.textwrap_base.proofs.Division.Greedy.{open_width-cons}
use Rattle.textwrap_words.proofs.Word.Words.{tile_of-word_of, tiled-map, tiled-push, word_of-measured}
use Rattle.textwrap_words.proofs.Word.FirstPieces.{parts-front}
use Rattle.textwrap_layout.proofs.Paragraph.Covered.{covered-push}
use Rattle.textwrap_layout.proofs.Paragraph.LeftOff.{covered-tiled, last-part}
use Rattle.textwrap_layout.proofs.PrintableTexts.Parts.{flat-parts, front-slice, parts-split, slice-rest}
use Rattle.textwrap_layout.specs.Direct.{HasInnerPoints}
use Rattle.textwrap_lines.proofs.PrintableTexts.Bytes.{closed-exact, flat-printable, IsExact, open-exact, printable-utf8}
use Rattle.textwrap_lines.proofs.PrintableTexts.Lines.{others-front}
use Rattle.textwrap_lines.proofs.PrintableTexts.Pieces.{printable-slice, word-width}
use Rattle.textwrap_lines.proofs.WordLines.{AreTaken, line-push, pushed-some, taken-left, taken-whole}
use Rattle.textwrap_lines.specs.WordLines.{AreOn, with_word}
use Rattle.textwrap_lines.specs.declared.word_lines.WordLine.{WordLine}

-- ---- words in place of which one word stands

-- words of which there is a last one
record HasLast (ws : List WordText) : Type 0 where
  pub front : List WordText
  pub last : WordText
  pub is : ws ≡ front ++ last ∷ []

has_last : (w : WordText) (ws : List WordText) → HasLast (w ∷ ws)
has_last w [] = record { front = []; last = w; is = refl }
has_last w (v ∷ ws) =
    let rest = has_last v ws in
    record { front = w ∷ rest.front; last = rest.last; is = ap (λ us. w ∷ us) rest.is }

some-last : (ws : List WordText) → 0 < length ws → HasLast ws
some-last [] some = absurd (omega arith)
some-last (w ∷ ws) some = has_last w ws

-- a word that is as these are together: none of them has a penalty
pub record StandsFor (q : WordText) (ws : List WordText) : Type 0 where
  pub some : 0 < length ws
  pub tiles : tiled ws ≡ tile_of q
  pub covers : covered ws ≡ q.word
  pub opens : open_width sizes_of ws ≡ q.width + length q.whitespace
  pub plain : All HasNoPenalty ws
  pub none : HasNoPenalty q

-- the line of it is theirs
line-joined : (settings : Settings) (is_later : Bool) (held ws : List WordText) (q : WordText)
    → StandsFor q ws
    → line_from (parts_of settings is_later (held ++ q ∷ []))
    ≡ line_from (parts_of settings is_later (held ++ ws))
line-joined settings is_later held ws q stands =
    let end = some-last ws stands.some in
    let x = end.last in
    let before = tiled (held ++ end.front) in
    let whole : held ++ ws ≡ (held ++ end.front) ++ x ∷ [] =
    ap (λ us. held ++ us) end.is ∙ sym (append_assoc held end.front (x ∷ [])) in
    let tile : tiled held ++ tile_of q ≡ before ++ tile_of x =
    ap (λ t. tiled held ++ t) (sym stands.tiles ∙ ap tiled end.is ∙ tiled-push end.front x)
    ∙ sym (append_assoc (tiled held) (tiled end.front) (tile_of x))
    ∙ ap (λ t. t ++ tile_of x) (sym (tiled-append held end.front)) in
    let word : tiled held ++ q.word ≡ before ++ x.word =
    ap (λ t. tiled held ++ t) (sym stands.covers ∙ ap covered end.is ∙ covered-push end.front x)
    ∙ sym (append_assoc (tiled held) (tiled end.front) x.word)
    ∙ ap (λ t. t ++ x.word) (sym (tiled-append held end.front)) in
    let last : HasNoPenalty x =
    All-last end.front x (subst (All HasNoPenalty) end.is stands.plain) in
    line-push settings is_later held q
    ∙ rw (stands.none, last, tile, word) refl
    ∙ sym (line-push settings is_later (held ++ end.front) x)
    ∙ ap (λ us. line_from (parts_of settings is_later us)) (sym whole)
  where
    All-last : (front : List WordText) (x : WordText) → All HasNoPenalty (front ++ x ∷ [])
        → HasNoPenalty x
    All-last [] x all = All-head HasNoPenalty x [] all
    All-last (w ∷ front) x all = All-last front x (All-tail HasNoPenalty w (front ++ x ∷ []) all)

-- a line on which it stands in place of them
abbrev pub with_columns : WordLine → ℕ → WordLine
with_columns line n = record line { columns = n }

some-pushed : (held ws : List WordText) → 0 < length ws → (length (held ++ ws) == 0) ≡ false
some-pushed held ws some =
    let end = some-last ws some in
    ap (λ us. length us == 0) (ap (λ us. held ++ us) end.is
    ∙ sym (append_assoc held end.front (end.last ∷ [])))
    ∙ pushed-some (held ++ end.front) end.last

are_on-joined : (line : WordLine) (held ws on : List WordText) (q : WordText) → StandsFor q ws
    → AreOn (with_columns line (line.columns + open_width sizes_of ws)) (held ++ ws) on
    → AreOn (with_word line q) (held ++ q ∷ []) on
are_on-joined line held ws on q stands are = record {
  columns = omega (arith, are.columns, stands.opens);
  tiles = tiled-push held q ∙ ap (λ t. tiled held ++ t) (sym stands.tiles)
      ∙ sym (tiled-append held ws) ∙ are.tiles;
  some = pushed-some held q ∙ sym (some-pushed held ws stands.some) ∙ are.some;
  same = λ settings is_later. line-joined settings is_later held ws q stands
      ∙ are.same settings is_later;
}

-- ---- they are taken one after another, and so it is

-- a word of as many columns as bytes, without a penalty
pub record IsPrintableWord (w : WordText) : Type 0 where
  pub printable : IsPrintable w.word
  pub measured : IsMeasured w
  pub plain : HasNoPenalty w

closed-first : (w : WordText) (ws : List WordText) → w.width ≤ closed_width sizes_of (w ∷ ws)
closed-first w [] = omega arith
closed-first w (v ∷ ws) = omega arith

closed-rest : (w : WordText) (ws : List WordText) → 0 < length ws
    → w.width + length w.whitespace + closed_width sizes_of ws ≤ closed_width sizes_of (w ∷ ws)
closed-rest w [] some = absurd (omega arith)
closed-rest w (v ∷ ws) some = omega arith

module _ {S : Type 0} (Holds : S → S → ℕ → List CutLine → Type 0) (settings : Settings)
    (Points : List ℕ → List ℕ → Type 0) (points : HasInnerPoints Points) (words : List WordText)
    (width : ℕ) (is_later : Bool) (first : S) where
  abbrev Taken : WordLine → List WordText → S → List WordText → Type 0
  Taken line held lines left =
      AreTaken Holds settings Points words width is_later first line held lines left

  taken-each : (line : WordLine) (held : List WordText) (lines : S) (ws left : List WordText)
      → All IsPrintableWord ws
      → (0 < length ws → line.columns + closed_width sizes_of ws ≤ line.width)
      → (settings.break_words ≡ true → closed_width sizes_of ws ≤ later_width settings)
      → Taken line held lines (ws ++ left)
      → Taken (with_columns line (line.columns + open_width sizes_of ws)) (held ++ ws) lines left
  taken-each line held lines [] left all room narrow taken =
      let same : line.columns ≡ line.columns + open_width sizes_of [] = omega arith in
      subst (λ us. Taken (with_columns line (line.columns + open_width sizes_of [])) us lines left)
      (sym (append-nil held))
      (subst (λ n. Taken (with_columns line n) held lines left) same taken)
  taken-each line held lines (w ∷ ws) left all room narrow taken =
      let own = All-head IsPrintableWord w ws all in
      let next = with_word line w in
      let one : Taken next (held ++ w ∷ []) lines (ws ++ left) =
      taken-whole Holds settings Points words width is_later points first line held lines w (ws ++ left)
      own.printable own.measured own.plain (omega (arith, room (omega arith), closed-first w ws))
      (λ breaks. omega (arith, narrow breaks, closed-first w ws)) taken in
      let columns : next.columns + open_width sizes_of ws
      ≡ line.columns + open_width sizes_of (w ∷ ws) =
      omega (arith, open_width-cons sizes_of w ws) in
      subst (λ n. Taken (with_columns line n) (held ++ w ∷ ws) lines left) columns
      (subst (λ us. Taken (with_columns next (next.columns + open_width sizes_of ws)) us lines left)
      (append_assoc held (w ∷ []) ws)
      (taken-each next (held ++ w ∷ []) lines ws left (All-tail IsPrintableWord w ws all)
      (λ some. omega (arith, room (omega arith), closed-rest w ws some))
      (λ breaks. narrower w ws (later_width settings) (narrow breaks)) one))
    where
      narrower : (w : WordText) (ws : List WordText) (n : ℕ)
          → closed_width sizes_of (w ∷ ws) ≤ n → closed_width sizes_of ws ≤ n
      narrower w [] n within = omega arith
      narrower w (v ∷ ws) n within = omega (arith, within)

  -- words that have room, as one
  pub taken-joined : (line : WordLine) (held : List WordText) (lines : S) (ws left : List WordText)
      (q : WordText) → StandsFor q ws → All IsPrintableWord ws
      → line.columns + closed_width sizes_of ws ≤ line.width
      → (settings.break_words ≡ true → closed_width sizes_of ws ≤ later_width settings)
      → Taken line held lines (ws ++ left)
      → Taken (with_word line q) (held ++ q ∷ []) lines left
  taken-joined line held lines ws left q stands all room narrow taken =
      let each = taken-each line held lines ws left all (λ some. room) narrow taken in record {
        on = each.on;
        are = are_on-joined line held ws each.on q stands each.are;
        goes_on = each.goes_on;
      }

-- ---- the words of a printable text from one place to another

-- the words from a place on
abbrev pub words_from : (ℕ → Bool) → List ℕ → ℕ → List WordText
words_from test text at = map word_of (parts_by test at (drop at text))

module _ (test : ℕ → Bool) (text : List ℕ) (printable : IsPrintable text)
    (before : BeforeOthers test text) where
  module _ (at end : ℕ) (some : at < end) (within : end ≤ length text) where
    abbrev slice : List ℕ
    slice = slice_range text at end

    abbrev parts : List (List ℕ)
    parts = parts_by test at slice

    abbrev pub words_up_to : List WordText
    words_up_to = map word_of parts

    slice_printable : IsPrintable slice
    slice_printable = printable-slice text at end printable

    each : (P : WordText → Type 0) → ((part : List ℕ) → IsPrintable part → P (word_of part))
        → All P words_up_to
    each P holds = All-map P word_of parts (All-weaker IsPrintable (λ part. P (word_of part)) holds
        parts (flat-printable parts (subst IsPrintable (sym (flat-parts test at slice)) slice_printable)))

    -- each of them is printable
    pub up_to-printable : All IsPrintableWord words_up_to
    up_to-printable = each IsPrintableWord (λ part p. record {
      printable = All-take IsPrintableByte (trimmed_len part) part p;
      measured = word_of-measured part (printable-utf8 part p);
      plain = refl;
    })

    tiles : tiled words_up_to ≡ slice
    tiles = tiled-map parts ∙ flat-parts test at slice

    many : (ws : List WordText) → tiled ws ≡ slice → 0 < length ws
    many [] is = absurd (let none = ap length is in omega (arith, none, length-slice text at end within, some))
    many (w ∷ ws) is = omega arith

    covers : covered words_up_to ≡ without_final_blanks slice
    covers =
        let front = take end text in
        let is = front-slice text at end (omega (arith, some)) in
        let space : last_space words_up_to ≡ final_blanks slice =
        subst (λ l. last_space (map word_of (parts_by test at l)) ≡ final_blanks l) is
        (last-part test front (others-front test 0 0 text printable before end) at) in
        covered-tiled words_up_to slice space tiles

    exact : All IsExact words_up_to
    exact = each IsExact (λ part p. record {
      width = word-width part p ∙ sym (length-take-le (trimmed_len part) part (omega arith));
      penalty = refl;
    })

    -- the word of the whole slice stands for them
    pub up_to-joined : StandsFor (word_of slice) words_up_to
    up_to-joined = record {
      some = many words_up_to tiles;
      tiles = tiles ∙ sym (tile_of-word_of slice);
      covers = covers;
      opens = open-exact words_up_to exact ∙ ap length (tiles ∙ sym (tile_of-word_of slice))
          ∙ omega (
            arith,
            length-append (word_of slice).word (word_of slice).whitespace,
            word-width slice slice_printable,
            length-take-le (trimmed_len slice) slice (omega arith),
          );
      plain = All-weaker IsPrintableWord HasNoPenalty (λ w p. p.plain) words_up_to up_to-printable;
      none = refl;
    }

    pub up_to-closed : closed_width sizes_of words_up_to ≡ trimmed_len slice
    up_to-closed = closed-exact words_up_to exact ∙ ap length covers
        ∙ length-take-le (trimmed_len slice) slice (omega arith)

    -- the others follow them
    pub up_to-rest : (end < length text → test end ≡ true)
        → words_from test text at ≡ words_up_to ++ words_from test text end
    up_to-rest ends = ap (map word_of) (parts-split test text at end some within ends)
        ∙ map-append word_of parts (parts_by test end (drop end text))

-- ---- what is taken of a printable text

-- where it goes on
pub record IsTakenTo {S : Type 0} (Holds : S → S → ℕ → List CutLine → Type 0) (settings : Settings)
    (Points : List ℕ → List ℕ → Type 0) (test : ℕ → Bool) (text : List ℕ) (width : ℕ)
    (is_later : Bool) (first : S) (line : WordLine) (held : List WordText) (lines : S) (at : ℕ) :
    Type 0 where
  pub small : line.columns < 2 ^ 66
  pub begins : IsCharBoundary text line.start
  pub seam : drop line.start text ≡ tiled held ++ drop at text
  pub taken : AreTaken Holds settings Points (words_from test text 0) width is_later first line held
      lines (words_from test text at)

module _ {S : Type 0} (Holds : S → S → ℕ → List CutLine → Type 0) (settings : Settings)
    (Points : List ℕ → List ℕ → Type 0) (test : ℕ → Bool) (text : List ℕ)
    (printable : IsPrintable text) (width : ℕ) (is_later : Bool) (first : S) where
  abbrev pub TakenTo : WordLine → List WordText → S → ℕ → Type 0
  TakenTo line held lines at =
      IsTakenTo Holds settings Points test text width is_later first line held lines at

  -- words that have room, up to a place
  pub taken-fit : HasInnerPoints Points → BeforeOthers test text → (line : WordLine)
      (held : List WordText) (lines : S) (at end room : ℕ) → at < end → end ≤ length text
      → (end < length text → test end ≡ true) → trimmed_len (slice_range text at end) ≤ room
      → line.columns + room ≤ line.width
      → (settings.break_words ≡ true → room ≤ later_width settings)
      → (with_word line (word_of (slice_range text at end))).columns < 2 ^ 66
      → TakenTo line held lines at → TakenTo (with_word line (word_of (slice_range text at end)))
      (held ++ word_of (slice_range text at end) ∷ []) lines end
  taken-fit points before line held lines at end room some within ends narrow fits limit small so_far =
      let q = word_of (slice_range text at end) in
      let closed = up_to-closed test text printable before at end some within in record {
        small = small;
        begins = so_far.begins;
        seam = so_far.seam
            ∙ ap (λ t. tiled held ++ t) (sym (slice-rest text at end (omega (arith, some)))
            ∙ ap (λ t. t ++ drop end text) (sym (tile_of-word_of (slice_range text at end))))
            ∙ sym (append_assoc (tiled held) (tile_of q) (drop end text))
            ∙ ap (λ t. t ++ drop end text) (sym (tiled-push held q));
        taken = taken-joined Holds settings Points points (words_from test text 0) width is_later first
            line held lines (words_up_to test text printable before at end some within)
            (words_from test text end) q
            (up_to-joined test text printable before at end some within)
            (up_to-printable test text printable before at end some within)
            (omega (arith, closed, narrow, fits))
            (λ breaks. omega (arith, closed, narrow, limit breaks))
            (taken-left Holds settings Points (words_from test text 0) width is_later
            (up_to-rest test text printable before at end some within ends) so_far.taken);
      }

-- one word, up to a place
pub front-word : (test : ℕ → Bool) (text : List ℕ) (at end : ℕ) → at < end → end ≤ length text
    → (end < length text → test end ≡ true) → NoCutBetween test at (end - 1)
    → words_from test text at ≡ word_of (slice_range text at end) ∷ words_from test text end
front-word test text at end some within ends none =
    ap (map word_of) (parts-front test text at end (record {
      some = some;
      within = within;
      uncut = λ k after before. none k after (omega (arith, before));
      ends = ends;
    }))

-- the text from the line on, with this word
pub front-seam : (text held : List ℕ) (start at end : ℕ) → at ≤ end
    → drop start text ≡ held ++ drop at text
    → drop start text ≡ (held ++ tiled (word_of (slice_range text at end) ∷ [])) ++ drop end text
front-seam text held start at end from seam =
    let q = word_of (slice_range text at end) in
    seam ∙ ap (λ t. held ++ t) (sym (slice-rest text at end from)
    ∙ ap (λ t. t ++ drop end text) (sym (tiled-word_of (slice_range text at end))))
    ∙ sym (append_assoc held (tiled (q ∷ [])) (drop end text))
