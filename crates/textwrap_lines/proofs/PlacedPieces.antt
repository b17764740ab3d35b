-- Pieces that are known by where they stand: lines of them, what these cost, and the lines of least
-- cost.
use Rattle.textwrap_lines.proofs.Common.{All-cons, IsCharBoundary-start, pieces_of_words-no_penalty}
use Rattle.textwrap_lines.proofs.Common.{AreEqualFromSecond, pieces_of_words-tile, take-append-drop}
use Rattle.textwrap_lines.proofs.Common.{cut_lines-next, HaveTexts, IsCharBoundary, pieces_of_words}
use Rattle.textwrap_lines.proofs.Common.{FollowStarts, HasNoPenalty, length-append, length-take-le}
use Rattle.textwrap_lines.proofs.Common.{append_assoc, Bool, first_width, IsUtf8-drop, tiled-append}
use Rattle.textwrap_lines.proofs.Common.{all-right, append-nil, IsMeasured, later_width, open_width}
use Rattle.textwrap_lines.proofs.Common.{cut_lines, drop-drop, parts_from, span_lines, stand_from}
use Rattle.textwrap_lines.proofs.Common.{All-head, All-tail, arith, line_from, priced_at, widths_of}
use Rattle.textwrap_lines.proofs.Common.{all-left, AreTexts, cut_line, Settings, Splitter, WordText}
use Rattle.textwrap_lines.proofs.Common.{[], All-nil, covered, drop_at, parts_of, sizes_of, tile_of}
use Rattle.textwrap_lines.proofs.Common.{get_or, IsUtf8, length, List, lt-ltb, rules, subst, tiled}
use Rattle.textwrap_lines.proofs.Common.{All, drop, flat, map, refl, Span, take, true, zero, ◌++◌}
use Rattle.textwrap_lines.proofs.Common.{ap, suc, sym, ℕ, ◌+◌, ◌-◌, ◌<◌, ◌∙◌, ◌∷◌, ◌≡◌, ◌≢◌, ◌≤◌}
use Rattle.textwrap_text.proofs.Common.{take-take}
use Rattle.textwrap_base.proofs.Common.{fragment_costs, fragments_table, IsQueueCase, PricedSizes}
use Rattle.textwrap_base.proofs.Common.{IsByTable, NeverFalls, problem_at, problem_by, SuitQueue}
use Rattle.textwrap_lines.specs.Spans.{bounds_to, last_span, span_priced, span_sizes, spans_from}
use Rattle.textwrap_lines.specs.Spans.{AreSpans, span_line, span_of}
use Rattle.textwrap_base.specs.declared.penalties.Penalties.{Penalties}
use Rattle.textwrap_base.proofs.Division.Greedy.{closed-take, open_width-cons}
use Rattle.textwrap_words.specs.declared.pieces.Piece.{Piece}
use Rattle.textwrap_text.proofs.Lists.Parts.{same_parts}
use Rattle.textwrap_base.proofs.Cost.Measures.{sizes-same, total_width-same}
use Rattle.textwrap_words.proofs.Word.Words.{IsNarrowWord-measured, total_width-narrow}
use Rattle.textwrap_words.proofs.Word.Words.{IsNarrowWord}
use Rattle.textwrap_lines.specs.LeastCost.{SuitSearch}
use Rattle.textwrap_layout.specs.LineBounds.{AreBounds}
use Rattle.textwrap_layout.proofs.Paragraph.Standing.{stands-at}
use Rattle.textwrap_lines.proofs.PieceLines.{line_of-pieces}
use Rattle.textwrap_base.specs.OptimalFit.{IsByOptimalFit}
use Rattle.textwrap_base.proofs.Cost.Chosen.{by_table-chosen, division_joined, fragments_table-map}
use Rattle.textwrap_base.proofs.Cost.Chosen.{joined_division}
use Rattle.textwrap_base.proofs.Cost.QueueCase.{SuitQueue-queue_case}
use Rattle.textwrap_layout.proofs.Paragraph.Pieces.{pieces_of_words-measured}

-- ---- the spans of pieces, one after another

pub length-spans : (at columns : ℕ) (ws : List WordText)
    → length (spans_from at columns ws) ≡ length ws
length-spans at columns [] = refl
length-spans at columns (w ∷ ws) = ap suc (length-spans (at + length w.word + length w.whitespace)
    (columns + w.width + length w.whitespace) ws)

pub spans-append : (at columns : ℕ) (xs ys : List WordText)
    → spans_from at columns (xs ++ ys) ≡ spans_from at columns xs
    ++ spans_from (at + length (tiled xs)) (columns + open_width sizes_of xs) ys
spans-append at columns [] ys = grind arith
spans-append at columns (x ∷ xs) ys =
    let end = at + length x.word + length x.whitespace in
    let after = columns + x.width + length x.whitespace in
    let tile = length-append x.word x.whitespace in
    let whole = length-append (tile_of x) (tiled xs) in
    let more = open_width-cons sizes_of x xs in search (rules, arith, spans-append end after xs ys)

-- ---- a list of spans that grows by a piece at a time

-- those of pieces that stand so, after so many columns
abbrev pub spans_of : ℕ → List Piece → List Span
spans_of opens [] = []
spans_of opens (p ∷ ps) =
    record { word_end = p.word_end; end = p.end; opens = opens; closes = opens + p.width }
    ∷ spans_of (opens + p.width + (p.end - p.word_end)) ps

pub spans_of-standing : (at opens : ℕ) (ws : List WordText)
    → spans_of opens (stand_from at ws) ≡ spans_from at opens ws
spans_of-standing at opens [] = refl
spans_of-standing at opens (w ∷ ws) =
    let end = at + length w.word + length w.whitespace in
    let gap : end - (at + length w.word) ≡ length w.whitespace = omega arith in
    rw gap (ap (λ ss. span_of at opens w ∷ ss)
    (spans_of-standing end (opens + w.width + length w.whitespace) ws))

-- ---- what lines of pieces cost that are known by where they stand

-- each opens after the columns of those before it, and closes after that
spans-open : (at columns : ℕ) (ws : List WordText) (i : ℕ) (d : Span)
    → i < length (spans_from at columns ws) → ((get_or (spans_from at columns ws) i d).opens
    ≡ columns + open_width span_sizes (take i (spans_from at columns ws)))
    × ((get_or (spans_from at columns ws) i d).opens ≤ (get_or (spans_from at columns ws) i d).closes)
spans-open at columns [] i d within = absurd (omega (arith, within))
spans-open at columns (w ∷ ws) zero d within = (omega arith, omega arith)
spans-open at columns (w ∷ ws) (suc i) d within =
    let end = at + length w.word + length w.whitespace in
    let after = columns + w.width + length w.whitespace in
    search (rules, arith, spans-open end after ws i d (omega (arith, within)), open_width-cons)

-- they have the sizes of the pieces, which have no penalty
pub priced-spans : (penalties : Penalties) (at columns : ℕ) (ws : List WordText)
    → All HasNoPenalty ws
    → map span_priced (spans_from at columns ws) ≡ map (λ w. priced_at penalties (sizes_of w)) ws
priced-spans penalties at columns [] all = refl
priced-spans penalties at columns (w ∷ ws) all =
    let m = length w.word in
    let n = length w.whitespace in
    let none : length w.penalty ≡ 0 = ap length (All-head HasNoPenalty w ws all) in
    let width : columns + w.width - columns ≡ w.width = omega arith in
    let whitespace : at + m + n - (at + m) ≡ n = omega arith in
    let others = priced-spans penalties (at + m + n) (columns + w.width + n) ws
    (All-tail HasNoPenalty w ws all) in
    cc

never_falls : (spans : List Span) → NeverFalls span_sizes spans
never_falls spans j some within =
    let part = closed-take span_sizes (take (j + 1) spans) j (λ k d lt. refl) in
    search (rules, arith, take-take)

pub two-equal : (first later : ℕ) → AreEqualFromSecond (first ∷ later ∷ [])
two-equal first later zero from within = absurd (omega (arith, from))
two-equal first later (suc zero) from within = refl
two-equal first later (suc (suc k)) from within = absurd (omega (arith, within))

-- the numbers are small enough for the search
pub spans-case : (text : List ℕ) (penalties : Penalties) (first later : ℕ) (ws : List WordText)
    → tiled ws ≡ text → All IsNarrowWord ws → SuitSearch (length text) (first ∷ later ∷ []) penalties
    → IsQueueCase (problem_by span_priced penalties (first ∷ later ∷ []) (spans_from 0 0 ws))
spans-case text penalties first later ws tile bounded suit =
    let spans = spans_from 0 0 ws in
    let total = total_width-same span_sizes sizes_of spans ws
    (sizes-same span_priced (λ w. priced_at penalties (sizes_of w)) spans ws
    (priced-spans penalties 0 0 ws (λ k d lt. (bounded k d lt).penalty))) in
    let len = ap length tile in search (rules, arith, two-equal, never_falls, total_width-narrow)

pub AreSpans-from : (penalties : Penalties) (widths : List ℕ) (ws : List WordText)
    → IsQueueCase (problem_by span_priced penalties widths (spans_from 0 0 ws))
    → AreSpans (spans_from 0 0 ws)
AreSpans-from penalties widths ws case = grind (arith, spans-open)

-- ---- where the last piece of a line ends

last_span-cons : (s t : Span) (spans : List Span)
    → last_span (s ∷ t ∷ spans) ≡ last_span (t ∷ spans)
last_span-cons s t spans = grind arith

-- the last piece of these ends where they do
pub record EndsLine (text : List ℕ) (at : ℕ) (words : List WordText) (last : Span) : Type 0 where
  pub word_end : last.word_end ≡ at + length (covered words)
  pub end : last.end ≡ at + length (tiled words)
  pub may : AreBounds text (bounds_to at last)

module _ (text : List ℕ) where
  pub ends-line : (at columns : ℕ) (w : WordText) (ws : List WordText) (after : List ℕ)
      → drop at text ≡ tiled (w ∷ ws) ++ after → IsCharBoundary text at → IsUtf8 (drop at text)
      → All IsMeasured (w ∷ ws)
      → EndsLine text at (w ∷ ws) (last_span (spans_from at columns (w ∷ ws)))
  ends-line at columns w [] after seam begins utf8 measured =
      let stands = stands-at text at w after (seam ∙ ap (λ l. l ++ after) (append-nil (tile_of w)))
      begins utf8 (All-head IsMeasured w [] measured) in
      record {
        word_end = refl;
        end = omega (arith, length-append w.word w.whitespace, ap length (append-nil (tile_of w)));
        may = record {
          start = begins;
          word = stands.word_ends;
          end = stands.ends;
          some = omega arith;
          order = omega arith;
        };
      }
  ends-line at columns w (v ∷ vs) after seam begins utf8 measured =
      let m = length w.word in
      let n = length w.whitespace in
      let stands = stands-at text at w (tiled (v ∷ vs) ++ after)
      (seam ∙ append_assoc (tile_of w) (tiled (v ∷ vs)) after) begins utf8
      (All-head IsMeasured w (v ∷ vs) measured) in
      let ends = ends-line (at + m + n) (columns + w.width + n) v vs after stands.next stands.ends
      stands.utf8 (All-tail IsMeasured w (v ∷ vs) measured) in
      search (rules, arith, last_span-cons, length-append)

none_stand : (at columns : ℕ) (ws : List WordText) → [] ≡ spans_from at columns ws → [] ≡ ws
none_stand at columns [] is = refl
none_stand at columns (w ∷ ws) is = cc

module _ (settings : Settings) (text : List ℕ) (utf8 : IsUtf8 text) (starts : List ℕ) where
  -- pieces are divided as the places are where they stand: the lines begin at the same pieces
  pub record AreLinesFound (is_later : Bool) (from at : ℕ) (ws : List WordText)
      (lines : List (List Span)) : Type 0 where
    pub division : List (List WordText)
    pub whole : flat division ≡ ws
    pub some : All (λ words. words ≢ []) division
    pub follow : FollowStarts starts from division
    pub are : span_lines settings text is_later at lines
        ≡ cut_lines at (parts_from settings is_later division)
    pub texts : HaveTexts text at lines

  -- the pieces from a place on, each measured and without a penalty
  pub record AreLeft (at : ℕ) (ws : List WordText) : Type 0 where
    pub tile : drop at text ≡ tiled ws
    pub begins : IsCharBoundary text at
    pub measured : All IsMeasured ws
    pub none : All HasNoPenalty ws

  line-found : (is_later : Bool) (from at columns : ℕ) (words back : List WordText)
      (line : List Span) (lines : List (List Span)) → line ≢ []
      → line ≡ spans_from at columns words → get_or starts (from + length line) 0 ≡ from
      → AreLeft at (words ++ back) → (AreLeft (at + length (tiled words)) back
      → AreLinesFound true (from + length line) (at + length (tiled words)) back lines)
      → AreLinesFound is_later from at (words ++ back) (line ∷ lines)
  line-found is_later from at columns [] back line lines some here start left others = grind arith
  line-found is_later from at columns (w ∷ ws) back line lines some here start left others =
      let words = w ∷ ws in
      let last = last_span (spans_from at columns words) in
      let next = at + length (tiled words) in
      let seam : drop at text ≡ tiled words ++ tiled back = left.tile ∙ tiled-append words back in
      let ends = ends-line text at columns w ws (tiled back) seam left.begins
      (IsUtf8-drop text at utf8 left.begins) (all-left IsMeasured words back left.measured) in
      let rest = others (record {
        tile = simp (← drop-drop, seam, drop_at);
        begins = subst (IsCharBoundary text) ends.end ends.may.end;
        measured = all-right IsMeasured words back left.measured;
        none = all-right HasNoPenalty words back left.none;
      }) in
      let len : length line ≡ length words = rw here (length-spans at columns words) in
      let line_is : span_line settings text is_later at last
      ≡ cut_line at (line_from (parts_of settings is_later words)) =
      rw (ends.word_end, ends.end) (rw (lt-ltb 0 (length words) (omega arith)) at (line_of-pieces
      settings text at 0 is_later words (tiled back) seam
      (all-left HasNoPenalty words back left.none))) in
      record {
        division = words ∷ rest.division;
        whole = ap (λ l. words ++ l) rest.whole;
        some = All-cons (λ words. words ≢ []) words rest.division (λ none. cc) rest.some;
        follow = rw (← len) (start, rest.follow);
        are = rw (here, line_is, ends.end, rest.are)
            (sym (cut_lines-next settings is_later at next words rest.division refl));
        texts = rw here
            (omega (arith, length-spans at columns words), ends.may, rw ends.end rest.texts);
      }

  pub lines-found : (is_later : Bool) (from at columns : ℕ) (ws : List WordText)
      (lines : List (List Span)) → All (λ line. line ≢ []) lines
      → flat lines ≡ spans_from at columns ws → FollowStarts starts from lines → AreLeft at ws
      → AreLinesFound is_later from at ws lines
  lines-found is_later from at columns ws [] some is follow left = record {
    division = [];
    whole = none_stand at columns ws is;
    some = All-nil (λ words. words ≢ []);
    follow = tt;
    are = refl;
    texts = tt;
  }
  lines-found is_later from at columns ws (line ∷ lines) some is (start, follow) left =
      let n = length line in
      let front = take n ws in
      let back = drop n ws in
      let whole : front ++ back ≡ ws = take-append-drop n ws in
      let count : n ≤ length ws =
      omega (arith, ap length is, length-append line (flat lines), length-spans at columns ws) in
      let parts = same_parts line (spans_from at columns front) (flat lines) _
      (is ∙ ap (spans_from at columns) (sym whole) ∙ spans-append at columns front back)
      (sym (length-spans at columns front ∙ length-take-le n ws count)) in
      subst (λ ws. AreLinesFound is_later from at ws (line ∷ lines)) whole
      (line-found is_later from at columns front back line lines
      (All-head (λ line. line ≢ []) line lines some) parts.0 start
      (subst (AreLeft at) (sym whole) left) (lines-found true (from + n) (at + length (tiled front))
      (columns + open_width sizes_of front) back lines
      (All-tail (λ line. line ≢ []) line lines some) parts.1 follow))

-- ---- the pieces of a paragraph

tiled-some : (ws : List WordText) (text : List ℕ) → tiled ws ≡ text → 0 < length text
    → 0 < length ws
tiled-some [] text tile some = absurd (let len = ap length tile in omega (arith, len, some))
tiled-some (w ∷ ws) text tile some = omega arith

module _ (settings : Settings) (splitter : Splitter) (is_later : Bool) (text : List ℕ)
    (words : List WordText) (penalties : Penalties) (utf8 : IsUtf8 text)
    (whole : AreTexts text words) (some : 0 < length text) where
  abbrev pub pieces : List WordText
  pieces = pieces_of_words settings splitter words

  tile : tiled pieces ≡ text
  tile = pieces_of_words-tile settings splitter text words utf8 whole

  measured : All IsMeasured pieces
  measured = pieces_of_words-measured settings splitter text words utf8 whole

  none : All HasNoPenalty pieces
  none = pieces_of_words-no_penalty settings splitter text words utf8 whole

  module _ (all : List Span) (are : all ≡ spans_from 0 0 pieces) where
    -- there are spans, they are measured, and what lines of them cost suits the search
    pub record AreSearched : Type 0 where
      pub measured : AreSpans all
      pub some_spans : 0 < length all
      pub suits : SuitQueue (fragment_costs
          (problem_by span_priced penalties (widths_of settings is_later) all))

    pub are_searched : SuitSearch (length text) (widths_of settings is_later) penalties → AreSearched
    are_searched suit =
        let widths = widths_of settings is_later in
        let case = spans-case text penalties (first_width settings is_later) (later_width settings)
        pieces tile (λ k d lt. IsNarrowWord-measured _ (measured k d lt) (none k d lt)) suit in
        record {
          some_spans = omega (arith, ap length are, length-spans 0 0 pieces, tiled-some pieces text tile some);
          measured = subst AreSpans (sym are) (AreSpans-from penalties widths pieces case);
          suits = rw are (SuitQueue-queue_case _ case);
        }

    -- the lines that the table gives
    pub record FoundLines (lines : List (List Span)) : Type 0 where
      pub division : List (List WordText)
      pub optimal : IsByOptimalFit
          (problem_at penalties sizes_of (widths_of settings is_later) pieces) division
      pub are_lines : span_lines settings text is_later 0 lines
          ≡ cut_lines 0 (parts_from settings is_later division)
      pub texts : HaveTexts text 0 lines

    pub found-lines : (lines : List (List Span))
        → IsByTable (problem_by span_priced penalties (widths_of settings is_later) all) lines
        → FoundLines lines
    found-lines lines by_spans =
        let widths = widths_of settings is_later in
        let spans = spans_from 0 0 pieces in
        let by = rw are at by_spans in
        let table : fragments_table (problem_by span_priced penalties widths spans)
        ≡ fragments_table (problem_at penalties sizes_of widths pieces) =
        fragments_table-map span_priced (λ (p : PricedSizes). p) penalties widths spans
        ∙ ap (λ ps. fragments_table (problem_by (λ (p : PricedSizes). p) penalties widths ps))
        (priced-spans penalties 0 0 pieces none)
        ∙ sym (search (rules, arith, fragments_table-map)) in
        let nonempty = tiled-some pieces text tile some in
        let (whole, filled) = division_joined spans lines
        (omega (arith, length-spans 0 0 pieces, nonempty)) by.division in
        let found = lines-found settings text utf8 _ is_later 0 0 0 pieces lines filled whole
        by.starts (record {
          tile = sym tile;
          begins = IsCharBoundary-start text utf8;
          measured = measured;
          none = none;
        }) in
        let by_table : IsByTable (problem_at penalties sizes_of widths pieces) found.division =
        record {
          division = joined_division pieces found.division nonempty found.whole found.some;
          starts = subst (λ entries. FollowStarts (map (λ entry. entry.start) entries) 0
              found.division) table found.follow;
        } in
        record {
          division = found.division;
          optimal = record {
            by_table = by_table;
            chosen = λ equal.
                by_table-chosen (λ w. priced_at penalties (sizes_of w)) penalties widths pieces
                found.division equal by_table;
          };
          are_lines = found.are;
          texts = found.texts;
        }
