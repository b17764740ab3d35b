-- The lines of a paragraph of printable ASCII, found by its bytes.
use Rattle.textwrap_lines.proofs.Common.{without_final_blanks, IsPrintableByte, printable-width, []}
use Rattle.textwrap_lines.proofs.Common.{length-take-le, length-append, BeforeOthers, HasNoPenalty}
use Rattle.textwrap_lines.proofs.Common.{append_assoc, closed_width, NoCutBetween, length-slice, ap}
use Rattle.textwrap_lines.proofs.Common.{tiled-append, IsFirstLine, IsPrintable, break_limit, arith}
use Rattle.textwrap_lines.proofs.Common.{get_or-drop, get_or-take, later_width, length-drop, get_or}
use Rattle.textwrap_lines.proofs.Common.{pieces_from, slice_range, trimmed_len, All-weaker, CutLine}
use Rattle.textwrap_lines.proofs.Common.{append-nil, line_slice, lines_past, open_width, stand_from}
use Rattle.textwrap_lines.proofs.Common.{text_limit, indent_of, no_pieces, All-head, add-zero, Bool}
use Rattle.textwrap_lines.proofs.Common.{All-take, drop_all, Settings, WordText, front_of, is_blank}
use Rattle.textwrap_lines.proofs.Common.{limit_at, parts_by, sizes_of, covered, line_of, word_of, ℕ}
use Rattle.textwrap_lines.proofs.Common.{le-ltb, length, lt-ltb, false, piece, rules, subst, tiled}
use Rattle.textwrap_lines.proofs.Common.{cond, Fits, List, refl, take, true, ◌++◌, ◌==◌, All, map}
use Rattle.textwrap_lines.proofs.Common.{sym, ◌+◌, ◌-◌, ◌<◌, ◌∙◌, ◌∷◌, ◌≡◌, ◌≤◌}
use Rattle.textwrap_text.proofs.Common.{false_from_ne_true, BlanksBetween, length-take}
use Rattle.textwrap_words.proofs.Word.Texts.{trimmed-le}
use Rattle.textwrap_base.proofs.Division.Greedy.{closed_width-push}
use Rattle.textwrap_lines.proofs.PrintableTexts.Bytes.{BeginsWide, open-exact}
use Rattle.textwrap_lines.proofs.PrintableTexts.Pieces.{begins_narrow, begins_wide, printable-slice}
use Rattle.textwrap_lines.proofs.PrintableTexts.Pieces.{pieces-broken, pieces-cover, pieces-exact}
use Rattle.textwrap_lines.proofs.PrintableTexts.Pieces.{pieces-some, pieces-split, words-narrow}
use Rattle.textwrap_lines.proofs.PrintableTexts.Pieces.{pieces-fit, pieces-tile, words-tile}
use Rattle.textwrap_lines.proofs.PrintableTexts.Pieces.{one_piece}
use Rattle.textwrap_layout.proofs.PrintableTexts.Parts.{front-slice}
use Rattle.textwrap_base.proofs.Division.Grown.{prefix-closes}
use Rattle.textwrap_lines.specs.PieceLines.{lines_left}
use Rattle.textwrap_layout.specs.LineBounds.{line_between}
use Rattle.textwrap_lines.proofs.PieceLines.{lines-full, lines-room, so_far}
use Rattle.textwrap_layout.proofs.Common.{broken_pieces_of, empty_word}
use Rattle.textwrap_layout.proofs.Paragraph.Standing.{limited-words}

-- ---- what a search for the end of a line by bytes knows of the places that it has passed

-- a slice whose end is blanks from a place on is trimmed to what comes before
pub blanks-keep : (text : List ℕ) (at width end : ℕ) → end ≤ length text
    → BlanksBetween text (at + width) end → trimmed_len (slice_range text at end) ≤ width
blanks-keep text at width end within blanks =
    search (rules, arith, length-slice, trimmed-le, get_or-take, get_or-drop)

module _ (test : ℕ → Bool) where
  -- the text is not cut before its blanks either, nor behind them
  pub none-past : (text : List ℕ) → BeforeOthers test text → (from limit past : ℕ)
      → NoCutBetween test from (limit - 1) → past < length text → BlanksBetween text limit past
      → test past ≡ false → NoCutBetween test from past
  none-past text before from limit past none within blanks end k after up_to =
      search (rules, arith, false_from_ne_true)

  pub none-at : (place : ℕ) → test place ≡ false → NoCutBetween test (place - 1) place
  none-at place not k after up_to = search (rules, arith)

  -- nor in two stretches, one after the other
  pub none-then : (from middle to : ℕ) → NoCutBetween test from middle
      → NoCutBetween test middle to → NoCutBetween test from to
  none-then from middle to one two k after up_to = search (rules, arith)

-- ---- the first line of a printable text, found by its bytes

-- the first of these pieces has as many columns
wide-first : (limit n : ℕ) (vs : List WordText) → BeginsWide limit n vs → (w : WordText)
    (ws : List WordText) → vs ≡ w ∷ ws → n ≤ w.width
wide-first limit n vs wide w ws is = search (rules, arith)

module _ (test : ℕ → Bool) (limit width : ℕ) (text : List ℕ) (printable : IsPrintable text)
    (before : BeforeOthers test text) where
  pub others-front : (n : ℕ) → BeforeOthers test (take n text)
  others-front n k some inside is = search (rules, arith, length-take, get_or-take)

  -- a line up to a place where the text is cut, or ends
  ends_at : (at end : ℕ) → at < end → end ≤ length text → (end < length text → test end ≡ true)
      → Fits sizes_of width (pieces_from test limit (take end text) at)
      → ((w : WordText) (ws : List WordText) → pieces_from test limit text end ≡ w ∷ ws
      → width < end - at + w.width) → IsFirstLine test limit width text at end false
  ends_at at end some within ends fits past =
      let front = take end text in
      let front_printable = All-take IsPrintableByte end text printable in
      let line = pieces_from test limit front at in
      let len = length-take-le end text within in
      let slice = front-slice text at end (omega (arith, some)) in
      let opened : open_width sizes_of line ≡ end - at =
      open-exact line (pieces-exact test limit front front_printable at)
      ∙ ap length (pieces-tile test limit front front_printable at ∙ slice)
      ∙ length-slice text at end within in
      record {
        line = line;
        some = pieces-some test limit front front_printable at (omega (arith, len, some));
        are = pieces-split test limit text printable at end some within ends;
        covers = pieces-cover test limit front front_printable at (others-front end)
            ∙ ap without_final_blanks slice;
        fits = fits;
        full = λ w ws is. (let over = past w ws is in
            omega (arith, opened, over, closed_width-push sizes_of line w));
      }

  keeps : (at end : ℕ) → at < end → trimmed_len (slice_range text at end) ≤ width
      → Fits sizes_of width (pieces_from test limit (take end text) at)
  keeps at end some most =
      pieces-fit test limit (take end text) (All-take IsPrintableByte end text printable) at
      (others-front end) width
      (subst (λ l. trimmed_len l ≤ width) (sym (front-slice text at end (omega (arith, some)))) most)

  -- all of the text keeps to the width
  pub line-all : (at : ℕ) → at < length text
      → trimmed_len (slice_range text at (length text)) ≤ width
      → IsFirstLine test limit width text at (length text) false
  line-all at some most = search (rules, arith, ends_at, keeps, drop_all)

  -- what comes before a cut keeps to the width, and what follows passes it before the next
  pub line-cut : (at end place : ℕ) → 0 < width → width ≤ limit → at < end → end ≤ place
      → at + width ≤ place → place < length text → test end ≡ true → NoCutBetween test end place
      → is_blank (get_or text place 0) ≡ false → trimmed_len (slice_range text at end) ≤ width
      → IsFirstLine test limit width text at end false
  line-cut at end place room order some from past inside is none other most =
      let n = at + width + 1 - end in
      let wide = begins_wide test limit text printable end place n from inside none other
      (omega (arith, room, order)) (omega (arith, some, order)) (omega (arith, from, past)) in
      search (rules, arith, ends_at, keeps, wide-first)

  -- a first word that is wider than the width, and goes on to its end
  pub line-whole : (at end : ℕ) → at + width < end → end ≤ length text → length text ≤ limit
      → NoCutBetween test at (end - 1) → (end < length text → test end ≡ true)
      → IsFirstLine test limit width text at end false
  line-whole at end past within short none ends = search (rules, arith, ends_at, one_piece)

-- a first word that is broken at the width
pub line-broken : (test : ℕ → Bool) (limit : ℕ) (text : List ℕ) (printable : IsPrintable text)
    (at place : ℕ) → 0 < limit → at + limit ≤ place → place < length text
    → NoCutBetween test at place → is_blank (get_or text place 0) ≡ false
    → IsFirstLine test limit limit text at (at + limit) true
line-broken test limit text printable at place room past inside none other =
    let end = at + limit in
    let slice = slice_range text at end in
    let w = piece slice [] [] in
    let slice_width = printable-width slice (printable-slice text at end printable) in
    let len = length-slice text at end (omega (arith, past, inside)) in
    let wide = begins_wide test limit text printable end place 1 past inside
    (λ k from to. none k (omega (arith, from)) to) other room room (omega (arith, past)) in
    record {
      line = w ∷ [];
      some = omega arith;
      are = pieces-broken test limit text printable at place past inside none other room;
      covers = refl;
      fits = λ k two le. absurd (omega (arith, two, le));
      full = λ v ws e. (let here = wide-first limit 1 (pieces_from test limit text end) wide v ws e in
          omega (arith, len, slice_width, here, closed_width-push sizes_of (w ∷ []) v));
    }

-- ---- the lines of a printable paragraph, one after the other

module _ (settings : Settings) (text : List ℕ) where
  abbrev pub lines_at : ℕ → ℕ → Bool → List WordText → List CutLine
  lines_at at width is_later ps =
      lines_left settings (no_pieces text at width (indent_of settings is_later)) (stand_from at ps)

  -- pieces that fit a line all stand on it
  lines-fit : (at width : ℕ) (indent : List ℕ) (xs line vs : List WordText)
      → Fits sizes_of width (line ++ xs) → lines_past settings (so_far text at width indent line)
      (stand_from (at + length (tiled line)) (xs ++ vs))
      ≡ lines_past settings (so_far text at width indent (line ++ xs))
      (stand_from (at + length (tiled (line ++ xs))) vs)
  lines-fit at width indent [] line vs fits = rw append-nil refl
  lines-fit at width indent (x ∷ xs) line vs fits =
      let same = append_assoc line (x ∷ []) xs in
      lines-room settings text at width indent line x (xs ++ vs) (λ some. omega (
        arith,
        prefix-closes sizes_of width line x xs fits some,
        closed_width-push sizes_of line x,
      )) ∙ (rw same at (lines-fit at width indent xs (line ++ x ∷ []) vs
      (subst (Fits sizes_of width) (sym same) fits)))

  -- the first line, and those after it
  lines-next : (at width : ℕ) (is_later : Bool) (line vs : List WordText) → All HasNoPenalty vs
      → 0 < length line → Fits sizes_of width line
      → ((w : WordText) (ws : List WordText) → vs ≡ w ∷ ws
      → width < closed_width sizes_of (line ++ w ∷ [])) → lines_at at width is_later (line ++ vs)
      ≡ line_of settings.preserve_trailing_space
      (so_far text at width (indent_of settings is_later) line)
      ∷ lines_at (at + length (tiled line)) (later_width settings) true vs
  lines-next at width is_later [] vs none some fits full = absurd (omega (arith, some))
  lines-next at width is_later (w ∷ ws) vs none some fits full =
      (rw (add-zero at) at (lines-fit at width (indent_of settings is_later) (w ∷ ws) [] vs fits))
      ∙ rest vs none full
    where
      rest : (vs : List WordText) → All HasNoPenalty vs
          → ((v : WordText) (others : List WordText) → vs ≡ v ∷ others
          → width < closed_width sizes_of (w ∷ ws ++ v ∷ []))
          → lines_past settings (so_far text at width (indent_of settings is_later) (w ∷ ws))
          (stand_from (at + length (tiled (w ∷ ws))) vs) ≡ line_of settings.preserve_trailing_space
          (so_far text at width (indent_of settings is_later) (w ∷ ws))
          ∷ lines_at (at + length (tiled (w ∷ ws))) (later_width settings) true vs
      rest [] none full = refl
      rest (v ∷ others) none full =
          let penalty = ap length (All-head HasNoPenalty v others none) in
          lines-full settings text at width (indent_of settings is_later) (w ∷ ws) v others
          (omega arith)
          (omega (arith, full v others refl, closed_width-push sizes_of (w ∷ ws) v, penalty))

  -- the lines from a place on, of which the first is found
  pub lines-step : (test : ℕ → Bool) (limit width at end word_end : ℕ) (goes_on is_later : Bool)
      → IsPrintable text → at ≤ word_end → word_end ≤ end → end ≤ length text
      → slice_range text at word_end ≡ line_slice text at end goes_on
      → (first : IsFirstLine test limit width text at end goes_on)
      → lines_at at width is_later (pieces_from test limit text at)
      ≡ line_between settings.preserve_trailing_space text (indent_of settings is_later) []
      (record { start = at; word_end = word_end; end = end })
      ∷ lines_at end (later_width settings) true (pieces_from test limit text end)
  lines-step test limit width at end word_end goes_on is_later printable from order within slice
      first =
      let line = first.line in
      let others = pieces_from test limit text end in
      let exact = pieces-exact test limit text printable end in
      let some = first.some in
      let tiles = ap length (sym (tiled-append line others) ∙ ap tiled (sym first.are)
      ∙ pieces-tile test limit text printable at) in
      let end_is : at + length (tiled line) ≡ end = omega (
        arith,
        tiles,
        length-append (tiled line) (tiled others),
        ap length (pieces-tile test limit text printable end),
        length-drop at text,
        length-drop end text,
      ) in
      let word_is : at + length (covered line) ≡ word_end = omega (
        arith,
        ap length (first.covers ∙ sym slice),
        length-slice text at word_end (omega (arith, order, within)),
      ) in search (rules, arith, lines-next, All-weaker, lt-ltb)

-- ---- those lines are the lines of the settings

module _ (settings : Settings) (text : List ℕ) (width : ℕ) (indent : List ℕ) where
  abbrev pub lines_of_pieces : List WordText → List CutLine
  lines_of_pieces ps = lines_past settings (no_pieces text 0 width indent) (stand_from 0 ps)

  -- a word without text in front makes no difference, if the first piece has room
  without_front : (w : WordText) (ws : List WordText) (breaks none : Bool)
      → w.width ≤ limit_at breaks width
      → lines_of_pieces (cond breaks (cond none [] (empty_word ∷ [])) [] ++ w ∷ ws)
      ≡ lines_of_pieces (w ∷ ws)
  without_front w ws false none narrow = refl
  without_front w ws true true narrow = refl
  without_front w ws true false narrow = grind (arith, le-ltb)

-- the lines of the pieces that are found by bytes are those of the pieces of the settings, where
-- these are the split words
pub lines-by_bytes : (settings : Settings) (test : ℕ → Bool) (split : List WordText)
    (indent text : List ℕ) → split ≡ map word_of (parts_by test 0 text) → IsPrintable text
    → 0 < length text → length text < text_limit → 0 < later_width settings
    → lines_left settings (no_pieces text 0 (later_width settings) indent)
    (stand_from 0 (pieces_from test (break_limit settings) text 0))
    ≡ lines_of_pieces settings text (later_width settings) indent (broken_pieces_of settings split)
lines-by_bytes settings test split indent text are printable some short room =
    let width = later_width settings in
    let limit = break_limit settings in
    let here = no_pieces text 0 width indent in
    let found = begins_narrow test limit text printable 0 some limited in
    let tile = ap length (words-tile test limit text printable 0) in
    ap (λ ps. lines_left settings here (stand_from 0 ps)) found.are
    ∙ sym (without_front settings text width indent found.first found.others settings.break_words
    (length settings.initial_indent == 0) found.narrow)
    ∙ ap (lines_of_pieces settings text width indent)
    (ap (λ ps. front_of settings ++ ps) (sym found.are)
    ∙ limited-words settings (map word_of (parts_by test 0 text))
    (words-narrow test limit text printable 0) (omega (arith, tile, short))
    ∙ ap (broken_pieces_of settings) (sym are))
  where
    limited : 0 < break_limit settings
    limited = search (rules, arith)
