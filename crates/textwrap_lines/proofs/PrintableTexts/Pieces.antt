-- The pieces of a text of printable ASCII, the first of them, and its words, split.
use Rattle.textwrap_lines.proofs.Common.{without_final_blanks, take-append-drop, IsPrintableByte, ℕ}
use Rattle.textwrap_lines.proofs.Common.{printable-width, length-take-le, BeforeOthers, IsPrintable}
use Rattle.textwrap_lines.proofs.Common.{broken_words, HasNoPenalty, length-slice, NoCutBetween, []}
use Rattle.textwrap_lines.proofs.Common.{broken_word, get_or-drop, get_or-take, length-drop, IsUtf8}
use Rattle.textwrap_lines.proofs.Common.{pieces_from, slice_range, split_words, trimmed_len, get_or}
use Rattle.textwrap_lines.proofs.Common.{All-weaker, IsMeasured, is_cut_by, All-drop, All-take, All}
use Rattle.textwrap_lines.proofs.Common.{AreTexts, cases_lt, drop_all, is_blank, Splitter, WordText}
use Rattle.textwrap_lines.proofs.Common.{parts_by, sizes_of, covered, word_of, le-ltb, length, Bool}
use Rattle.textwrap_lines.proofs.Common.{rules, arith, false, piece, subst, tiled, drop, Fits, List}
use Rattle.textwrap_lines.proofs.Common.{refl, take, true, zero, ◌++◌, ◌||◌, inl, inr, map, suc, ap}
use Rattle.textwrap_lines.proofs.Common.{sym, ◌+◌, ◌-◌, ◌<◌, ◌∙◌, ◌∷◌, ◌≡◌, ◌≢◌, ◌≤◌}
use Rattle.textwrap_text.proofs.Common.{All-map, and_right, flat_map-append, map-append}
use Rattle.textwrap_words.proofs.Common.{split_word}
use Rattle.textwrap_words.specs.PieceCuts.{is_point, IsPart}
use Rattle.textwrap_layout.proofs.Common.{AfterOthers}
use Rattle.textwrap_words.proofs.Word.Words.{IsNarrowWord, IsNarrowWord-measured, word_of-measured}
use Rattle.textwrap_words.proofs.Word.Words.{tiled-map}
use Rattle.textwrap_words.proofs.Word.BrokenPieces.{broken_words-measured, broken_words-no_penalty}
use Rattle.textwrap_words.proofs.Word.BrokenPieces.{tiled-broken_words}
use Rattle.textwrap_layout.proofs.Paragraph.Pieces.{broken_words-ends, flat_map-space}
use Rattle.textwrap_layout.proofs.Paragraph.Room.{wide-some}
use Rattle.textwrap_layout.proofs.Paragraph.LeftOff.{covered-tiled, last-part}
use Rattle.textwrap_lines.proofs.PrintableTexts.Bytes.{begins_wide-step, BeginsWide, ends-printable}
use Rattle.textwrap_lines.proofs.PrintableTexts.Bytes.{broken-front, flat-printable, printable-utf8}
use Rattle.textwrap_lines.proofs.PrintableTexts.Bytes.{exact-words, Fits-exact, IsExact}
use Rattle.textwrap_layout.proofs.PrintableTexts.Parts.{first-part, front-slice, parts-split}
use Rattle.textwrap_layout.proofs.PrintableTexts.Parts.{flat-parts, slice-rest}
use Rattle.textwrap_text.proofs.Lists.Parts.{slices_joined}
use Rattle.textwrap_words.proofs.Word.Parts.{parts-same, parts_by-whole}
use Rattle.textwrap_words.proofs.Word.Texts.{trimmed-past}
use Rattle.textwrap_words.proofs.Word.FirstPieces.{parts-front}
use Rattle.textwrap_words.proofs.Word.SplitParts.{split-word}
use Rattle.textwrap_words.proofs.Word.Splitting.{EndsPlain}

-- ---- the pieces of what follows a place

module _ (test : ℕ → Bool) (limit : ℕ) (text : List ℕ) (printable : IsPrintable text) (at : ℕ) where
  abbrev rest : List ℕ
  rest = drop at text

  abbrev parts : List (List ℕ)
  parts = parts_by test at rest

  abbrev words : List WordText
  words = map word_of parts

  abbrev pieces : List WordText
  pieces = pieces_from test limit text at

  rest-printable : IsPrintable rest
  rest-printable = All-drop IsPrintableByte at text printable

  words-all : (P : WordText → Type 0) → ((part : List ℕ) → IsPrintable part → P (word_of part))
      → All P words
  words-all P each = All-map P word_of parts (All-weaker IsPrintable (λ b. P (word_of b)) each parts
      (flat-printable parts (subst IsPrintable (sym (flat-parts test at rest)) rest-printable)))

  words-measured : All IsMeasured words
  words-measured = words-all IsMeasured (λ b p. word_of-measured b (printable-utf8 b p))

  pub words-narrow : All IsNarrowWord words
  words-narrow = words-all IsNarrowWord (λ b p.
      IsNarrowWord-measured (word_of b) (word_of-measured b (printable-utf8 b p)) refl)

  pub words-tile : tiled words ≡ rest
  words-tile = tiled-map parts ∙ flat-parts test at rest

  words-plain : All HasNoPenalty words
  words-plain = words-all HasNoPenalty (λ b p. refl)

  pub pieces-tile : tiled pieces ≡ rest
  pieces-tile = tiled-broken_words limit words
      (All-weaker IsMeasured (λ w. IsUtf8 w.word) (λ w m. m.utf8) words words-measured)
      (All-weaker IsMeasured (λ w. limit < w.width → w.word ≢ []) (λ w m. wide-some limit w m)
      words words-measured) ∙ words-tile

  pub pieces-some : at < length text → 0 < length pieces
  pieces-some some = by pieces pieces-tile
    where
      by : (ws : List WordText) → tiled ws ≡ rest → 0 < length ws
      by [] e = absurd (let none = ap length e in omega (arith, none, length-drop at text, some))
      by (w ∷ ws) e = omega arith

  pub pieces-exact : All IsExact pieces
  pieces-exact = exact-words pieces (broken_words-measured limit words words-measured)
      (broken_words-no_penalty limit words words-plain)
      (subst IsPrintable (sym pieces-tile) rest-printable)

  -- ---- the blanks at the end

  module _ (before : BeforeOthers test text) where
    -- the pieces cover the text without the blanks at its end
    pub pieces-cover : covered pieces ≡ without_final_blanks rest
    pieces-cover = covered-tiled pieces rest
        (flat_map-space (broken_word limit) words (broken_words-ends limit words words-measured)
        ∙ last-part test text before at) pieces-tile

    -- a text that keeps to the width fits one line
    pub pieces-fit : (width : ℕ) → trimmed_len rest ≤ width → Fits sizes_of width pieces
    pieces-fit width keeps =
        search (rules, arith, length-take-le, Fits-exact, pieces-exact, pieces-cover)

pub words-texts : (test : ℕ → Bool) (text : List ℕ) → IsPrintable text
    → AreTexts text (map word_of (parts_by test 0 text))
words-texts test text printable = record {
  tile = words-tile test 0 text printable 0;
  measured = words-measured test 0 text printable 0;
  plain = words-plain test 0 text printable 0;
}

pub printable-slice : (text : List ℕ) (i j : ℕ) → IsPrintable text → IsPrintable (slice_range text i j)
printable-slice text i j printable = search (rules, arith, All-take, All-drop)

-- ---- the pieces that a printable text begins with

-- a slice goes past a byte that is no blank
pub past-byte : (text : List ℕ) (at place end : ℕ) → at ≤ place → place < end → end ≤ length text
    → is_blank (get_or text place 0) ≡ false → place - at < trimmed_len (slice_range text at end)
past-byte text at place end from before within other =
    let k = place - at in
    let here : at + k ≡ place = omega (arith, from) in
    let len = length-slice text at end within in
    search (rules, arith, trimmed-past, get_or-take, get_or-drop)

-- the word of a printable part has as many columns as bytes
pub word-width : (part : List ℕ) → IsPrintable part → (word_of part).width ≡ trimmed_len part
word-width part printable =
    printable-width (word_of part).word (All-take IsPrintableByte (trimmed_len part) part printable)
    ∙ length-take-le (trimmed_len part) part (omega arith)

module _ (test : ℕ → Bool) (limit : ℕ) (text : List ℕ) (printable : IsPrintable text) where
  -- the pieces up to a place where the text is cut, or ends, and those from there on
  pub pieces-split : (at end : ℕ) → at < end → end ≤ length text
      → (end < length text → test end ≡ true) → pieces_from test limit text at
      ≡ pieces_from test limit (take end text) at ++ pieces_from test limit text end
  pieces-split at end some within ends = rw (
    parts-split test text at end some within ends,
    map-append,
    flat_map-append,
    front-slice text at end (omega (arith, some)),
  ) refl

  -- the first piece of a text that is not cut up to a place, where that may have so many columns
  begins_first : (at place n : ℕ) → at ≤ place → place < length text → NoCutBetween test at place
      → 0 < limit → n ≤ limit
      → ((end : ℕ) → place < end → end ≤ length text → n ≤ trimmed_len (slice_range text at end))
      → BeginsWide limit n (pieces_from test limit text at)
  begins_first at place n from inside none room most long =
      let found = first-part test text at place from inside none in
      let part = slice_range text at found.end in
      let part_printable = printable-slice text at found.end printable in
      let len = length-take-le (trimmed_len part) part (omega arith) in
      subst (λ ps. BeginsWide limit n (broken_words limit (map word_of ps)))
      (sym (parts-front test text at found.end found.part))
      (begins_wide-step limit n (word_of part) _ room most
      (All-take IsPrintableByte (trimmed_len part) part part_printable)
      (word-width part part_printable ∙ sym len)
      (omega (arith, len, long found.end found.past found.part.within)))

  -- up to a byte that is no blank
  pub begins_wide : (at place n : ℕ) → at ≤ place → place < length text → NoCutBetween test at place
      → is_blank (get_or text place 0) ≡ false → 0 < limit → n ≤ limit → n + at ≤ place + 1
      → BeginsWide limit n (pieces_from test limit text at)
  begins_wide at place n from inside none other room most up_to =
      begins_first at place n from inside none room most (λ end past within.
      omega (arith, past-byte text at place end from past within other, up_to, from))

  -- the first piece of any text
  pub begins_narrow : (at : ℕ) → at < length text → 0 < limit
      → BeginsWide limit 0 (pieces_from test limit text at)
  begins_narrow at inside room = search (rules, arith, begins_first)

  -- a part that keeps to the limit is one piece
  pub one_piece : (at end : ℕ) → at < end → end ≤ length text → length text ≤ limit
      → NoCutBetween test at (end - 1)
      → pieces_from test limit (take end text) at ≡ word_of (slice_range text at end) ∷ []
  one_piece at end some within short none =
      grind (arith, word-width, printable-slice, length-slice, front-slice, parts_by-whole, le-ltb)

  -- a first word that is broken at the limit
  pub pieces-broken : (at place : ℕ) → at + limit ≤ place → place < length text
      → NoCutBetween test at place → is_blank (get_or text place 0) ≡ false → 0 < limit
      → pieces_from test limit text at ≡ piece (slice_range text at (at + limit)) [] []
      ∷ pieces_from test limit text (at + limit)
  pieces-broken at place from inside none other room =
      let found = first-part test text at place (omega (arith, from)) inside none in
      let end = found.end in
      let past = found.past in
      let middle = at + limit in
      let front = slice_range text at middle in
      let back = slice_range text middle end in
      let within = found.part.within in
      let whole : slice_range text at end ≡ front ++ back =
      slices_joined text at middle end (omega arith) (omega (arith, from, past)) in
      let rest : IsPart test text middle end = record {
        some = omega (arith, from, past);
        within = within;
        uncut = λ k after before. found.part.uncut k (omega (arith, after)) before;
        ends = found.part.ends;
      } in
      let len = length-slice text at middle (omega (arith, from, inside)) in
      let first = broken-front limit front back
      (subst IsPrintable whole (printable-slice text at end printable)) room (omega (arith, len))
      (omega (arith, past-byte text middle place end from past within other)) in
      search (rules, arith, parts-front)

-- ---- the words of a printable text, split by a splitter, are its parts where it is cut by both

module _ (cuts : ℕ → Bool) (splitter : Splitter) (text : List ℕ) (printable : IsPrintable text)
    (after : AfterOthers cuts text) where
  abbrev both : ℕ → Bool
  both = is_cut_by cuts splitter text

  -- those from a place on
  split-from : (n at : ℕ) → length text ≤ at + n → (at < length text → EndsPlain (take at text))
      → split_words splitter (map word_of (parts_by cuts at (drop at text)))
      ≡ map word_of (parts_by both at (drop at text))
  split-from zero at short plain = rw (drop_all at text (omega (arith, short))) refl
  split-from (suc n) at short plain = elim (cases_lt at (length text)) [
    | inr past ↦ rw (drop_all at text past) refl
    | inl inside ↦
        let found = first-part cuts text at at (omega arith) inside
        (λ k from to. absurd (omega (arith, from, to))) in
        let end = found.end in
        let part = found.part in
        let before = take at text in
        let q = slice_range text at end in
        let back = drop end text in
        let some = part.some in
        let within = part.within in
        let len = length-slice text at end within in
        let whole : before ++ (q ++ back) ≡ text =
        ap (λ l. before ++ l) (slice-rest text at end (omega (arith, some)))
        ∙ take-append-drop at text in
        let place : length before ≡ at = length-take-le at text (omega (arith, inside)) in
        let word = split-word before q back
        (printable-utf8 before (All-take IsPrintableByte at text printable)) (plain inside)
        (printable-utf8 q (printable-slice text at end printable)) (omega (arith, len, some))
        splitter in
        let here : split_word splitter (word_of q) ≡ map word_of (parts_by both at q) =
        word ∙ rw (whole, place) (ap (map word_of) (parts-same (is_point splitter text) both q at
        (λ k from to. ap (λ t. t || is_point splitter text k)
        (sym (part.uncut k from (omega (arith, to, len, some))))))) in
        let rest = split-from n end (omega (arith, short, some))
        (λ more. grind (arith, ends-printable, and_right)) in
        rw (
          parts-front cuts text at end part,
          here,
          rest,
          parts-split both text at end some within
              (λ more. ap (λ t. t || is_point splitter text end) (part.ends more)),
          map-append,
        ) refl
  ]

  pub split-cuts : split_words splitter (map word_of (parts_by cuts 0 text))
      ≡ map word_of (parts_by both 0 text)
  split-cuts = split-from (length text) 0 (omega arith) (λ some. ends-printable text 0 printable some)
