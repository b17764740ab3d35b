-- Lines that are cut: the words that are kept whole, what has room of the next, and what closes it.
use Rattle.std.proofs.lemmas.{List.Sums.prefix_len-le-length, Str.IsCharBoundary-from_rest}
use Rattle.textwrap_display.proofs.Common.{CanCut, IsCut, IsKeptBeginning, IsShortened, IsWhole, IsWholeText}
use Rattle.textwrap_display.proofs.Common.{Line, chars, closing, concat, indent_len, is_blank, line_bytes}
use Rattle.textwrap_display.proofs.Common.{sequences, text_width-append, text_width-nil, units, word_width}
use Rattle.textwrap_display.proofs.{KeptLines.none-kept, KeptWords.may_end-boundary, Widths.indent-blanks}
use Rattle.textwrap_display.specs.Shortening.{IsKeptLength, LeavesRoom, is_too_wide}
use Rattle.textwrap_layout.{proofs.Paragraph.LeftOff.blanks-utf8, specs.Text.HasWholeSequences}
use Rattle.{textwrap_lines.proofs.Text.Printed.blanks-whole, textwrap_styles.proofs.PenStyles.ended}
use Rattle.textwrap_styles.proofs.SequenceTexts.{IsSequence, closing-is, closing-sequences}
use Rattle.textwrap_styles.proofs.SequenceTexts.{closing_sequences, concat-units, concat-whole, none-visible}
use Rattle.textwrap_styles.proofs.SequenceTexts.{penned-append, sequence_units, sequences-show}
use Rattle.textwrap_styles.proofs.SequenceTexts.{text_units-append, units-again, whole_text-append}
use Rattle.textwrap_styles.specs.Penned.{penned_text, penned_units, plain_rendition, rendition_of}
use Rattle.textwrap_styles.specs.Styled.{EndsPlain}
use Rattle.textwrap_text.proofs.Common.{All, All-append, Bool, IsCharBoundary, IsCharBoundary-from_drop}
use Rattle.textwrap_text.proofs.Common.{IsCharBoundary-from_take, IsUtf8, IsUtf8-drop, IsUtf8-take}
use Rattle.textwrap_text.proofs.Common.{List, [], and_parts, ap, append-nil, arith, cases_lt, drop}
use Rattle.textwrap_text.proofs.Common.{drop-drop, flat_map-append, inl, inr, length, length-drop}
use Rattle.textwrap_text.proofs.Common.{length-prefix_len, ltb-false, ltb-true, refl, rules, subst}
use Rattle.textwrap_text.proofs.Common.{sym, take, take-add, take-append-drop, take_at, text_width}
use Rattle.textwrap_text.proofs.Common.{true, ℕ, ◌&&◌, ◌++◌, ◌+◌, ◌-◌, ◌<◌, ◌∙◌, ◌≡◌, ◌≢◌, ◌≤◌, ◌⊎◌}
use Rattle.textwrap_text.proofs.Lists.Parts.{all-right}

-- ---- a word in a line, as a text by itself

module _ {width : ℕ} {placeholder line : List ℕ} (utf8 : IsUtf8 line) {words start : ℕ}
    (kept : IsKeptBeginning width placeholder line words)
    (next : start ≡ words + indent_len (drop words line)) where
  abbrev front : List ℕ
  front = take start line

  abbrev word : List ℕ
  word = drop start line

  abbrev gap : List ℕ
  gap = take (indent_len (drop words line)) (drop words line)

  words-whole : IsWholeText (take words line)
  words-whole = (IsUtf8-take line words utf8 (may_end-boundary line words utf8 kept.ends.0), kept.ends.1)

  gap-whole : IsWholeText gap
  gap-whole = search (rules, arith, blanks-utf8, blanks-whole, indent-blanks)

  front-whole : IsWholeText front
  front-whole = rw (next, take-add) (whole_text-append (take words line) gap words-whole gap-whole)

  pub start-within : start ≤ length line
  start-within =
      omega (arith, prefix_len-le-length is_blank (drop words line), kept.within, length-drop words line)

  pub start-boundary : IsCharBoundary line start
  start-boundary = IsCharBoundary-from_take line start utf8 start-within front-whole.0

  longer-width : (k : ℕ) → text_width (take (start + k) line) ≡ text_width front + text_width (take k word)
  longer-width k = rw take-add (text_width-append front (take k word) front-whole.0 front-whole.1)

  longer-units : (k : ℕ) → units (chars (take (start + k) line))
      ≡ units (chars front) ++ units (chars (take k word))
  longer-units k = rw take-add (text_units-append front (take k word) front-whole)

  longer-whole : (k : ℕ) → HasWholeSequences (take k word) → HasWholeSequences (take (start + k) line)
  longer-whole k whole = rw (longer-units k) (All-append IsWhole _ _ front-whole.1 whole)

  longer-own : (k : ℕ) → HasWholeSequences (take (start + k) line) → HasWholeSequences (take k word)
  longer-own k whole = all-right IsWhole (units (chars front)) _ (rw (longer-units k) at whole)

  rest-of : (k : ℕ) → drop (start + k) line ≡ drop k word
  rest-of k = ap (λ n. drop n line) (omega arith) ∙ sym (drop-drop k start line)

  to-line : (k : ℕ) → CanCut word 0 k → CanCut line start (start + k)
  to-line k may =
      search (rules, arith, longer-width, IsCharBoundary-from_rest, start-within, rest-of, longer-whole)

  to-word : (k : ℕ) → CanCut line start (start + k) → CanCut word 0 k
  to-word k may =
      let own : IsUtf8 (drop k word) = rw (rest-of k) at (IsUtf8-drop line (start + k) utf8 may.place) in
      let before = rw (rest-of k) at may.before in
      let fits = length-drop start line in
      search (rules, arith, longer-width, text_width-nil, IsCharBoundary-from_drop, start-within, longer-own)

  -- no place has room if the blanks before the word have none
  pub cut-none : width < text_width front + text_width placeholder
      → IsCut width placeholder line words start words
  cut-none over = search (rules, arith)

  -- what is kept of the word as a text is kept of it in the line
  module _ {left k : ℕ} (fits : left + text_width front + text_width placeholder ≡ width)
      (h : IsCut left [] word 0 0 k) where
    cut-latest : (m : ℕ) → CanCut line start m → LeavesRoom width placeholder line m → m ≤ start + k
    cut-latest m may room =
        let at : m ≡ start + (m - start) = omega (arith, may.after) in
        let own = to-word (m - start) (subst (CanCut line start) at may) in
        let wide = ap (λ n. text_width (take n line)) at ∙ longer-width (m - start) in
        omega (arith, h.latest (m - start) own (omega (arith, wide, text_width-nil)), may.after)

    pub cut-no : k ≡ 0 → IsCut width placeholder line words start words
    cut-no none = search (rules, arith, cut-latest)

    pub cut-some : k ≢ 0 → IsCut width placeholder line words start (start + k)
    cut-some some = search (rules, arith, to-line, longer-width, text_width-nil, cut-latest)

    pub cut-within : k ≤ length word
    cut-within = elim h.cut [ inl none ↦ omega (arith, none) | inr (may, room) ↦ may.place.0 ]

-- where the first word after some bytes begins, and its text
module _ (line : List ℕ) (words : ℕ) {rest : List ℕ} (after : rest ≡ drop words line) where
  pub start-is : {blanks : List ℕ} → blanks ≡ take (indent_len rest) rest
      → words + length blanks ≡ words + indent_len (drop words line)
  start-is are = cc (are, length-prefix_len is_blank rest, after)

  pub word-is : {text : List ℕ} {start : ℕ} → text ≡ drop (indent_len rest) rest
      → start ≡ words + indent_len (drop words line) → text ≡ drop start line
  word-is is next = cc (is, after, drop-drop (indent_len (drop words line)) words line, next)

-- ---- what is kept

-- whole words
pub kept-words : {breaks : Bool} {width : ℕ} {placeholder line : List ℕ} {n start : ℕ}
    → IsKeptBeginning width placeholder line n → start ≡ n + indent_len (drop n line)
    → (breaks && is_too_wide width placeholder line start ≡ true
    → IsCut width placeholder line n start n) → IsKeptLength breaks width placeholder line n
kept-words {n = n} {start = start} kept next cut =
    record { words = n; start = start; kept = kept; next = next; whole = λ stays. refl; cut = cut }

-- whole words, and what is found of the next one
pub record IsFoundWord (width : ℕ) (placeholder line : List ℕ) (words start room left k : ℕ)
    (text : List ℕ) : Type 0 where
  pub kept : IsKeptBeginning width placeholder line words
  pub next : start ≡ words + indent_len (drop words line)
  pub text_is : text ≡ drop start line
  pub is : room + text_width placeholder ≡ width
  pub fits : left + text_width (take start line) ≡ room
  pub whole : word_width text ≤ room → k ≡ 0
  pub cut : room < word_width text → IsCut left [] text 0 0 k

module _ {width : ℕ} {placeholder line : List ℕ} (utf8 : IsUtf8 line) {words start room left k : ℕ}
    {text : List ℕ} (h : IsFoundWord width placeholder line words start room left k text) where
  sum : left + text_width (take start line) + text_width placeholder ≡ width
  sum = omega (arith, h.is, h.fits)

  found : room < word_width text → IsCut left [] (drop start line) 0 0 k
  found over = subst (λ l. IsCut left [] l 0 0 k) h.text_is (h.cut over)

  wide : (breaks : Bool) → breaks && is_too_wide width placeholder line start ≡ true → room < word_width text
  wide breaks passes = search (rules, arith, and_parts, ltb-true, h.is, h.text_is)

  pub kept-uncut : {breaks : Bool} → k ≡ 0 → IsKeptLength breaks width placeholder line words
  kept-uncut {breaks = breaks} none = kept-words h.kept h.next (λ passes.
      cut-no utf8 h.kept h.next sum (found (wide breaks passes)) none)

  pub kept-cut : {breaks : Bool} → breaks ≡ true → k ≢ 0
      → IsKeptLength breaks width placeholder line (start + k)
  kept-cut {breaks = breaks} breaking some = record {
    words = words;
    start = start;
    kept = h.kept;
    next = h.next;
    whole = λ stays. search (rules, arith, ltb-false, h.whole, h.text_is, h.is);
    cut = λ passes. cut-some utf8 h.kept h.next sum (found (wide breaks passes)) some;
  }

  pub kept-within : k ≢ 0 → start + k ≤ length line
  kept-within some =
      let inside = λ (over : room < word_width text). cut-within utf8 h.kept h.next sum (found over) in
      let start = start-within utf8 h.kept h.next in
      search (rules, arith, cases_lt room (word_width text), inside, length-drop, start, h.whole)

-- nothing, where the placeholder alone is too wide
pub kept-none : {breaks : Bool} {width : ℕ} {placeholder line : List ℕ}
    → width < text_width placeholder → IsKeptLength breaks width placeholder line 0
kept-none {line = line} over =
    kept-words (search (rules, arith, none-kept line)) refl (λ is. search (rules, arith))

module _ {breaks : Bool} {width : ℕ} {placeholder line : List ℕ} {n : ℕ}
    (h : IsKeptLength breaks width placeholder line n) where
  pub kept-boundary : IsUtf8 line → IsCharBoundary line n
  kept-boundary utf8 = search (rules, arith, may_end-boundary)

  pub kept-whole : IsUtf8 line → IsWholeText (take n line)
  kept-whole utf8 = (IsUtf8-take line n utf8 (kept-boundary utf8), search (rules, arith))

  pub kept-room : (n ≡ 0) ⊎ LeavesRoom width placeholder line n
  kept-room = search (rules, arith)

-- ---- a text of whole sequences, and what closes it

module _ (kept : List ℕ) (whole : IsWholeText kept) where
  abbrev ends : List (List ℕ)
  ends = closing_sequences (sequences kept)

  abbrev closed : List ℕ
  closed = kept ++ closing (sequences kept)

  are-ends : All IsSequence ends
  are-ends = closing-sequences (sequences kept)

  closed-units : units (chars closed) ≡ units (chars kept) ++ sequence_units ends
  closed-units =
      cc (closing-is (sequences kept), text_units-append kept (concat ends) whole, concat-units ends are-ends)

  closed-whole : IsWholeText closed
  closed-whole = rw (closing-is (sequences kept)) (whole_text-append kept (concat ends) whole
      (concat-whole ends are-ends))

  pub closed-plain : EndsPlain closed
  closed-plain =
      grind (arith, closed-units, flat_map-append, units-again ends are-ends, ended (sequences kept))

  closed-width : text_width closed ≡ text_width kept
  closed-width = grind (arith, closed-units, flat_map-append, none-visible, append-nil)

  -- with a placeholder behind it
  module _ (placeholder : List ℕ) where
    pub followed-width : text_width (closed ++ placeholder) ≡ text_width kept + text_width placeholder
    followed-width = cc (text_width-append closed placeholder closed-whole.0 closed-whole.1, closed-width)

    pub followed-pens : penned_text plain_rendition (closed ++ placeholder)
        ≡ penned_text plain_rendition kept ++ penned_text plain_rendition placeholder
    followed-pens =
        let apart = text_units-append closed placeholder closed-whole in
        grind (arith, closed-units, penned-append, sequences-show, append-nil, apart, closed-plain)

-- ---- the laws of lines that were cut

module _ (breaks : Bool) (width : ℕ) (placeholder line : List ℕ) (short : Line) (utf8 : IsUtf8 line)
    (is : IsShortened breaks width placeholder line short) where
  abbrev kept : List ℕ
  kept = take is.len line

  whole : IsWholeText kept
  whole = kept-whole is.kept utf8

  pub shortened-closed : EndsPlain (kept ++ closing (sequences kept))
  shortened-closed = closed-plain kept whole

  pub shortened-pens : (take (length (penned_text plain_rendition kept))
      (penned_text plain_rendition line) ≡ penned_text plain_rendition kept)
      × (penned_text plain_rendition (line_bytes short)
      ≡ penned_text plain_rendition kept ++ penned_text plain_rendition placeholder)
  shortened-pens =
      let parts : penned_text plain_rendition line ≡ penned_text plain_rendition kept
      ++ penned_units (rendition_of (sequences kept)) (units (chars (drop is.len line))) =
      grind (arith, take-append-drop, text_units-append kept (drop is.len line) whole, penned-append) in
      (grind (arith, parts, take_at), rw is.is (followed-pens kept whole placeholder))

  pub shortened-width : text_width placeholder ≤ width → text_width (line_bytes short) ≤ width
  shortened-width room =
      rw is.is (grind (arith, followed-width kept whole placeholder, kept-room is.kept, text_width-nil))

-- ---- only one number of bytes may be kept

cut-le : {width : ℕ} {placeholder line : List ℕ} {words start m n : ℕ} → words ≤ start
    → IsCut width placeholder line words start m → IsCut width placeholder line words start n → m ≤ n
cut-le before first second = search (rules, arith)

pub kept-unique : (breaks : Bool) (width : ℕ) (placeholder line : List ℕ) (m n : ℕ)
    → IsKeptLength breaks width placeholder line m → IsKeptLength breaks width placeholder line n → m ≡ n
kept-unique breaks width placeholder line m n first second =
    let words : first.words ≡ second.words = search (rules, arith, first.kept, second.kept) in
    search (rules, arith, words, cut-le, first.cut, second.cut, first.whole, second.whole)
