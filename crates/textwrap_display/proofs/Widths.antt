-- Lines that are aligned or justified, and rows: how wide they are, and what they show, by the pen.
use Rattle.std.proofs.{Math.Nat.div-add-mod, lemmas.List.length-replicate}
use Rattle.std.proofs.lemmas.List.{Elements.All-replicate, Elements.filter-append, Sums.fold-append}
use Rattle.std.{proofs.lemmas.List.Sums.prefix_len_passes, specs.Str.chars}
use Rattle.textwrap_display.proofs.Common.{AreBlanks, WordText, blank, blanks, chunks, gaps, indent_len}
use Rattle.textwrap_display.proofs.Common.{is_blank, justified, line_bytes, line_words, nil-whole}
use Rattle.textwrap_display.proofs.Common.{sequence_of, sequences, suc-mul, text_width, text_width-append}
use Rattle.textwrap_display.proofs.Common.{text_width-nil, tiled, units, widened_words, ◌%◌}
use Rattle.textwrap_display.specs.Alignment.{aligned, spread}
use Rattle.textwrap_display.specs.Laws.{IsBeside, StandsAlone, row_of, shown_apart, without_blanks}
use Rattle.textwrap_display.specs.{Tables.RowGaps, declared.alignment.Alignment.Alignment}
use Rattle.textwrap_layout.{proofs.Paragraph.LeftOff.blanks-utf8, specs.Text.HasWholeSequences}
use Rattle.textwrap_lines.proofs.Text.Printed.{blanks-printable, blanks-whole}
use Rattle.textwrap_styles.proofs.SequenceTexts.{penned-append, text_units-append, whole_text-append}
use Rattle.textwrap_styles.specs.Penned.{Rendition, penned_text, plain_rendition, rendition_of, with_sequence}
use Rattle.textwrap_text.proofs.Common.{All, All-from_get_or, All-head, All-tail, All-weaker, IsUtf8, List}
use Rattle.textwrap_text.proofs.Common.{[], ap, append-nil, append_assoc, arith, chars-nil, drop, eqb-true}
use Rattle.textwrap_text.proofs.Common.{flat_map, flat_map-append, fold, get_or-take, join_with, length}
use Rattle.textwrap_text.proofs.Common.{length-take, min, refl, rules, suc, sym, take, take-append-drop, true}
use Rattle.textwrap_text.proofs.Common.{zero, ℕ, ◌*◌, ◌++◌, ◌+◌, ◌-◌, ◌/◌, ◌<◌, ◌∙◌, ◌∷◌, ◌≡◌, ◌≢◌, ◌≤◌}
use Rattle.textwrap_text.proofs.{Texts.after_ascii, Units.Chunks.chunks-utf8}
use Rattle.textwrap_text.{proofs.Units.Reading.printable-width, specs.Units.Visible}
use Rattle.textwrap_words.proofs.Word.Words.{IsMeasured, tiled-words_of, words-measured}
use lib.Utf8.{encode}

-- ---- how wide blanks are

pub blanks-are : (n : ℕ) → AreBlanks (blanks n)
blanks-are n = All-replicate (λ c. is_blank c ≡ true) n blank refl

-- text after blanks
pub blanks-before : (bytes text : List ℕ) → AreBlanks bytes
    → text_width (bytes ++ text) ≡ length bytes + text_width text
blanks-before bytes text are =
    grind (arith, text_width-append, blanks-utf8, blanks-whole, printable-width, blanks-printable)

pub more-blanks : (n : ℕ) (text : List ℕ) → text_width (blanks n ++ text) ≡ n + text_width text
more-blanks n text = search (rules, arith, blanks-before, blanks, blanks-are, length-replicate, blank)

-- ---- a line that is aligned: its bytes, and that it is as wide as was asked

-- text after a line with blanks on its two sides
spread-before : (alignment : Alignment) (spare : ℕ) (line text : List ℕ) → IsUtf8 line
    → HasWholeSequences line → text_width (spread alignment spare line ++ text)
    ≡ text_width line + spare + text_width text
spread-before alignment spare line text utf8 whole =
    grind (arith, append_assoc, more-blanks, text_width-append, utf8, whole)

-- text after a line that is aligned
pub aligned-before : (alignment : Alignment) (width : ℕ) (line text : List ℕ) → IsUtf8 line
    → HasWholeSequences line → text_width line ≤ width
    → text_width (line_bytes (aligned alignment width line) ++ text) ≡ width + text_width text
aligned-before alignment width line text utf8 whole fits =
    search (rules, arith, text_width-append, spread-before)

pub aligned-width : (alignment : Alignment) (width : ℕ) (line : List ℕ) → IsUtf8 line → HasWholeSequences line
    → text_width line ≤ width → text_width (line_bytes (aligned alignment width line)) ≡ width
aligned-width alignment width line utf8 whole fits =
    search (rules, arith, text_width-nil, aligned-before alignment width line [] utf8 whole fits)

-- ---- texts that stand alone: what follows such a text shows what it shows by itself
apart : (front text : List ℕ) → StandsAlone front → penned_text plain_rendition (front ++ text)
    ≡ penned_text plain_rendition front ++ penned_text plain_rendition text
apart front text (whole, plain) = grind (arith, text_units-append front text whole, penned-append, plain)

joined-apart : (middle : List ℕ) (texts : List (List ℕ)) (text : List ℕ) → StandsAlone middle
    → All StandsAlone texts → penned_text plain_rendition (join_with middle texts ++ text)
    ≡ shown_apart middle texts ++ penned_text plain_rendition text
joined-apart middle [] text own all = refl
joined-apart middle (t ∷ []) text own all = apart t text (All-head StandsAlone t [] all)
joined-apart middle (t ∷ u ∷ ts) text own all =
    search (rules, arith, append_assoc, apart, joined-apart middle (u ∷ ts), All-head, All-tail)

pub rows-apart : (gaps : RowGaps) (texts : List (List ℕ)) → StandsAlone gaps.left
    → StandsAlone gaps.middle → All StandsAlone texts
    → penned_text plain_rendition (row_of gaps texts) ≡ penned_text plain_rendition gaps.left
    ++ shown_apart gaps.middle texts ++ penned_text plain_rendition gaps.right
rows-apart gaps texts left middle all = search (rules, arith, append_assoc, apart, joined-apart)

pub alone-append : (xs ys : List ℕ) → StandsAlone xs → StandsAlone ys → StandsAlone (xs ++ ys)
alone-append xs ys (first, first_plain) (second, second_plain) =
    (whole_text-append xs ys first second, grind (arith, text_units-append, flat_map-append, fold-append))

blank-units : units (chars (blank ∷ [])) ≡ Visible blank ∷ []
unfolding chars encode
blank-units = refl

blank-alone : StandsAlone (blank ∷ [])
blank-alone =
    ((blanks-utf8 (blank ∷ []) (blanks-are 1), blanks-whole (blank ∷ []) (blanks-are 1)), rw blank-units refl)

pub nil-alone : StandsAlone []
nil-alone = (nil-whole, ap (λ cs. rendition_of (flat_map sequence_of (units cs))) chars-nil)

blanks-alone : (n : ℕ) → StandsAlone (blanks n)
blanks-alone zero = nil-alone
blanks-alone (suc n) = alone-append (blank ∷ []) (blanks n) blank-alone (blanks-alone n)

module _ (alignment : Alignment) (width : ℕ) (line : List ℕ) (own : StandsAlone line) where
  beside : (n k : ℕ) → IsBeside line (blanks n ++ line ++ blanks k)
  beside n k =
      let front = alone-append (blanks n) line (blanks-alone n) own in
      record {
        alone = alone-append (blanks n ++ line) (blanks k) front (blanks-alone k);
        before = n;
        after = k;
        shown = grind (arith, apart, front, blanks-alone n);
      }

  pub aligned-pens : IsBeside line (line_bytes (aligned alignment width line))
  aligned-pens = search (rules, arith, beside, append-nil, beside 0 0)

-- ---- words with wider gaps

-- a word of whole sequences
abbrev IsSound : WordText → Type 0
IsSound w = IsMeasured w × HasWholeSequences w.word

-- a word, and the wider gap behind it
widened-first : (each extra : ℕ) (w v : WordText) (ws : List WordText)
    → tiled (widened_words each extra (w ∷ v ∷ ws)) ≡ (w.word ++ w.whitespace)
    ++ (blanks (each + min extra 1) ++ tiled (widened_words each (extra - 1) (v ∷ ws)))
widened-first each extra w v ws = simp append_assoc

-- before other text
word-before : (w : WordText) (text : List ℕ) → IsSound w → text_width ((w.word ++ w.whitespace) ++ text)
    ≡ text_width w.word + length w.whitespace + text_width text
word-before w text (here, whole) = search (rules, arith, append_assoc, text_width-append, blanks-before)

-- each gap is wider by so many blanks, and the first ones by one more
widened-width : (each extra : ℕ) (ws : List WordText) → All IsSound ws
    → text_width (tiled (widened_words each extra ws))
    ≡ (length ws - 1) * each + min extra (length ws - 1) + text_width (tiled ws)
widened-width each extra [] sound = omega arith
widened-width each extra (w ∷ []) sound = omega arith
widened-width each extra (w ∷ v ∷ ws) sound =
    let here = All-head IsSound w (v ∷ ws) sound in
    let others = widened-width each (extra - 1) (v ∷ ws) (All-tail IsSound w (v ∷ ws) sound) in
    search (rules, arith, widened-first, word-before, here, others, more-blanks, suc-mul)

-- ---- what words with wider gaps show

-- blanks show nothing else
hidden : (now : Rendition) (bytes text : List ℕ) → AreBlanks bytes
    → without_blanks (penned_text now (bytes ++ text)) ≡ without_blanks (penned_text now text)
hidden now [] text are = refl
hidden now (b ∷ bs) text are =
    let one = text_units-append (blank ∷ []) (bs ++ text) blank-alone.0 in
    let others = hidden now bs text (All-tail (λ c. is_blank c ≡ true) b bs are) in
    grind (arith, eqb-true b blank (All-head (λ c. is_blank c ≡ true) b bs are), one, blank-units, others)

-- a word, and other text behind its blanks
word-shown : (now : Rendition) (w : WordText) (text : List ℕ) → IsSound w
    → without_blanks (penned_text now ((w.word ++ w.whitespace) ++ text))
    ≡ without_blanks (penned_text now w.word)
    ++ without_blanks (penned_text (fold with_sequence now (sequences w.word)) text)
word-shown now w text (here, whole) =
    search (rules, arith, append_assoc, text_units-append, penned-append, filter-append, hidden)

widened-shown : (each extra : ℕ) (ws : List WordText) (now : Rendition) → All IsSound ws
    → without_blanks (penned_text now (tiled (widened_words each extra ws)))
    ≡ without_blanks (penned_text now (tiled ws))
widened-shown each extra [] now sound = refl
widened-shown each extra (w ∷ []) now sound = refl
widened-shown each extra (w ∷ v ∷ ws) now sound =
    let here = All-head IsSound w (v ∷ ws) sound in
    let later = fold with_sequence now (sequences w.word) in
    let rest = tiled (widened_words each (extra - 1) (v ∷ ws)) in
    let others = hidden later _ rest (blanks-are (each + min extra 1))
    ∙ widened-shown each (extra - 1) (v ∷ ws) later (All-tail IsSound w (v ∷ ws) sound) in
    rw (widened-first each extra w v ws, word-shown now w _ here, others) (sym (word-shown now w _ here))

-- ---- a line that is justified

-- the blanks that a line begins with
pub indent-blanks : (line : List ℕ) → AreBlanks (take (indent_len line) line)
indent-blanks line = search (rules, arith, All-from_get_or, length-take, get_or-take, prefix_len_passes)

module _ (line : List ℕ) (utf8 : IsUtf8 line)
    (whole : All (λ w. HasWholeSequences w.word) (line_words line)) where
  abbrev front : List ℕ
  front = take (indent_len line) line

  abbrev rest : List ℕ
  rest = drop (indent_len line) line

  rest-utf8 : IsUtf8 rest
  rest-utf8 = after_ascii front rest (All-weaker (λ c. is_blank c ≡ true) (λ c. c < 128)
      (λ c is. omega (arith, eqb-true c 32 is)) front (indent-blanks line)) (rw take-append-drop utf8)

  sound : All IsSound (line_words line)
  sound i d within = (words-measured (chunks rest) (chunks-utf8 rest rest-utf8) i d within, whole i d within)

  widened-line : gaps line ≢ 0 → (spare : ℕ) → text_width (front
      ++ tiled (widened_words (spare / gaps line) (spare % gaps line) (line_words line)))
      ≡ text_width line + spare
  widened-line some spare =
      let ws = line_words line in
      let each = spare / gaps line in
      let extra = spare % gaps line in
      let own = rw take-append-drop at (blanks-before front rest (indent-blanks line)) in
      let new = blanks-before front (tiled (widened_words each extra ws)) (indent-blanks line) in
      let words = ap text_width (tiled-words_of rest) in
      omega (arith, new, widened-width each extra ws sound, own, words, some, div-add-mod spare (gaps line))

  pub justified-width : gaps line ≢ 0 → (width : ℕ) → text_width line ≤ width
      → text_width (line_bytes (justified width line)) ≡ width
  justified-width some width fits = search (rules, arith, widened-line)

  widened-pens : (each extra : ℕ) → without_blanks (penned_text plain_rendition
      (front ++ tiled (widened_words each extra (line_words line))))
      ≡ without_blanks (penned_text plain_rendition line)
  widened-pens each extra =
      let blanks = indent-blanks line in
      hidden plain_rendition front (tiled (widened_words each extra (line_words line))) blanks
      ∙ widened-shown each extra (line_words line) plain_rendition sound
      ∙ rw (tiled-words_of, ← hidden plain_rendition front rest blanks, take-append-drop) refl

pub justified-pens : (width : ℕ) (line : List ℕ) → IsUtf8 line
    → All (λ w. HasWholeSequences w.word) (line_words line)
    → without_blanks (penned_text plain_rendition (line_bytes (justified width line)))
    ≡ without_blanks (penned_text plain_rendition line)
justified-pens width line utf8 whole = search (rules, arith, widened-pens)
