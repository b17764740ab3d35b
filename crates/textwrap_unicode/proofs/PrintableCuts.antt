-- A printable text is cut where its bytes say so, also past blanks, and where it is cut as at its
-- blanks.
use Rattle.std.proofs.lemmas.Bool.{agree_below, agree_below_at, not-false, or_parts}
use Rattle.std.proofs.{Common.bit_and, Math.Bool.and-true, lemmas.Str.encode_ascii}
use Rattle.textwrap_text.proofs.ClassNames.{Bool, List, arith, drop, false, get_or, refl, subst, ◌≤◌}
use Rattle.textwrap_text.proofs.ClassNames.{[], ap, inl, map, not, suc, ◌<◌, ◌∙◌, ◌∷◌, ◌≡◌}
use Rattle.textwrap_text.proofs.ClassNames.{and-false, and_parts, cases_Bool, cases_lt, true≢false}
use Rattle.textwrap_text.proofs.ClassNames.{class_of, encode, is_blank, is_space, length, unit_of, ℕ}
use Rattle.textwrap_text.proofs.ClassNames.{if◌then◌else◌, is_after_text, is_opening, slice_index_or}
use Rattle.textwrap_text.proofs.ClassNames.{inr, sym, true, zero, ◌&&◌, ◌++◌, ◌+◌, ◌-◌, ◌==◌, ◌||◌}
use Rattle.textwrap_text.proofs.Common.{IsPrintable, IsUtf8-from_ascii, chars-IsAscii, trimmed_len}
use Rattle.textwrap_text.proofs.Common.{IsPrintableByte, false_from_ne_true, is_ascii_alphanumeric}
use Rattle.textwrap_text.proofs.Common.{Visible, is_cut, rules}
use Rattle.textwrap_text.proofs.Common.{add-zero, eqb-true, false≢true, get_or-drop, length-drop}
use Rattle.textwrap_text.proofs.Units.Reading.{printable-ascii, units-printable}
use Rattle.textwrap_unicode.proofs.Common.{Before, ByPairs, decide, is_any_hyphen, is_unusual}
use Rattle.textwrap_unicode.proofs.Common.{IsUsual, and, before_of, cut_here, may_end, unicode_cuts}
use Rattle.textwrap_unicode.proofs.Common.{class_past_blanks, not-true, nothing, printable_cut, ◌↔◌}
use Rattle.textwrap_unicode.proofs.CutLemmas.{IsCutting-start, cuts_ahead, place-found}
use Rattle.textwrap_unicode.proofs.PrintableBytes.{IsBehind, byte-first, class-space, space-at}
use Rattle.textwrap_unicode.proofs.PrintableBytes.{byte-step, past-blank, past-more, unusual-space}
use Rattle.textwrap_unicode.proofs.PrintableBytes.{cut-behind, past-among, past-byte, unusual_bits}
use Rattle.textwrap_unicode.specs.Pairs.{IsCutAtBlanks, at_breaks, may_follow_blanks}
use Rattle.textwrap_unicode.specs.declared.pairs.TheConstants.{KINDS, UNUSUAL_AFTER}
use Rattle.textwrap_words.proofs.Common.{ends_from, parts_between, word_of, words_of}
use Rattle.textwrap_words.proofs.Word.Parts.{byte-here, byte-inside, parts-same, places_by}
use Rattle.textwrap_words.proofs.Word.Parts.{bytes-after, parts-chunks, parts_between-places}
use Rattle.textwrap_words.proofs.Word.Texts.{final_blanks-blank, trimmed-other}
use Rattle.textwrap_words.specs.PieceCuts.{parts_by}
use Rattle.unicode.specs.declared.properties.LineBreak.{LineBreak, TheVariants.OpenPunctuation}

-- ---- a printable text is cut where its bytes say so

module _ (text : List ℕ) (printable : IsPrintable text) where
  abbrev past : ℕ → LineBreak
  past n = class_past_blanks text n

  abbrev cut : ℕ → Bool
  cut = printable_cut text

  byte-at : (n b : ℕ) (rest : List ℕ) → drop n text ≡ b ∷ rest → IsPrintableByte b
  byte-at n b rest is = search (rules, arith, byte-here, byte-inside)

  cut-is : (n b c : ℕ) (before : Before) → IsBehind (past (n + 1)) (class_of b) before
      → get_or text n 0 ≡ b → get_or text (n + 1) 0 ≡ c
      → not (is_any_hyphen b) && may_end (decide before (unit_of c)) ≡ cut (n + 1)
  cut-is n b c before h first next =
      let back : n + 1 - 1 ≡ n = omega arith in
      rw (h.is, back, first, next) refl

  ahead-behind : (n b : ℕ) (rest : List ℕ) → drop n text ≡ b ∷ rest → (before : Before)
      → IsBehind (past (n + 1)) (class_of b) before → (shown : ℕ)
      → cuts_ahead ByPairs before (n + 1) (is_any_hyphen b) (ends_from (n + 1) shown (map Visible rest))
      ≡ places_by cut n (b ∷ rest)
  ahead-behind n b [] is before h shown = refl
  ahead-behind n b (c ∷ cs) is before h shown =
      let next = bytes-after text n b (c ∷ cs) is in
      let printable_c = byte-at (n + 1) c cs next in
      let here = byte-here text (n + 1) c cs next in
      let after = and before (unit_of c) in
      let one : length (encode c) ≡ 1 = ap length (encode_ascii c (omega (arith, printable_c.1))) in
      let more : IsBehind (past (n + 1 + 1)) (class_of c) after =
      subst (λ p. IsBehind p (class_of c) after) (sym (past-more text (n + 1) c here))
      (byte-step (past (n + 1)) b c before h (byte-at n b (c ∷ cs) is) printable_c) in
      rw (cut-is n b c before h (byte-here text n b (c ∷ cs) is) here, one)
      (ap (λ l. cut_here (cut (n + 1)) (n + 1) ++ l)
      (ahead-behind (n + 1) c cs next after more (shown + 1)))

  ahead-all : (bytes : List ℕ) → text ≡ bytes → (shown : ℕ)
      → cuts_ahead ByPairs (before_of nothing) 0 false (ends_from 0 shown (map Visible bytes))
      ≡ places_by cut 0 bytes
  ahead-all [] is shown = refl
  ahead-all (b ∷ rest) is shown = grind (arith, encode_ascii, past-more, byte-first, ahead-behind)

  pub cuts-places : unicode_cuts text ≡ places_by cut 0 text
  cuts-places =
      let ascii = printable-ascii text printable in
      let start = IsCutting-start ByPairs text 0 text (before_of nothing) []
      (IsUtf8-from_ascii text ascii) refl refl refl refl in
      sym start.found ∙ rw (chars-IsAscii text ascii, units-printable text printable)
      (ahead-all text refl start.shown)

  -- what the calls promise is what the bytes say
  pub breaks-cut : (place : ℕ) → 0 < place → place < length text
      → at_breaks text place ≡ cut place
  breaks-cut place start inside = grind (arith, cuts-places, place-found)

-- ---- whether a printable text is cut at a place, as the code tells it

module _ (text : List ℕ) (printable : IsPrintable text) where
  pub cut-told : (place : ℕ) → 0 < place → place < length text
      → at_breaks text place ≡ not (is_blank (get_or text place 0))
      && (if is_blank (get_or text (place - 1) 0)
      then may_follow_blanks (class_past_blanks text place) (class_of (get_or text place 0))
      else is_unusual (get_or text (place - 1) 0) (get_or text place 0))
  cut-told place start inside =
      let last : suc (place - 1) ≡ place = omega (arith, start) in
      breaks-cut text printable place start inside
      ∙ cut-behind (class_past_blanks text place) (get_or text (place - 1) 0) (get_or text place 0)
      (printable (place - 1) 0 (omega (arith, start, inside))) (printable place 0 inside)
      (past-among text printable place (omega (arith, inside)))
      (λ other. ap (class_past_blanks text) (sym last)
      ∙ past-byte text printable (place - 1) (omega (arith, start, inside)) other)

  -- as at blanks: nowhere before a blank
  pub cut-at-blanks : (place : ℕ) → 0 < place → place < length text
      → is_blank (get_or text place 0) ≡ true
      → at_breaks text place ≡ is_cut (get_or text (place - 1) 0) (get_or text place 0)
  cut-at-blanks place start inside blank =
      grind (arith, blank, (cut-told place start inside), and-false)

  -- its words are the parts between its cuts
  pub parts-cut : parts_between (unicode_cuts text) text ≡ parts_by (at_breaks text) 0 text
  parts-cut = search (rules, arith, cuts-places, parts_between-places, parts-same, breaks-cut)

-- ---- places where it is cut as at its blanks, told from two bytes

-- a blank, or something is unusual behind it
abbrev is_followed : ℕ → Bool
is_followed c = is_blank c || not (slice_index_or UNUSUAL_AFTER c 0 == 0)

-- no letter or digit is so
letters-plain : agree_below (λ c. is_ascii_alphanumeric c && is_followed c) (λ c. false) 128 ≡ true
letters-plain = refl

-- of two parts the first fails if the second does not
and-first : (a b : Bool) → b ≡ true → a && b ≡ false → a ≡ false
and-first a b is none = grind (arith, cases_Bool)

module _ (text : List ℕ) (printable : IsPrintable text) where
  -- no bracket that opens stands before the blanks there
  past-closed : (n : ℕ) → n < length text → ((k : ℕ) → 0 < k → k < suc n → IsUsual text k)
      → is_space (class_of (get_or text n 0)) ≡ true → is_opening (class_past_blanks text n) ≡ false
  past-closed zero inside usual space = refl
  past-closed (suc n) inside usual space =
      let before = get_or text n 0 in
      let back : suc n - 1 ≡ n = omega arith in
      elim (cases_Bool (is_blank before)) [
        | inl blank ↦
            rw (past-blank text printable n (omega (arith, inside)) blank)
            (past-closed n (omega (arith, inside)) (λ k some below. usual k some (omega (arith, below)))
            (space-at text printable n (omega (arith, inside)) ∙ blank))
        | inr other ↦
            rw (past-byte text printable n (omega (arith, inside)) other)
            (and-first _ _ space (rw back at (usual (suc n) (omega arith) (omega arith)).unopened))
      ]

  module _ (place : ℕ) (start : 0 < place) (inside : place < length text) where
    abbrev before : ℕ
    before = get_or text (place - 1) 0

    abbrev after : ℕ
    after = get_or text place 0

    last : suc (place - 1) ≡ place
    last = omega (arith, start)

    space-before : is_space (class_of before) ≡ is_blank before
    space-before = space-at text printable (place - 1) (omega (arith, start, inside))

    -- behind a blank
    usual-blank : ((k : ℕ) → 0 < k → k < place → IsUsual text k) → is_blank before ≡ true
        → is_unusual before after ≡ false → IsUsual text place
    usual-blank usual blank none =
        let space = space-before ∙ blank in
        let (follows, opens) = or_parts (is_after_text (class_of after)) (is_opening (class_of after))
        (rw space at none) in
        let past : is_opening (class_past_blanks text place) ≡ false =
        ap (λ k. is_opening (class_past_blanks text k)) (sym last)
        ∙ ap is_opening (past-blank text printable (place - 1) (omega (arith, start, inside)) blank)
        ∙ past-closed (place - 1) (omega (arith, start, inside))
        (λ k some below. usual k some (omega (arith, below, last))) space in
        let told = cut-told text printable place start inside in
        let class = class-space (class_of before) space in
        grind (arith, told, class, and-true, and-false)

    usual-word : is_blank before ≡ false → is_unusual before after ≡ false → IsUsual text place
    usual-word other none =
        let told = cut-told text printable place start inside in
        grind (arith, told, space-before, and-false, or_parts)

    pub usual_pair : ((k : ℕ) → 0 < k → k < place → IsUsual text k)
        → is_unusual before after ≡ false → IsUsual text place
    usual_pair usual none = grind (arith, cases_Bool, usual-blank, usual-word)

    -- before a byte that is no blank
    pub usual-cut : is_blank after ≡ false
        → (at_breaks text place ≡ is_blank before) ↔ IsUsual text place
    usual-cut other = grind (arith, space-at, and-true, and-false)

    -- nothing unusual is a blank
    pub unusual_blank : is_blank after ≡ true → is_unusual before after ≡ true
        → IsUsual text place → ⊥
    unusual_blank blank is usual = search (rules, arith, unusual-space, and-first, space-at)

    -- which printable bytes stand on either side of a cut
    module _ (is : at_breaks text place ≡ true) where
      abbrev behind : Bool
      behind = if is_blank before
          then may_follow_blanks (class_past_blanks text place) (class_of after)
          else is_unusual before after

      sides : (not (is_blank after) ≡ true) × (behind ≡ true)
      sides = and_parts (not (is_blank after)) behind
          (sym (cut-told text printable place start inside) ∙ is)

      pub cut-before_other : is_blank after ≡ false
      cut-before_other = not-true (is_blank after) sides.0

      pub cut-after_other : is_ascii_alphanumeric before ≡ false
      cut-after_other = false_from_ne_true (is_ascii_alphanumeric before) (λ letter.
          let byte = printable (place - 1) 0 (omega (arith, start, inside)) in
          let (other, none) = or_parts (is_blank before) _ (rw letter at (agree_below_at
          (λ c. is_ascii_alphanumeric c && is_followed c) (λ c. false) 128 before letters-plain
          (omega (arith, byte.1)))) in
          let usual : is_unusual before after ≡ false =
          sym (unusual_bits before after byte (printable place 0 inside))
          ∙ ap (λ u. not (bit_and u (slice_index_or KINDS after 0) == 0))
          (eqb-true (slice_index_or UNUSUAL_AFTER before 0) 0 (not-false _ none)) in
          false≢true (sym usual ∙ (rw other at sides.1)))

  -- one after another
  pub usual-run : (from n : ℕ) → 0 < from → from + n ≤ length text
      → ((k : ℕ) → 0 < k → k < from → IsUsual text k)
      → ((k : ℕ) → from ≤ k → k < from + n
      → is_unusual (get_or text (k - 1) 0) (get_or text k 0) ≡ false)
      → (k : ℕ) → 0 < k → k < from + n → IsUsual text k
  usual-run from zero start within usual none = search (rules, arith)
  usual-run from (suc n) start within usual none =
      let before = usual-run from n start (omega (arith, within)) usual
      (λ k at below. none k at (omega (arith, below))) in
      let here = usual_pair (from + n) (omega (arith, start)) (omega (arith, within)) before
      (none (from + n) (omega arith) (omega arith)) in
      grind (arith, cases_lt, before, here)

-- ---- in a text that is cut at its blanks alone no blank stands behind a bracket that opens,
-- but at the end

open-other : (v : LineBreak) → is_opening v ≡ true → is_space v ≡ false
open-other OpenPunctuation e = refl
open-other v e = cc

kept-open : (past class : LineBreak) → is_opening past ≡ true → may_follow_blanks past class ≡ false
kept-open past class opens = rw opens (and-false (not (is_after_text class)))

module _ (text : List ℕ) (h : IsCutAtBlanks text) where
  abbrev byte : ℕ → ℕ
  byte k = get_or text k 0

  within : (k : ℕ) → k < trimmed_len text → k < length text
  within k below = omega (arith, below)

  -- the blanks behind a bracket that opens go on
  blanks-on : (k : ℕ) → 0 < k → is_opening (class_of (byte (k - 1))) ≡ true
      → is_blank (byte k) ≡ true → (n : ℕ) → k + n < trimmed_len text
      → (is_blank (byte (k + n)) ≡ true) × (is_opening (class_past_blanks text (suc (k + n))) ≡ true)
  blanks-on k start opens blank zero below =
      let last : suc (k - 1) ≡ k = omega (arith, start) in
      let inside = within (k + 0) below in
      let before : k - 1 < length text = omega (arith, inside) in
      let other = sym (space-at text h.printable (k - 1) before) ∙ open-other _ opens in
      let past = past-blank text h.printable k (omega (arith, inside)) blank
      ∙ ap (class_past_blanks text) (sym last) ∙ past-byte text h.printable (k - 1) before other in
      rw (add-zero k) (blank, ap is_opening past ∙ opens)
  blanks-on k start opens blank (suc n) below =
      let next : suc (k + n) ≡ k + suc n = omega arith in
      let (before, past) = blanks-on k start opens blank n (omega (arith, below)) in
      rw (← next) (next-blank (k + n) (within (suc (k + n)) (omega (arith, below))) before past)
    where
      next-blank : (q : ℕ) → suc q < length text → is_blank (byte q) ≡ true
          → is_opening (class_past_blanks text (suc q)) ≡ true
          → (is_blank (byte (suc q)) ≡ true)
          × (is_opening (class_past_blanks text (suc (suc q))) ≡ true)
      next-blank q inside before past = elim (cases_Bool (is_blank (byte (suc q)))) [
        | inl blank ↦
            (blank, ap is_opening (past-blank text h.printable (suc q) inside blank) ∙ past)
        | inr other ↦
            let back : suc q - 1 ≡ q = omega arith in
            let first : is_blank (byte (suc q - 1)) ≡ true = rw back before in
            let told = cut-told text h.printable (suc q) (omega arith) inside in
            let cut = h.cuts (suc q) (omega arith) inside in
            let kept = kept-open (class_past_blanks text (suc q)) (class_of (byte (suc q))) past in
            absurd (true≢false (sym (rw (first, other) at cut) ∙ (rw (first, other, kept) at told)))
      ]

  closed : (k : ℕ) → 0 < k → k < trimmed_len text
      → is_opening (class_of (byte (k - 1))) && is_space (class_of (byte k)) ≡ false
  closed k start below =
      let n = trimmed_len text - 1 - k in
      let last : k + n ≡ trimmed_len text - 1 = omega (arith, below) in
      let on = λ (opens : is_opening (class_of (byte (k - 1))) ≡ true) (blank : is_blank
      (byte k) ≡ true).
      rw last at (blanks-on k start opens blank n (omega (arith, below, last))).0 in
      let other = trimmed-other text (omega (arith, below)) in
      let space = space-at text h.printable k (within k below) in
      grind (arith, cases_Bool, on, other, space, and-false)

  pub all-usual : (k : ℕ) → 0 < k → k < trimmed_len text → IsUsual text k
  all-usual k start below = search (rules, arith, within, closed)

-- ---- a printable text that is cut at its blanks alone has the words between these

module _ (text : List ℕ) (printable : IsPrintable text)
    (usual : (k : ℕ) → 0 < k → k < trimmed_len text → IsUsual text k) where
  last-blank : (k : ℕ) → trimmed_len text ≤ k → k < length text → is_blank (get_or text k 0) ≡ true
  last-blank k from inside =
      let end = trimmed_len text in
      let place : end + (k - end) ≡ k = omega (arith, from) in
      ap (λ j. is_blank (get_or text j 0)) (sym place)
      ∙ ap is_blank (sym (get_or-drop end text (k - end) 0))
      ∙ final_blanks-blank text (k - end) 0 (omega (arith, length-drop end text, from, inside))

  pub usual-blanks : IsCutAtBlanks text
  usual-blanks = grind (arith, cases_lt, cut-at-blanks, last-blank)

pub words-same : (text : List ℕ) → IsCutAtBlanks text
    → map word_of (parts_between (unicode_cuts text) text) ≡ words_of text
words-same text h =
    ap (map word_of)
    (parts-cut text h.printable ∙ parts-chunks (at_breaks text) text text 0 refl h.cuts)
