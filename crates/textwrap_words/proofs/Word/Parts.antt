-- The parts of a text between cuts, and between places that a test tells.
use Rattle.textwrap_text.proofs.Common.{Bool, IsCharBoundary, IsCharBoundary-start, nil_from_length}
use Rattle.textwrap_text.proofs.Common.{[], get_or-drop, if◌then◌else◌, IsUtf8-between, IsUtf8-drop}
use Rattle.textwrap_text.proofs.Common.{All-weaker, append-nil, cases_Bool, drop_split, length-drop}
use Rattle.textwrap_text.proofs.Common.{add-zero, All-cons, arith, drop-drop, nat_tests, onto_first}
use Rattle.textwrap_text.proofs.Common.{All-nil, cases_lt, chunks, drop_all, IsUtf8, List, take_all}
use Rattle.textwrap_text.proofs.Common.{ap, cond, false, get_or, is_cut, length, None, rules, subst}
use Rattle.textwrap_text.proofs.Common.{All, drop, inl, refl, take, true, zero, ℕ, ◌++◌, ◌==◌, ◌||◌}
use Rattle.textwrap_text.proofs.Common.{inr, map, suc, sym, ◌+◌, ◌-◌, ◌<◌, ◌∙◌, ◌∷◌, ◌≡◌, ◌≢◌, ◌≤◌}
use Rattle.textwrap_text.proofs.Units.Chunks.{chunks-from}
use Rattle.textwrap_words.proofs.Common.{ends_in_hyphen, onto_first-append, onto_first-some, Whole}
use Rattle.textwrap_words.proofs.Common.{AreInnerCuts, parts_between, parts_onward, splitter_view}
use Rattle.textwrap_words.proofs.Common.{AtHyphens, IsNextPoint, MaySeparate, MaySplit, WordText}
use Rattle.textwrap_words.proofs.Common.{AreCuts, AreNext, flat, parts_by, tiled, word_of, words_of}
use Rattle.textwrap_words.proofs.Word.{Cuts.inner-cuts, Words.tiled-map}
use Rattle.textwrap_words.proofs.Word.Pieces.{ArePoints-cuts, ArePoints-hyphens, AreTexts-parts}
use Rattle.textwrap_words.proofs.Word.Pieces.{AreTexts, AreTexts-words}
use Rattle.textwrap_words.specs.{WordSeparators.MayCut, WordSplitters.MayPoint}
use Rattle.textwrap_words.specs.declared.word_separators.WordSeparator.{WordSeparator}
use Rattle.textwrap_words.specs.declared.word_separators.WordSeparator.TheVariants.{AsciiSpace}
use Rattle.textwrap_words.specs.declared.word_separators.WordSeparator.TheVariants.{Custom}
use Rattle.textwrap_words.specs.declared.word_separators.line_cuts.LineCuts.{LineCuts}
use Rattle.textwrap_words.specs.declared.word_splitters.word_cuts.WordCuts.{WordCuts}
use Rattle.textwrap_words.specs.declared.word_splitters.WordSplitter as splitters

-- ---- the parts are the line

parts_from-tile : (start : ℕ) (cuts line : List ℕ) → AreNext (IsNextPoint line) cuts start
    → flat (parts_onward start cuts line) ≡ drop start line
parts_from-tile start [] line are = append-nil (drop start line)
parts_from-tile start (cut ∷ cuts) line ((after, _, _), rest) =
    search (rules, arith, drop_split, parts_from-tile cut cuts line rest)

pub parts_between-tile : (cuts line : List ℕ) → AreCuts line cuts
    → tiled (map word_of (parts_between cuts line)) ≡ line
parts_between-tile cuts line are = grind (arith, tiled-map, nil_from_length, parts_from-tile)

-- ---- the parts are texts

parts_from-utf8 : (start : ℕ) (cuts line : List ℕ) → IsUtf8 line → IsCharBoundary line start
    → AreNext (IsNextPoint line) cuts start → All IsUtf8 (parts_onward start cuts line)
parts_from-utf8 start [] line utf8 at are = search (rules, arith, All-cons, IsUtf8-drop, All-nil)
parts_from-utf8 start (cut ∷ cuts) line utf8 at ((after, inside, next), rest) =
    search (rules, arith, All-cons, IsUtf8-between, parts_from-utf8 cut cuts line utf8 next rest)

pub parts_between-utf8 : (cuts line : List ℕ) → IsUtf8 line → AreCuts line cuts
    → All IsUtf8 (parts_between cuts line)
parts_between-utf8 cuts line utf8 are = elim (cases_Bool (length line == 0)) [
  | inl none ↦ rw none (All-nil IsUtf8)
  | inr some ↦
      rw some (parts_from-utf8 0 cuts line utf8 (IsCharBoundary-start line utf8) are)
]

-- ---- words at cuts

pub parts-texts : (line cuts : List ℕ) → IsUtf8 line → AreCuts line cuts
    → AreTexts line (map word_of (parts_between cuts line))
parts-texts line cuts utf8 are =
    search (rules, arith, AreTexts-parts, parts_between-tile, parts_between-utf8)

-- ---- what is given

pub MayCut-cuts : {F : Type 0} {f : _} (given : LineCuts F f) (line cuts : List ℕ) → IsUtf8 line
    → MayCut given line cuts → AreInnerCuts line cuts
MayCut-cuts given line cuts utf8 (alloc, asked, answer, same, is, met) = search (rules, arith)

pub MayPoint-cuts : {F : Type 0} {f : _} (given : WordCuts F f) (text points : List ℕ)
    → IsUtf8 text → MayPoint given text points → AreCuts text points
MayPoint-cuts given text points utf8 (alloc, asked, answer, same, is, met) = search (rules, arith)

module _ {F : Type 0} {f : _} where
  pub MaySeparate-texts : (separator : WordSeparator F f) (line : List ℕ) (words : List WordText)
      → IsUtf8 line → MaySeparate separator line words → AreTexts line words
  MaySeparate-texts AsciiSpace line words utf8 are = AreTexts-words line words utf8 are
  MaySeparate-texts (Custom given) line words utf8 (cuts, may, is) = subst (AreTexts line) (sym is)
      (parts-texts line cuts utf8
      (inner-cuts line cuts (MayCut-cuts given line cuts utf8 may)))

module _ {F : Type 0} {f : _} where
  pub MaySplit-cuts : (splitter : splitters.WordSplitter F f) (text points : List ℕ) → IsUtf8 text
      → MaySplit splitter text points → AreCuts text points
  MaySplit-cuts splitters.TheVariants.NoHyphenation text points utf8 are =
      ArePoints-cuts Whole text points utf8 are
  MaySplit-cuts splitters.TheVariants.HyphenSplitter text points utf8 are =
      ArePoints-cuts AtHyphens text points utf8 are
  MaySplit-cuts (splitters.TheVariants.Custom given) text points utf8 may =
      MayPoint-cuts given text points utf8 may

  pub MaySplit-hyphens : (splitter : splitters.WordSplitter F f) → splitter_view splitter ≢ None
      → (text points : List ℕ) → MaySplit splitter text points
      → All (λ p. ends_in_hyphen (take p text) ≡ true) points
  MaySplit-hyphens splitters.TheVariants.NoHyphenation built_in text points are =
      ArePoints-hyphens Whole text points are
  MaySplit-hyphens splitters.TheVariants.HyphenSplitter built_in text points are =
      ArePoints-hyphens AtHyphens text points are
  MaySplit-hyphens (splitters.TheVariants.Custom given) built_in text points may = grind arith

-- ---- lemmas on the parts that a test of places cuts bytes into

-- one step, where the answer of the test is named
abbrev pub next_by : (ℕ → Bool) → Bool → ℕ → ℕ → List ℕ → List (List ℕ)
next_by test here at b rest = cond here ((b ∷ []) ∷ parts_by test (at + 1) rest)
    (onto_first b (parts_by test (at + 1) rest))

module _ (test : ℕ → Bool) where
  pub parts_by-some : (at b : ℕ) (cs : List ℕ) → 0 < length (parts_by test at (b ∷ cs))
  parts_by-some at b [] = omega arith
  parts_by-some at b (c ∷ cs) = grind (arith, onto_first-some)

  -- the first part ends at the first place where the test holds
  pub parts_by-front : (rest : List ℕ) (at n : ℕ) → 0 < n → n ≤ length rest
      → ((k : ℕ) → 0 < k → k < n → test (at + k) ≡ false) → (n < length rest → test (at + n) ≡ true)
      → parts_by test at rest ≡ take n rest ∷ parts_by test (at + n) (drop n rest)
  parts_by-front rest at zero some within none ends = absurd (omega arith)
  parts_by-front [] at (suc n) some within none ends = absurd (omega arith)
  parts_by-front (b ∷ []) at (suc zero) some within none ends = refl
  parts_by-front (b ∷ []) at (suc (suc n)) some within none ends = absurd (omega arith)
  parts_by-front (b ∷ c ∷ cs) at (suc zero) some within none ends = grind arith
  parts_by-front (b ∷ c ∷ cs) at (suc (suc n)) some within none ends =
      let place : (at + 1) + suc n ≡ at + suc (suc n) = omega arith in search (
        rules,
        arith,
        ends,
        parts_by-front (c ∷ cs) (at + 1) (suc n) (omega arith) (omega arith) (λ k first below. let next : at + suc k ≡ (at + 1) + k = omega arith in ap test (sym next) ∙ none (suc k) (omega arith) (omega (arith, below))) (λ inside. ap test place ∙ ends (omega (arith, inside))),
      )

  -- what is cut nowhere is one part
  pub parts_by-whole : (rest : List ℕ) (at : ℕ) → 0 < length rest
      → ((k : ℕ) → 0 < k → k < length rest → test (at + k) ≡ false)
      → parts_by test at rest ≡ rest ∷ []
  parts_by-whole rest at some none =
      let n = length rest in
      rw (take_all n rest (omega arith), drop_all n rest (omega arith))
      at (parts_by-front rest at n some (omega arith) none (λ inside. absurd (omega (arith, inside))))

-- ---- the parts of chunks

-- the parts of lists that follow one another
abbrev pub parts_within : (ℕ → Bool) → ℕ → List (List ℕ) → List (List ℕ)
parts_within test at [] = []
parts_within test at (q ∷ qs) = parts_by test at q ++ parts_within test (at + length q) qs

module _ (text : List ℕ) (at b : ℕ) (rest : List ℕ) (is : drop at text ≡ b ∷ rest) where
  pub byte-here : get_or text at 0 ≡ b
  byte-here = sym (rw (is, add-zero at) at (get_or-drop at text 0 0))

  pub bytes-after : drop (at + 1) text ≡ rest
  bytes-after = sym (drop-drop 1 at text) ∙ ap (drop 1) is

  pub byte-inside : at < length text
  byte-inside = omega (arith, length-drop at text, ap length is)

  -- a part that begins one byte earlier
  part-back : (cuts : List ℕ) → All (λ cut. at < cut) cuts
      → parts_onward at cuts text ≡ onto_first b (parts_onward (at + 1) cuts text)
  part-back [] above = ap (λ l. l ∷ []) (is ∙ ap (λ l. b ∷ l) (sym bytes-after))
  part-back (cut ∷ cuts) above =
      let more : cut - at ≡ suc (cut - (at + 1)) = omega (arith, above 0 0 (omega arith)) in
      rw (is, more, bytes-after)

-- whether the text is cut between two bytes that stand there
cut-between : (text : List ℕ) (at b c : ℕ) (cs : List ℕ) → drop at text ≡ b ∷ c ∷ cs
    → is_cut (get_or text (at + 1 - 1) 0) (get_or text (at + 1) 0) ≡ is_cut b c
cut-between text at b c cs is = search (rules, arith, byte-here, bytes-after)

-- a text that is cut between its words and at points
module _ (text : List ℕ) (test point : ℕ → Bool) (tests : (k : ℕ) → 0 < k → k < length text
    → test k ≡ (is_cut (get_or text (k - 1) 0) (get_or text k 0) || point k)) where
  within-step : (at b c : ℕ) (q : List ℕ) (qs : List (List ℕ)) (t : Bool)
      → cond t ((b ∷ []) ∷ parts_within point (at + 1) ((c ∷ q) ∷ qs))
      (onto_first b (parts_within point (at + 1) ((c ∷ q) ∷ qs)))
      ≡ next_by point t at b (c ∷ q) ++ parts_within point (at + 1 + length (c ∷ q)) qs
  within-step at b c q qs true = refl
  within-step at b c q qs false = grind (arith, onto_first-append, parts_by-some)

  chunks-step : (at b c : ℕ) (cs : List ℕ) (t : Bool)
      → parts_by test (at + 1) (c ∷ cs) ≡ parts_within point (at + 1) (chunks (c ∷ cs))
      → next_by test (t || point (at + 1)) at b (c ∷ cs)
      ≡ parts_within point at (cond t ((b ∷ []) ∷ chunks (c ∷ cs)) (onto_first b (chunks (c ∷ cs))))
  chunks-step at b c cs true rest = ap (λ ps. (b ∷ []) ∷ ps) rest
  chunks-step at b c cs false rest = grind (arith, chunks-from, within-step)

  pub parts_by-chunks : (rest : List ℕ) (at : ℕ) → drop at text ≡ rest
      → parts_by test at rest ≡ parts_within point at (chunks rest)
  parts_by-chunks [] at is = refl
  parts_by-chunks (b ∷ []) at is = refl
  parts_by-chunks (b ∷ c ∷ cs) at is =
      let next = bytes-after text at b (c ∷ cs) is in
      ap (λ t. next_by test t at b (c ∷ cs))
      (tests (at + 1) (omega arith) (byte-inside text (at + 1) c cs next)
      ∙ ap (λ t. t || point (at + 1)) (cut-between text at b c cs is))
      ∙ chunks-step at b c cs (is_cut b c) (parts_by-chunks (c ∷ cs) (at + 1) next)

-- ---- places that a test tells, and the parts of a text between them

-- the place, where the test holds
abbrev pub cut_here : Bool → ℕ → List ℕ
cut_here b end = if b then end ∷ [] else []

-- the places among these bytes, of which the first stands behind so many others
abbrev pub places_by : (ℕ → Bool) → ℕ → List ℕ → List ℕ
places_by test at [] = []
places_by test at (b ∷ []) = []
places_by test at (b ∷ c ∷ cs) =
    cut_here (test (at + 1)) (at + 1) ++ places_by test (at + 1) (c ∷ cs)

-- tests that agree have the same parts
pub parts-same : (test other : ℕ → Bool) (rest : List ℕ) (at : ℕ)
    → ((k : ℕ) → at < k → k < at + length rest → test k ≡ other k)
    → parts_by test at rest ≡ parts_by other at rest
parts-same test other [] at same = refl
parts-same test other (b ∷ []) at same = refl
parts-same test other (b ∷ c ∷ cs) at same =
    grind (
      arith,
      parts-same test other (c ∷ cs) (at + 1) (λ k from below. same k (omega (arith, from)) (omega (arith, below))),
    )

module _ (test : ℕ → Bool) where
  pub places-above : (at : ℕ) (bytes : List ℕ) → All (λ place. at < place) (places_by test at bytes)
  places-above at [] = All-nil (λ place. at < place)
  places-above at (b ∷ []) = All-nil (λ place. at < place)
  places-above at (b ∷ c ∷ cs) = grind (arith, All-weaker, All-cons, places-above (at + 1) (c ∷ cs))

  -- ---- the parts

  parts-places : (text : List ℕ) (at b : ℕ) (rest : List ℕ) → drop at text ≡ b ∷ rest
      → parts_onward at (places_by test at (b ∷ rest)) text ≡ parts_by test at (b ∷ rest)
  parts-places text at b [] is = ap (λ l. l ∷ []) is
  parts-places text at b (c ∷ cs) is =
      let places = places_by test (at + 1) (c ∷ cs) in
      let parts = parts_by test (at + 1) (c ∷ cs) in
      let next = parts-places text (at + 1) c cs (bytes-after text at b (c ∷ cs) is) in
      let one : at + 1 - at ≡ 1 = omega arith in
      elim (test (at + 1)) as (λ t. parts_onward at (cut_here t (at + 1) ++ places) text
      ≡ (if t then (b ∷ []) ∷ parts else onto_first b parts)) [
        | true ↦ rw (one, is, next)
        | false ↦
            part-back text at b (c ∷ cs) is places
            (All-weaker (λ p. at + 1 < p) (λ p. at < p) (λ p h. omega (arith, h)) places
            (places-above (at + 1) (c ∷ cs))) ∙ ap (onto_first b) next
      ]

  pub parts_between-places : (text : List ℕ)
      → parts_between (places_by test 0 text) text ≡ parts_by test 0 text
  parts_between-places [] = refl
  parts_between-places (b ∷ rest) = grind (arith, nat_tests, parts-places)

  -- which are those between blanks where the test tells the places behind these
  pub parts-chunks : (text rest : List ℕ) (at : ℕ) → drop at text ≡ rest
      → ((k : ℕ) → 0 < k → k < length text
      → test k ≡ is_cut (get_or text (k - 1) 0) (get_or text k 0))
      → parts_by test at rest ≡ chunks rest
  parts-chunks text [] at is same = refl
  parts-chunks text (b ∷ []) at is same = refl
  parts-chunks text (b ∷ c ∷ cs) at is same =
      let next = bytes-after text at b (c ∷ cs) is in
      search (rules, arith, byte-inside, cut-between, parts-chunks text (c ∷ cs) (at + 1) next same)

-- the words of a text between blanks, by places
pub blank-words : (text : List ℕ) → words_of text
    ≡ map word_of (parts_by (λ place. is_cut (get_or text (place - 1) 0) (get_or text place 0)) 0 text)
blank-words text =
    ap (map word_of) (sym (parts-chunks (λ place. is_cut (get_or text (place - 1) 0) (get_or text place 0))
    text text 0 refl (λ k start inside. refl)))

-- ---- the first place from a place on where a test says so, or the end of the text

pub record HasEnd (test : ℕ → Bool) (len at : ℕ) : Type 0 where
  pub end : ℕ
  pub from : at ≤ end
  pub within : end ≤ len
  pub uncut : (k : ℕ) → at ≤ k → k < end → test k ≡ false
  pub ends : end < len → test end ≡ true

module _ (test : ℕ → Bool) (len : ℕ) where
  find-end : (n at : ℕ) → at + n ≡ len → HasEnd test len at
  find-end zero at all = record {
    end = at;
    from = omega arith;
    within = omega (arith, all);
    uncut = λ k from below. absurd (omega (arith, from, below));
    ends = λ inside. absurd (omega (arith, inside, all));
  }
  find-end (suc n) at all = elim (cases_Bool (test at)) [
    | inl is ↦ grind arith
    | inr none ↦ grind (arith, cases_lt, find-end n (at + 1) (omega (arith, all)))
  ]

  pub end-from : (at : ℕ) → at ≤ len → HasEnd test len at
  end-from at within = find-end (len - at) at (omega (arith, within))
