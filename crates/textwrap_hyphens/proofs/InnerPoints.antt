-- The points of a word are inside it, at the beginnings of characters, and increase.
use Rattle.std.specs.Prelude.{IfSome, None, Option, Some, chars, encode_utf8}
use Rattle.textwrap_hyphens.proofs.Runs.{past-letter, past-other}
use Rattle.textwrap_hyphens.specs.Hyphenation.{Hyphenation, joints_of, places_from, places_of}
use Rattle.textwrap_hyphens.specs.Points.{hyphenation_points, is_behind_soft, pattern_points, points_at}
use Rattle.textwrap_hyphens.specs.Points.{points_in, points_past, soft_places, soft_points}
use Rattle.textwrap_patterns.specs.Letters.{is_kept, is_letter_or_mark, letter_at, letters_among}
use Rattle.textwrap_patterns.specs.{Letters.{letters_of, run_len}, Places.{AreInnerPlaces, IsNextPlace}}
use Rattle.textwrap_patterns.specs.declared.letters.Letter.{Letter}
use Rattle.textwrap_text.proofs.Common.{List, ℕ, ◌≡◌, ◌+◌, ◌-◌, ◌≤◌, ◌<◌, ◌++◌, ◌∷◌, [], ◌∙◌, arith}
use Rattle.textwrap_text.proofs.Common.{drop, length, take, zero, suc, true, false, refl, append-nil}
use Rattle.textwrap_text.proofs.Common.{get_or, Bool, All, All-cons, All-head, All-nil, All-tail, cond}
use Rattle.textwrap_text.proofs.Common.{filter, length-map, map, range_with_len, subst, sym, ⊤}
use Rattle.textwrap_text.proofs.Common.{IsCharBoundary, unwrap_or, All-map, All-weaker, IsUtf8}
use Rattle.textwrap_text.proofs.Common.{length-drop, length-take, take-map, next_of, shows}
use Rattle.textwrap_text.proofs.Units.Characters.{AreAhead, ahead-next, ahead-start}
use Rattle.textwrap_text.specs.Characters.{characters_from, characters_of}
use Rattle.textwrap_text.specs.declared.{characters.Character.Character, escapes.State.State}
use Rattle.textwrap_text.specs.declared.escapes.State.TheVariants.{Text}
use Rattle.textwrap_words.proofs.Common.{drop-map, some-bytes, AreInnerCuts, AreNext, IsNextCut}

-- ---- places

pub places-below : (len last : ℕ) (places : List ℕ) → AreNext (IsNextPlace len) places last
    → All (λ place. place < len) places
places-below len last [] are = All-nil (λ (place : ℕ). place < len)
places-below len last (place ∷ places) (here, rest) =
    All-cons (λ (p : ℕ). p < len) place places here.1 (places-below len place places rest)

next-lower : (len high low : ℕ) (places : List ℕ) → low ≤ high
    → AreNext (IsNextPlace len) places high → AreNext (IsNextPlace len) places low
next-lower len high low [] le are = tt
next-lower len high low (place ∷ places) le ((after, inside), rest) = grind arith

-- numbers of a range that pass a test, before others
places-before : (test : ℕ → Bool) (len a n last : ℕ) (others : List ℕ) → last < a
    → (0 < n → a + n ≤ len) → ((l : ℕ) → l < a + n → AreNext (IsNextPlace len) others l)
    → AreNext (IsNextPlace len) (filter test (range_with_len a n) ++ others) last
places-before test len a zero last others after room more = more last (omega (arith, after))
places-before test len a (suc n) last others after room more =
    grind (arith, places-before test len (a + 1) n a others, places-before test len (a + 1) n last others)

-- numbers of a range that pass a test
pub places-filter : (test : ℕ → Bool) (len a n last : ℕ) → last < a → (0 < n → a + n ≤ len)
    → AreNext (IsNextPlace len) (filter test (range_with_len a n)) last
places-filter test len a n last after room =
    subst (λ places. AreNext (IsNextPlace len) places last) (append-nil (filter test (range_with_len a n)))
    (places-before test len a n last [] after room (λ l below. tt))

pub joints-inner : (h : Hyphenation) (letters : List ℕ)
    → AreInnerPlaces (length letters) (joints_of h letters)
joints-inner h letters = grind (arith, places-filter)

pub from-inner : (h : Hyphenation) (letters : List ℕ) (from : ℕ) (joints : List ℕ)
    → AreNext (IsNextPlace (length letters)) joints from
    → AreNext (IsNextPlace (length letters)) (places_from h letters from joints) from
from-inner h letters from [] are = grind (arith, places-filter)
from-inner h letters from (joint ∷ joints) ((after, inside), rest) =
    grind (arith, from-inner h letters joint joints rest, places-before, next-lower)

pub by_patterns-inner : (h : Hyphenation) (letters : List ℕ)
    → AreInnerPlaces (length letters) (places_from h letters 0 (joints_of h letters))
by_patterns-inner h letters = from-inner h letters 0 (joints_of h letters) (joints-inner h letters)

-- exceptions have places inside their words
abbrev pub AreInner : (List ℕ → Option (List ℕ)) → Type 0
AreInner exception =
    (letters : List ℕ) → IfSome (exception letters) (AreInnerPlaces (length letters))

exception-inner : (len : ℕ) (found : Option (List ℕ)) (places : List ℕ)
    → IfSome found (AreInnerPlaces len) → AreInnerPlaces len places
    → AreInnerPlaces len (unwrap_or found places)
exception-inner len None places all none = none
exception-inner len (Some found) places all none = all

pub places-inner : (h : Hyphenation) (letters : List ℕ) → AreInner h.exception
    → AreInnerPlaces (length letters) (places_of h letters)
places-inner h letters inner = grind (arith, exception-inner, by_patterns-inner)

-- ---- where letters begin

-- offsets inside a text, from a lower bound on, where characters begin, and each above the last
abbrev pub Stand : List ℕ → ℕ → List ℕ → Type 0
Stand text low [] = ⊤
Stand text low (at ∷ ats) =
    (low ≤ at) × (at < length text) × IsCharBoundary text at × Stand text (suc at) ats

-- a character begins inside a text
abbrev Begins : List ℕ → Character → Type 0
Begins text c = (c.at < length text) × IsCharBoundary text c.at

all-ahead : (text : List ℕ) (left : List Character) → AreAhead text left → All (Begins text) left
all-ahead text [] h = All-nil (Begins text)
all-ahead text (c ∷ left) h =
    let next = ahead-next text c left h in
    All-cons (Begins text) c left
    (omega (arith, next.room, some-bytes c.ch), next.begins) (all-ahead text left next.after)

stand-among : (text : List ℕ) (state : State) (at : ℕ) (cs : List ℕ) (low : ℕ) → low ≤ at
    → All (Begins text) (characters_from state at cs)
    → Stand text low (map (λ c. c.at) (letters_among (characters_from state at cs)))
stand-among text state at [] low le all = tt
stand-among text state at (c ∷ cs) low le all =
    let ch : Character = record { at = at; ch = c; is_visible = shows state c } in
    let after = at + length (encode_utf8 c) in
    let rest = characters_from (next_of state c) after cs in
    let here = All-head (Begins text) ch rest all in
    let later = All-tail (Begins text) ch rest all in
    let some = some-bytes c in
    elim (is_kept ch) as (λ b. Stand text low (map (λ c. c.at) (map letter_at
    (cond b (ch ∷ filter is_kept rest) (filter is_kept rest))))) [
      | true ↦ (
        le,
        here.0,
        here.1,
        stand-among text (next_of state c) after cs (suc at) (omega
            (arith, some)) later,
      )
      | false ↦ stand-among text (next_of state c) after cs low (omega (arith, le)) later
    ]

pub letters-stand : (word : List ℕ) → IsUtf8 word → Stand word 0 (map (λ c. c.at) (letters_of word))
letters-stand word utf8 = stand-among word Text 0 (chars word) 0 (omega arith)
    (all-ahead word (characters_of word) (ahead-start word utf8))

stand-at : (text : List ℕ) (low : ℕ) (ats : List ℕ) (k : ℕ) → Stand text low ats → k < length ats
    → (low ≤ get_or ats k 0) × (get_or ats k 0 < length text) × IsCharBoundary text (get_or ats k 0)
stand-at text low [] k stand within = absurd (omega arith)
stand-at text low (at ∷ ats) zero (le, inside, boundary, rest) within = (le, inside, boundary)
stand-at text low (at ∷ ats) (suc k) (le, inside, boundary, rest) within =
    grind (arith, stand-at text (suc at) ats k rest)

stand-rising : (text : List ℕ) (low : ℕ) (ats : List ℕ) (j k : ℕ) → Stand text low ats → j < k
    → k < length ats → get_or ats j 0 < get_or ats k 0
stand-rising text low [] j k stand lt within = absurd (omega arith)
stand-rising text low (at ∷ ats) j zero stand lt within = absurd (omega arith)
stand-rising text low (at ∷ ats) zero (suc k) (le, inside, boundary, rest) lt within =
    let later = stand-at text (suc at) ats k rest (omega arith) in omega (arith, later.0)
stand-rising text low (at ∷ ats) (suc j) (suc k) (le, inside, boundary, rest) lt within =
    stand-rising text (suc at) ats j k rest (omega arith) (omega arith)

-- the first n of them are below a bound from which the others stand
stand-split : (text : List ℕ) (low n : ℕ) (ats : List ℕ) → Stand text low ats
    → (mid : ℕ) × (low ≤ mid) × All (λ at. at < mid) (take n ats) × Stand text mid (drop n ats)
stand-split text low zero ats stand = (low, omega arith, All-nil (λ (at : ℕ). at < low), stand)
stand-split text low (suc n) [] stand = (low, omega arith, All-nil (λ (at : ℕ). at < low), tt)
stand-split text low (suc n) (at ∷ ats) (le, inside, boundary, rest) =
    grind (arith, stand-split text (suc at) n ats rest, All-cons)

stand-take : (text : List ℕ) (low n : ℕ) (ats : List ℕ) → Stand text low ats
    → Stand text low (take n ats)
stand-take text low zero ats stand = tt
stand-take text low (suc n) [] stand = tt
stand-take text low (suc n) (at ∷ ats) (le, inside, boundary, rest) =
    (le, inside, boundary, stand-take text (suc at) n ats rest)

-- ---- points

run-cuts : (text : List ℕ) (low : ℕ) (ats places : List ℕ) (j last : ℕ) → Stand text low ats
    → AreNext (IsNextPlace (length ats)) places j → last ≤ get_or ats j 0
    → AreNext (IsNextCut text) (map (λ p. get_or ats p 0) places) last
run-cuts text low ats [] j last stand inner le = tt
run-cuts text low ats (p ∷ places) j last stand (here, rest) le =
    let at = stand-at text low ats p stand here.1 in
    let up = stand-rising text low ats j p stand here.0 here.1 in (
      (omega (arith, le, up), at.1, at.2),
      run-cuts text low ats places p (get_or ats p 0) stand rest (omega arith),
    )

cuts-append : (text ps qs : List ℕ) (last mid : ℕ) → AreNext (IsNextCut text) ps last
    → All (λ p. p < mid) ps → last ≤ mid → ((l : ℕ) → l ≤ mid → AreNext (IsNextCut text) qs l)
    → AreNext (IsNextCut text) (ps ++ qs) last
cuts-append text [] qs last mid are below le next = next last le
cuts-append text (p ∷ ps) qs last mid (here, rest) below le next =
    let first = All-head (λ (q : ℕ). q < mid) p ps below in (
      here,
      cuts-append text ps qs p mid rest (All-tail (λ (q : ℕ). q < mid) p ps below) (omega
          (arith, first)) next,
    )

-- the points of a run of letters that stand from a bound on
run-points : (h : Hyphenation) (text : List ℕ) (low last mid : ℕ) (run : List Letter)
    → AreInner h.exception → last ≤ low → 0 < length run → Stand text low (map (λ c. c.at) run)
    → All (λ at. at < mid) (map (λ c. c.at) run)
    → AreNext (IsNextCut text) (points_in h run) last × All (λ p. p < mid) (points_in h run)
run-points h text low last mid run inner le some stand below =
    let ats = map (λ (c : Letter). c.at) run in
    let cs = map (λ (c : Letter). c.ch) run in
    let same : length cs ≡ length ats = length-map run (λ (c : Letter). c.ch)
    ∙ sym (length-map run (λ (c : Letter). c.at)) in
    let placed = subst (λ n. AreNext (IsNextPlace n) (places_of h cs) 0) same
    (places-inner h cs inner) in
    let first = stand-at text low ats 0 stand (omega (
      arith,
      length-map run (λ
          (c : Letter). c.at),
    )) in (
      run-cuts text low ats (places_of h cs) 0 last stand placed (omega (arith, le, first.0)),
      All-map (λ (p : ℕ). p < mid) (λ p. get_or ats p 0) (places_of h cs)
          (All-weaker (λ (p : ℕ). p < length ats) (λ p. get_or ats p 0 < mid) (λ p lt. below p 0 lt)
          (places_of h cs) (places-below (length ats) 0 (places_of h cs) placed)),
    )

pub past-cuts : (h : Hyphenation) (text : List ℕ) (most : ℕ) (cs : List Letter) (low last : ℕ)
    → AreInner h.exception → length cs ≤ most → last ≤ low → Stand text low (map (λ c. c.at) cs)
    → AreNext (IsNextCut text) (points_past h 0 cs) last
past-cuts h text most [] low last inner fits le stand = tt
past-cuts h text zero (c ∷ cs) low last inner fits le stand = absurd (omega arith)
past-cuts h text (suc most) (c ∷ cs) low last inner fits le stand =
    let at = λ (c : Letter). c.at in
    let all = c ∷ cs in
    let n = run_len all in
    let by = elim (is_letter_or_mark c.ch) as (λ b. is_letter_or_mark c.ch ≡ b
    → AreNext (IsNextCut text) (points_past h 0 all) last) [
      | true ↦ λ is.
          let next = past-letter h all c (omega arith) is in
          let parts = stand-split text low n (map at all) stand in
          let run = run-points h text low last parts.0 (take n all) inner le
          (omega (arith, next.1, length-take n all))
          (subst (Stand text low) (take-map at n all) (stand-take text low n (map at all) stand))
          (subst (All (λ a. a < parts.0)) (take-map at n all) parts.2) in
          subst (λ l. AreNext (IsNextCut text) l last) (sym next.0)
          (cuts-append text (points_in h (take n all)) (points_past h 0 (drop n all)) last parts.0
          run.0 run.1 (omega (arith, le, parts.1))
          (λ l under. past-cuts h text most (drop n all) parts.0 l inner
          (omega (arith, fits, next.1, length-drop n all)) under
          (subst (Stand text parts.0) (drop-map at n all) parts.3)))
      | false ↦ λ is.
          let parts = stand-split text low 1 (map at all) stand in
          subst (λ l. AreNext (IsNextCut text) l last) (sym (past-other h all c (omega arith) is))
          (past-cuts h text most cs parts.0 last inner (omega arith) (omega
          (arith, le, parts.1)) parts.3)
    ] in
    by refl

pattern-cuts : (h : Hyphenation) (word : List ℕ) → IsUtf8 word → AreInner h.exception
    → AreInnerCuts word (pattern_points h (letters_of word))
pattern-cuts h word utf8 inner = grind (arith, past-cuts, letters-stand)

-- places of letters, which increase, are cuts where the letters begin
soft-cuts : (h : Hyphenation) (word : List ℕ) → IsUtf8 word
    → AreInnerCuts word (soft_points h word (letters_of word))
soft-cuts h word utf8 =
    let letters = letters_of word in
    let ats = map (λ (c : Letter). c.at) letters in
    let size : length ats ≡ length letters = length-map letters (λ (c : Letter). c.at) in
    elim h.soft_hyphens as (λ b. AreInnerCuts word (cond b (points_at letters (soft_places word letters)) [])) [
      | true ↦ run-cuts word 0 ats (soft_places word letters) 0 0 (letters-stand word utf8)
          (places-filter (λ place. is_behind_soft word (get_or ats place 0)) (length ats) 1 (length letters - 1) 0
          (omega arith) (λ some. omega (arith, size, some))) (omega arith)
      | false ↦ tt
    ]

pub points-cuts : (h : Hyphenation) (word : List ℕ) → IsUtf8 word → AreInner h.exception
    → AreInnerCuts word (hyphenation_points h word)
points-cuts h word utf8 inner = grind (arith, pattern-cuts, soft-cuts)
