-- The lines of a division of a paragraph's pieces are lines of its words, parted where they may be.
use Rattle.std.proofs.lemmas.List.Elements.{All-get_or}
use Rattle.textwrap_base.proofs.Cost.Chosen.{division_joined}
use Rattle.textwrap_text.proofs.Common.{take-append-add, length-take, take_more}
use Rattle.textwrap_words.{proofs.Common.piece, proofs.Word.Texts.{trimmed-front, word_of-seam}}
use Rattle.textwrap_marked_laws.proofs as own
use own.Common.{List, cond, drop, flat, refl, take, true, ◌++◌, ◌==◌, All, map, sym, ◌+◌, ◌-◌, ◌<◌, ◌∙◌, ◌∷◌}
use own.Common.{ReflowOptions, append_assoc, spaced_text, trimmed_len, IsDivision, SpacedText, append-nil, []}
use own.Common.{cases_Bool, onto_front, with_blank, All-cons, All-head, All-tail, WordText, is_blank, covered}
use own.Common.{take_all, or-left, word_of, blanks, get_or, is_cut, length, pieces, arith, blank, false, Bool}
use own.{Common.{◌≡◌, ◌≢◌, ap, ℕ, ⊤}, SpacedBack.{IsPlain, IsInk}}

-- the gap before a word with so many others behind it: a blank, and more where lines are justified
abbrev pub gap : Bool → (ℕ → ℕ) → ℕ → List ℕ
gap justify gaps n = blank ∷ cond justify (blanks (gaps n)) []

-- words with a gap behind each but the last, and this behind that one
abbrev pub spread : Bool → (ℕ → ℕ) → List (List ℕ) → List ℕ → List SpacedText
spread justify gaps [] end = []
spread justify gaps (word ∷ []) end = record { word = word; white = end } ∷ []
spread justify gaps (word ∷ next ∷ words) end =
    record { word = word; white = gap justify gaps (length words) }
    ∷ spread justify gaps (next ∷ words) end

-- the text of a line of these words
abbrev pub shown : Bool → (ℕ → ℕ) → List (List ℕ) → List ℕ
shown justify gaps words = spaced_text (spread justify gaps words [])

-- the texts of such lines, where the gaps of each are those for so many lines behind it
abbrev pub all_shown : Bool → (ℕ → ℕ → ℕ) → List (List (List ℕ)) → List (List ℕ)
all_shown justify wide [] = []
all_shown justify wide (words ∷ lines) =
    shown justify (wide (length lines)) words ∷ all_shown justify wide lines

-- with a blank between each two
abbrev pub joined : List (List ℕ) → List ℕ
joined words = shown false (λ n. 0) words

-- ---- one word

pub ink-blank : (c : ℕ) → IsInk c → is_blank c ≡ false
ink-blank c ink = or-left (is_blank c) (c == 9) ink

-- its last byte is no blank
word-ends : (word : List ℕ) → IsPlain word
    → (front : List ℕ) × (b : ℕ) × (word ≡ front ++ b ∷ []) × (is_blank b ≡ false)
word-ends word is =
    let n = length word - 1 in
    let some = is.some in
    let within : n < length word = omega (arith, some) in (
      take n word,
      get_or word n 0,
      sym (take_all (n + 1) word (omega (arith, some))) ∙ take_more word n 0 within,
      ink-blank (get_or word n 0) (All-get_or IsInk word n 0 within is.ink),
    )

word-spaced : (word : List ℕ) → IsPlain word → word_of (with_blank word) ≡ piece word (blank ∷ []) []
word-spaced word is = grind (arith, cases_Bool, word-ends, append_assoc, word_of-seam)

word-begins : (word : List ℕ) → IsPlain word → 0 < trimmed_len (with_blank word)
word-begins word is = omega (
  arith,
  ap (λ w. length w.word) (word-spaced word is),
  length-take (trimmed_len (with_blank word)) (with_blank word),
)

-- ---- what is in front of a part

covered-front : (front part : List ℕ) (others : List WordText) → 0 < trimmed_len part
    → covered (word_of (front ++ part) ∷ others) ≡ front ++ covered (word_of part ∷ others)
covered-front front part others some = grind (arith, cases_Bool, trimmed-front, take-append-add, append_assoc)

-- the first part is not all blanks
abbrev BeginWell : List (List ℕ) → Type 0
BeginWell [] = ⊥
BeginWell (part ∷ parts) = 0 < trimmed_len part

-- the parts with a word and a blank in front, as a part or not
abbrev with_front : Bool → List ℕ → List (List ℕ) → List (List ℕ)
with_front ends word later =
    cond ends (with_blank word ∷ later) (onto_front (with_blank word) later)

front-begins : (ends : Bool) (word : List ℕ) (later : List (List ℕ)) → IsPlain word
    → BeginWell later → BeginWell (with_front ends word later)
front-begins ends word [] is begin = absurd begin
front-begins false word (part ∷ parts) is begin =
    omega (arith, (trimmed-front (with_blank word) part begin).0, begin)
front-begins true word (part ∷ parts) is begin = word-begins word is

module _ (options : ReflowOptions) (starred : Bool) where
  abbrev parts : List (List ℕ) → List (List ℕ)
  parts words = pieces options starred words

  pieces-begin : (word : List ℕ) (words : List (List ℕ)) → All IsPlain (word ∷ words)
      → BeginWell (parts (word ∷ words))
  pieces-begin word [] are = word-begins word (All-head IsPlain word [] are)
  pieces-begin word (next ∷ words) are =
      front-begins (is_cut options starred word (next ∷ words)) word (parts (next ∷ words))
      (All-head IsPlain word (next ∷ words) are)
      (pieces-begin next words (All-tail IsPlain word (next ∷ words) are))

  -- ---- where the pieces are parted, the words are

  -- a line may end between these words and those
  abbrev pub MayPart : List (List ℕ) → List (List ℕ) → Type 0
  MayPart words [] = ⊤
  MayPart [] (next ∷ later) = ⊤
  MayPart (word ∷ []) (next ∷ later) = is_cut options starred word (next ∷ later) ≡ true
  MayPart (word ∷ second ∷ words) (next ∷ later) = MayPart (second ∷ words) (next ∷ later)

  -- the words are those of these lines, of which none is empty, and parted where they may be
  abbrev pub AreCutInto : List (List ℕ) → List (List (List ℕ)) → Type 0
  AreCutInto words [] = words ≡ []
  AreCutInto words (line ∷ lines) =
      (later : List (List ℕ)) × (line ≢ []) × (words ≡ line ++ later) × MayPart line later
      × AreCutInto later lines

  -- ---- the lines

  abbrev AreLinesOf : List (List ℕ) → List (List WordText) → Type 0
  AreLinesOf words division =
      (lines : List (List (List ℕ))) × AreCutInto words lines
      × (map covered division ≡ map joined lines)

  -- a word more in the first line
  onto-line : (word : List ℕ) (words : List (List ℕ)) (line front : List WordText)
      (division : List (List WordText)) → covered line ≡ with_blank word ++ covered front
      → AreLinesOf words (front ∷ division) → AreLinesOf (word ∷ words) (line ∷ division)
  onto-line word words line front division covers ([], cut, same) = absurd (omega (arith, ap length same))
  onto-line word words line front division covers ([] ∷ lines, (later, some, is, may, cut), same) =
      absurd (some refl)
  onto-line word words line front division covers ((v ∷ own) ∷ lines, (later, some, is, may, cut), same) = (
    (word ∷ v ∷ own) ∷ lines,
    (later, (λ none. cc), ap (λ l. word ∷ l) is, may, cut),
    ap (λ l. l ∷ map covered division) (covers ∙ ap (λ ls. with_blank word ++ get_or ls 0 []) same)
        ∙ ap (λ ls. joined (word ∷ v ∷ own) ∷ drop 1 ls) same,
  )

  line-alone : (word : List ℕ) (w : WordText) → IsPlain word → w ≡ word_of (with_blank word)
      → covered (w ∷ []) ≡ joined (word ∷ [])
  line-alone word w is same =
      ap (λ v. v.word) (same ∙ word-spaced word is) ∙ sym (append-nil (word ++ []) ∙ append-nil word)

  abbrev AreSome : List (List WordText) → Type 0
  AreSome division = All (λ line. line ≢ []) division

  parts-some : (ps : List (List ℕ)) → BeginWell ps → 0 < length (map word_of ps)
  parts-some [] begin = absurd begin
  parts-some (part ∷ ps) begin = omega arith

  lines-of : (words : List (List ℕ)) (word : List ℕ) (division : List (List WordText))
      → All IsPlain (word ∷ words) → flat division ≡ map word_of (parts (word ∷ words))
      → AreSome division → AreLinesOf (word ∷ words) division
  lines-of words word [] are is some =
      absurd (omega (arith, ap length is, parts-some _ (pieces-begin word words are)))
  lines-of words word ([] ∷ division) are is some = absurd (All-head (λ l. l ≢ []) [] division some refl)
  lines-of [] word ((w ∷ []) ∷ []) are is some = (
    (word ∷ []) ∷ [],
    ([], (λ none. cc), refl, tt, refl),
    ap (λ l. l ∷ []) (line-alone word w (All-head IsPlain word [] are) cc),
  )
  lines-of [] word ((w ∷ []) ∷ [] ∷ division) are is some =
      absurd (All-head (λ l. l ≢ []) [] division (All-tail (λ l. l ≢ []) (w ∷ []) ([] ∷ division) some) refl)
  lines-of [] word ((w ∷ []) ∷ (v ∷ line) ∷ division) are is some = absurd (omega (arith, ap length is))
  lines-of [] word ((w ∷ v ∷ front) ∷ division) are is some = absurd (omega (arith, ap length is))
  lines-of (next ∷ words) word ((w ∷ front) ∷ division) are is some =
      let later = All-tail IsPlain word (next ∷ words) are in
      step (is_cut options starred word (next ∷ words)) (parts (next ∷ words)) refl
      (pieces-begin next words later) (λ ls same all. lines-of words next ls later same all) front is
    where
      plain : IsPlain word
      plain = All-head IsPlain word (next ∷ words) are

      others : AreSome division
      others = All-tail (λ l. l ≢ []) (w ∷ front) division some

      step : (ends : Bool) (later : List (List ℕ)) → is_cut options starred word (next ∷ words) ≡ ends
          → BeginWell later → ((ls : List (List WordText)) → flat ls ≡ map word_of later → AreSome ls
          → AreLinesOf (next ∷ words) ls) → (front : List WordText)
          → w ∷ (front ++ flat division) ≡ map word_of (with_front ends word later)
          → AreLinesOf (word ∷ next ∷ words) ((w ∷ front) ∷ division)
      step ends [] test begin rest front is = absurd begin
      step false (part ∷ later) test begin rest front is =
          let here : w ≡ word_of (with_blank word ++ part) = cc in
          let after : front ++ flat division ≡ map word_of later = cc in
          onto-line word (next ∷ words) (w ∷ front) (word_of part ∷ front) division
          (ap (λ v. covered (v ∷ front)) here ∙ covered-front (with_blank word) part front begin)
          (rest ((word_of part ∷ front) ∷ division) (ap (λ l. word_of part ∷ l) after)
          (All-cons (λ l. l ≢ []) (word_of part ∷ front) division (λ none. cc) others))
      step true (part ∷ later) test begin rest [] is =
          let here : w ≡ word_of (with_blank word) = cc in
          let (lines, cut, same) = rest division (cc) others in (
            (word ∷ []) ∷ lines,
            (next ∷ words, (λ none. cc), refl, test, cut),
            ap (λ l. l ∷ map covered division) (line-alone word w plain here)
                ∙ ap (λ ls. joined (word ∷ []) ∷ ls) same,
          )
      step true (part ∷ later) test begin rest (v ∷ front) is =
          let here : w ≡ word_of (with_blank word) = cc in
          onto-line word (next ∷ words) (w ∷ v ∷ front) (v ∷ front) division
          (ap (λ u. u.word ++ u.whitespace ++ covered (v ∷ front)) (here ∙ word-spaced word plain))
          (rest ((v ∷ front) ∷ division) (cc) (All-cons (λ l. l ≢ []) (v ∷ front) division
          (λ none. cc) others))

  pub division-words : (words : List (List ℕ)) → words ≢ [] → All IsPlain words
      → (division : List (List WordText)) → IsDivision (map word_of (parts words)) division
      → (lines : List (List (List ℕ))) × AreCutInto words lines
      × (map covered division ≡ map joined lines)
  division-words [] some are division divides = absurd (some refl)
  division-words (word ∷ words) some are division divides =
      let divided = division_joined (map word_of (parts (word ∷ words))) division
      (parts-some (parts (word ∷ words)) (pieces-begin word words are)) divides in
      lines-of words word division are divided.0 divided.1
