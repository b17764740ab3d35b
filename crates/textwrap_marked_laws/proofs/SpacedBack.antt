-- Words with white between them are read back from their text.
use Rattle.textwrap_marks.specs.Words.{onto_word, with_byte}
use Rattle.textwrap_text.proofs.Lists.Parts.{onto_first-append}
use Rattle.textwrap_marked_laws.proofs as own
use own.Common.{first_word, onto_first, true≢false, has_bytes, All-cons, All-head, All-tail, eqb-true, length}
use own.Common.{flat_map-append, spaced_words, slice_split, spaced_text, SpacedText, append-nil, cases_Bool}
use own.Common.{is_white, All-nil, lt-ltb, arith, false, Bool, List, cond, refl, true, ◌++◌, ◌==◌, All, map}
use own.Common.{sym, ◌<◌, ◌∙◌, ◌∷◌, ◌≡◌, [], ap, ℕ, ⊤}
use own.Common.{words_between_white, false_from_ne_true, length-slice_split, slice_split_none, append_assoc}

-- ---- texts

split-white : (front : List ℕ) (c : ℕ) (rest : List ℕ) → is_white c ≡ true
    → slice_split is_white (front ++ c ∷ rest) ≡ slice_split is_white front ++ slice_split is_white rest
split-white [] c rest white =
    ap (λ b. cond b ([] ∷ slice_split is_white rest) (onto_first c (slice_split is_white rest))) white
split-white (x ∷ front) c rest white =
    grind (arith, cases_Bool, onto_first-append, length-slice_split, split-white front c rest white)

-- the words before and behind white
pub words-white : (front : List ℕ) (c : ℕ) (rest : List ℕ) → is_white c ≡ true
    → words_between_white (front ++ c ∷ rest) ≡ words_between_white front ++ words_between_white rest
words-white front c rest white = grind (arith, cases_Bool, split-white, flat_map-append)

-- white in front adds none
pub white-words : (white rest : List ℕ) → All (λ c. is_white c ≡ true) white
    → words_between_white (white ++ rest) ≡ words_between_white rest
white-words [] rest all = refl
white-words (c ∷ white) rest all =
    words-white [] c (white ++ rest) (All-head (λ c. is_white c ≡ true) c white all)
    ∙ white-words white rest (All-tail (λ c. is_white c ≡ true) c white all)

-- ---- words

-- some bytes, and no white
pub record IsPlain (word : List ℕ) : Type 0 where
  pub some : 0 < length word
  pub ink : All (λ c. is_white c ≡ false) word

pub word-alone : (word : List ℕ) → IsPlain word → words_between_white word ≡ word ∷ []
word-alone word plain = grind (arith, cases_Bool, slice_split_none, lt-ltb)

-- ---- words with white between them are read back from their text

abbrev pub words_in : List SpacedText → List (List ℕ)
words_in ws = map (λ w. w.word) ws

-- what holds of each word
pub each-word : (P : List ℕ → Type 0) (ws : List SpacedText) → All P (words_in ws) → All (λ w. P w.word) ws
each-word P [] all = All-nil (λ w. P w.word)
each-word P (w ∷ ws) all =
    All-cons (λ w. P w.word) w ws (All-head P w.word (words_in ws) all)
    (each-word P ws (All-tail P w.word (words_in ws) all))

abbrev pub IsWhite : ℕ → Type 0
IsWhite c = is_white c ≡ true

abbrev pub IsInk : ℕ → Type 0
IsInk c = is_white c ≡ false

-- white is no other byte
pub white-other : (c k : ℕ) → IsWhite c → is_white k ≡ false → (c == k) ≡ false
white-other c k white other =
    false_from_ne_true (c == k) (λ is. true≢false (sym white ∙ ap is_white (eqb-true c k is) ∙ other))

-- a word and white behind it
pub record IsSpaced (w : SpacedText) : Type 0 where
  pub word : IsPlain w.word
  pub white : All IsWhite w.white

-- words, each but the last with white behind it
abbrev pub AreSpaced : List SpacedText → Type 0
AreSpaced [] = ⊤
AreSpaced (w ∷ []) = IsSpaced w
AreSpaced (w ∷ v ∷ ws) = IsSpaced w × (0 < length w.white) × AreSpaced (v ∷ ws)

pub spaced-first : (w : SpacedText) (ws : List SpacedText) → AreSpaced (w ∷ ws) → IsSpaced w
spaced-first w [] are = are
spaced-first w (v ∷ ws) are = are.0

pub plain-first : (ws : List SpacedText) → 0 < length ws → AreSpaced ws → IsPlain (first_word ws)
plain-first [] some are = absurd (omega (arith, some))
plain-first (w ∷ ws) some are = (spaced-first w ws are).word

pub spaced-cons : (w : SpacedText) (ws : List SpacedText) → IsSpaced w
    → (0 < length ws → 0 < length w.white) → AreSpaced ws → AreSpaced (w ∷ ws)
spaced-cons w [] here some are = here
spaced-cons w (v ∷ ws) here some are = (here, some (omega arith), are)

pub spaced-plain : (ws : List SpacedText) → AreSpaced ws → All (λ w. IsPlain w.word) ws
spaced-plain [] are = All-nil (λ w. IsPlain w.word)
spaced-plain (w ∷ []) are = All-cons (λ w. IsPlain w.word) w [] are.word (All-nil (λ w. IsPlain w.word))
spaced-plain (w ∷ v ∷ ws) are =
    All-cons (λ w. IsPlain w.word) w (v ∷ ws) are.0.word (spaced-plain (v ∷ ws) are.2)

-- the words of a line that begins with this white
abbrev pub lead_words : List ℕ → List SpacedText
lead_words [] = []
lead_words (c ∷ cs) = record { word = []; white = c ∷ cs } ∷ []

abbrev pub with_lead : List ℕ → List SpacedText → List SpacedText
with_lead lead ws = lead_words lead ++ ws

abbrev pub BeginsPlain : List SpacedText → Type 0
BeginsPlain [] = ⊤
BeginsPlain (w ∷ ws) = 0 < length w.word

pub begins-plain : (ws : List SpacedText) → AreSpaced ws → BeginsPlain ws
begins-plain [] are = tt
begins-plain (w ∷ ws) are = (spaced-first w ws are).word.some

white-alone : (c : ℕ) (ws : List SpacedText) → IsWhite c → BeginsPlain ws
    → with_byte c ws ≡ with_lead (c ∷ []) ws
white-alone c [] white begins = simp white
white-alone c (w ∷ ws) white begins = grind (arith, cases_Bool)

-- white before words
white-before : (lead text : List ℕ) (ws : List SpacedText) → All IsWhite lead → BeginsPlain ws
    → spaced_words text ≡ ws → spaced_words (lead ++ text) ≡ with_lead lead ws
white-before [] text ws white begins is = is
white-before (c ∷ []) text ws white begins is =
    ap (with_byte c) is ∙ white-alone c ws (All-head IsWhite c [] white) begins
white-before (c ∷ d ∷ lead) text ws white begins is =
    let later = white-before (d ∷ lead) text ws (All-tail IsWhite c (d ∷ lead) white) begins is in
    grind (arith, cases_Bool, All-head, later)

-- a word before white, or at the end
word-before : (word lead text : List ℕ) (ws : List SpacedText) → IsPlain word
    → (length lead ≡ 0 → ws ≡ []) → spaced_words text ≡ with_lead lead ws
    → spaced_words (word ++ text) ≡ record { word = word; white = lead } ∷ ws
word-before [] lead text ws plain ends is = absurd (omega (arith, plain.some))
word-before (c ∷ []) [] text ws plain ends is = grind (arith, cases_Bool, All-head)
word-before (c ∷ []) (x ∷ lead) text ws plain ends is =
    let here : IsInk c = All-head IsInk c [] plain.ink in ap (with_byte c) is ∙ simp here
word-before (c ∷ d ∷ word) lead text ws plain ends is =
    let ink = All-tail IsInk c (d ∷ word) plain.ink in
    let later = word-before (d ∷ word) lead text ws (record { some = omega arith; ink = ink }) ends is in
    grind (arith, cases_Bool, All-head, later)

pub spaced-back : (ws : List SpacedText) → AreSpaced ws → spaced_words (spaced_text ws) ≡ ws
spaced-back [] are = refl
spaced-back (w ∷ []) are =
    ap spaced_words (append-nil (w.word ++ w.white))
    ∙ word-before w.word w.white w.white [] are.word (λ e. refl)
    (ap spaced_words (sym (append-nil w.white)) ∙ white-before w.white [] [] are.white tt refl)
spaced-back (w ∷ v ∷ ws) (here, some, later) =
    let rest = spaced_text (v ∷ ws) in
    ap spaced_words (append_assoc w.word w.white rest)
    ∙ word-before w.word w.white (w.white ++ rest) (v ∷ ws) here.word
    (λ none. absurd (omega (arith, some, none)))
    (white-before w.white rest (v ∷ ws) here.white (begins-plain (v ∷ ws) later)
    (spaced-back (v ∷ ws) later))

-- the words of a line, from its text
pub line-back : (lead : List ℕ) (ws : List SpacedText) → All IsWhite lead → AreSpaced ws
    → spaced_words (lead ++ spaced_text ws) ≡ with_lead lead ws
line-back lead ws white are =
    white-before lead (spaced_text ws) ws white (begins-plain ws are) (spaced-back ws are)

-- ---- each line is white and words

pub record IsLineText (text lead : List ℕ) (ws : List SpacedText) : Type 0 where
  pub white : All IsWhite lead
  pub spaced : AreSpaced ws
  pub is : text ≡ lead ++ spaced_text ws

pub plain-one : (c : ℕ) → IsInk c → IsPlain (c ∷ [])
plain-one c ink = record { some = omega arith; ink = All-cons IsInk c [] ink (All-nil IsInk) }

plain-more : (c : ℕ) (word : List ℕ) → IsInk c → IsPlain word → IsPlain (c ∷ word)
plain-more c word ink plain =
    record { some = omega arith; ink = All-cons IsInk c word ink plain.ink }

onto-spaced : (c : ℕ) (w : SpacedText) (ws : List SpacedText) → IsInk c → AreSpaced (w ∷ ws)
    → AreSpaced (onto_word c w ∷ ws)
onto-spaced c w [] ink are =
    record { word = plain-more c w.word ink are.word; white = are.white }
onto-spaced c w (v ∷ ws) ink (here, some, later) =
    (record { word = plain-more c w.word ink here.word; white = here.white }, some, later)

pub line-text : (text : List ℕ) → (lead : List ℕ) × (ws : List SpacedText) × IsLineText text lead ws
line-text [] = ([], [], record { white = All-nil IsWhite; spaced = tt; is = refl })
line-text (c ∷ cs) =
    let (lead, ws, is) = line-text cs in more (is_white c) refl lead ws is
  where
    of : (ws : List SpacedText) → AreSpaced ws → c ∷ cs ≡ spaced_text ws
        → (lead : List ℕ) × (ws : List SpacedText) × IsLineText (c ∷ cs) lead ws
    of ws spaced is = ([], ws, record { white = All-nil IsWhite; spaced = spaced; is = is })

    more : (w : Bool) → is_white c ≡ w → (lead : List ℕ) (ws : List SpacedText) → IsLineText cs lead ws
        → (lead : List ℕ) × (ws : List SpacedText) × IsLineText (c ∷ cs) lead ws
    more true white lead ws is = (
      c ∷ lead,
      ws,
      record {
        white = All-cons IsWhite c lead white is.white;
        spaced = is.spaced;
        is = ap (λ l. c ∷ l) is.is;
      },
    )
    more false ink [] [] is =
        of (record { word = c ∷ []; white = [] } ∷ [])
        (record { word = plain-one c ink; white = All-nil IsWhite })
        (ap (λ l. c ∷ l) is.is)
    more false ink [] (w ∷ ws) is =
        of (onto_word c w ∷ ws) (onto-spaced c w ws ink is.spaced) (ap (λ l. c ∷ l) is.is)
    more false ink (d ∷ lead) ws is =
        let w : SpacedText = record { word = c ∷ []; white = d ∷ lead } in
        of (w ∷ ws) (spaced-cons w ws (record { word = plain-one c ink; white = is.white })
        (λ more. omega arith) is.spaced) (ap (λ l. c ∷ l) is.is)

-- ---- its words between white

word-in : (word white rest : List ℕ) → IsPlain word → All IsWhite white → 0 < length white
    → words_between_white ((word ++ white) ++ rest) ≡ word ∷ words_between_white rest
word-in word [] rest plain all some = absurd (omega (arith, some))
word-in word (c ∷ white) rest plain all some =
    ap words_between_white (append_assoc word (c ∷ white) rest)
    ∙ words-white word c (white ++ rest) (All-head IsWhite c white all)
    ∙ ap (λ l. l ++ words_between_white (white ++ rest)) (word-alone word plain)
    ∙ ap (λ l. word ∷ l) (white-words white rest (All-tail IsWhite c white all))

pub spaced-in : (ws : List SpacedText) → AreSpaced ws → words_between_white (spaced_text ws) ≡ words_in ws
spaced-in [] are = refl
spaced-in (w ∷ []) are = cut w.white are.white
  where
    cut : (white : List ℕ) → All IsWhite white → words_between_white ((w.word ++ white) ++ []) ≡ w.word ∷ []
    cut [] all =
        ap words_between_white (append-nil (w.word ++ []) ∙ append-nil w.word) ∙ word-alone w.word are.word
    cut (c ∷ white) all = word-in w.word (c ∷ white) [] are.word all (omega arith)
spaced-in (w ∷ v ∷ ws) (here, some, later) = grind (arith, cases_Bool, word-in, spaced-in (v ∷ ws) later)

pub text-words : (text lead : List ℕ) (ws : List SpacedText) → IsLineText text lead ws
    → words_between_white text ≡ words_in ws
text-words text lead ws is =
    ap words_between_white is.is ∙ white-words lead (spaced_text ws) is.white ∙ spaced-in ws is.spaced

-- ---- one line has one lead and one list of words

-- the white in front of a line, and its words
abbrev lead_of : List SpacedText → List ℕ
lead_of [] = []
lead_of (w ∷ ws) = cond (has_bytes w.word) [] w.white

abbrev behind_lead : List SpacedText → List SpacedText
behind_lead [] = []
behind_lead (w ∷ ws) = cond (has_bytes w.word) (w ∷ ws) ws

lead-parts : (lead : List ℕ) (ws : List SpacedText) → AreSpaced ws
    → (lead_of (with_lead lead ws) ≡ lead) × (behind_lead (with_lead lead ws) ≡ ws)
lead-parts [] [] are = (refl, refl)
lead-parts [] (w ∷ ws) are = grind (arith, cases_Bool, lt-ltb, begins-plain)
lead-parts (c ∷ lead) ws are = (refl, refl)

pub lead-one : (lead other : List ℕ) (ws vs : List SpacedText) → AreSpaced ws → AreSpaced vs
    → with_lead lead ws ≡ with_lead other vs → (lead ≡ other) × (ws ≡ vs)
lead-one lead other ws vs are be is = grind (arith, cases_Bool, lead-parts)
