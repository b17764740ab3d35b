-- The lines of a text with their endings, one after another, and the text that they make.
use Rattle.textwrap_text.proofs.Common.{strip_carriage_return, nil_from_length, join_with_byte, All}
use Rattle.textwrap_text.proofs.Common.{lines_of_parts, append_assoc, common_steps, slice_split, []}
use Rattle.textwrap_text.proofs.Common.{All-append, All-weaker, append-nil, cases_Bool, length-map}
use Rattle.textwrap_text.proofs.Common.{eqb-false, take_more, All-cons, eqb-true, flat_map, All-nil}
use Rattle.textwrap_text.proofs.Common.{is_some, length, ne_eqb, arith, false, lines, rules, subst}
use Rattle.textwrap_text.proofs.Common.{Bool, List, None, cond, last, refl, ◌++◌, ◌==◌, inl, ℕ}
use Rattle.textwrap_text.proofs.Common.{inr, map, sym, ◌<◌, ◌∙◌, ◌∷◌, ◌≡◌, ◌≢◌, ap}
use Rattle.std.proofs.lemmas.List.Splits.{join_with_byte-slice_split, length-slice_split}
use Rattle.std.proofs.lemmas.List.Splits.{slice_split_none, slice_split_at}
use Rattle.textwrap_text.proofs.Lists.Parts.{some_from_nonempty, last-append, last-cons, last-push}
use Rattle.textwrap_text.specs.TextLines.{line_before_feed, ended_lines_of, ended_lines, EndedLine}
use Rattle.textwrap_text.specs.TextLines.{ended_parts, with_ending}

abbrev pub is_feed : ℕ → Bool
is_feed b = b == 10

-- ---- a text whose first line feed is known, and one that has none

lines-more : (part : List ℕ) (parts : List (List ℕ)) → 0 < length parts
    → ended_lines_of (part ∷ parts) ≡ line_before_feed part ∷ ended_lines_of parts
lines-more part [] some = absurd (omega arith)
lines-more part (next ∷ parts) some = refl

free : (part : List ℕ) → All (λ c. c ≢ 10) part → All (λ c. is_feed c ≡ false) part
free part lacks = search (rules, arith, All-weaker, ne_eqb)

pub ended_lines-front : (front rest : List ℕ) → All (λ c. c ≢ 10) front
    → ended_lines (front ++ 10 ∷ rest) ≡ line_before_feed front ∷ ended_lines rest
ended_lines-front front rest lacks =
    search (rules, arith, slice_split_at, free, lines-more, length-slice_split)

pub ended_lines-whole : (part : List ℕ) → All (λ c. c ≢ 10) part → part ≢ []
    → ended_lines part ≡ record { line = part; ending = None } ∷ []
ended_lines-whole part lacks some = search (rules, arith, slice_split_none, free, nil_from_length)

-- ---- each line with its ending

pub with_ending-feed : (part : List ℕ) → with_ending (line_before_feed part) ≡ part ++ 10 ∷ []
with_ending-feed [] = refl
with_ending-feed (c ∷ cs) = grind (arith, common_steps, take_more (c ∷ cs) (length cs) 0)

-- ---- the lines are std's lines; each with its ending, they are the text

abbrev pub texts_of : List EndedLine → List (List ℕ)
texts_of es = map (λ e. e.line) es

texts-of : (parts : List (List ℕ)) → texts_of (ended_lines_of parts) ≡ lines_of_parts parts
texts-of [] = refl
texts-of (part ∷ []) = grind arith
texts-of (part ∷ next ∷ parts) = simp (texts-of (next ∷ parts))

pub ended_lines-texts : (text : List ℕ) → texts_of (ended_lines text) ≡ lines text
ended_lines-texts text = texts-of (slice_split is_feed text)

pub lines-front : (front rest : List ℕ) → All (λ c. c ≢ 10) front
    → lines (front ++ 10 ∷ rest) ≡ strip_carriage_return front ∷ lines rest
lines-front front rest lacks =
    sym (ended_lines-texts (front ++ 10 ∷ rest)) ∙ ap texts_of (ended_lines-front front rest lacks)
    ∙ ap (λ ls. strip_carriage_return front ∷ ls) (ended_lines-texts rest)

pub lines-whole : (part : List ℕ) → All (λ c. c ≢ 10) part → part ≢ [] → lines part ≡ part ∷ []
lines-whole part lacks some =
    sym (ended_lines-texts part) ∙ ap texts_of (ended_lines-whole part lacks some)

pub ended_parts-front : (front rest : List ℕ) → All (λ c. c ≢ 10) front
    → ended_parts (front ++ 10 ∷ rest) ≡ (front ++ 10 ∷ []) ∷ ended_parts rest
ended_parts-front front rest lacks = search (rules, arith, ended_lines-front, with_ending-feed)

pub ended_parts-whole : (part : List ℕ) → All (λ c. c ≢ 10) part → part ≢ []
    → ended_parts part ≡ part ∷ []
ended_parts-whole part lacks some = search (rules, arith, ended_lines-whole, append-nil)

flat-of : (parts : List (List ℕ))
    → flat_map (λ part. part) (map with_ending (ended_lines_of parts)) ≡ join_with_byte 10 parts
flat-of [] = refl
flat-of (part ∷ []) = grind (arith, append-nil, nil_from_length)
flat-of (part ∷ next ∷ parts) =
    search (rules, arith, with_ending-feed, append_assoc, flat-of (next ∷ parts))

pub ended_parts-flat : (text : List ℕ) → flat_map (λ part. part) (ended_parts text) ≡ text
ended_parts-flat text = flat-of (slice_split is_feed text) ∙ join_with_byte-slice_split 10 text

-- ---- a text is a line, and what follows it

module _ (P : List ℕ → Type 0) (none : P [])
    (whole : (part : List ℕ) → All (λ c. c ≢ 10) part → part ≢ [] → P part)
    (more : (front rest : List ℕ) → All (λ c. c ≢ 10) front → P rest → P (front ++ 10 ∷ rest)) where
  lines-past : (front text : List ℕ) → All (λ c. c ≢ 10) front → P (front ++ text)
  lines-past [] [] lacks = none
  lines-past (d ∷ front) [] lacks = subst P (sym (append-nil (d ∷ front))) (whole (d ∷ front) lacks (λ is. cc))
  lines-past front (c ∷ cs) lacks = elim (cases_Bool (is_feed c)) [
    | inl feed ↦ subst (λ b. P (front ++ b ∷ cs)) (sym (eqb-true c 10 feed)) (more front cs lacks (lines-past [] cs (All-nil (λ c. c ≢ 10))))
    | inr other ↦ subst P (append_assoc front (c ∷ []) cs) (lines-past (front ++ c ∷ []) cs
        (All-append (λ c. c ≢ 10) front (c ∷ []) lacks (All-cons (λ c. c ≢ 10) c [] (eqb-false c 10 other) (All-nil (λ c. c ≢ 10)))))
  ]

  pub by-lines : (text : List ℕ) → P text
  by-lines text = lines-past [] text (All-nil (λ c. c ≢ 10))

-- no line feed is at the end of a text that has none
pub last-free : (part : List ℕ) → All (λ c. c ≢ 10) part → part ≢ [] → (last part == 10) ≡ false
last-free part lacks some = search (rules, arith, ne_eqb, some_from_nonempty)

-- ---- what is made of each line, with a line feed between each two, and the last one's

abbrev pub made_of : (List ℕ → List ℕ) → EndedLine → List ℕ
made_of f l = f l.line ++ cond (is_some l.ending) (10 ∷ []) []

abbrev pub joined_of : (List ℕ → List ℕ) → List ℕ → List ℕ
joined_of f text = join_with_byte 10 (map f (lines text)) ++ cond (last text == 10) (10 ∷ []) []

lines-some : (c : ℕ) (cs : List ℕ) → 0 < length (lines (c ∷ cs))
lines-some c cs =
    some (ended_lines (c ∷ cs)) (ended_parts-flat (c ∷ cs)) (ended_lines-texts (c ∷ cs))
  where
    some : (es : List EndedLine) → flat_map (λ part. part) (map with_ending es) ≡ c ∷ cs
        → texts_of es ≡ lines (c ∷ cs) → 0 < length (lines (c ∷ cs))
    some [] is texts = absurd (cc is)
    some (e ∷ es) is texts = rw (← texts) (omega arith)

join-more : (x : List ℕ) (xs : List (List ℕ)) → 0 < length xs
    → join_with_byte 10 (x ∷ xs) ≡ x ++ 10 ∷ join_with_byte 10 xs
join-more x [] some = absurd (omega arith)
join-more x (y ∷ xs) some = refl

-- one line more in front
made-more : (f : List ℕ → List ℕ) (line front rest : List ℕ)
    → join_with_byte 10 (f line ∷ map f (lines rest))
    ++ cond (last (front ++ 10 ∷ rest) == 10) (10 ∷ []) [] ≡ (f line ++ 10 ∷ []) ++ joined_of f rest
made-more f line front [] = rw last-push (sym (append-nil (f line ++ 10 ∷ [])))
made-more f line front (d ∷ ds) =
    search (rules, arith, join-more, length-map, lines-some, last-append, last-cons, append_assoc)

pub lines-made : (f : List ℕ → List ℕ) (text : List ℕ)
    → joined_of f text ≡ flat_map (made_of f) (ended_lines text)
lines-made f = by-lines (λ text. joined_of f text ≡ flat_map (made_of f) (ended_lines text)) refl
    (λ part lacks some.
    rw (ended_lines-whole part lacks some, lines-whole part lacks some, last-free part lacks some)
    (simp append-nil))
    (λ front rest lacks is.
    let line = strip_carriage_return front in
    rw (ended_lines-front front rest lacks, lines-front front rest lacks)
    (made-more f line front rest ∙ ap (λ l. (f line ++ 10 ∷ []) ++ l) is))
