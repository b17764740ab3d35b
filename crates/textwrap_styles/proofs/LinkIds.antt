-- A link that is set anew with an id: it is a link to the same target, and one sequence.
use lib.Utf8.{encode}
use Rattle.std.proofs.lemmas.{Fmt.{decimal_is_IsNumeral, length-decimal-le}, List.Elements.All-from_get_or}
use Rattle.std.proofs.lemmas.{List.Folds.{list_all-append, list_any-append}, Str.Ascii.IsAscii-from_all}
use Rattle.std.proofs.lemmas.{List.Sums.{AllPass-from_list_all, list_all-from_AllPass}, Str.Parse.digit_at}
use Rattle.std.specs.{Fmt.decimal, List.{after_first, concat}, Str.{chars, IsAscii}}
use Rattle.textwrap_styles.proofs.Common.{is_in_range, is_link, is_style, open_link}
use Rattle.textwrap_styles.proofs.{LinkParameters.id-begins, SequenceTexts.{IsSequence, unit-sequence}}
use Rattle.textwrap_styles.proofs.Sequences.{around-bell, around-terminator, bell, IsAround, link-no_style}
use Rattle.textwrap_styles.proofs.Sequences.{link_start, not_link, open_link-cases, terminator}
use Rattle.textwrap_styles.specs.Penned.{with_link}
use Rattle.textwrap_styles.specs.Styles.{id_before, link_target, names_id, reopened_link, with_id}
use Rattle.textwrap_text.proofs.Common.{◌&&◌, ◌+◌, ◌++◌, ◌-◌, ◌<◌, ◌==◌, [], ◌^◌, All, All-cons}
use Rattle.textwrap_text.proofs.Common.{All-nil, All-weaker, ap, append-nil, append_assoc, arith, Bool}
use Rattle.textwrap_text.proofs.Common.{cases_Bool, chars-append, chars-IsAscii, codes, cond, cond_both, drop}
use Rattle.textwrap_text.proofs.Common.{drop_at, ends_with, escape, escape_len, false, filter, filter-append}
use Rattle.textwrap_text.proofs.Common.{fold, inl, inr, IsUtf8, IsUtf8-append, IsUtf8-drop, IsUtf8-from_ascii}
use Rattle.textwrap_text.proofs.Common.{length, length-append, length-take, List, list_all, map, nat_eq}
use Rattle.textwrap_text.proofs.Common.{nat_tests, not, refl, starts_with, subst, sym, take, take_at}
use Rattle.textwrap_text.proofs.Common.{true, true≢false, units, Visible, ℕ, ◌↔◌, ◌∙◌, ◌∷◌, ◌≡◌, ◌≤◌, ⊤}
use Rattle.textwrap_text.proofs.Lists.Parts.{ends_with-front, ends_with-true, starts_with-rest}
use Rattle.textwrap_text.proofs.{Texts.StartsWith-boundary, Units.Texts.units_unique}
use Rattle.textwrap_text.specs.{LentText.as_len, Units.{command_len, ends, IsInUnits, IsWhole, Sequence}}
use Rattle.textwrap_words.proofs.Word.Breaking.{units_past-skip}

-- a character that ends neither parameters nor a command
abbrev is_plain : ℕ → Bool
is_plain c = is_in_range 0x30 0x7F c && not (c == 0x3B)

abbrev ArePlain : List ℕ → Type 0
ArePlain cs = list_all is_plain cs ≡ true

digits-plain : (n : ℕ) → n < 2 ^ 64 → ArePlain (decimal n)
digits-plain n fits =
    list_all-from_AllPass is_plain (decimal n)
    (All-from_get_or (λ c. is_plain c ≡ true) (decimal n) 0 (λ i below.
    grind (arith, cases_Bool, nat_tests, digit_at (decimal n) i (decimal_is_IsNumeral n fits).0.1 below)))

-- what stands behind its number
abbrev colon : List ℕ → List ℕ
colon fields = cond (starts_with nat_eq fields (codes ";")) [] (codes ":")

id-plain : (n : ℕ) (fields : List ℕ) → n < 2 ^ 64 → ArePlain (id_before n fields)
id-plain n fields fits =
    grind (arith, cases_Bool, list_all-append is_plain (decimal n) (colon fields), digits-plain n fits)

id-len : (n : ℕ) (fields : List ℕ) → n < 2 ^ 64 → length (id_before n fields) ≤ 25
id-len n fields fits =
    let digits = length-decimal-le 20 n (omega arith) (omega arith) fits in
    let few : length (colon fields) ≤ 1 = grind (arith, cases_Bool) in
    omega (arith, digits, few, length-append (decimal n) (colon fields))

-- ---- the link with an id

-- what follows the start of a link
link-rest : (s : List ℕ) → is_link s ≡ true → s ≡ link_start ++ drop 4 s
link-rest s is = starts_with-rest link_start s (grind (arith, cases_Bool, is))

pub with_id-is : (n : ℕ) (link fields : List ℕ) → link ≡ link_start ++ fields
    → with_id n link ≡ cond (names_id fields) link (link_start ++ id_before n fields ++ fields)
unfolding with_id
with_id-is n link fields is = rw is refl

-- what holds of a link with an id of its own, and of one that gets this one
with-id : (P : List ℕ → Type 0) (n : ℕ) (s : List ℕ) → is_link s ≡ true
    → (names_id (drop 4 s) ≡ true → P s) → P (link_start ++ id_before n (drop 4 s) ++ drop 4 s)
    → P (with_id n s)
with-id P n s is own new =
    rw (with_id-is n s (drop 4 s) (link-rest s is)) (cond_both (names_id (drop 4 s)) s _ P own (λ _. new))

after-plain : (xs fields : List ℕ) → ArePlain xs
    → after_first (λ c. c == 0x3B) (xs ++ fields) ≡ after_first (λ c. c == 0x3B) fields
after-plain [] fields all = refl
after-plain (x ∷ xs) fields all = grind (arith, cases_Bool, nat_tests, after-plain xs fields)

-- the fields of a link, before whichever end
link-shape : (s : List ℕ) → is_link s ≡ true → (fields : List ℕ) × (ending : List ℕ)
    × ((fs : List ℕ) → IsAround (link_start ++ (fs ++ ending)) fs) × (drop 4 s ≡ fields ++ ending)
link-shape s is =
    let rest = drop 4 s in
    elim (cases_Bool (ends_with nat_eq rest bell)) [
      | inl rings ↦ (take (length rest - 1) rest, bell, around-bell, ends_with-front bell rest rings)
      | inr silent ↦ elim (cases_Bool (ends_with nat_eq rest terminator)) [
        | inl ends ↦
            (take (length rest - 2) rest, terminator, around-terminator, ends_with-front terminator rest ends)
        | inr lacks ↦ absurd (true≢false (sym is ∙ ap is_link (link-rest s is) ∙ not_link rest
            (λ before same. true≢false (sym (ends_with-true bell rest before same) ∙ silent))
            (λ before same. true≢false (sym (ends_with-true terminator rest before same) ∙ lacks))))
      ]
    ]

-- it is a link to where it led
set-anew : (n : ℕ) (s : List ℕ) → n < 2 ^ 64 → is_link s ≡ true
    → (is_link (with_id n s) ≡ true) × (link_target (with_id n s) ≡ link_target s)
set-anew n s fits is =
    let (fields, ending, around, shape) = link-shape s is in
    let semicolon : ℕ → Bool = λ c. c == 0x3B in
    let id = id_before n (drop 4 s) in
    let own = subst (λ l. IsAround l fields)
    (sym (link-rest s is ∙ ap (λ l. link_start ++ l) shape)) (around fields) in
    let made = subst (λ l. IsAround (link_start ++ l) (id ++ fields))
    (append_assoc id fields ending ∙ ap (λ l. id ++ l) (sym shape)) (around (id ++ fields)) in
    let any = list_any-append semicolon id fields in
    let after = after-plain id fields (id-plain n (drop 4 s) fits) in
    with-id (λ l. (is_link l ≡ true) × (link_target l ≡ link_target s)) n s is (λ has. (is, refl))
    (grind (arith, cases_Bool, any, is, own.is, made.is), grind (arith, after, own.are, made.are))

-- ---- one sequence

-- plain characters within a command take their places, and no more
command-plain : (b : ℕ) (xs cs : List ℕ) → (b == escape) ≡ false → ArePlain xs
    → command_len b (xs ++ cs) ≡ length xs + command_len 59 cs
command-plain b [] [] other all = refl
command-plain b [] (c ∷ cs) other all = grind (arith, cases_Bool, nat_tests)
command-plain b (x ∷ xs) cs other all = grind (arith, cases_Bool, nat_tests, command-plain x xs cs)

-- a sequence is whole if it ends before a character that follows it
abbrev followed : List ℕ → List ℕ
followed body = body ++ 65 ∷ []

abbrev EndsBefore : List ℕ → Type 0
EndsBefore body = escape_len (followed body) ≡ length body

apart : (body : List ℕ) → IsInUnits (escape ∷ followed body) (Sequence (escape ∷ body) ∷ Visible 65 ∷ [])
    ↔ (Sequence (escape ∷ body) ∷ Visible 65 ∷ [] ≡ units (escape ∷ followed body))
apart body = units_unique (escape ∷ followed body) (Sequence (escape ∷ body) ∷ Visible 65 ∷ [])

whole-ends : (body : List ℕ) → IsWhole (Sequence (escape ∷ body)) → EndsBefore body
whole-ends body whole =
    let n = escape_len (followed body) in
    let are = (apart body).0 (refl, (whole, inl (λ is. omega (arith, is)))) in
    let taken : body ≡ take n (followed body) = cc are in
    omega (arith, ap length taken, length-take n (followed body), length-append body (65 ∷ []))

ends-whole : (body : List ℕ) → EndsBefore body → IsWhole (Sequence (escape ∷ body))
ends-whole body ends =
    let rest = units_past-skip (length body) (followed body)
    ∙ ap units (drop_at body (65 ∷ []) (length body) refl) in
    ((apart body).1 (sym (rw (ends, take_at body (65 ∷ []) (length body) refl, rest) refl))).1.0

link_start-utf8 : IsUtf8 link_start
unfolding encode
link_start-utf8 = (link_start, (refl, refl))

link_start-chars : (rest : List ℕ) → chars (link_start ++ rest) ≡ link_start ++ chars rest
unfolding encode chars
link_start-chars rest = chars-append link_start rest link_start-utf8

id-sequence : (n : ℕ) (s : List ℕ) → n < 2 ^ 64 → is_link s ≡ true → IsSequence s → IsSequence (with_id n s)
id-sequence n s fits is own =
    let rest = drop 4 s in
    let id = id_before n rest in
    let shape = link-rest s is in
    let ascii : IsAscii id = IsAscii-from_all id (All-weaker (λ c. is_plain c ≡ true) (λ b. b < 128)
    (λ c plain. grind (arith, cases_Bool, nat_tests, plain)) id
    (AllPass-from_list_all is_plain id (id-plain n rest fits))) in
    let id_utf8 = IsUtf8-from_ascii id ascii in
    let utf8 = IsUtf8-drop s 4 own.utf8
    (StartsWith-boundary s link_start own.utf8 link_start-utf8 (ap (take 4) shape)) in
    let cs = chars rest in
    let whole : IsWhole (Sequence (link_start ++ cs)) =
    rw (ap chars shape ∙ link_start-chars rest) at own.whole in
    let len = command-plain 59 id (followed cs) refl (id-plain n rest fits) in
    let ends = whole-ends (93 ∷ 56 ∷ 59 ∷ cs) whole in
    with-id IsSequence n s is (λ has. own)
    (unit-sequence (link_start ++ id ++ rest) (link_start ++ (id ++ cs))
    (IsUtf8-append link_start (id ++ rest) link_start-utf8 (IsUtf8-append id rest id_utf8 utf8))
    (link_start-chars (id ++ rest) ∙ ap (λ l. link_start ++ l) (chars-append id rest id_utf8
    ∙ ap (λ l. l ++ cs) (chars-IsAscii id ascii))) (ends-whole (93 ∷ 56 ∷ 59 ∷ id ++ cs)
    (omega (arith, len, ends, length-append id cs, ap (command_len 59) (append_assoc id cs (65 ∷ []))))))

-- ---- the link that is open

abbrev count : List (List ℕ) → ℕ
count before = as_len (length (filter is_link before))

-- what holds of the sequences before makes this hold of the link that is set anew
reopened-all : (Q P : List ℕ → Type 0) (before : List (List ℕ)) → All Q before
    → ((n : ℕ) (s : List ℕ) → n < 2 ^ 64 → is_link s ≡ true → Q s → P (with_id n s))
    → All P (reopened_link before)
reopened-all Q P before all each =
    open_link-cases Q (λ ls. All P (map (with_id (count before)) ls)) before all (All-nil P)
    (λ s is own. All-cons P (with_id (count before) s) [] (each (count before) s (omega arith) is own) (All-nil P))

-- where nothing is asked of them
abbrev Any : List ℕ → Type 0
Any s = ⊤

pub reopened-sequences : (before : List (List ℕ)) → All IsSequence before
    → All IsSequence (reopened_link before)
reopened-sequences before all = reopened-all IsSequence IsSequence before all id-sequence

pub reopened-plain : (before : List (List ℕ)) → All (λ s. is_style s ≡ false) (reopened_link before)
reopened-plain before =
    reopened-all Any (λ s. is_style s ≡ false) before (λ k d within. tt)
    (λ n s fits is _. link-no_style (with_id n s) (set-anew n s fits is).0)

-- it leads where it led
pub reopened-link : (before : List (List ℕ))
    → fold with_link [] (reopened_link before) ≡ fold with_link [] (open_link before)
reopened-link before =
    open_link-cases Any (λ ls. fold with_link [] (map (with_id (count before)) ls) ≡ fold with_link [] ls)
    before (λ k d within. tt) refl (λ s is _.
    let own = set-anew (count before) s (omega arith) is in
    grind (arith, cases_Bool, own.0, own.1, is))

-- and has at most 25 bytes more
pub reopened-len : (before : List (List ℕ))
    → length (concat (reopened_link before)) ≤ length (concat (open_link before)) + 25
reopened-len before =
    let n = count before in
    open_link-cases Any (λ ls. length (concat (map (with_id n) ls)) ≤ length (concat ls) + 25)
    before (λ k d within. tt) (omega arith) (λ s is _.
    with-id (λ l. length (l ++ []) ≤ length (s ++ []) + 25) n s is (λ has. omega arith)
    (let few = simp length-append at (id-len n (drop 4 s) (omega arith)) in
    simp length-append (omega (arith, few, ap length (link-rest s is)))))

pub ids-named : (before : List (List ℕ)) → All (λ s. names_id (drop 4 s) ≡ true) (reopened_link before)
ids-named before =
    reopened-all Any (λ s. names_id (drop 4 s) ≡ true) before (λ k d within. tt) (λ n s fits is _.
    with-id (λ l. names_id (drop 4 l) ≡ true) n s is (λ has. has) (id-begins (id_before n (drop 4 s) ++ drop 4 s)))

pub ids-kept : (before more : List (List ℕ)) → filter is_link more ≡ []
    → reopened_link (before ++ more) ≡ reopened_link before
ids-kept before more none = grind (arith, filter-append, none, append-nil)

-- the link that is kept is a link, and this sets it anew
pub kept-link : (before : List (List ℕ)) (n : ℕ) (link : List ℕ) → link ∷ [] ≡ open_link before
    → n ≡ count before → (is_link link ≡ true) × (concat (reopened_link before) ≡ with_id n link)
kept-link before n link kept number =
    let are = open_link-cases Any (λ ls. (l : List ℕ) → l ∷ [] ≡ ls → is_link l ≡ true) before in
    let is = are (λ k d within. tt) (λ l e. cc) (λ s is _ l e. cc) link kept in
    (is, rw (sym kept, sym number) (append-nil (with_id n link)))
