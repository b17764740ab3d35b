-- Lists and their parts: slices, what a list begins and ends with, and lists of parts.
use Rattle.textwrap_text.proofs.Common.{false_from_ne_true, starts_with_of_append, take-append-drop}
use Rattle.textwrap_text.proofs.Common.{All, common_prefix_len, drop-append-add, get_or_append_left}
use Rattle.textwrap_text.proofs.Common.{get_or-drop, length-append, position_or_len, reverse-append}
use Rattle.textwrap_text.proofs.Common.{append_assoc, get_or, get_or_push, length-drop, length-take}
use Rattle.textwrap_text.proofs.Common.{drop_at, length_push, slice_index, slice_range, starts_with}
use Rattle.textwrap_text.proofs.Common.{after_last, cases_Bool, onto_first, prefix_len, StartsWith}
use Rattle.textwrap_text.proofs.Common.{Bool, drop-drop, drop_more, ends_with, eqb-false, nat_tests}
use Rattle.textwrap_text.proofs.Common.{All-drop, All-take, drop_all, take-take, take_at, take_more}
use Rattle.textwrap_text.proofs.Common.{arith, flat_map, length, list_any, nat_eq, nat_lt, take-add}
use Rattle.textwrap_text.proofs.Common.{[], cond, drop, false, last, List, refl, rules, subst, take}
use Rattle.textwrap_text.proofs.Common.{sym, true, zip, ℕ, ◌++◌, ◌+◌, ◌-◌, ◌<◌, ◌==◌, ◌∙◌, ◌∷◌, ◌≡◌}
use Rattle.textwrap_text.proofs.Common.{ap, ◌≢◌, ◌≤◌, Bor, Option, None, Some}
use Rattle.std.specs.Option.{MatchOption}
use Rattle.std.proofs.lemmas.List.{drop-append-le, drop-take, get_or-append_right, Prefix.end_rest}
use Rattle.std.proofs.lemmas.Slice.Eq.{bytes_eq-Decides}
use Rattle.std.specs.Str.Pattern.{FindsTextPrefix, FindsTextSuffix, StripsPrefix, StripsSuffix}

-- ---- lists and their parts: slices, the last elements, and lists of parts

-- a list is cut in one way into parts of given lengths
pub same_parts : {X : Type 0} (xs ys rest others : List X) → xs ++ rest ≡ ys ++ others
    → length xs ≡ length ys → (xs ≡ ys) × (rest ≡ others)
same_parts xs ys rest others same len = (
  sym (take_at xs rest (length xs) refl) ∙ ap (take (length xs)) same
      ∙ take_at ys others (length xs) (sym len),
  sym (drop_at xs rest (length xs) refl) ∙ ap (drop (length xs)) same
      ∙ drop_at ys others (length xs) (sym len),
)

-- what follows a list that makes nothing is nothing
pub nil_after : {X : Type 0} (xs ys : List X) → [] ≡ xs ++ ys → ys ≡ []
nil_after [] ys e = sym e
nil_after (x ∷ xs) ys e = cc

pub some_from_nonempty : {X : Type 0} (xs : List X) → xs ≢ [] → 0 < length xs
some_from_nonempty [] some = absurd (some refl)
some_from_nonempty (x ∷ xs) some = omega arith

pub slice_push : {X : Type 0} (xs : List X) (i k : ℕ) (d : X) → i ≤ k → k < length xs
    → slice_range xs i (k + 1) ≡ slice_range xs i k ++ get_or xs k d ∷ []
slice_push xs i k d h l =
    let at : i + (k - i) ≡ k = omega arith in grind (arith, length-drop, take_more, get_or-drop)

-- the first j are the first i and what lies between
pub take_slice : {X : Type 0} (xs : List X) (i j : ℕ) → i ≤ j
    → take j xs ≡ take i xs ++ slice_range xs i j
take_slice xs i j h =
    let at : i + (j - i) ≡ j = omega arith in ap (λ n. take n xs) (sym at) ∙ take-add i (j - i) xs

pub length-slice : {X : Type 0} (xs : List X) (i j : ℕ) → j ≤ length xs
    → length (slice_range xs i j) ≡ j - i
length-slice xs i j l = length-take (j - i) (drop i xs) ∙ (let e = length-drop i xs in omega arith)

pub from_start : (text : List ℕ) (n : ℕ) → slice_range text 0 n ≡ take n text
from_start text n = let same : n - 0 ≡ n = omega arith in ap (λ k. take k text) same

pub lines-next : (ls : List (List ℕ)) (n : ℕ) (line : List ℕ) → n < length ls
    → line ≡ get_or ls n line → drop n ls ≡ line ∷ drop (n + 1) ls
lines-next ls n line within is = drop_more ls n line within ∙ ap (λ l. l ∷ drop (n + 1) ls) (sym is)

abbrev pub last_but_one : List ℕ → ℕ
last_but_one cs = slice_index cs (length cs - 2)

pub last-cons : (c d : ℕ) (cs : List ℕ) → last (c ∷ d ∷ cs) ≡ last (d ∷ cs)
last-cons c d cs = grind arith

pub last-append : (text more : List ℕ) → 0 < length more → last (text ++ more) ≡ last more
last-append text more some = search (rules, length-append, get_or-append_right)

pub last-push : (front : List ℕ) (c : ℕ) → last (front ++ c ∷ []) ≡ c
last-push front c = search (rules, arith, length_push, get_or_push)

pub last_but_one-push : (front : List ℕ) (b c : ℕ) → last_but_one ((front ++ b ∷ []) ++ c ∷ []) ≡ b
last_but_one-push front b c = grind (arith, length_push, get_or_append_left, get_or_push)

-- elements with which a list begins
abbrev pub Begins : {X : Type 0} → List X → List X → Type 0
Begins {X} xs front = (rest : List X) × (front ++ rest ≡ xs)

abbrev pub flat : {X : Type 0} → List (List X) → List X
flat parts = flat_map (λ part. part) parts

pub flat-onto_first : {X : Type 0} (x : X) (parts : List (List X))
    → flat (onto_first x parts) ≡ x ∷ flat parts
flat-onto_first x [] = refl
flat-onto_first x (part ∷ parts) = refl

-- the parts, where a list stands before the first
abbrev pub onto_front : {X : Type 0} → List X → List (List X) → List (List X)
onto_front before [] = before ∷ []
onto_front before (part ∷ parts) = (before ++ part) ∷ parts

pub onto_front-onto_first : {X : Type 0} (before : List X) (x : X) (parts : List (List X))
    → onto_front before (onto_first x parts) ≡ onto_front (before ++ x ∷ []) parts
onto_front-onto_first before x [] = refl
onto_front-onto_first before x (part ∷ parts) = search (rules, arith, append_assoc)

pub onto_front-nil : {X : Type 0} (parts : List (List X)) → 0 < length parts
    → onto_front [] parts ≡ parts
onto_front-nil [] some = absurd (omega arith)
onto_front-nil (part ∷ parts) some = refl

pub onto_first-some : (c : ℕ) (parts : List (List ℕ)) → 0 < length (onto_first c parts)
onto_first-some c [] = omega arith
onto_first-some c (part ∷ parts) = omega arith

pub onto_first-length : (c : ℕ) (parts : List (List ℕ))
    → length (onto_first c parts) ≤ length parts + 1
onto_first-length c [] = omega arith
onto_first-length c (part ∷ parts) = omega arith

pub onto_first-append : (c : ℕ) (ps qs : List (List ℕ)) → 0 < length ps
    → onto_first c (ps ++ qs) ≡ onto_first c ps ++ qs
onto_first-append c [] qs some = absurd (omega arith)
onto_first-append c (p ∷ ps) qs some = refl

pub all-left : {X : Type 0} (P : X → Type 0) (xs ys : List X) → All P (xs ++ ys) → All P xs
all-left P xs ys all = subst (All P) (take_at xs ys (length xs) refl)
    (All-take P (length xs) (xs ++ ys) all)

pub all-right : {X : Type 0} (P : X → Type 0) (xs ys : List X) → All P (xs ++ ys) → All P ys
all-right P xs ys all = subst (All P) (drop_at xs ys (length xs) refl)
    (All-drop P (length xs) (xs ++ ys) all)

-- ---- slices of a list, cut again and joined

pub slice-nil : {X : Type 0} (xs : List X) (i : ℕ) → slice_range xs i i ≡ []
slice-nil xs i = let none : i - i ≡ 0 = omega arith in ap (λ n. take n (drop i xs)) none

-- a part from an inner place on
pub slice_after : {X : Type 0} (xs : List X) (i j k : ℕ) → i ≤ j → j ≤ k
    → drop (j - i) (slice_range xs i k) ≡ slice_range xs j k
slice_after xs i j k up then =
    let all : (j - i) + (k - j) ≡ k - i = omega (arith, up, then) in
    grind (arith, drop-take, drop-drop)

-- and up to it
pub slice_before : {X : Type 0} (xs : List X) (i j k : ℕ) → j ≤ k
    → take (j - i) (slice_range xs i k) ≡ slice_range xs i j
slice_before xs i j k then = take-take (j - i) (k - i) (drop i xs) (omega (arith, then))

pub slices_joined : {X : Type 0} (xs : List X) (i j k : ℕ) → i ≤ j → j ≤ k
    → slice_range xs i k ≡ slice_range xs i j ++ slice_range xs j k
slices_joined xs i j k up then = sym (take-append-drop (j - i) (slice_range xs i k))
    ∙ ap (λ l. l ++ drop (j - i) (slice_range xs i k)) (slice_before xs i j k then)
    ∙ ap (λ l. slice_range xs i j ++ l) (slice_after xs i j k up then)

-- ---- what lists begin with

-- what begins with two parts, one after the other
pub starts-parts : (xs first next : List ℕ) → StartsWith xs (first ++ next)
    → StartsWith xs first × StartsWith (drop (length first) xs) next
starts-parts xs first next starts =
    let rest = drop (length (first ++ next)) xs in
    let whole : xs ≡ first ++ (next ++ rest) =
    sym (take-append-drop (length (first ++ next)) xs) ∙ ap (λ l. l ++ rest) starts
    ∙ append_assoc first next rest in grind (arith, starts_with_of_append, drop_at)

pub starts-head : (x y : ℕ) (xs ys : List ℕ) → StartsWith (x ∷ xs) (y ∷ ys) → x ≡ y
starts-head x y xs ys is = ap (λ l. get_or l 0 0) is

pub starts-tail : (x y : ℕ) (xs ys : List ℕ) → StartsWith (x ∷ xs) (y ∷ ys) → StartsWith xs ys
starts-tail x y xs ys is = ap (drop 1) is

pub starts-cons : (x y : ℕ) (xs ys : List ℕ) → x ≡ y → StartsWith xs ys
    → StartsWith (x ∷ xs) (y ∷ ys)
starts-cons x y xs ys same is = ap (λ l. x ∷ l) is ∙ ap (λ z. z ∷ ys) same

pub nothing-starts : (y : ℕ) (ys : List ℕ) → StartsWith [] (y ∷ ys) → ⊥
nothing-starts y ys is = omega (arith, ap length is)

pub longest-step : (c d e : ℕ) (rest other : List ℕ) (b : Bool) → (c == d) ≡ b → c ≡ e → e ≡ d
    → StartsWith rest other → StartsWith (cond b (c ∷ rest) []) (e ∷ other)
longest-step c d e rest other true is first second more = starts-cons c e rest other first more
longest-step c d e rest other false is first second more = search (rules, arith, eqb-false)

pub starts_with-true : (ending xs rest : List ℕ) → xs ≡ ending ++ rest
    → starts_with nat_eq xs ending ≡ true
starts_with-true ending xs rest is = search (rules, arith, bytes_eq-Decides, take_at)

pub starts_with-rest : (ending xs : List ℕ) → starts_with nat_eq xs ending ≡ true
    → xs ≡ ending ++ drop (length ending) xs
starts_with-rest ending xs starts = grind (arith, take-append-drop, bytes_eq-Decides)

pub starts_with-false : (ending xs : List ℕ) → ((rest : List ℕ) → xs ≢ ending ++ rest)
    → starts_with nat_eq xs ending ≡ false
starts_with-false ending xs lacks = false_from_ne_true (starts_with nat_eq xs ending)
    (λ starts. lacks (drop (length ending) xs) (starts_with-rest ending xs starts))

-- what is left of a text without a start is what follows it, if it begins so
pub without-start : (start text : List ℕ) (r : Option (Bor (List ℕ)))
    → MatchOption r (FindsTextPrefix start text None)
    (λ x. StripsPrefix (FindsTextPrefix start) text x.now)
    → MatchOption r (starts_with nat_eq text start ≡ false)
    (λ x. (starts_with nat_eq text start ≡ true) × (x.now ≡ drop (length start) text))
without-start start text None lacks = starts_with-false start text lacks
without-start start text (Some x) strips = (
  starts_with-true start text (drop strips.0 text) strips.1.1,
  strips.2 ∙ ap (λ n. drop n text) strips.1.0,
)

-- what follows an ending at the front
pub drop-ending : (ending : List ℕ) (c : ℕ) (cs : List ℕ) → 0 < length ending
    → drop (length ending) (c ∷ cs) ≡ drop (length ending - 1) cs
drop-ending [] c cs some = absurd (omega arith)
drop-ending (e ∷ es) c cs some = search (rules, arith)

pub zip-common : (xs ys : List ℕ)
    → prefix_len (λ p. nat_eq p.0 p.1) (zip xs ys) ≡ common_prefix_len nat_eq xs ys
zip-common [] ys = refl
zip-common (x ∷ xs) [] = refl
zip-common (x ∷ xs) (y ∷ ys) = ap (λ n. cond (nat_eq x y) (1 + n) 0) (zip-common xs ys)

-- ---- what lists begin with and end with

pub stripped_prefix : (start text rest : List ℕ) → StripsPrefix (FindsTextPrefix start) text rest
    → text ≡ start ++ rest
stripped_prefix start text rest strips = strips.1.1 ∙ ap (λ l. start ++ l) (sym strips.2)

-- a test finds an element just where the first that passes has a place
pub any-position : (test : ℕ → Bool) (xs : List ℕ)
    → list_any test xs ≡ nat_lt (position_or_len test xs) (length xs)
any-position test [] = refl
any-position test (x ∷ xs) = grind (arith, nat_tests, cases_Bool, any-position test xs)

pub stripped_suffix : (ending text front : List ℕ) → StripsSuffix (FindsTextSuffix ending) text front
    → text ≡ front ++ ending
stripped_suffix ending text front strips = strips.1.1 ∙ ap (λ l. l ++ ending) (sym strips.2)

pub ends_with-true : (ending xs front : List ℕ) → xs ≡ front ++ ending
    → ends_with nat_eq xs ending ≡ true
ends_with-true ending xs front is = grind (arith, bytes_eq-Decides, end_rest)

pub ends_with-front : (ending xs : List ℕ) → ends_with nat_eq xs ending ≡ true
    → xs ≡ take (length xs - length ending) xs ++ ending
ends_with-front ending xs ends = grind (arith, take-append-drop, bytes_eq-Decides)

-- an ending that what follows a beginning has room for, and lacks
pub ends_with-after : (front rest ending : List ℕ) → length ending ≤ length rest
    → ((before : List ℕ) → rest ≢ before ++ ending) → ends_with nat_eq (front ++ rest) ending ≡ false
ends_with-after front rest ending fits lacks =
    let at : length (front ++ rest) - length ending ≡ length front + (length rest - length ending) =
    omega (arith, length-append front rest) in
    rw (at, drop-append-add front rest (length rest - length ending))
    (false_from_ne_true (ends_with nat_eq rest ending)
    (λ ends. lacks (take (length rest - length ending) rest) (ends_with-front ending rest ends)))

-- a byte, where another one stands at the end
pub ends_with-other : (xs front : List ℕ) (c d : ℕ) → c ≢ d → xs ≡ front ++ c ∷ []
    → ends_with nat_eq xs (d ∷ []) ≡ false
ends_with-other xs front c d differ is = false_from_ne_true (ends_with nat_eq xs (d ∷ [])) (λ ends.
    differ (sym (last-push front c) ∙ ap last (sym is ∙ ends_with-front (d ∷ []) xs ends)
    ∙ last-push (take (length xs - 1) xs) d))

-- ---- what stands after the last element that passes a test, and the last element, where one
-- more is put at the end

pub after_last-push : {X : Type 0} (p : X → Bool) (xs : List X) (x : X)
    → after_last p (xs ++ x ∷ []) ≡ cond (p x) [] (after_last p xs ++ x ∷ [])
after_last-push p xs x =
    grind (arith, cases_Bool, reverse-append, drop-append-le, length-append, drop_all)

-- the last element of a list, as a list
pub last_one-push : {X : Type 0} (xs : List X) (x : X)
    → drop (length (xs ++ x ∷ []) - 1) (xs ++ x ∷ []) ≡ x ∷ []
last_one-push xs x = search (rules, arith, drop_at, length-append)
