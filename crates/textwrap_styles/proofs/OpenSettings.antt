-- Which settings a later one takes back, by their kinds, and what holds of those that are open.
use Rattle.std.{proofs.lemmas.{List.Folds.list_any-append, Slice.Eq.bytes_eq-Decides}, specs.Str.bytes_eq}
use Rattle.textwrap_styles.proofs.Common.{in_effect, Kind, kind_of, latest, open_settings, Reset}
use Rattle.textwrap_styles.specs.Settings.{is_unknown, number, replaces, takes_back}
use Rattle.textwrap_text.proofs.Common.{[], ℕ, ◌&&◌, ◌++◌, ◌<◌, ◌==◌, ◌||◌, ◌∙◌, ◌∷◌, ◌≡◌, after_last, All}
use Rattle.textwrap_text.proofs.Common.{All-append, All-cons, All-drop, All-head, All-nil, All-tail, ap}
use Rattle.textwrap_text.proofs.Common.{append-nil, append_assoc, arith, Bool, Bor, cases_Bool, cond}
use Rattle.textwrap_text.proofs.Common.{cond_both, false, filter, fold, List, list_any, map, nat_tests, not}
use Rattle.textwrap_text.proofs.{Common.{refl, rules, sym, true}, Lists.Parts.after_last-push}

pub unknown-number : (k : Kind) → is_unknown k ≡ (number k == 18)
unfolding is_unknown number
unknown-number _ = grind (arith, cases_Bool, nat_tests)

pub known-below : (k : Kind) → is_unknown k ≡ false → number k < 18
unfolding is_unknown number
known-below _ known = grind (arith, cases_Bool, nat_tests)

-- two kinds take back one that is known, if these are its own and its end
pub any-known : (k end : Kind) → is_unknown k ≡ false → is_unknown end ≡ false
    → ((j : Kind) → takes_back j k ≡ ((number j == number k) || (number j == number end)))
    → (later : List (List ℕ)) → list_any (λ t. not (is_unknown (kind_of t)) && takes_back (kind_of t) k) later
    ≡ (list_any (λ t. number (kind_of t) == number k) later
    || list_any (λ t. number (kind_of t) == number end) later)
any-known k end known too takes [] = refl
any-known k end known too takes (t ∷ later) =
    let rest = any-known k end known too takes later in
    grind (arith, cases_Bool, nat_tests, rest, takes (kind_of t), unknown-number, known-below)

-- one that is unknown is taken back by the same
pub any-unknown : (s : List ℕ) (later : List (List ℕ)) → is_unknown (kind_of s) ≡ true
    → list_any (λ t. replaces t s) later ≡ list_any (λ t. is_unknown (kind_of t) && bytes_eq t s) later
unfolding replaces takes_back number
any-unknown s [] unknown = refl
any-unknown s (t ∷ later) unknown =
    grind (arith, cases_Bool, nat_tests, unknown-number, any-unknown s later unknown)

pub any-replaces : (s : List ℕ) (later : List (List ℕ)) → is_unknown (kind_of s) ≡ false
    → list_any (λ t. replaces t s) later
    ≡ list_any (λ t. not (is_unknown (kind_of t)) && takes_back (kind_of t) (kind_of s)) later
unfolding replaces
any-replaces s [] known = refl
any-replaces s (t ∷ later) known =
    grind (arith, cases_Bool, nat_tests, bytes_eq-Decides t s, any-replaces s later known)

-- the texts of a list
abbrev pub texts : List (Bor (List ℕ)) → List (List ℕ)
texts ss = map (λ s. s.now) ss

-- ---- what is so after some sequences, where a step says what is so after one more

pub after-more : (now : List (List ℕ) → List (List ℕ)) (next : List (List ℕ) → List ℕ → List (List ℕ))
    → ((before : List (List ℕ)) (s : List ℕ) → now (before ++ s ∷ []) ≡ next (now before) s)
    → (before more : List (List ℕ)) → now (before ++ more) ≡ fold next (now before) more
after-more now next push before [] = ap now (append-nil before)
after-more now next push before (s ∷ more) =
    search (rules, arith, after-more now next push (before ++ s ∷ []) more, append_assoc)

-- those that this setting does not take back
abbrev pub not_replaced : List ℕ → List (List ℕ) → List (List ℕ)
not_replaced t ss = filter (λ s. not (replaces t s)) ss

pub latest-push : (ss : List (List ℕ)) (t : List ℕ)
    → latest (ss ++ t ∷ []) ≡ not_replaced t (latest ss) ++ t ∷ []
latest-push [] t = refl
latest-push (s ∷ ss) t = grind (arith, cases_Bool, nat_tests, latest-push ss t, list_any-append)

pub none-latest : (test : List ℕ → Bool) (ss : List (List ℕ)) → list_any test ss ≡ false
    → list_any test (latest ss) ≡ false
none-latest test [] none = refl
none-latest test (s ∷ ss) none = grind (arith, cases_Bool, none-latest test ss)

latest-again : (ss : List (List ℕ)) → latest (latest ss) ≡ latest ss
latest-again [] = refl
latest-again (s ∷ ss) = grind (arith, cases_Bool, nat_tests, latest-again ss, none-latest)

none-in_effect : (test : List ℕ → Bool) (ss : List (List ℕ)) → list_any test ss ≡ false
    → list_any test (in_effect ss) ≡ false
none-in_effect test [] none = refl
none-in_effect test (s ∷ ss) none = grind (arith, cases_Bool, none-in_effect test ss)

in_effect-again : (ss : List (List ℕ)) → in_effect (in_effect ss) ≡ in_effect ss
in_effect-again [] = refl
in_effect-again (s ∷ ss) = grind (arith, cases_Bool, in_effect-again ss)

-- those that some test lets pass, and one more
in_effect-filter : (p : List ℕ → Bool) (t : List ℕ) (ss : List (List ℕ))
    → in_effect (filter p (in_effect ss) ++ t ∷ []) ≡ in_effect (filter p ss ++ t ∷ [])
in_effect-filter p t [] = refl
in_effect-filter p t (s ∷ ss) = grind (arith, cases_Bool, in_effect-filter p t ss)

-- the latest of those in effect are all
pub latest-in_effect : (ss : List (List ℕ)) → latest (in_effect (latest ss)) ≡ in_effect (latest ss)
latest-in_effect [] = refl
latest-in_effect (s ∷ ss) =
    search (rules, arith, latest-in_effect ss, latest-again, none-latest, none-in_effect)

-- ---- what is open with one more, and with any more

abbrev pub resets : List ℕ → Bool
resets s = number (kind_of s) == number Reset

-- what is in effect with one more
abbrev pub with_setting : List (List ℕ) → List ℕ → List (List ℕ)
with_setting now t = in_effect (not_replaced t now ++ t ∷ [])

abbrev pub next_settings : List (List ℕ) → List ℕ → List (List ℕ)
next_settings now t = cond (resets t) [] (with_setting now t)

pub effect-push : (ss : List (List ℕ)) (t : List ℕ)
    → in_effect (latest (ss ++ t ∷ [])) ≡ with_setting (in_effect (latest ss)) t
effect-push ss t = grind (arith, cases_Bool, nat_tests, latest-push, in_effect-filter)

-- those in effect are in effect
pub effect-again : (ss : List (List ℕ)) → in_effect (latest (in_effect (latest ss))) ≡ in_effect (latest ss)
effect-again ss = ap in_effect (latest-in_effect ss) ∙ in_effect-again (latest ss)

pub open_settings-push : (before : List (List ℕ)) (t : List ℕ)
    → open_settings (before ++ t ∷ []) ≡ next_settings (open_settings before) t
open_settings-push before t = grind (arith, cases_Bool, nat_tests, effect-push, after_last-push)

-- ---- what is open is open again

abbrev pub Sets : List ℕ → Type 0
Sets s = resets s ≡ false

pub all-latest : (P : List ℕ → Type 0) (ss : List (List ℕ)) → All P ss → All P (latest ss)
all-latest P [] all = all
all-latest P (s ∷ ss) all =
    search (rules, arith, all-latest P ss (All-tail P s ss all), All-tail, All-cons, All-head)

all-in_effect : (P : List ℕ → Type 0) (ss : List (List ℕ)) → All P ss → All P (in_effect ss)
all-in_effect P [] all = all
all-in_effect P (s ∷ ss) all =
    search (rules, arith, all-in_effect P ss (All-tail P s ss all), All-tail, All-cons, All-head)

-- what holds of all settings holds of those that are open
pub all-open : (P : List ℕ → Type 0) (before : List (List ℕ)) → All P before → All P (open_settings before)
all-open P before all = search (rules, arith, all-in_effect, all-latest, All-drop)

-- since all were taken back, none takes back all
abbrev pub next_left : List (List ℕ) → List ℕ → List (List ℕ)
next_left ss t = cond (resets t) [] (ss ++ t ∷ [])

pub left-after : (before : List (List ℕ)) → after_last resets before ≡ fold next_left [] before
left-after before = after-more (after_last resets) next_left (after_last-push resets) [] before

pub all-since : (before : List (List ℕ)) → All Sets (after_last resets before)
all-since before = rw (left-after before) (since before [] (All-nil Sets))
  where
    since : (more ss : List (List ℕ)) → All Sets ss → All Sets (fold next_left ss more)
    since [] ss are = are
    since (t ∷ more) ss are =
        since more (next_left ss t) (cond_both (resets t) [] (ss ++ t ∷ []) (All Sets) (λ is. All-nil Sets)
        (λ is. All-append Sets ss (t ∷ []) are (All-cons Sets t [] is (All-nil Sets))))

pub all-set : (before : List (List ℕ)) → All Sets (open_settings before)
all-set before = search (rules, all-in_effect, all-latest, all-since)

set-again : (first more : List (List ℕ)) → All Sets more
    → fold next_settings (in_effect (latest first)) more ≡ in_effect (latest (first ++ more))
set-again first [] are = ap (λ ss. in_effect (latest ss)) (sym (append-nil first))
set-again first (t ∷ more) are =
    let others = set-again (first ++ t ∷ []) more (All-tail Sets t more are) in
    grind (arith, append_assoc, effect-push first t, All-head Sets t more are, others)

-- where none was open, and these are set anew
pub settings-again : (front before : List (List ℕ)) → open_settings front ≡ []
    → open_settings (front ++ open_settings before) ≡ open_settings before
settings-again front before none =
    let more = after-more open_settings next_settings open_settings-push front (open_settings before) in
    grind (arith, more, none, set-again [] (open_settings before) (all-set before), effect-again)
