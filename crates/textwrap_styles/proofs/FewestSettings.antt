-- No fewer settings give a pen than those that are open: each of these changes one field alone.
use Rattle.std.proofs.lemmas.{Bool.true_from_ne_false, Cmp.nat_eq_equiv, Map.Made.length-le_from_is_member}
use Rattle.std.specs.Set.{is_member}
use Rattle.textwrap_styles.proofs.Common.{apply, in_effect, kind_of, latest, open_settings, Pen, plain_pen}
use Rattle.textwrap_styles.proofs.{Common.{plain_rendition, settings_of}, FewStyles.{kinds, kinds-distinct}}
use Rattle.textwrap_styles.proofs.{FewStyles.known, OpenSettings.{all-open, all-set, known-below, resets}}
use Rattle.textwrap_styles.proofs.{OpenSettings.{Sets, unknown-number}, PenCodes.{differs_at, mix-differs}}
use Rattle.textwrap_styles.proofs.{PenCodes.{plain-differs, sets}, PenOpen.{AreLatest, open-latest, open-pen}}
use Rattle.textwrap_styles.proofs.{PenOpen.pen_by, PenSettings.{all-known, many-end}, PenStyles.all-given}
use Rattle.textwrap_styles.proofs.{SettingTexts.IsSetting, WrittenSettings.all-settings}
use Rattle.textwrap_styles.specs.Laws.{NothingIfUnknown, NothingShorterGivesThePen, OpenStylesAreSetters}
use Rattle.textwrap_styles.specs.Settings.{is_end, is_unknown, number, replaces, takes_back}
use Rattle.textwrap_text.proofs.Common.{[], ℕ, ◌&&◌, ◌∙◌, ◌∷◌, ◌≡◌, after_last, All, All-head, All-tail, ap}
use Rattle.textwrap_text.proofs.Common.{arith, cases_Bool, cond, eqb, eqb-true, false, filter, flat_map, inl}
use Rattle.textwrap_text.proofs.Common.{inr, length-map, List, list_any, nat_tests, not, refl, sym, true}
use Rattle.textwrap_text.proofs.Common.{true≢false}

-- ---- the fields of a pen that are not plain

-- a setting that the table knows, or that does nothing
abbrev Told : List ℕ → Type 0
Told t = IsSetting t × NothingIfUnknown t

-- a kind sets its own field, and others only if it ends something
sets-own : (k : ℕ) → sets k k ≡ true
sets-own k = grind (arith, cases_Bool, nat_tests)

-- a field differs after it as it set it, or as before
module _ (t : List ℕ) (told : Told t) (p : Pen) (i : ℕ) where
  changed : differs_at (apply t p) i ≡ cond (not (is_unknown (kind_of t)) && sets (number (kind_of t)) i)
      (differs_at (apply t plain_pen) i) (differs_at p i)
  changed = elim (cases_Bool (is_unknown (kind_of t))) [
    | inl unknown ↦ rw unknown (ap (λ q. differs_at q i) (told.1 unknown p))
    | inr known ↦
        rw (known, (all-known t told.0 known).sets p)
        (mix-differs (sets (number (kind_of t))) (apply t plain_pen) p i)
  ]

  -- it leaves the fields of other kinds plain
  plain-stays : eqb i (number (kind_of t)) ≡ false → differs_at p i ≡ false → differs_at (apply t p) i ≡ false
  plain-stays other plain =
      let end = λ (known : is_unknown (kind_of t) ≡ false). (all-known t told.0 known).ends in
      grind (arith, cases_Bool, changed, end, many-end t told.0, nat_tests, plain-differs i)

-- so settings of other kinds do
run-plain : (ss : List (List ℕ)) (p : Pen) (i : ℕ) → All Told ss
    → is_member eqb (kinds ss) i ≡ false → differs_at p i ≡ false → differs_at (pen_by p ss) i ≡ false
run-plain [] p i told none plain = plain
run-plain (t ∷ ss) p i told none plain =
    let rest = run-plain ss (apply t p) i (All-tail Told t ss told) in
    grind (arith, cases_Bool, rest, plain-stays t (All-head Told t ss told) p i)

-- one of them: none of these takes back all
abbrev Open : List ℕ → Type 0
Open t = Told t × Sets t

abbrev setters_of : List (List ℕ) → List (List ℕ)
setters_of ss = filter (λ s. not (is_end s)) (filter known ss)

-- what does not take back a setting leaves its field
apart : (t s : List ℕ) → Sets t → is_unknown (kind_of s) ≡ false → replaces t s ≡ false
    → sets (number (kind_of t)) (number (kind_of s)) ≡ false
unfolding replaces takes_back number
apart t s first known none = grind (arith, cases_Bool, nat_tests, unknown-number, known-below)

run-stays : (s : List ℕ) (ss : List (List ℕ)) (p : Pen) → is_unknown (kind_of s) ≡ false
    → All Open ss → list_any (λ t. replaces t s) ss ≡ false
    → differs_at (pen_by p ss) (number (kind_of s)) ≡ differs_at p (number (kind_of s))
run-stays s [] p known are none = refl
run-stays s (t ∷ ss) p known are none =
    let own = All-head Open t ss are in
    let rest = run-stays s ss (apply t p) known (All-tail Open t ss are) in
    grind (arith, cases_Bool, changed t own.0 p (number (kind_of s)), apart t s own.1 known, rest)

-- the field of each differs
each-differs : (ss : List (List ℕ)) (p : Pen) (i : ℕ) → All Open ss → AreLatest ss
    → is_member eqb (kinds (setters_of ss)) i ≡ true → differs_at (pen_by p ss) i ≡ true
each-differs [] p i are latest is = absurd (true≢false (sym is))
each-differs (s ∷ ss) p i are (none, latest) is =
    let own = (All-head Open s ss are).0 in
    let rest = All-tail Open s ss are in
    let kind = number (kind_of s) in
    let differs = λ (known : is_unknown (kind_of s) ≡ false) (stays : is_end s ≡ false).
    run-stays s ss (apply s p) known rest none ∙ (rw (known, sets-own) at (changed s own p kind))
    ∙ (all-known s own.0 known).differs stays in
    grind (arith, cases_Bool, nat_tests, each-differs ss (apply s p) i rest latest, differs, eqb-true)

all-set_something : (ss : List (List ℕ)) → filter (λ s. is_unknown (kind_of s)) (in_effect ss) ≡ []
    → setters_of (in_effect ss) ≡ in_effect ss
all-set_something [] none = refl
all-set_something (s ∷ ss) none = grind (arith, cases_Bool, all-set_something ss)

pub open-setters : OpenStylesAreSetters
open-setters before none = all-set_something (latest (after_last resets (flat_map settings_of before))) none

pub fewest : NothingShorterGivesThePen
fewest before others nothing more same =
    let all = flat_map settings_of before in
    let now = open_settings all in
    let rest = flat_map settings_of others in
    let is = all-settings before in
    let are : All Open now =
    λ k d within. ((all-open IsSetting all is k d within, nothing k d within), all-set all k d within) in
    let told : All Told rest = λ k d within. (all-settings others k d within, more k d within) in
    let latest = open-latest all in
    let pens : pen_by plain_pen now ≡ pen_by plain_pen rest =
    open-pen all is ∙ sym (all-given before plain_rendition) ∙ sym same ∙ all-given others plain_rendition in
    let once = kinds-distinct (λ s. not (is_end s)) now latest in
    let most = length-le_from_is_member nat_eq_equiv (kinds (setters_of now)) (kinds rest) once
    (λ i set. true_from_ne_false (is_member eqb (kinds rest) i) (λ none.
    true≢false (sym (each-differs now plain_pen i are latest set) ∙ ap (λ p. differs_at p i) pens
    ∙ run-plain rest plain_pen i told none (plain-differs i)))) in
    simp length-map at most
