-- How many settings are open, and how many bytes set them anew.
use Rattle.std.proofs.lemmas.{Cmp.nat_eq_equiv, List.Filters.length-filter_both}
use Rattle.std.proofs.lemmas.Map.{Made.IsDistinct-from_count, Steps.length-le_from_distinct_below}
use Rattle.std.{proofs.Math.Nat.mul-le-mul_left, specs.{List.IsDistinct, Set.{is_member, unique_keys}}}
use Rattle.textwrap_layout.specs.Paragraph.{line_bytes}
use Rattle.textwrap_styles.proofs.{CarriedLines.carried-len, Common.{concat, is_style, kind_of, latest}}
use Rattle.textwrap_styles.proofs.Common.{link_end, open_settings, open_styles, settings, settings_of}
use Rattle.textwrap_styles.proofs.{Common.{style_end, style_parameters, written}, LinkIds.reopened-len}
use Rattle.textwrap_styles.proofs.{OpenSettings.{all-open, all-set, known-below, Sets}, PenOpen.AreLatest}
use Rattle.textwrap_styles.proofs.{PenOpen.open-latest, Sequences.open_link-cases, SettingTexts.each-setting}
use Rattle.textwrap_styles.{proofs.SettingTexts.first-len, specs.Laws.{known_settings, unknown_settings}}
use Rattle.textwrap_styles.specs.{Settings.{is_unknown, number, replaces, takes_back}, Styles.carried_line}
use Rattle.textwrap_styles.specs.Styles.{reopened_link}
use Rattle.textwrap_text.proofs.Common.{[], ℕ, ◌*◌, ◌+◌, ◌-◌, ◌<◌, ◌∷◌, ◌≡◌, ◌≤◌, All, All-append, All-head}
use Rattle.textwrap_text.proofs.Common.{All-nil, All-tail, All-weaker, ap, arith, Bool, cases_Bool, codes}
use Rattle.textwrap_text.proofs.Common.{cond_both, drop, eqb, false, false_from_ne_true, filter, flat_map}
use Rattle.textwrap_text.proofs.Common.{length, length-append, length-drop, length-map, length-take, List}
use Rattle.textwrap_text.proofs.Common.{list_any, map, nat_tests, not, refl, rules, subst, sym, true}
use Rattle.textwrap_text.proofs.Common.{true≢false}

-- ---- no two that the table knows are of one kind

abbrev pub known : List ℕ → Bool
known s = not (is_unknown (kind_of s))

-- the kinds of some settings
abbrev pub kinds : List (List ℕ) → List ℕ
kinds ss = map (λ s. number (kind_of s)) ss

-- a later one of the same kind takes one back
replaces-same : (s t : List ℕ) → known t ≡ true → eqb (number (kind_of s)) (number (kind_of t)) ≡ true
    → replaces t s ≡ true
unfolding replaces takes_back number
replaces-same s t is same = grind (arith, cases_Bool, nat_tests, is, same)

-- so the kind of one is none of those of the later ones that a test lets pass
module _ (p : List ℕ → Bool) where
  none-same : (s : List ℕ) (ss : List (List ℕ)) → list_any (λ t. replaces t s) ss ≡ false
      → is_member eqb (kinds (filter p (filter known ss))) (number (kind_of s)) ≡ false
  none-same s [] none = refl
  none-same s (t ∷ ss) none = grind (arith, cases_Bool, nat_tests, replaces-same s t, none-same s ss)

  kinds-once : (ss : List (List ℕ)) → AreLatest ss
      → unique_keys eqb (kinds (filter p (filter known ss))) ≡ kinds (filter p (filter known ss))
  kinds-once [] latest = refl
  kinds-once (s ∷ ss) (none, latest) = grind (arith, cases_Bool, none-same s ss none, kinds-once ss latest)

  pub kinds-distinct : (ss : List (List ℕ)) → AreLatest ss
      → IsDistinct eqb (kinds (filter p (filter known ss)))
  kinds-distinct ss latest =
      IsDistinct-from_count nat_eq_equiv (kinds (filter p (filter known ss)))
      (ap length (kinds-once ss latest))

all-pass : (ss : List (List ℕ)) → filter (λ s. true) ss ≡ ss
all-pass [] = refl
all-pass (s ∷ ss) = ap (λ l. s ∷ l) (all-pass ss)

-- the kinds are those from 1 to 17
kinds-range : (ss : List (List ℕ)) (q : ℕ) → All Sets ss
    → list_any (eqb q) (kinds (filter known ss)) ≡ true → (0 < q) × (q < 18)
unfolding number
kinds-range [] q all is = absurd (true≢false (sym is))
kinds-range (s ∷ ss) q all is =
    let own = All-head Sets s ss all in
    grind (arith, cases_Bool, nat_tests, own, known-below, kinds-range ss q (All-tail Sets s ss all))

pub few-known : (before : List (List ℕ)) → length (known_settings before) ≤ 17
few-known before =
    let all = flat_map settings_of before in
    let now = open_settings all in
    let kept = kinds (filter known now) in
    let range = λ (q : ℕ). kinds-range now q (all-set all) in
    let once = subst (λ ss. unique_keys eqb (kinds ss) ≡ kinds ss) (all-pass (filter known now))
    (kinds-once (λ s. true) now (open-latest all)) in
    let other : is_member eqb kept 0 ≡ false =
    false_from_ne_true (is_member eqb kept 0) (λ is. omega (arith, range 0 is)) in
    let distinct = IsDistinct-from_count nat_eq_equiv (0 ∷ kept) (grind (arith, cases_Bool, other, once)) in
    let most = length-le_from_distinct_below (0 ∷ kept) 18 distinct
    (λ q is. grind (arith, cases_Bool, nat_tests, range q, is)) in
    omega (arith, most, length-map (filter known now) (λ s. number (kind_of s)))

-- ---- how many bytes they have

-- written, a setting has three bytes more
abbrev IsShort : ℕ → List ℕ → Type 0
IsShort most s = length s + 3 ≤ most

style-len : (s : List ℕ) → is_style s ≡ true → 3 ≤ length s
style-len [] is = absurd (true≢false (sym is))
style-len (a ∷ []) is = grind (arith, cases_Bool, nat_tests)
style-len (a ∷ b ∷ []) is = grind (arith, cases_Bool, nat_tests)
style-len (a ∷ b ∷ c ∷ s) is = omega arith

sequence-short : (s : List ℕ) (most : ℕ) → length s ≤ most → All (IsShort most) (settings_of s)
sequence-short s most short =
    cond_both (is_style s) (settings (style_parameters s)) [] (All (IsShort most)) (λ is.
    let own = style-len s is in
    let text = style_parameters s in
    let len : length text ≤ length s - 3 = omega (arith, length-take (length s - 3) (drop 2 s)) in
    All-weaker (λ t. length t ≤ most - 3) (IsShort most) (λ t few. omega (arith, few, own, short))
    (settings text) (each-setting (λ t. length t ≤ most - 3) text
    (λ k. omega (arith, len, own, short, first-len (drop k text), length-drop k text))))
    (λ other. All-nil (IsShort most))

all-short : (before : List (List ℕ)) (most : ℕ) → All (λ s. length s ≤ most) before
    → All (IsShort most) (flat_map settings_of before)
all-short [] most short = All-nil (IsShort most)
all-short (s ∷ before) most short =
    search (rules, arith, All-append, sequence-short, all-short before most, All-head, All-tail)

written-bytes : (ss : List (List ℕ)) (most : ℕ) → All (IsShort most) ss
    → length (concat (map written ss)) ≤ length ss * most
written-bytes [] most short = omega arith
written-bytes (s ∷ ss) most short =
    let one : length s + 3 ≤ most = All-head (IsShort most) s ss short in
    let others = written-bytes ss most (All-tail (IsShort most) s ss short) in
    let own : length (written s) ≡ length s + 3 = omega (arith, length-append s (codes "m")) in
    omega (arith, one, others, length-append (written s) (concat (map written ss)), own)

pub styles-short : (indent : List ℕ) (before : List (List ℕ)) (line : List ℕ) (most : ℕ)
    → All (λ s. length s ≤ most) before → length (line_bytes (carried_line indent before line))
    ≤ length line + (18 + length (unknown_settings before)) * most + 25 + length style_end
    + length link_end
styles-short indent before line most short =
    let all = flat_map settings_of before in
    let now = open_settings all in
    let line_len = carried-len indent before line in
    let len = length-append (concat (reopened_link before)) (concat (open_styles before)) in
    let link = open_link-cases (λ s. length s ≤ most) (λ ls. length (concat ls) ≤ most) before short
    (omega arith) (λ s is few. omega (arith, few, length-append s [])) in
    let styles = written-bytes now most (all-open (IsShort most) all (all-short before most short)) in
    let count : length now ≤ 17 + length (unknown_settings before) =
    let parts = length-filter_both known (λ s. is_unknown (kind_of s)) (λ s. grind (arith, cases_Bool)) now in
    omega (arith, parts, few-known before) in
    omega (arith, line_len, len, reopened-len before, link, styles, mul-le-mul_left most count)
