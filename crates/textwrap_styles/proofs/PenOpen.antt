-- The settings that are open give the pen that all parameters gave, setting after setting.
use Rattle.std.proofs.lemmas.{List.Folds.list_any_at, Slice.Eq.bytes_eq-Decides}
use Rattle.textwrap_styles.proofs.Common.{apply, fields, fold-append, in_effect, Kind, latest, open_settings}
use Rattle.textwrap_styles.proofs.{Common.{Pen, plain_pen, Reset, settings}, OpenSettings.all-latest}
use Rattle.textwrap_styles.proofs.OpenSettings.{all-since, known-below, latest-in_effect, left-after}
use Rattle.textwrap_styles.proofs.OpenSettings.{next_left, none-latest, resets, Sets, unknown-number}
use Rattle.textwrap_styles.proofs.PenCodes.{apply-changes, Changes, changes-then, is_many, is_shared, mix}
use Rattle.textwrap_styles.proofs.PenCodes.{mix-again, mix-swap, mix-within, nothing, sets}
use Rattle.textwrap_styles.proofs.{PenSettings.{all-known, kind-code, many-end}, SettingTexts.between-append}
use Rattle.textwrap_styles.proofs.SettingTexts.{drop-all, fields-split, first-again, first-all, InRange}
use Rattle.textwrap_styles.proofs.SettingTexts.{IsSetting, settings-next, settings-one, taken-again}
use Rattle.textwrap_styles.specs.{Pen.read, Settings.{first_setting, is_color_code, is_end, is_ending_code}}
use Rattle.textwrap_styles.specs.Settings.{is_unknown, kind_of, kind_of_code, number, replaces, taken_fields}
use Rattle.textwrap_styles.specs.Settings.{takes_back}
use Rattle.textwrap_text.proofs.Common.{[], ℕ, ⊤, ◌&&◌, ◌++◌, ◌+◌, ◌<◌, ◌==◌, ◌||◌, ◌∙◌, ◌∷◌, ◌≡◌, ◌≤◌}
use Rattle.textwrap_text.proofs.Common.{after_last, All, All-drop, All-head, All-tail, ap, arith, cases_Bool}
use Rattle.textwrap_text.proofs.Common.{cond_both, drop, eqb-true, false, fold, get_or, inl, inr, length}
use Rattle.textwrap_text.proofs.Common.{length-drop, List, list_any, map-append, nat_tests, refl, rules}
use Rattle.textwrap_text.proofs.Common.{subst, suc, sym, true, true≢false, zero}

-- ---- settings one after another, of which each sets its own fields

abbrev pub pen_by : Pen → List (List ℕ) → Pen
pen_by p ss = fold (λ q t. apply t q) p ss

pub run-append : (p : Pen) (xs ys : List (List ℕ)) → pen_by p (xs ++ ys) ≡ pen_by (pen_by p xs) ys
run-append p xs ys = fold-append (λ q t. apply t q) p xs ys

run-changes : (ss : List (List ℕ)) → Changes (λ p. pen_by p ss)
run-changes [] = nothing
run-changes (s ∷ ss) = changes-then (apply s) (λ p. pen_by p ss) (apply-changes s) (run-changes ss)

-- once more, one makes the first time do nothing
again : (s : List ℕ) (ss : List (List ℕ)) (p : Pen) → apply s (pen_by (apply s p) ss) ≡ apply s (pen_by p ss)
again s ss p = grind (arith, (apply-changes s).is, (run-changes ss).is, mix-again)

-- ---- a later one takes back an earlier one

-- what takes a kind back sets its fields too, and what does not sets others, unless it sets more
kinds-within : (later earlier : Kind) → takes_back later earlier ≡ true → (i : ℕ)
    → (sets (number later) i || sets (number earlier) i) ≡ sets (number later) i
unfolding takes_back number
kinds-within later earlier back i = grind (arith, cases_Bool, nat_tests)

kinds-apart : (later earlier : Kind) → takes_back later earlier ≡ false
    → (number later == number Reset) ≡ false → (number earlier == number Reset) ≡ false
    → is_shared (number later) ≡ false → (i : ℕ) → (sets (number later) i && sets (number earlier) i) ≡ false
unfolding takes_back number
kinds-apart later earlier other some one own i = grind (arith, cases_Bool, nat_tests)

ending-code : (c : ℕ) → (is_ending_code c || (c == 4)) ≡ true → is_shared (number (kind_of_code c)) ≡ false
unfolding is_ending_code kind_of_code number
ending-code c is = grind (arith, cases_Bool, nat_tests)

-- what ends something is of another kind than bold, faint, italic and Gothic
end-kind : (t : List ℕ) → is_unknown (kind_of t) ≡ false → is_end t ≡ true
    → is_shared (number (kind_of t)) ≡ false
unfolding is_end
end-kind t known end = grind (arith, cases_Bool, nat_tests, kind-code, ending-code)

-- a known one
module _ (s t : List ℕ) (first : IsSetting s) (second : IsSetting t) where
  knowns : is_unknown (kind_of t) ≡ false → takes_back (kind_of t) (kind_of s) ≡ true
      → is_unknown (kind_of s) ≡ false
  unfolding takes_back number
  knowns known back = grind (arith, cases_Bool, nat_tests, unknown-number, known-below)

  setting-replaces : replaces t s ≡ true → (p : Pen) → apply t (apply s p) ≡ apply t p
  unfolding replaces
  setting-replaces is p = elim (cases_Bool (is_unknown (kind_of t))) [
    | inl unknown ↦ grind (arith, cases_Bool, bytes_eq-Decides t s, again t [] p)
    | inr known ↦
        let back : takes_back (kind_of t) (kind_of s) ≡ true = grind (arith, cases_Bool) in
        let later = (all-known t second known).sets in
        let earlier = (all-known s first (knowns known back)).sets in
        let within = mix-within (sets (number (kind_of t))) (sets (number (kind_of s))) in
        grind (arith, later, earlier, within, kinds-within (kind_of t) (kind_of s) back)
  ]

  -- one that ends something, and one that sets something else, in either order
  commute : is_unknown (kind_of t) ≡ false → is_unknown (kind_of s) ≡ false → is_end t ≡ true
      → Sets t → Sets s → replaces t s ≡ false → (p : Pen) → apply t (apply s p) ≡ apply s (apply t p)
  unfolding replaces
  commute known other end sets-t sets-s none p =
      let later = (all-known t second known).sets in
      let earlier = (all-known s first other).sets in
      let apart = mix-swap (sets (number (kind_of t))) (sets (number (kind_of s))) in
      grind (arith, cases_Bool, later, earlier, apart, kinds-apart, end-kind t known end)

-- ---- the latest give the same pen

-- one that a later one replaces can be left out
left-out : (s : List ℕ) (before ss : List (List ℕ)) (p : Pen) → IsSetting s → All IsSetting ss
    → list_any (λ t. replaces t s) ss ≡ true
    → pen_by (pen_by (apply s p) before) ss ≡ pen_by (pen_by p before) ss
left-out s before [] p one all is = absurd (true≢false (sym is))
left-out s before (t ∷ ss) p one all is =
    let own = All-head IsSetting t ss all in
    let rest = left-out s (before ++ t ∷ []) ss p one (All-tail IsSetting t ss all) in
    grind (arith, cases_Bool, setting-replaces s t one own, again s before p, run-append, rest)

run-latest : (ss : List (List ℕ)) (p : Pen) → All IsSetting ss → pen_by p (latest ss) ≡ pen_by p ss
run-latest [] p are = refl
run-latest (s ∷ ss) p are =
    let rest = All-tail IsSetting s ss are in
    let out = left-out s [] ss p (All-head IsSetting s ss are) rest in
    grind (arith, cases_Bool, run-latest ss p rest, run-latest ss (apply s p) rest, out)

-- ---- those in effect give the same pen

-- no later one takes back an earlier one
abbrev pub AreLatest : List (List ℕ) → Type 0
AreLatest [] = ⊤
AreLatest (s ∷ ss) = (list_any (λ t. replaces t s) ss ≡ false) × AreLatest ss

are-latest : (ss : List (List ℕ)) → AreLatest (latest ss)
are-latest [] = tt
are-latest (s ∷ ss) = grind (arith, cases_Bool, nat_tests, are-latest ss, none-latest)

pub open-latest : (before : List (List ℕ)) → AreLatest (open_settings before)
open-latest before =
    subst AreLatest (latest-in_effect (after_last resets before)) (are-latest (open_settings before))

-- what ends something ends nothing of this pen
abbrev IsQuiet : Pen → List ℕ → Type 0
IsQuiet p t = is_unknown (kind_of t) ≡ false → is_end t ≡ true → apply t p ≡ p

-- those that the table knows, and that set something
record Setter (t : List ℕ) : Type 0 where
  setting : IsSetting t
  sets : Sets t

stay-quiet : (s : List ℕ) (ts : List (List ℕ)) (p : Pen) → Setter s
    → is_unknown (kind_of s) ≡ false → All Setter ts → list_any (λ t. replaces t s) ts ≡ false
    → All (IsQuiet p) ts → All (IsQuiet (apply s p)) ts
stay-quiet s ts p is known are none quiet = λ k d within other end.
    let own = are k d within in
    let left : replaces (get_or ts k d) s ≡ false =
    grind (arith, cases_Bool, list_any_at (λ t. replaces t s) ts k d within) in
    commute s (get_or ts k d) is.setting own.setting other known end own.sets is.sets left p
    ∙ ap (apply s) (quiet k d within other end)

run-effect : (ss : List (List ℕ)) (p : Pen) → All Setter ss → AreLatest ss → All (IsQuiet p) ss
    → pen_by p (in_effect ss) ≡ pen_by p ss
run-effect [] p are latest quiet = refl
run-effect (s ∷ ss) p are (none, latest) quiet =
    let rest = All-tail Setter s ss are in
    let others = All-tail (IsQuiet p) s ss quiet in
    let sets = λ (known : is_unknown (kind_of s) ≡ false). run-effect ss (apply s p) rest latest
    (stay-quiet s ss p (All-head Setter s ss are) known rest none others) in
    grind (arith, cases_Bool, sets, run-effect ss p rest latest others, All-head (IsQuiet p) s ss quiet)

-- ---- since all were taken back

reset-plain : (t : List ℕ) → IsSetting t → resets t ≡ true → (p : Pen) → apply t p ≡ plain_pen
unfolding number
reset-plain t is reset p =
    let known : is_unknown (kind_of t) ≡ false =
    grind (arith, cases_Bool, nat_tests, unknown-number (kind_of t)) in
    let all = all-known t is known in
    let zero = eqb-true (number (kind_of t)) 0 reset in
    all.sets p ∙ ap (λ n. mix (sets n) (apply t plain_pen) p) zero
    ∙ all.ends (many-end t is known (ap is_many zero))

-- those since then give the pen that all give
since-reset : (more before : List (List ℕ)) (p : Pen) → All IsSetting more → pen_by plain_pen before ≡ p
    → pen_by plain_pen (fold next_left before more) ≡ pen_by p more
since-reset [] before p are same = same
since-reset (t ∷ more) before p are same =
    let is = All-head IsSetting t more are in
    since-reset more (next_left before t) (apply t p) (All-tail IsSetting t more are)
    (cond_both (resets t) [] (before ++ t ∷ []) (λ ss. pen_by plain_pen ss ≡ apply t p)
    (λ all. sym (reset-plain t is all p)) (λ other. run-append plain_pen before (t ∷ []) ∙ ap (apply t) same))

-- what is open gives the pen that all gave
pub open-pen : (before : List (List ℕ)) → All IsSetting before
    → pen_by plain_pen (open_settings before) ≡ pen_by plain_pen before
open-pen before are =
    let since = rw (sym (left-after before)) at (since-reset before [] plain_pen are refl) in
    let settings : All IsSetting (after_last resets before) = All-drop IsSetting _ before are in
    let setters : All Setter (after_last resets before) =
    λ k d within. record { setting = settings k d within; sets = all-since before k d within } in
    let quiet : All (IsQuiet plain_pen) (latest (after_last resets before)) =
    λ k d within known end. (all-known _ (all-latest IsSetting _ settings k d within) known).ends end in
    search (rules, arith, run-effect, all-latest, are-latest, run-latest, since, settings, setters, quiet)

taken-known : (t : List ℕ) → (taken_fields t == 0) ≡ false → is_unknown (kind_of t) ≡ false
unfolding kind_of taken_fields is_color_code is_unknown kind_of_code
taken-known t some = grind (arith, cases_Bool, nat_tests)

-- ---- the first setting of parameters, where there are more

first-fields : (t : List ℕ) → length (first_setting t) < length t
    → ((taken_fields t == 0) ≡ false) × (first_setting t ≡ fields (taken_fields t) t)
unfolding first_setting
first-fields t more = grind (arith, cases_Bool, nat_tests)

first-split : (t : List ℕ) → length (first_setting t) < length t
    → t ≡ first_setting t ++ 0x3B ∷ drop (length (first_setting t) + 1) t
unfolding first_setting
first-split t more = search (rules, arith, first-fields, fields-split)

-- what is read of the first one, and of the rest behind it
first-read : (t : List ℕ) → InRange t → length (first_setting t) < length t → (p : Pen)
    → read t p ≡ read (drop (length (first_setting t) + 1) t) (apply (first_setting t) p)
first-read t range more p =
    let is : IsSetting (first_setting t) = search (rules, first-again, first-all) in
    let known = all-known (first_setting t) is
    (grind (arith, nat_tests, first-fields t more, taken-known, taken-again)) in
    grind (arith, first-split t more, between-append, map-append, fold-append, known.settled)

settings-pen : (n : ℕ) (t : List ℕ) → length t ≤ n → InRange t → (p : Pen) → apply t p ≡ pen_by p (settings t)
settings-pen zero t short range p = search (rules, arith, pen_by, settings-one)
settings-pen (suc n) t short range p =
    search (rules, arith, settings-pen n, first-read, length-drop, drop-all, settings-next, settings-one)

pub parameters-pen : (t : List ℕ) → InRange t → (p : Pen) → apply t p ≡ pen_by p (settings t)
parameters-pen t = settings-pen (length t) t (omega arith)
