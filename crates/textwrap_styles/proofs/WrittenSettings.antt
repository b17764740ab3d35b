-- Settings that are open, each written as a sequence, which is a text by itself, and what they set.
use Rattle.std.proofs.lemmas.{List.Sums.AllPass-from_list_all, Str.Ascii.IsAscii-from_all}
use Rattle.textwrap_styles.proofs.Common.{is_in_range, is_link, is_style, open_settings, open_styles}
use Rattle.textwrap_styles.proofs.Common.{settings, settings_of, style_parameters, written}
use Rattle.textwrap_styles.proofs.OpenSettings.{all-open, settings-again}
use Rattle.textwrap_styles.proofs.SequenceTexts.{IsSequence, unit-sequence}
use Rattle.textwrap_styles.proofs.Sequences.{style-is, style-no_link, style_parameters-is}
use Rattle.textwrap_styles.proofs.SettingTexts.{are-settings, IsSetting, settings-one, take-all}
use Rattle.textwrap_text.proofs.Common.{◌++◌, ◌<◌, [], All, All-append, All-cons, All-head, All-map, All-nil}
use Rattle.textwrap_text.proofs.Common.{All-tail, All-weaker, ap, arith, cases_Bool, chars-IsAscii, cond_both}
use Rattle.textwrap_text.proofs.Common.{false, flat_map, IsUtf8-from_ascii, length, length-append, List}
use Rattle.textwrap_text.proofs.Common.{list_all, map, nat_tests, refl, rules, take, take-append-le, true, ℕ}
use Rattle.textwrap_text.{proofs.Common.{◌∙◌, ◌∷◌, ◌≡◌}, proofs.Lists.Parts.last-append, specs.Lists.last}
use Rattle.textwrap_text.specs.Units.{ends, is_control_end}

-- ---- a setting that is written as a sequence

written-is_style : (s : List ℕ) → IsSetting s → is_style (written s) ≡ true
written-is_style s is = style-is s ∙ is.range

written-back : (s : List ℕ) → IsSetting s → settings_of (written s) ≡ s ∷ []
written-back s is = search (rules, arith, settings-one, written-is_style, style_parameters-is)

pub all-back : (ss : List (List ℕ)) → All IsSetting ss → flat_map settings_of (map written ss) ≡ ss
all-back [] are = refl
all-back (s ∷ ss) are = search (rules, arith, written-back, all-back ss, All-head, All-tail)

-- those of sequences
sequence-settings : (s : List ℕ) → All IsSetting (settings_of s)
sequence-settings s = cond_both (is_style s) (settings (style_parameters s)) [] (All IsSetting)
    (λ is. are-settings (style_parameters s) (grind (arith, cases_Bool, is))) (λ other. All-nil IsSetting)

pub all-settings : (before : List (List ℕ)) → All IsSetting (flat_map settings_of before)
all-settings [] = All-nil IsSetting
all-settings (s ∷ before) = search (rules, arith, All-append, sequence-settings, all-settings before)

abbrev settings_at : List (List ℕ) → List (List ℕ)
settings_at before = open_settings (flat_map settings_of before)

pub open-back : (before : List (List ℕ)) → flat_map settings_of (open_styles before) ≡ settings_at before
open-back before =
    all-back (settings_at before) (all-open IsSetting (flat_map settings_of before) (all-settings before))

-- what holds of all settings that are written holds of these styles
open-written : (P : List ℕ → Type 0) → ((s : List ℕ) → IsSetting s → P (written s))
    → (before : List (List ℕ)) → All P (open_styles before)
open-written P each before =
    let ss = settings_at before in
    All-map P written ss (All-weaker IsSetting (λ s. P (written s)) each ss
    (all-open IsSetting (flat_map settings_of before) (all-settings before)))

pub styles-no_link : (before : List (List ℕ)) → All (λ s. is_link s ≡ false) (open_styles before)
styles-no_link = open-written (λ s. is_link s ≡ false)
    (λ s is. style-no_link (written s) (written-is_style s is))

-- ---- what is written is a sequence

small : (s : List ℕ) → list_all (is_in_range 0x30 0x3B) s ≡ true → All (λ b. b < 128) s
small s all = All-weaker (λ c. is_in_range 0x30 0x3B c ≡ true) (λ b. b < 128)
    (λ c range. grind (arith, cases_Bool, nat_tests, range)) s
    (AllPass-from_list_all (is_in_range 0x30 0x3B) s all)

last-open : (s : List ℕ) → list_all (is_in_range 0x30 0x3B) s ≡ true → is_control_end (last s) ≡ false
last-open [] all = refl
last-open (c ∷ []) all = grind (arith, cases_Bool, nat_tests)
last-open (c ∷ d ∷ cs) all = grind (arith, cases_Bool, nat_tests, last-open (d ∷ cs), last-append)

unended : (s : List ℕ) → list_all (is_in_range 0x30 0x3B) s ≡ true → (k : ℕ)
    → k < length (91 ∷ (s ++ 109 ∷ [])) → ends (take k (91 ∷ (s ++ 109 ∷ []))) ≡ false
unended s all x2 within = search (rules, arith, length-append, take-append-le, last-open, take-all)

written-sequence : (s : List ℕ) → IsSetting s → IsSequence (written s)
written-sequence s is =
    let body = 91 ∷ (s ++ 109 ∷ []) in
    let all : All (λ b. b < 128) (27 ∷ body) = search (rules, arith, All-cons, All-append, small) in
    let ended : ends body ≡ true = ap is_control_end (last-append s (109 ∷ []) (omega arith)) in
    let ascii = IsAscii-from_all (27 ∷ body) all in
    unit-sequence (27 ∷ body) (27 ∷ body) (IsUtf8-from_ascii (27 ∷ body) ascii)
    (chars-IsAscii (27 ∷ body) ascii) (body, refl, ended, unended s is.range)

pub styles-sequences : (before : List (List ℕ)) → All IsSequence (open_styles before)
styles-sequences = open-written IsSequence written-sequence

-- what is open is open again once it is set anew
pub styles-anew : (before : List (List ℕ)) → open_styles (open_styles before) ≡ open_styles before
styles-anew before = grind (arith, open-back before, settings-again [] (flat_map settings_of before) refl)
