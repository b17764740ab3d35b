use Rattle.textwrap_styles.proofs.settings.next_setting.Goals as goal
use Rattle.textwrap_styles.{proofs.Common.{is_in_range, settings}, specs.Settings.first_setting}
use Rattle.textwrap_styles.proofs.SettingTexts.{drop-all, first-take, settings-next, settings-one}
use Rattle.textwrap_text.proofs.Common.{◌+◌, ◌-◌, ◌<◌, ap, arith, drop, length, List, take, ℕ, ◌∙◌, ◌∷◌, ◌≡◌}

-- the first setting, where it ends at a place, and those behind the next one
next : (s first rest : List ℕ) (n : ℕ) → n ≡ length (first_setting s) → n < length s
    → first ≡ take (n - 0) s → rest ≡ drop (n + 1) s → settings s ≡ first ∷ settings rest
next s first rest n is more front back =
    let own : n - 0 ≡ n = omega arith in
    grind (arith, settings-next, first-take, own)

pub returns-then-len-parameters-clause-settings : goal.returns-then-len-parameters-clause-settings
returns-then-len-parameters-clause-settings c =
    next c.args.parameters.now c.range.result.now c.range_from.result.now c.first_len-len.result
    (c.first_len-len.ensures ∙ ap (λ s. length (first_setting s)) c.as_bytes.ensures.value)
    c.if-len-parameters.true c.range.ensures.value c.range_from.ensures.value

pub returns-then-len-parameters-clause-rest : goal.returns-then-len-parameters-clause-rest
returns-then-len-parameters-clause-rest c =
    rw c.range_from.ensures.value
    (drop-all (is_in_range 48 59) (c.first_len-len.result + 1) c.args.parameters.now c.requires)

pub returns-else-len-parameters-clause-settings : goal.returns-else-len-parameters-clause-settings
returns-else-len-parameters-clause-settings c =
    let len = ap (λ s. length (first_setting s)) c.as_bytes.ensures.value in
    settings-one c.args.parameters.now (omega (arith, len, c.first_len-len.ensures, c.if-len-parameters.false))
