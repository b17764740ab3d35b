use Rattle.textwrap_styles.proofs.latest.put_back.Given as goal
use Rattle.textwrap_styles.proofs.{Common.in_effect, OpenSettings.texts}
use Rattle.textwrap_text.proofs.Common.{◌++◌, cond, reverse, vec_len, ◌≡◌}

-- what was put back, and what will be of those that are left
abbrev pub invariant-loop-setting : goal.invariant-loop-setting
invariant-loop-setting g l =
    texts l.settings.items ++ cond l.behind_unknown (texts (reverse l.latest.items))
    (in_effect (texts (reverse l.latest.items)))
    ≡ texts l.initial.settings.items ++ in_effect (texts (reverse l.initial.latest.items))

abbrev pub decreases-loop-setting : goal.decreases-loop-setting
decreases-loop-setting g l = vec_len l.latest
