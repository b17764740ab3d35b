use Rattle.textwrap_styles.proofs.styles.OpenStyles.push_opening.Given as goal
use Rattle.textwrap_styles.proofs.{Common.{concat, written}, OpenSettings.texts}
use Rattle.textwrap_text.proofs.Common.{◌++◌, map, string_bytes, take, ◌≡◌}

-- the settings so far were added
abbrev pub invariant-loop-setting : goal.invariant-loop-setting
invariant-loop-setting g l =
    string_bytes l.text ≡ string_bytes l.initial.text
    ++ concat (map written (texts (take l.setting-index l.setting-items)))
