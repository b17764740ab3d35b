-- A text at the steps of a caller, filled with its lines justified.
use Rattle.std.specs.Prelude.{ℕ, false, List}
use Rattle.std.specs.List.{flat_map}
use Rattle.textwrap_display.specs.JustifiedText.{justified_lines}
use Rattle.textwrap_text.specs.LineEnding.{ending_bytes, join_with, paragraphs_of}
use Rattle.textwrap_layout.specs.Options.{Settings}
use Rattle.textwrap_more_calls.specs.TextSteps.{groups_at}
use Rattle.textwrap_more_calls.specs.declared.steps.TextwrapSteps.{TextwrapSteps}

-- all lines but the last of each paragraph are justified after their indents
abbrev pub justified_at : Settings → List TextwrapSteps → List ℕ → List ℕ
justified_at settings steps text =
    join_with (ending_bytes settings.line_ending) (flat_map (justified_lines settings.width)
    (groups_at settings false (paragraphs_of settings.line_ending text) steps))
