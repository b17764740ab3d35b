use Rattle.textwrap_lines.proofs.steps.lines_at.Goals as goal
use Rattle.textwrap_lines.proofs.Common.{[], map, parts_from, settings_view, subst, word_view}
use Rattle.textwrap_words.specs.LineEnds.{lines_between}
use Rattle.textwrap_layout.proofs.Text.Sinks.{further-cut_lines}
use Rattle.textwrap_layout.specs.Places.{HasPlaces}

pub returns : goal.returns
returns g c =
    let parts = parts_from (settings_view c.args.options.now) c.args.is_later
    (lines_between c.args.ends.now (map word_view c.args.pieces.now)) in
    subst (HasPlaces c.push_lines_at.new.lines) (further-cut_lines 0 0 parts)
    (c.in_ok-push_lines_at.ensures [] (c.new-lines.ensures.places, c.new-lines.ensures.built))
