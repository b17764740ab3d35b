use Rattle.textwrap_lines.proofs.Common.{refl}
use Rattle.textwrap_plain.specs.{CutSides.points_by-inner, Options.points_by}
use Rattle.textwrap_plain.proofs.parts.PlainPartsParts.has_points.Goals as goal

pub returns-in-OutsideSequences : goal.returns-in-OutsideSequences
returns-in-OutsideSequences g c = λ _ word utf8.
    let splitter = c.args.self.now.splitter in
    let points = points_by splitter word in
    (points, refl, points_by-inner splitter word points utf8 refl)
