use Rattle.std.proofs.Common.{refl}
use Rattle.textwrap_hyphens.proofs.SplitPieces.{held-inner}
use Rattle.textwrap_hyphens.specs.{Splitting.split_points, Table.held}
use Rattle.textwrap_plain.proofs.parts.HyphenatedParts.has_points.Goals as goal

pub returns : goal.returns
returns g c = λ _ word utf8.
    let patterns = c.args.self.now.patterns.now in
    let points = split_points (held patterns) word in
    (points, refl, held-inner patterns word points utf8 refl)
