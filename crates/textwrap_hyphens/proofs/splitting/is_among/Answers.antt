use Rattle.std.proofs.lemmas.List.Sorted.{searched}
use Rattle.textwrap_text.proofs.{Common.{rules, arith}, Lists.Elements.{increasing-le, among-is}}
use Rattle.textwrap_hyphens.proofs.splitting.is_among.Goals as goal

pub returns : goal.returns
returns c =
    let offsets = c.args.offsets.now in
    let found = searched offsets c.args.point c.binary_search.result c.binary_search.ensures.position
    (increasing-le offsets c.requires) in search (rules, arith, among-is)
