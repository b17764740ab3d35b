use Rattle.textwrap_hyphens.proofs.{Common.◌∙◌, Common.ap, Minima.minima-sealed, Minima.minima-set}
use Rattle.textwrap_hyphens.specs.Seal.{is_sealed}
use Rattle.textwrap_hyphens.proofs.building.set_minima.Goals as goal

pub returns : goal.returns
returns c =
    let words = c.args.words.now in
    let set = minima-set words c.args.left c.args.right c.sum_of.result c.requires c.sum_of.ensures in
    record {
      minima = set;
      sealed = ap is_sealed set ∙ minima-sealed words c.args.left c.args.right c.requires;
    }
