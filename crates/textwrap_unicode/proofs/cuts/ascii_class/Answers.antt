use Rattle.textwrap_text.proofs.ClassLemmas.{ascii_class}
use Rattle.textwrap_unicode.proofs.cuts.ascii_class.Goals as goal

pub returns : goal.returns
returns c = ascii_class c.args.byte c.requires
