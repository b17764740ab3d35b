use Rattle.textwrap.proofs.refilling.without_indent.Goals as goal
use Rattle.textwrap_text.proofs.Texts.{StartsWith-boundary}

pub range_from-requires : goal.range_from-requires
range_from-requires c some = StartsWith-boundary c.args.line.now c.args.indent.now c.utf8.line
    c.utf8.indent c.requires
