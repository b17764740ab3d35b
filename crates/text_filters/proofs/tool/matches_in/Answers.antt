use Rattle.clap.specs.Words.{app_of}
use Rattle.text_filters.proofs.CommandLemmas.{kinds-are, matches-are}
use Rattle.textwrap_lines.proofs.Common.{sym, map, IfOk-weaker}
use Rattle.text_filters.proofs.tool.matches_in.Goals as goal

pub returns-clause-matches : goal.returns-clause-matches
returns-clause-matches g c =
    let parse = c.try_get_matches_from in
    let tool = c.args.tool.now in
    IfOk-weaker parse.result _ _
    (matches-are (g.T.Tool.tool tool).app (app_of c.in_ok-command.command)
    (map (λ word. word.now) c.args.words.now) (g.met.T.Tool.simple tool) (sym c.in_ok-command.ensures))
    parse.ensures.matches

pub returns-clause-kinds : goal.returns-clause-kinds
returns-clause-kinds g c =
    let tool = c.args.tool.now in
    kinds-are (g.T.Tool.tool tool).app (app_of c.in_ok-command.command)
    (map (λ word. word.now) c.args.words.now) c.try_get_matches_from.result (g.met.T.Tool.free tool)
    (sym c.in_ok-command.ensures) c.try_get_matches_from.ensures.kinds
