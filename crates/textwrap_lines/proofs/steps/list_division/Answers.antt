use Rattle.textwrap_lines.proofs.Common.{lines_of-cut_lines, lines_of-more, settings_view, arith}
use Rattle.textwrap_lines.proofs.Common.{parts_from, cut_lines, line_from, line_view, word_view, []}
use Rattle.textwrap_lines.proofs.Common.{rules, map, ◌∙◌, ◌≡◌, ap}
use Rattle.textwrap_lines.proofs.steps.list_division.Goals as goal

pub returns : goal.returns
returns g c =
    let lines = map (λ line. map word_view line.now) c.args.division.now in
    let parts = parts_from (settings_view c.args.options.now) c.args.is_later lines in
    let took = c.in_ok-push_lines.ensures.pushed in
    let are : map line_view c.push_lines.new.lines.lines.now.items ≡ map line_from parts =
    (rw (c.at-frame.ensures.layout, c.at-frame.ensures.later, c.of.ensures) at took).held
    c.push_lines.new.lines 0 []
    (ap (map line_view) c.new-list.ensures.items) ∙ lines_of-more [] 0 (cut_lines 0 parts)
    ∙ lines_of-cut_lines 0 parts in search (rules, arith)
