use Rattle.textwrap_lines.proofs.wrapping.wrap_single_line.Goals as goal
use Rattle.textwrap_lines.proofs.Common.{AreParagraphParts, arith, Bool, cut_lines, DividesBy, LineParts}
use Rattle.textwrap_lines.proofs.Common.{lines_of-cut_lines, lines_of-more, line_view, List, map, nat_lt}
use Rattle.textwrap_lines.proofs.Common.{[], ap, length, not, rules, settings_view, subst, sym, ◌++◌, ◌∙◌}
use Rattle.textwrap_lines.proofs.Paragraph.KeepsTo.{paragraph-divided-by, passed-on}
use Rattle.textwrap_layout.proofs.Common.{MayOverflow}
use Rattle.textwrap_layout.proofs.Paragraph.Widths.{appends-none, appends-own}
use Rattle.textwrap_text.proofs.Numbers.{not_empty}

pub returns-in_err-push_paragraph_by-clause-appended :
    goal.returns-in_err-push_paragraph_by-clause-appended
returns-in_err-push_paragraph_by-clause-appended g c =
    let options = c.args.options.now in
    appends-none (MayOverflow options) (AreParagraphParts (settings_view options)
    (DividesBy options) (nat_lt 0 (length c.args.lines.now.items)) c.args.line.now)
    c.args.lines.now.items c.from_residual.result c.in_err-push_paragraph_by.field-0.0
    c.from_residual.ensures.1 c.in_err-push_paragraph_by.ensures.only_memory

pub returns-clause-appended : goal.returns-clause-appended
returns-clause-appended g c =
    let options = c.args.options.now in
    let start = c.args.lines.now.items in
    let Are : Bool → List LineParts → Type 0 =
    λ b. AreParagraphParts (settings_view options) (DividesBy options) b c.args.line.now in
    let is_out = ap not c.is_empty-is_later.ensures ∙ not_empty c.args.lines.now.len (length start)
    (omega arith) in
    let (own, are, took) = rw c.of.ensures at c.in_ok-push_paragraph_by.ensures.taken in
    appends-own (MayOverflow options) (Are (nat_lt 0 (length start))) start
    _ c.append.new.self.items own c.in_ok-append.field-0 (subst (λ b. Are b own) is_out are)
    (search rules ∙ took.held c.push_paragraph_by.new.lines 0 []
    (ap (map line_view) c.new-own.ensures.items) ∙ lines_of-more [] 0 (cut_lines 0 own)
    ∙ lines_of-cut_lines 0 own) c.in_ok-append.ensures.items

pub returns-clause-as_slow_path : goal.returns-clause-as_slow_path
returns-clause-as_slow_path g c =
    let options = c.args.options.now in
    let start = c.args.lines.now.items in
    let (parts, defined, added) = (returns-clause-appended g c).lines in
    λ built_in unindented.
    let divided = paragraph-divided-by (settings_view options) options.word_separator
    options.word_splitter options.wrap_algorithm built_in.separator built_in.splitter
    built_in.algorithm (nat_lt 0 (length start)) c.args.line.now parts c.utf8.line unindented
    defined in
    (divided.0, divided.1, added ∙ ap (λ ls. map line_view start ++ ls) (sym divided.2))

pub returns-in_err-push_paragraph_by-clause-no_overflow :
    goal.returns-in_err-push_paragraph_by-clause-no_overflow
returns-in_err-push_paragraph_by-clause-no_overflow g c = λ never.
    passed-on c.from_residual.result c.in_err-push_paragraph_by.field-0.0 c.from_residual.ensures.1
    ((rw c.of.ensures at c.in_err-push_paragraph_by.ensures.no_overflow) never)
