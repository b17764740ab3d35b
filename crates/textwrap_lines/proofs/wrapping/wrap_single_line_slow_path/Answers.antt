use Rattle.textwrap_lines.proofs.Paragraph.KeepsTo.{passed-on}
use Rattle.textwrap_lines.proofs.wrapping.wrap_single_line_slow_path.Goals as goal
use Rattle.textwrap_lines.proofs.Common.{algorithm_view, AreDividedParts, arith, lines_of-cut_lines}
use Rattle.textwrap_lines.proofs.Common.{lines_of-more, map, MaySeparate, parts_from, settings_view}
use Rattle.textwrap_lines.proofs.Common.{cut_lines, DividesBy, line_from, line_view, LineParts, not}
use Rattle.textwrap_lines.proofs.Common.{Bool, length, MaySplit, nat_lt, rules, subst, widths_of}
use Rattle.textwrap_lines.proofs.Common.{[], ap, List, refl, ◌++◌, ◌∙◌}
use Rattle.textwrap_layout.proofs.Common.{MayOverflow}
use Rattle.textwrap_words.proofs.Word.Divisions.{MayDivide-greedy}
use Rattle.textwrap_layout.proofs.Paragraph.Widths.{appends-none, appends-own, close-plain}
use Rattle.textwrap_layout.proofs.Paragraph.Widths.{long_lines}
use Rattle.textwrap_text.proofs.Numbers.{not_empty}
use Rattle.textwrap_words.proofs.Word.Parts.{MaySeparate-texts, MaySplit-cuts, MaySplit-hyphens}

pub returns-in_err-push_divided-clause-appended : goal.returns-in_err-push_divided-clause-appended
returns-in_err-push_divided-clause-appended g c =
    let options = c.args.options.now in
    appends-none (MayOverflow options) (AreDividedParts (settings_view options)
    (DividesBy options) (nat_lt 0 (length c.args.lines.now.items)) c.args.line.now)
    c.args.lines.now.items c.from_residual.result c.in_err-push_divided.field-0.0
    c.from_residual.ensures.1 c.in_err-push_divided.ensures.only_memory

pub returns-clause-appended : goal.returns-clause-appended
returns-clause-appended g c =
    let options = c.args.options.now in
    let settings = settings_view options in
    let start = c.args.lines.now.items in
    let Are : Bool → List LineParts → Type 0 =
    λ b. AreDividedParts settings (DividesBy options) b c.args.line.now in
    let is_out = c.at-frame.ensures.later ∙ ap not c.is_empty.ensures ∙ not_empty c.args.lines.now.len (length start)
    (omega arith) in
    let (division, divides, took) = rw (c.at-frame.ensures.layout, c.of.ensures)
    at c.in_ok-push_divided.ensures.taken in
    let parts = parts_from settings c.at-frame.result.is_later division in
    appends-own (MayOverflow options) (Are (nat_lt 0 (length start))) start _
    c.append.new.self.items parts c.in_ok-append.field-0
    (subst (λ b. Are b parts) is_out (division, divides, refl))
    (search rules ∙ took.held c.push_divided.new.lines 0 []
    (ap (map line_view) c.new-own.ensures.items) ∙ lines_of-more [] 0 (cut_lines 0 parts)
    ∙ lines_of-cut_lines 0 parts) c.in_ok-append.ensures.items

pub returns-clause-overlong : goal.returns-clause-overlong
returns-clause-overlong g c =
    let options = c.args.options.now in
    let settings = settings_view options in
    let is_later = nat_lt 0 (length c.args.lines.now.items) in
    let appended = returns-clause-appended g c in
    let (parts, (division, (pieces, are, divided), is), added) = appended.lines in
    λ first built_in breaks.
    let greedy = MayDivide-greedy options.wrap_algorithm (λ w. w) (widths_of settings is_later)
    pieces division (ap algorithm_view first) divided in (
      division,
      (pieces, are, divided),
      added ∙ ap (λ ps. map line_view c.args.lines.now.items ++ map line_from ps) is,
      long_lines settings (MaySeparate options.word_separator) (MaySplit options.word_splitter)
          breaks
          (close-plain settings (MaySeparate options.word_separator) (MaySplit options.word_splitter)
          breaks (MaySeparate-texts options.word_separator) (MaySplit-cuts options.word_splitter)
          (MaySplit-hyphens options.word_splitter built_in)) is_later c.args.line.now division
          c.utf8.line (pieces, are, greedy),
    )

pub returns-in_err-push_divided-clause-no_overflow : goal.returns-in_err-push_divided-clause-no_overflow
returns-in_err-push_divided-clause-no_overflow g c = λ never.
    passed-on c.from_residual.result c.in_err-push_divided.field-0.0 c.from_residual.ensures.1
    ((rw (c.at-frame.ensures.layout, c.of.ensures) at c.in_err-push_divided.ensures.no_overflow)
    never)
