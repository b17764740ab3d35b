use Rattle.textwrap_dictionaries.{proofs.Said.lines-refused, specs.Parsing.Reads, specs.Parsing.and_then}
use Rattle.textwrap_dictionaries.specs.Parsing.{end_fault, ended, line_said, parsed, reading_view, section_after}
use Rattle.textwrap_dictionaries.specs.{Parsing.with_all, Parsing.with_lines, declared.entries.Section.Section}
use Rattle.textwrap_text.proofs.Common.{ap₂, Bor, drop_all, [], ap, arith, drop, drop_more, get_or, length, List}
use Rattle.textwrap_text.proofs.Common.{map, subst, suc, sym, ℕ, ◌+◌, ◌≤◌, ◌≡◌, ◌∙◌}
use Rattle.textwrap_dictionaries.proofs.parsing.read.Goals as goal

pub loop-i-preserved : goal.loop-i-preserved
loop-i-preserved g c =
    let items = c.deref-line-items.result.now in
    let i = c.loop-i.i in
    let section = c.loop-i.section in
    let more = map (λ line. line.now) (drop (i + 1) items) in
    let read = reading_view c.read_line.new.self in
    let none : Bor (List ℕ) = record { ref_ptr = (0, 0); now = [] } in
    let line = (get_or items i none).now in
    let up : i + 1 ≡ suc i = omega arith in
    ap₂ (λ n s. with_lines n s more read) up c.in_ok-section.ensures.section
    ∙ ap (λ o. and_then o (with_lines (suc i) (section_after section line) more))
    (sym c.in_ok-section.ensures.said
    ∙ ap (λ n. with_all n (line_said section line) (reading_view c.loop-i.reading)) up)
    ∙ ap (λ ls. with_lines i section (map (λ line. line.now) ls) (reading_view c.loop-i.reading))
    (sym (drop_more items i none (omega (arith, c.loop-i-test.true))))
    ∙ c.loop-i.invariant

pub returns-in_err-section : goal.returns-in_err-section
returns-in_err-section g c =
    let items = c.deref-line-items.result.now in
    let i = c.loop-i.i in
    let section = c.loop-i.section in
    let more = map (λ line. line.now) (drop (i + 1) items) in
    let none : Bor (List ℕ) = record { ref_ptr = (0, 0); now = [] } in
    let line = (get_or items i none).now in
    let read = reading_view c.loop-i.reading in
    let next = with_lines (suc i) (section_after section line) more in
    let up : i + 1 ≡ suc i = omega arith in
    lines-refused (λ (after : Section). reading_view c.read_line.new.self) reading_view
    (with_all (i + 1) (line_said section line) read) (parsed c.args.text.now)
    next c.in_err-section.field-0.0 c.from_residual-in_err-section.result
    (ap (λ n. and_then (with_all n (line_said section line) read) next) up
    ∙ ap (λ ls. with_lines i section (map (λ line. line.now) ls) read)
    (sym (drop_more items i none (omega (arith, c.loop-i-test.true)))) ∙ c.loop-i.invariant)
    c.in_err-section.ensures.said c.from_residual-in_err-section.ensures.1

pub returns : goal.returns
returns g c =
    let items = c.deref-line-items.result.now in
    let i = c.loop-i.i in
    let section = c.loop-i.section in
    let read = reading_view c.loop-i.reading in
    let fault = end_fault section (length read.patterns) (length read.exceptions) in
    let past : length items ≤ i = omega (arith, c.loop-i-test.false) in
    let all : c.len.result ≡ i = omega (arith, past) in
    subst (λ o. Reads o reading_view c.end.result) (ap (λ n. ended n fault read) all
    ∙ ap (λ ls. with_lines i section (map (λ line. line.now) ls) read) (sym (drop_all i items past)) ∙ c.loop-i.invariant)
    c.end.ensures
