use Rattle.textwrap_display.proofs.tabs.expand_tabs.Goals as goal
use Rattle.textwrap_display.{proofs.TabTexts.has-tab, specs.Tabs.expanded_tabs}
use Rattle.textwrap_layout.specs.Paragraph.{Built}
use Rattle.textwrap_text.proofs.Common.{ap, arith, rules, sym, ◌++◌, ◌∙◌}

pub returns-then-not-contains : goal.returns-then-not-contains
returns-then-not-contains g c =
    search (rules, arith, has-tab, c.contains.ensures.cases, c.if-not-contains.true)

pub returns : goal.returns
returns g c = record {
  expanded = let some = sym (has-tab c.args.text.now c.contains.result c.contains.ensures.cases)
      ∙ c.if-not-contains.false in
      rw some (ap Built (c.in_ok-push_expanded.ensures
      ∙ ap (λ t. t ++ expanded_tabs c.args.stop c.args.text.now) c.new-expanded.ensures.bytes));
}
