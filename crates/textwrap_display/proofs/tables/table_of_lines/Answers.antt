use Rattle.textwrap_display.proofs.tables.table_of_lines.Goals as goal
use Rattle.textwrap_display.proofs.Common.{chunks_rest, texts_of}
use Rattle.textwrap_display.proofs.TableGroups.{cells-rows-more, cells-rows-none, first-group}
use Rattle.textwrap_display.specs.Tables.{cell_texts, gaps_view, shape_of}
use Rattle.textwrap_text.proofs.Common.{append-nil, append_assoc, arith, length-map, map, rules, sym, ◌∙◌}

pub loop-group-init : goal.loop-group-init
loop-group-init g c = search (rules, arith)

pub loop-group-preserved : goal.loop-group-preserved
loop-group-preserved g c =
    let (size, chunk) = c.in-Some.ensures.steps in
    let columns = map shape_of c.args.columns.now in
    let h = c.loop-group.invariant in
    let count = h.0 ∙ sym (length-map c.args.columns.now shape_of) in
    let group = first-group (λ lines. texts_of lines.items) (chunks_rest c.loop-group.group-iterator)
    c.in-Some.group.now (chunks_rest c.next.new.self) c.loop-group.iterator.0 count chunk in
    let rows = cells-rows-more (gaps_view c.args.gaps.now) columns _ _ _ group in
    (size ∙ h.0, rw (c.in_ok-push_group.ensures, append_assoc, ← rows) h.1)

pub returns : goal.returns
returns g c =
    let left = chunks_rest c.loop-group.group-iterator in
    let none = cells-rows-none (gaps_view c.args.gaps.now) (map shape_of c.args.columns.now)
    (cell_texts left) (length-map left (λ lines. texts_of lines.items) ∙ c.in-None.ensures.steps.1.0) in
    rw (none, append-nil) at c.loop-group.invariant.1
