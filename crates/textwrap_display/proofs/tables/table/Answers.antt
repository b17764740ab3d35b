use Rattle.textwrap_display.proofs.tables.table.Goals as goal
use Rattle.textwrap_display.proofs.Common.{chunks_rest, passed-on}
use Rattle.textwrap_display.proofs.TableGroups.{IsFirstGroup, first-group, groups-more, table-more}
use Rattle.textwrap_display.proofs.{TableGroups.table-none, tables.table.Goals.In-Some}
use Rattle.textwrap_display.specs.Tables.{ColumnMakes, ColumnMayPass, NonePasses, cell_texts, gaps_view}
use Rattle.textwrap_display.specs.Tables.{group_rows, shape_of, texts_in}
use Rattle.textwrap_text.proofs.Common.{All-head, All-tail, [], append-nil, append_assoc}
use Rattle.textwrap_text.proofs.Common.{arith, length, length-map, map, rules, ◌++◌, ◌∙◌, ◌≡◌}

pub loop-texts-init : goal.loop-texts-init
loop-texts-init g c =
    let rest : chunks_rest c.into_iter-texts-iterator.result ≡ c.args.cells.now = search rules in
    (search rules, search rules, λ fit. rw rest fit)

first_group : (g : _) (c : In-Some g) → IsFirstGroup (length c.args.columns.now)
    (texts_in (chunks_rest c.loop-texts.texts-iterator)) (texts_in c.in-Some.texts.now)
    (texts_in (chunks_rest c.next.new.self))
first_group g c = first-group (λ text. text.now) (chunks_rest c.loop-texts.texts-iterator) c.in-Some.texts.now
    (chunks_rest c.next.new.self) c.loop-texts.iterator.0 c.loop-texts.invariant.0 c.in-Some.ensures.steps.1

pub loop-texts-preserved : goal.loop-texts-preserved
loop-texts-preserved g c =
    let columns = c.args.columns.now in
    let gaps = gaps_view c.args.gaps.now in
    let cells = cell_texts c.deref.result.now in
    let first = first_group g (goal.at.loop-texts-preserved g c).In-Some in (
      c.in-Some.ensures.steps.0 ∙ c.loop-texts.invariant.0,
      λ others after. rw (c.in_ok-push_group.ensures, append_assoc) (c.loop-texts.invariant.1
          (group_rows gaps (map shape_of columns) cells ++ others)
          (table-more (ColumnMakes g.P.Parts.may) shape_of columns gaps cells others first
          (rw c.deref.ensures.value c.in_ok-group.ensures.cells) after)),
      λ fit. All-tail (NonePasses (ColumnMayPass g.P.Parts.may) columns) _ _
          (rw (groups-more _ _ _ _ first) at (c.loop-texts.invariant.2 fit)),
    )

pub returns-in_err-group-clause-only_memory : goal.returns-in_err-group-clause-only_memory
returns-in_err-group-clause-only_memory g c =
    search (rules, arith, passed-on, c.from_residual.ensures.1, c.in_err-group.ensures.only_memory)

pub returns-in_err-group-clause-no_overflow : goal.returns-in_err-group-clause-no_overflow
returns-in_err-group-clause-no_overflow g c = λ fit.
    passed-on c.from_residual.result c.in_err-group.field-0.0 c.from_residual.ensures.1
    (c.in_err-group.ensures.no_overflow
    (All-head (NonePasses (ColumnMayPass g.P.Parts.may) c.args.columns.now) _ _ (rw (groups-more _ _ _ _
    (first_group g (goal.at.returns-in_err-group-clause-no_overflow g c).In-Some))
    at (c.loop-texts.invariant.2 fit))))

pub returns-clause-rows : goal.returns-clause-rows
returns-clause-rows g c =
    let left = chunks_rest c.loop-texts.texts-iterator in
    rw append-nil at (c.loop-texts.invariant.1 [] (table-none (ColumnMakes g.P.Parts.may) shape_of
    c.args.columns.now (gaps_view c.args.gaps.now) (texts_in left)
    (length-map left (λ text. text.now) ∙ c.in-None.ensures.steps.1.0)))
