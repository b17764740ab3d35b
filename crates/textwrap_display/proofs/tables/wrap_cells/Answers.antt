use Rattle.textwrap_display.proofs.tables.wrap_cells.Goals as goal
use Rattle.std.proofs.lemmas.Slice.Zip.{all_zipped_more, length-zip, zip_end, zip_turn}
use Rattle.std.specs.{Iterator.Adapters.zip_first, Iterator.Adapters.zip_second, Slice.Iter.iter_rest}
use Rattle.textwrap_display.proofs.Common.{passed-on, texts_of}
use Rattle.textwrap_display.proofs.{TableGroups.cell-at, tables.wrap_cells.Goals.In-Some}
use Rattle.textwrap_display.specs.Tables.{ColumnMakes, ColumnMayPass, IsCell, cell_texts, texts_in}
use Rattle.textwrap_layout.proofs.Common.{line_view}
use Rattle.textwrap_text.proofs.Common.{arith, get_or, length, length-map, length_push, map, map-append}
use Rattle.textwrap_text.proofs.Common.{refl, rules, subst, sym, take, take_all, take_more, zip, ◌<◌, ◌≡◌}

-- which column this is, and which text beside it
turn : (g : _) (c : In-Some g) → let n = length c.loop-text.yielded in let columns = c.args.columns.now in
    let all = zip columns (texts_in c.args.texts.now) in
    let column = c.in-Some.column.now in let text = c.in-Some.text.now.now in
    (n < length columns) × ((d : _) → column ≡ get_or columns n d) × (n < length all)
    × ((column, text) ≡ get_or all n (column, text))
turn g c =
    let first : iter_rest (zip_first c.into_iter-text-iterator.result) ≡ c.args.texts.now = search rules in
    let second : iter_rest (zip_second c.into_iter-text-iterator.result) ≡ c.args.columns.now =
    search rules in
    let (some, within, text_is, column_is) = zip_turn c.args.texts.now c.args.columns.now
    c.loop-text.yielded _ _ c.next.new.self _ first second c.loop-text.yielded_by
    (c.in-Some.text, c.in-Some.column) c.in-Some.is c.next.ensures.steps in
    let (inside, is) = cell-at c.args.columns.now c.args.texts.now (length c.loop-text.yielded)
    c.in-Some.column.now c.in-Some.text.now within some (column_is _) (text_is _) in
    (within, column_is, inside, is)

pub loop-text-preserved : goal.loop-text-preserved
loop-text-preserved g c =
    let (_, _, inside, is) = turn g (goal.at.loop-text-preserved g c).In-Some in
    let n = length c.loop-text.yielded in
    let column = c.in-Some.column.now in
    let text = c.in-Some.text.now.now in
    let lines = c.in_ok-wrap_by.field-0 in
    let all = zip c.args.columns.now (texts_in c.args.texts.now) in
    rw (length_push, c.in_ok-push.ensures.items, map-append, take_more all n (column, text) inside, ← is)
    (all_zipped_more (IsCell (ColumnMakes g.P.Parts.may)) (take n all) (cell_texts c.loop-text.cells.items)
    (column, text) (texts_of lines.items) c.loop-text.invariant
    (map line_view lines.items, c.in_ok-wrap_by.ensures.lines, refl))

pub returns-in_err-wrap_by-clause-only_memory : goal.returns-in_err-wrap_by-clause-only_memory
returns-in_err-wrap_by-clause-only_memory g c = λ never.
    let (within, is, _, _) = turn g (goal.at.returns-in_err-wrap_by-clause-only_memory g c).In-Some in
    let column = c.in-Some.column.now in
    passed-on c.from_residual.result c.in_err-wrap_by.field-0.0 c.from_residual.ensures.1
    (c.in_err-wrap_by.ensures.only_memory
    (subst (λ column. ¬ g.P.Parts.may_overflow column.parts) (sym (is column))
    (never (length c.loop-text.yielded) column within)))

pub returns-in_err-wrap_by-clause-no_overflow : goal.returns-in_err-wrap_by-clause-no_overflow
returns-in_err-wrap_by-clause-no_overflow g c = λ fit.
    let (_, _, inside, is) = turn g (goal.at.returns-in_err-wrap_by-clause-no_overflow g c).In-Some in
    passed-on c.from_residual.result c.in_err-wrap_by.field-0.0 c.from_residual.ensures.1
    (c.in_err-wrap_by.ensures.no_overflow (subst (λ p. ¬ ColumnMayPass g.P.Parts.may p.0 p.1) (sym is)
    (fit (length c.loop-text.yielded) (c.in-Some.column.now, c.in-Some.text.now.now) inside)))

pub returns-clause-cells : goal.returns-clause-cells
returns-clause-cells g c =
    let texts = c.args.texts.now in
    let columns = c.args.columns.now in
    let n = length c.loop-text.yielded in
    let first : iter_rest (zip_first c.into_iter-text-iterator.result) ≡ texts = search rules in
    let second : iter_rest (zip_second c.into_iter-text-iterator.result) ≡ columns = search rules in
    let ended = zip_end texts columns c.loop-text.yielded _ _ c.next.new.self _ first second
    c.loop-text.yielded_by c.in-None.is c.next.ensures.steps in
    let some = length-map texts (λ t. t.now) in
    rw (take_all n (zip columns (texts_in texts)) (omega (arith, length-zip columns (texts_in texts))))
    at c.loop-text.invariant
