use Rattle.vectors_beside.proofs.Common.{[], ap, get_or, help_columns, length, map}
use Rattle.vectors_beside.proofs.Common.{subst, sym, string_bytes, ◌+◌, ◌-◌, ◌∙◌, ◌∷◌, ◌≡◌}
use Rattle.std.proofs.Common.{ap₂, lit<, min, sum, sum_by}
use Rattle.std.proofs.lemmas.Result.{IfOk-weaker}
use Rattle.textwrap_display.specs.Fitting.{fitting_widths, widest_line}
use Rattle.textwrap_display.specs.Needs.{column_texts, need_of}
use Rattle.textwrap_display.specs.Tables.{IsTableOf, texts_in}
use Rattle.textwrap_display.specs.declared.needs.Need.{Need}
use Rattle.vectors_beside.proofs.Fitted.{both-lines, rows-as-wide, two-columns, whole-flags}
use Rattle.vectors_beside.proofs.uses.help.fitted_help_rows.Goals as goal
use Rattle.vectors_beside.specs.Help.{fitted_columns, help_gaps, help_needs, help_total}
use Rattle.vectors_beside.specs.Help.{help_widths}

pub returns-clause-table : goal.returns-clause-table
returns-clause-table c =
    let texts = texts_in c.args.entries.now in
    let flags : Need = c.index.result.now in
    let other : Need = c.index-2.result.now in
    let needs : record { least = flags.most; most = flags.most } ∷ other ∷ [] ≡ help_needs texts =
    whole-flags c.in_ok-needs.needs.items (need_of (column_texts 2 texts 0))
    (need_of (column_texts 2 texts 1)) flags other c.in_ok-needs.ensures c.index.ensures
    c.index-2.ensures in
    let total : c.min-total.result ≡ help_total c.args.width texts =
    both-lines c.args.width _ _ _ _ flags other c.saturating_sub.ensures c.max.ensures
    c.saturating_add-lines.ensures c.min-total.ensures c.ranges.width.fits
    ∙ ap (λ ns. min (c.args.width - 4) (sum_by widest_line ns)) needs in
    let widths : c.in_ok-widths.widths.items ≡ help_widths c.args.width texts =
    c.in_ok-widths.ensures.widths ∙ ap₂ fitting_widths total needs in
    let add_up : sum (help_widths c.args.width texts) ≡ help_total c.args.width texts =
    c.fitting_widths_add_up.ensures (help_total c.args.width texts) (help_needs texts)
    (lit< tt) in
    let count : length (help_widths c.args.width texts) ≡ 2 =
    ap length (sym widths) ∙ c.in_ok-widths.ensures.count in
    let first : c.index-3.result.now ≡ get_or (help_widths c.args.width texts) 0 c.index-3.result.now =
    c.index-3.ensures ∙ ap (λ l. get_or l 0 c.index-3.result.now) widths in
    let columns : help_columns c.index-3.result.now (c.min-total.result + 4)
    ≡ fitted_columns c.args.width texts =
    ap₂ (λ m n. help_columns m (n + 4)) first total
    ∙ two-columns (help_total c.args.width texts) c.index-3.result.now
    (help_widths c.args.width texts) count add_up in
    IfOk-weaker c.help_rows.result _ _ (λ rows is.
    let table = subst (λ l. IsTableOf l help_gaps texts (map string_bytes rows.items)) columns is in
    record {
      add_up = add_up;
      table = table;
      even = rows-as-wide (help_total c.args.width texts) (help_widths c.args.width texts) count
          add_up c.table_rows_are_even.ensures table.0 (map string_bytes rows.items) table.2;
    }) c.help_rows.ensures.table
