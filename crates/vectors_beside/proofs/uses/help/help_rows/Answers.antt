use Rattle.vectors_beside.proofs.Common.{default_algorithm, help_columns, settings_at, AtHyphens}
use Rattle.vectors_beside.proofs.Common.{HasParts, arith, subst, sym, refl, ◌+◌, ◌-◌, ◌≡◌}
use Rattle.textwrap_layout.specs.Options.{layout_view}
use Rattle.textwrap_display.specs.Tables.{HasColumnParts, texts_in}
use Rattle.vectors_beside.proofs.Common.{map, string_bytes}
use Rattle.vectors_beside.proofs.uses.help.help_rows.Goals as goal
use Rattle.vectors_beside.specs.Help.{help_gaps, left_column}

pub returns-clause-table : goal.returns-clause-table
returns-clause-table c =
    let left : c.saturating_sub-text_width.result ≡ c.args.width - (c.args.flag_width + 4) =
    omega (arith, c.saturating_add.ensures, c.saturating_sub-text_width.ensures) in
    let width = subst (λ n. layout_view c.new-3.result ≡ settings_at n) left c.new-3.ensures in
    let flags = subst (λ s. HasParts c.new-2.result s AtHyphens default_algorithm)
    (sym c.new-2.ensures.settings_are) c.new-2.ensures in
    let texts = subst (λ s. HasParts c.new-4.result s AtHyphens default_algorithm)
    (sym c.new-4.ensures.settings_are) c.new-4.ensures in
    let flag : HasColumnParts _ (left_column c.args.flag_width) =
    record { settings_are = c.new.ensures; parts_are = flags; alignment_is = refl } in
    let text : HasColumnParts _ (left_column (c.args.width - (c.args.flag_width + 4))) =
    record { settings_are = width; parts_are = texts; alignment_is = refl } in
    c.tables_have_named_parts.ensures (help_columns c.args.flag_width c.args.width) (flag, (text, tt))
    help_gaps (texts_in c.args.entries.now) (map string_bytes c.in_ok-rows.rows.items)
    c.in_ok-rows.ensures.rows
