use Rattle.vectors_beside.proofs.Common.{[], ap, default_algorithm, line_bytes, line_view, map, refl}
use Rattle.vectors_beside.proofs.Common.{settings_at, AtHyphens, List, ℕ, ◌∙◌, ◌∷◌, ◌≡◌}
use Rattle.std.proofs.Common.{ap₂}
use Rattle.std.proofs.lemmas.Simd.{map-map}
use Rattle.textwrap_display.specs.Penned.{penned_lines, penned_text, plain_rendition}
use Rattle.textwrap_display.specs.Styled.{EachWithIndent, MayCarry}
use Rattle.textwrap_display.specs.Styles.{carried_lines}
use Rattle.textwrap_display.specs.Tables.{Shape, cell_texts, gaps_view, rows_of_cells}
use Rattle.textwrap_display.specs.declared.alignment.Alignment.TheVariants.{Left}
use Rattle.vectors_beside.proofs.uses.styled.rows_beside.Goals as goal
use Rattle.vectors_beside.specs.Styled.{carried_cell}

-- what each line shows, as the law says it
shown : ((indent later : List ℕ) (lines : List (List ℕ)) → EachWithIndent MayCarry indent later lines
    → map (λ l. penned_text plain_rendition (line_bytes l)) (carried_lines indent later [] lines)
    ≡ penned_lines indent later plain_rendition lines)
    → (lines : List (List ℕ)) → EachWithIndent MayCarry [] [] lines
    → map (penned_text plain_rendition) (carried_cell lines) ≡ penned_lines [] [] plain_rendition lines
shown law lines may =
    map-map (penned_text plain_rendition) line_bytes (carried_lines [] [] [] lines)
    ∙ law [] [] lines may

pub returns-clause-styled : goal.returns-clause-styled
returns-clause-styled c =
    let left = map line_view c.in_ok-wrap.field-0.items in
    let right = map line_view c.in_ok-wrap-2.field-0.items in
    let wrapped : cell_texts c.deref.result.now ≡ map line_bytes left ∷ map line_bytes right ∷ [] =
    rw (
      c.deref.ensures.value,
      c.in_ok-push-2.ensures.items,
      c.in_ok-push.ensures.items,
      c.new-wrapped.ensures.items,
    ) refl in
    let cells : cell_texts c.deref-2.result.now
    ≡ carried_cell (map line_bytes left) ∷ carried_cell (map line_bytes right) ∷ [] =
    ap cell_texts c.deref-2.ensures.value ∙ c.in_ok-cells.ensures ∙ ap (map carried_cell) wrapped in
    let gaps = gaps_view c.args.gaps.now in
    let both = carried_cell (map line_bytes left) ∷ carried_cell (map line_bytes right) ∷ [] in
    let shape : ℕ → Shape = λ (n : ℕ). record { width = n; alignment = Left } in
    record {
      left_cell = carried_cell (map line_bytes left);
      right_cell = carried_cell (map line_bytes right);
      left_styled = record {
        lines = left;
        wrapped = c.in_ok-wrap.ensures.built_in (settings_at c.args.left_width) AtHyphens
            default_algorithm c.new.ensures;
        carried = refl;
        shown = shown c.carried_lines_keep_pens.ensures (map line_bytes left);
      };
      right_styled = record {
        lines = right;
        wrapped = c.in_ok-wrap-2.ensures.built_in (settings_at c.args.right_width) AtHyphens
            default_algorithm c.new-2.ensures;
        carried = refl;
        shown = shown c.carried_lines_keep_pens.ensures (map line_bytes right);
      };
      rows_are = c.in_ok-rows.ensures
          ∙ ap (rows_of_cells gaps (shape c.new-3.result.width ∷ shape c.new-4.result.width ∷ [])) cells
          ∙ ap₂ (λ m n. rows_of_cells gaps (shape m.width ∷ shape n.width ∷ []) both)
          c.new-3.ensures c.new-4.ensures;
    }
