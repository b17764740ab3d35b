-- The widths of columns that fit what stands in them.
use Rattle.std.specs.Prelude.{ℕ, ◌+◌, ◌-◌, ◌*◌, ◌/◌, ◌==◌, max, min, List, [], ◌∷◌}
use Rattle.std.specs.Prelude.{if◌then◌else◌, nat_le, sum_by}
use Rattle.textwrap_display.specs.declared.needs.Need.{Need}

abbrev pub widest_word : Need → ℕ
widest_word need = need.least

-- a widest line is no narrower than the widest word
abbrev pub widest_line : Need → ℕ
widest_line need = max need.least need.most

abbrev pub lacking : Need → ℕ
lacking need = widest_line need - widest_word need

-- of what rounding leaves over, the first columns that have a weight get one each
abbrev pub rounded_up : (Need → ℕ) → (Need → ℕ) → ℕ → List Need → List ℕ
rounded_up width weight over [] = []
rounded_up width weight over (need ∷ needs) =
    let one = min over (min (weight need) 1) in
    (width need + one) ∷ rounded_up width weight (over - one) needs

-- each column has what is sure, and a share of what is left of the total, in proportion to its
-- weight
abbrev pub shared : (Need → ℕ) → (Need → ℕ) → ℕ → List Need → List ℕ
shared sure weight total needs =
    let left = total - sum_by sure needs in
    let width = λ (need : Need). sure need + left * weight need / sum_by weight needs in
    rounded_up width weight (total - sum_by width needs) needs

-- what is sure, and what are weights: by whether all widest lines have room, all widest words, or
-- not even these
abbrev pub fitting_widths : ℕ → List Need → List ℕ
fitting_widths total needs =
    if nat_le (sum_by widest_line needs) total then
    (if sum_by widest_line needs == 0 then shared widest_line (λ need. 1) total needs
    else shared widest_line widest_line total needs)
    else (if nat_le (sum_by widest_word needs) total then
    shared widest_word lacking total needs
    else shared (λ need. 0) widest_word total needs)
