-- Blocks that are laid out, one after another.
use Rattle.std.specs.Prelude.{nat_le}
use Rattle.textwrap_marked.proofs.Common.{IsOfBlock, LineRange, drop_more, is_beside, nat_tests, LineText}
use Rattle.textwrap_marked.proofs.Common.{cond, drop, refl, take, true, ◌&&◌, ◌++◌, ◌||◌, ap₂, map, not}
use Rattle.textwrap_marked.proofs.Common.{dividing_algorithm, AreOfBlocksWithin, marked_line_view, blocks}
use Rattle.textwrap_marked.proofs.Common.{range_behind, AreOfBlocks, IsDividedBy, first_block, filled_end}
use Rattle.textwrap_marked.proofs.Common.{shown_lines, first_room, later_room, Algorithm, AreFilled, List}
use Rattle.textwrap_marked.proofs.Common.{suc, sym, ◌+◌, ◌-◌, ◌<◌, ◌∙◌, ◌∷◌, ◌≡◌, ◌≤◌, [], ap}
use Rattle.textwrap_marked.proofs.Common.{with_line, WordText, sizes_of, goes_on, printed, touches, arith}
use Rattle.textwrap_marked.proofs.Common.{word_of, get_or, length, nat_lt, pieces, false, stays, subst, ℕ}
use Rattle.textwrap_marked.proofs.Common.{words_of_lines, ReflowOptions, append_assoc, behind_block, Bool}
use Rattle.textwrap_marked_lines.specs.Blocks.{later_len}
use Rattle.textwrap_marked.specs.Reflow.{IsOfLines}
use Rattle.textwrap_marked_lines.specs.declared.line.MarkedLine.{MarkedLine}

pub blocks-first : (line : LineText) (lines : List LineText)
    → blocks (line ∷ lines) ≡ (line ∷ take (later_len line lines) lines)
    ∷ blocks (drop (later_len line lines) lines)
blocks-first line [] = refl
blocks-first line (next ∷ lines) =
    let later = blocks-first next lines in
    let n = later_len next lines in
    ap (with_line line) later
    ∙ elim (goes_on line next) as (λ b. cond b ((line ∷ next ∷ take n lines) ∷ blocks (drop n lines))
    ((line ∷ []) ∷ (next ∷ take n lines) ∷ blocks (drop n lines))
    ≡ (line ∷ take (cond b (suc n) 0) (next ∷ lines)) ∷ blocks (drop (cond b (suc n) 0) (next ∷ lines))) [
      | true ↦ refl
      | false ↦ ap (λ l. (line ∷ []) ∷ l) (sym later)
    ]

-- ---- blocks that are laid out, one after another

-- lines that are not none begin with their first
pub first-of : (lines given : List MarkedLine) (first : MarkedLine) → given ≡ lines → 1 ≤ length given
    → first ≡ get_or given 0 first
    → map marked_line_view lines ≡ marked_line_view first ∷ map marked_line_view (drop 1 lines)
first-of lines given first is some begins =
    ap (map marked_line_view) (drop_more lines 0 first (omega (arith, some, ap length is)))
    ∙ ap (λ l. marked_line_view l ∷ map marked_line_view (drop 1 lines))
    (sym (begins ∙ ap (λ ls. get_or ls 0 first) is))

-- the lines of the first block begin with the first line
pub block-begins : (block : List MarkedLine) (line : LineText) (rest : List LineText) (d : MarkedLine)
    → map marked_line_view block ≡ first_block (line ∷ rest)
    → (0 < length block) × (marked_line_view (get_or block 0 d) ≡ line)
block-begins [] line rest d is = absurd (omega (arith, ap length is))
block-begins (first ∷ block) line rest d is = (omega arith, ap (λ l. get_or l 0 line) is)

-- the first block of these lines begins with the first of them
pub of-first : (options : ReflowOptions) (ending : List ℕ) (beside : Bool) (line : LineText)
    (rest block : List LineText) (text : List ℕ) → block ≡ first_block (line ∷ rest)
    → IsOfLines options ending beside block text
    → IsOfBlock options ending (stays beside line) line block text
of-first options ending beside line rest block text part of =
    subst (λ b. IsOfBlock options ending (stays beside line) line b text) (sym part)
    (subst (λ b. IsOfLines options ending beside b text) part of)

-- the first block of these lines is laid out, and those behind it are
pub laid-first : (options : ReflowOptions) (ending : List ℕ) (beside next : Bool) (line : LineText)
    (rest block : List LineText) (front back : List ℕ) → block ≡ first_block (line ∷ rest)
    → next ≡ is_beside line (blocks (behind_block (line ∷ rest)))
    → IsOfBlock options ending (stays (beside || next) line) line block front
    → AreOfBlocks options ending next (blocks (behind_block (line ∷ rest))) back
    → AreOfBlocks options ending beside (blocks (line ∷ rest)) (front ++ back)
laid-first options ending beside next line rest block front back part told of laid =
    let later = blocks (behind_block (line ∷ rest)) in
    subst (λ bs. AreOfBlocks options ending beside bs (front ++ back)) (sym (blocks-first line rest)) (
      front,
      back,
      subst (λ b. IsOfBlock options ending (stays (beside || is_beside line later) line) line b front) part
          (subst (λ n. IsOfBlock options ending (stays (beside || n) line) line block front) told of),
      subst (λ n. AreOfBlocks options ending n later back) told laid,
      refl,
    )

-- a paragraph is filled whose lines are those of a division, with what stands behind them
pub divided-filled : (options : ReflowOptions) (ending : List ℕ) (algorithm : Algorithm)
    (first : LineText) (rest : List LineText) (old begun new : List ℕ)
    → dividing_algorithm options.algorithm ≡ algorithm → ((division : List (List WordText))
    × IsDividedBy algorithm sizes_of (first_room options first ∷ later_room options first ∷ [])
    (map word_of (pieces options first.starred (words_of_lines (first ∷ rest)))) division
    × (begun ≡ old ++ printed ending first.prefix first.hanging (shown_lines options first division)))
    → new ≡ begun ++ filled_end ending (first ∷ rest)
    → (text : List ℕ) × AreFilled options ending (first ∷ rest) text × (new ≡ old ++ text)
divided-filled options ending algorithm first rest old begun new chosen (division, divided, writes) more =
    let text = printed ending first.prefix first.hanging (shown_lines options first division) in
    let end = filled_end ending (first ∷ rest) in (
      text ++ end,
      (
        division,
        subst (λ a. IsDividedBy a sizes_of (first_room options first ∷ later_room options first ∷ [])
            (map word_of (pieces options first.starred (words_of_lines (first ∷ rest)))) division)
            (sym chosen) divided,
        refl,
      ),
      more ∙ ap (λ t. t ++ end) writes ∙ append_assoc old text end,
    )

-- ---- blocks that are laid out, one after another, where some lines are filled

touched : (first last start len : ℕ)
    → (nat_lt 0 (last - start) && nat_le (first - start) len)
    ≡ (nat_lt start last && nat_le first (start + len))
touched first last start len = grind (arith, nat_tests)

-- a range that is counted behind no line, and behind some
pub behind-none : (range : LineRange) → range ≡ range_behind range 0
behind-none range = ap₂ (λ a b. record { first = a; last = b }) (omega arith) (omega arith)

module _ (range : LineRange) (start len : ℕ) where
  pub touches-behind : touches (range_behind range start) 0 len ≡ touches range start (start + len)
  touches-behind = touched range.first range.last start len

  pub behind-more : range_behind (range_behind range start) len ≡ range_behind range (start + len)
  behind-more =
      ap₂ (λ a b. record { first = a; last = b }) (omega arith) (omega arith)

-- the first block of these lines is laid out, and those behind it are
pub within-first : (options : ReflowOptions) (range : LineRange) (ending : List ℕ) (start end : ℕ)
    (beside next outside : Bool) (line : LineText) (rest block : List LineText) (front back : List ℕ)
    → block ≡ first_block (line ∷ rest) → next ≡ is_beside line (blocks (behind_block (line ∷ rest)))
    → end ≡ start + length block → outside ≡ not (touches range start end)
    → IsOfBlock options ending (stays (beside || next || outside) line) line block front
    → AreOfBlocksWithin options range ending end next (blocks (behind_block (line ∷ rest))) back
    → AreOfBlocksWithin options range ending start beside (blocks (line ∷ rest)) (front ++ back)
within-first options range ending start end beside next outside line rest block front back part told
    ends out of laid =
    let later = blocks (behind_block (line ∷ rest)) in
    let shown : IsOfBlock options ending
    (stays (beside || is_beside line later || not (touches range start (start + length block))) line)
    line block front =
    subst (λ n. IsOfBlock options ending
    (stays (beside || n || not (touches range start (start + length block))) line) line block front) told
    (subst (λ o. IsOfBlock options ending (stays (beside || next || o) line) line block front)
    (out ∙ ap (λ e. not (touches range start e)) ends) of) in
    let more = subst (λ e. AreOfBlocksWithin options range ending e (is_beside line later) later back) ends
    (subst (λ n. AreOfBlocksWithin options range ending end n later back) told laid) in
    subst (λ bs. AreOfBlocksWithin options range ending start beside bs (front ++ back))
    (sym (blocks-first line rest)) (
      front,
      back,
      subst (λ b. IsOfBlock options ending
          (stays (beside || is_beside line later || not (touches range start (start + length b))) line)
          line b front) part shown,
      subst (λ b. AreOfBlocksWithin options range ending (start + length b) (is_beside line later) later
          back) part more,
      refl,
    )
