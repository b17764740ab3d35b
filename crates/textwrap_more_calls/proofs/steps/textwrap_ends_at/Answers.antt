use Rattle.textwrap_base.proofs.{Common.total_width, Cost.Measures.total_width-same}
use Rattle.textwrap_calls.proofs.Common.{List, says_yes, sizes_of, widths_of, word_view, WordText, [], ap}
use Rattle.textwrap_calls.proofs.Common.{false, map, sym, ℕ, ◌∙◌, ◌∷◌, ◌≡◌, options_algorithm, pieces_at}
use Rattle.textwrap_calls.proofs.Common.{step_settings, settings_view, subst}
use Rattle.textwrap_layout.{proofs.Paragraph.Widths.sizes-word_view, specs.declared.layout.Layout.Layout}
use Rattle.textwrap_lines.proofs.Common.{Some, IsDividedBy, algorithm_view}
use Rattle.textwrap_more_calls.proofs.{Common.ends_of, Common.WritesText-answer, EndLemmas.ends_from-map}
use Rattle.textwrap_more_calls.proofs.{EndLemmas.OverflowsBy-map, steps.textwrap_ends_at.Goals.After-wrap}
use Rattle.textwrap_words.{proofs.Word.Divisions.MayDivide-map, specs.WrapAlgorithms.OverflowsBy}
use Rattle.textwrap_more_calls.proofs.steps.textwrap_ends_at.Goals as goal
use Rattle.textwrap_layout.proofs.{Common.{Settings, first_width, layout_view}, Paragraph.Pieces.division-as}

-- the pieces and the widths by the numbers of C, and the widths as they were found
abbrev all : After-wrap → List WordText
all c = pieces_at (step_settings c.args.options.now) c.args.cuts.now c.args.points.now c.args.paragraph.now

abbrev widths : After-wrap → List ℕ
widths c = widths_of (step_settings c.args.options.now) (says_yes c.args.is_later)

abbrev found : After-wrap → List ℕ
found c = c.line_widths-first_width.result.0 ∷ c.line_widths-first_width.result.1 ∷ []

settings-are : (c : After-wrap) → settings_view c.with_layout-layout.result
    ≡ step_settings c.args.options.now
settings-are c =
    c.with_layout-layout.ensures
    ∙ ap (λ (l : Layout). record (layout_view l) { room_for_hyphens = false }) c.layout.ensures
    ∙ ap (λ (s : Settings). record s { room_for_hyphens = false }) c.in-Ok.ensures.read.settings

pieces-are : (c : After-wrap) → map word_view c.deref.result.now ≡ all c
pieces-are c =
    ap (map word_view) c.deref.ensures.value ∙ c.in-Ok-find_pieces.ensures.pieces
    ∙ ap (λ s. pieces_at s c.args.cuts.now c.args.points.now c.in-Ok-from_utf8.paragraph.now)
    (settings-are c)
    ∙ ap (pieces_at (step_settings c.args.options.now) c.args.cuts.now c.args.points.now)
    c.in-Ok-from_utf8.ensures.0

widths-are : (c : After-wrap) → found c ≡ widths c
widths-are c =
    ap (λ n. n ∷ c.line_widths-first_width.result.1 ∷ []) c.line_widths-first_width.ensures.first
    ∙ ap (λ n. first_width (settings_view c.with_layout-layout.result) (says_yes c.args.is_later)
    ∷ n ∷ []) c.line_widths-first_width.ensures.later
    ∙ ap (λ s. widths_of s (says_yes c.args.is_later))
    (settings-are c)

algorithm-is : (c : After-wrap) → algorithm_view c.algorithm.result
    ≡ Some (options_algorithm c.args.options.now)
algorithm-is c =
    c.algorithm.ensures ∙ ap Some c.in-Ok.ensures.read.algorithm

-- the algorithm refuses the pieces as it refuses their words
refuses : (c : After-wrap) → OverflowsBy (options_algorithm c.args.options.now)
    (λ word. sizes_of (word_view word)) (found c) c.deref.result.now
    ≡ OverflowsBy (options_algorithm c.args.options.now) sizes_of (widths c) (all c)
refuses c =
    let algorithm = options_algorithm c.args.options.now in
    OverflowsBy-map word_view algorithm sizes_of (found c) c.deref.result.now
    ∙ ap (OverflowsBy algorithm sizes_of (found c)) (pieces-are c)
    ∙ ap (λ ws. OverflowsBy algorithm sizes_of ws (all c)) (widths-are c)

pub returns-in-Err-Overflow-clause-overflow : goal.returns-in-Err-Overflow-clause-overflow
returns-in-Err-Overflow-clause-overflow c = λ same.
    let here = (goal.at.returns-in-Err-Overflow-clause-overflow c).After-wrap in
    let overflows = c.in-Err-Overflow.ensures.overflow_only (rw c.in-Err-Overflow.field-0-is tt) in
    subst (λ P. P) (refuses here) (rw (algorithm-is here) at overflows)

-- their widths are those of the words
widths-same : (c : After-wrap) → total_width (λ word. sizes_of (word_view word)) c.deref.result.now
    ≡ total_width sizes_of (all c)
widths-same c =
    total_width-same (λ word. sizes_of (word_view word)) sizes_of c.deref.result.now
    (map word_view c.deref.result.now) (sizes-word_view c.deref.result.now)
    ∙ ap (total_width sizes_of) (pieces-are c)

pub returns-in-Err-Overflow-clause-no_overflow : goal.returns-in-Err-Overflow-clause-no_overflow
returns-in-Err-Overflow-clause-no_overflow c = λ fits same.
    let here = (goal.at.returns-in-Err-Overflow-clause-no_overflow c).After-wrap in
    c.in-Err-Overflow.ensures.no_overflow (rw (widths-same here) fits)
    (rw c.in-Err-Overflow.field-0-is tt)

pub returns-in-Ok-line_ends-clause-ends : goal.returns-in-Ok-line_ends-clause-ends
returns-in-Ok-line_ends-clause-ends c =
    let here = (goal.at.returns-in-Ok-line_ends-clause-ends c).After-wrap in
    let algorithm = options_algorithm c.args.options.now in
    let lines = map (λ line. line.now) c.in-Ok-wrap.division.items in
    let words = map (map word_view) lines in
    let divided : IsDividedBy algorithm sizes_of (widths here) (all here) words =
    subst (λ ws. IsDividedBy algorithm sizes_of ws (all here) words) (widths-are here)
    (subst (λ ps. IsDividedBy algorithm sizes_of (found here) ps words) (pieces-are here)
    (subst (λ Divided. Divided (found here) (map word_view c.deref.result.now) words)
    (division-as c.algorithm.result algorithm (algorithm-is here))
    (MayDivide-map c.algorithm.result word_view (found here)
    c.deref.result.now lines c.in-Ok-wrap.ensures.divided))) in
    let is : c.deref-in-Ok-line_ends.result.now ≡ ends_of words =
    c.deref-in-Ok-line_ends.ensures.value ∙ c.in-Ok-line_ends.ensures
    ∙ ap (λ ls. ends_of (map (λ line. line.now) ls)) c.deref-3.ensures.value
    ∙ sym (ends_from-map word_view 0 lines) in
    WritesText-answer (words, divided, is) c.put.ensures.text

pub returns-in-Ok-line_ends-clause-written_only : goal.returns-in-Ok-line_ends-clause-written_only
returns-in-Ok-line_ends-clause-written_only c = λ statuses overflows.
    let here = (goal.at.returns-in-Ok-line_ends-clause-written_only c).After-wrap in
    c.in-Ok-wrap.ensures.ok_only (options_algorithm c.args.options.now) (algorithm-is here)
    (subst (λ P. P) (sym (refuses here)) overflows)
