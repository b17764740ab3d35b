use Rattle.textwrap_text.proofs.Common.{add-zero, arith, rules, subst, sym, true≢false, ◌∙◌}
use Rattle.textwrap_text.proofs.Units.Reading.{columns-le, read-all, read-room}
use Rattle.textwrap_words.proofs.Word.{BrokenPieces.IsFirstPiece, Scanned.IsReading-end}
use Rattle.textwrap_words.proofs.Word.Breaking.{due-false, due-true}
use Rattle.textwrap_words.proofs.Word.Scanned.{IsReading-cut, IsReading-start, IsReading-step}
use Rattle.textwrap_words.proofs.words.breaking.first_piece.Goals as goal

pub loop-at-init : goal.loop-at-init
loop-at-init c =
    let items = c.char_indices-at-items.ensures in
    rw (c.into_iter-at-iterator.ensures.into_iter_gives, items.offset, items.rest)
    (IsReading-start c.args.line_width c.args.text.now c.utf8.text)

pub overflow_add-width : goal.overflow_add-width
overflow_add-width c = grind (arith, columns-le, read-room)

pub returns-then-width-columns : goal.returns-then-width-columns
returns-then-width-columns c =
    let s = c.in-Some.ensures.steps in
    let due = due-true c.args.line_width c.loop-at.width c.in-Some.ch c.if-width-gt0.true
    (omega (arith, c.columns-columns.ensures)) in
    let cut = subst (λ n. IsFirstPiece c.args.line_width c.args.text.now n c.loop-at.width)
    (sym s.0) (IsReading-cut c.loop-at.invariant _ _ c.utf8.text c.requires s.1
    (rw c.step-next.ensures at c.if-is_visible.true) due) in search (rules, arith)

pub loop-at-preserved-else-width-gt0 : goal.loop-at-preserved-else-width-gt0
loop-at-preserved-else-width-gt0 c =
    let s = c.in-Some.ensures.steps in
    let on = due-false c.args.line_width c.loop-at.width c.in-Some.ch
    (λ some. elim c.else-width-gt0.branch [
      | goal.else-width-gt0-via-then-width-gt0+else-width-columns w ↦ omega
          (arith, c.columns-columns.ensures)
      | goal.else-width-gt0-via-else-width-gt0 w ↦ omega arith
    ]) in
    let shown = rw c.step-next.ensures at c.if-is_visible.true in
    rw (c.step-next.ensures, c.columns-columns.ensures)
    (rw shown at (IsReading-step c.loop-at.invariant _ _ s.1 (λ _. on) _ s.2))

pub loop-at-preserved : goal.loop-at-preserved
loop-at-preserved c =
    let hidden = rw c.step-next.ensures at c.if-is_visible.false in
    rw c.step-next.ensures (rw (hidden, add-zero c.loop-at.width)
    at (IsReading-step c.loop-at.invariant _ _ c.in-Some.ensures.steps.1
    (λ shown. absurd (true≢false (sym shown ∙ hidden))) _ c.in-Some.ensures.steps.2))

pub returns : goal.returns
returns c =
    let h = c.loop-at.invariant in
    let none = c.in-None.ensures.steps.0 in
    let end = subst (λ n. IsFirstPiece c.args.line_width c.args.text.now n c.loop-at.width)
    (read-all h.read none) (IsReading-end h c.utf8.text c.requires none) in search (rules, arith)
