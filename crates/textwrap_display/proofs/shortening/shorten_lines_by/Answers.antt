use Rattle.textwrap_display.proofs.shortening.shorten_lines_by.Goals as goal
use Rattle.textwrap_display.proofs.Common.{Built, Slice, line_view, texts_of}
use Rattle.{textwrap_display.proofs.KeptLines.cut-lines, textwrap_text.proofs.Common.[]}
use Rattle.textwrap_text.proofs.Common.{ap, arith, map, map-append, string_bytes, take, ◌++◌, ◌+◌, ◌∷◌, ◌≡◌}

pub returns-clause-cut : goal.returns-clause-cut
returns-clause-cut g c = λ some fewer. elim c.if-lines-most.branch [
  | goal.then-lines-most+in_ok-push_whole w ↦ absurd (omega arith)
  | goal.else-lines-most+in-Some+in_ok-push_whole-2+in_ok-last+in_ok-push w ↦
      let lines = c.args.lines.now in
      let last = Built (string_bytes w.in_ok-last.last) in
      let whole = map Slice (texts_of (take w.in-Some.whole lines)) in
      let are : map line_view c.if-lines-most.short.items ≡ whole ++ last ∷ [] =
      rw (w.short-is, w.in_ok-push.ensures.items, map-append, w.in_ok-push_whole-2.ensures)
      (ap (λ l. (map line_view l ++ whole) ++ last ∷ []) c.in_ok-short.ensures.items) in
      let number : w.in-Some.whole + 1 ≡ c.args.most = omega (arith, w.in-Some.ensures) in
      rw are (cut-lines _ c.args.most _ _ lines w.in-Some.whole w.index-lines-whole.result last number
      (omega arith) w.index-lines-whole.is (rw w.deref.ensures.value at w.in_ok-last.ensures))
  | goal.else-lines-most+in_default w ↦ absurd (omega arith)
]
