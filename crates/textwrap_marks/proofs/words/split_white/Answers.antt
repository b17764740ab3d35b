use Rattle.textwrap_marks.proofs.words.split_white.Goals as goal
use Rattle.std.proofs.lemmas.List.Sums.{prefix_len-drop_yes}
use Rattle.textwrap_marks.proofs.Common.{is_white, get_or, length, arith, true, sym, ◌<◌, ◌∙◌, ◌≡◌, ap}
use Rattle.textwrap_marks.proofs.SpacedLemmas.{white-small}
use Rattle.textwrap_text.proofs.Common.{IsCharBoundary-after_ascii, IsCharBoundary-start, zero-add}

pub loop-end-init : goal.loop-end-init
loop-end-init c = (IsCharBoundary-start c.args.text.now c.utf8.text, zero-add _)

pub loop-end-preserved : goal.loop-end-preserved
loop-end-preserved c =
    let text = c.args.text.now in
    let end = c.loop-end.end in
    let same = c.as_bytes-bytes.ensures.value in
    let within : end < length text = rw same at c.loop-end-test.true in
    let white : is_white (get_or text end 0) ≡ true =
    ap (λ l. is_white (get_or l end 0)) (sym same) ∙ sym c.is_white.ensures ∙ c.if-is_white.true in (
      IsCharBoundary-after_ascii text end c.utf8.text within (white-small (get_or text end 0) white),
      omega (arith, prefix_len-drop_yes is_white text end 0 within white, c.loop-end.invariant.1),
    )
