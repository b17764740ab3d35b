use Rattle.std.proofs.Common.{None, Some, drop-drop, ap, arith, drop, length, length-drop, sym, take, ◌-◌}
use Rattle.std.proofs.Common.{◌<◌, ◌∙◌}
use Rattle.std.proofs.lemmas.{Bool.Decides.Decides-eqb, List.take_rest, Slice.Eq.strip_prefix_is}
use Rattle.textwrap_dictionaries.{proofs.Said.mark-here, proofs.Said.mark-later, specs.Parsing.after_mark}
use Rattle.textwrap_dictionaries.proofs.parsing.after_mark.Goals as goal

pub returns-in-Some : goal.returns-in-Some
returns-in-Some c =
    let mark = c.args.mark.now in
    let line = c.args.line.now in
    let at = c.loop-at.at in
    let some : 0 < length (drop at line) = omega (arith, length-drop at line, c.loop-at-test.true) in
    let is = strip_prefix_is Decides-eqb (take (length line - at) (drop at line)) mark
    (Some c.in-Some.text) c.in-Some.ensures.cases in
    sym (mark-here mark (drop at line) c.in-Some.text.now some (sym (take_rest line at) ∙ is))
    ∙ c.loop-at.invariant

pub loop-at-preserved : goal.loop-at-preserved
loop-at-preserved c =
    let mark = c.args.mark.now in
    let line = c.args.line.now in
    let at = c.loop-at.at in
    let some : 0 < length (drop at line) = omega (arith, length-drop at line, c.loop-at-test.true) in
    let never = strip_prefix_is Decides-eqb (take (length line - at) (drop at line)) mark None
    c.in_default.ensures.cases in
    sym (ap (after_mark mark) (drop-drop 1 at line))
    ∙ sym (mark-later mark (drop at line) some (λ text is. never text (take_rest line at ∙ is)))
    ∙ c.loop-at.invariant
