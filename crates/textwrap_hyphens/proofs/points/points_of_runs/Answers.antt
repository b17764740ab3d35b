use Rattle.std.proofs.Common.{drop-drop, add-zero, ap, append_assoc, arith, drop, get_or}
use Rattle.std.proofs.Common.{get_or-drop, length-drop, sym, take, true, ◌++◌, ◌+◌, ◌-◌, ◌∙◌, ◌≡◌}
use Rattle.std.proofs.lemmas.List.{take_rest}
use Rattle.textwrap_hyphens.proofs.Runs.{past-letter, run-within}
use Rattle.textwrap_hyphens.specs.{Points.points_in, Points.points_past, Table.held}
use Rattle.textwrap_patterns.specs.Letters.{is_letter_or_mark, run_len}
use Rattle.textwrap_patterns.specs.declared.letters.Letter.{Letter}
use Rattle.textwrap_hyphens.proofs.points.points_of_runs.Goals as goal

pub loop-at-preserved-then-is_letter : goal.loop-at-preserved-then-is_letter
loop-at-preserved-then-is_letter g c =
    let h = held c.args.patterns.now in
    let letters = c.args.letters.now in
    let at = c.loop-at.at in
    let rest = drop at letters in
    let so_far = c.loop-at.points.items in
    let none : Letter = record { at = 0; ch = 0 } in
    let first = get_or-drop at letters 0 none ∙ ap (λ k. get_or letters k none) (add-zero at) in
    let here : is_letter_or_mark (get_or rest 0 none).ch ≡ true =
    ap (λ (l : Letter). is_letter_or_mark l.ch) first ∙ sym c.is_letter.ensures ∙ c.if-is_letter.true in
    let next = past-letter h rest none (omega
    (arith, c.loop-at-test.true, length-drop at letters)) here in
    let size = c.run_len.ensures.len ∙ ap run_len (take_rest letters at) in
    let taken : at + c.run_len.result - at ≡ run_len rest = omega (arith, size) in
    let behind : drop (at + c.run_len.result) letters ≡ drop (run_len rest) rest =
    ap (λ n. drop (at + n) letters) size ∙ sym (drop-drop (run_len rest) at letters) in
    let run = points_in h (take (run_len rest) rest) in
    let later = points_past h 0 (drop (at + c.run_len.result) letters) in
    let pushed = c.in_ok-push_points.ensures {u = tt}
    ∙ ap (λ n. so_far ++ points_in h (take n rest)) taken in
    record {
      points = ap (λ l. l ++ later) pushed ∙ append_assoc so_far run later
          ∙ ap (λ l. so_far ++ l) (ap (λ l. run ++ points_past h 0 l) behind ∙ sym next.0)
          ∙ c.loop-at.invariant.points;
      inside = omega (arith, run-within rest, length-drop at letters);
    }
