use Rattle.textwrap_marked_lines.proofs.columns.depth_of.Goals as goal
use Rattle.std.proofs.lemmas.List.{nil_from_length}
use Rattle.textwrap_marks.proofs.Common.{nat_tests, length, arith, List, sym, ◌-◌, ◌∙◌, ◌≡◌, [], ap, ℕ}
use Rattle.textwrap_marked_lines.specs.Columns.{DepthText, depth_of}
use Rattle.textwrap_words.proofs.Word.Words.{text_width-nil}

pub returns-then-is_empty : goal.returns-then-is_empty
returns-then-is_empty c =
    let none : length c.args.prefix.now ≡ 0 = grind (arith, nat_tests) in
    let depth : List ℕ → ℕ → DepthText = λ marks columns.
    record { marks = marks; lead = columns; behind = columns - columns } in
    ap (λ marks. depth marks 0) c.new.ensures.bytes ∙ ap (depth []) (sym text_width-nil)
    ∙ ap depth_of (sym (nil_from_length c.args.prefix.now none))
