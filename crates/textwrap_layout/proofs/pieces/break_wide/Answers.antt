use Rattle.textwrap_layout.proofs.pieces.break_wide.Goals as goal
use Rattle.textwrap_text.proofs.Common.{map, ◌∙◌, ◌≡◌, ap}
use Rattle.textwrap_layout.proofs.Common.{IfOk-weaker, broken_words, word_view, Iter, Word}
use Rattle.std.specs.Iterator.Adapters.{copied_source}
use Rattle.std.specs.Slice.Iter.{iter_rest}
use Rattle.std.specs.declared.iter.Copied.{Copied}
use Rattle.textwrap_text.proofs.Lists.Elements.{given-copied}

pub returns : goal.returns
returns g c = rw c.if-frame.false (IfOk-weaker c.break_words.result _ _ (λ pieces more.
    let frame = c.args.frame.now in
    let words = map word_view c.args.words.items in
    let given : iter_rest (copied_source more.0) ≡ c.args.words.items =
    ap (λ (it : Copied (Iter Word)). iter_rest (copied_source it)) more.2
    ∙ ap iter_rest c.copied.ensures.source ∙ c.iter.ensures.rest ∙ c.deref-3.ensures.value in
    let all = given-copied more.0 c.args.words.items more.1 given more.3 in
    more.4 ∙ ap (λ ws. broken_words frame.later_columns (map word_view ws)) all
    ∙ ap (λ limit. broken_words limit words) frame.later) c.break_words.ensures.pieces)
