use Rattle.textwrap_calls.proofs.line_lists.place_shortened.Goals as goal
use Rattle.textwrap_calls.proofs.Common.{line_view, bytes_of, texts_of, map, ◌∙◌, ap}
use Rattle.std.proofs.lemmas.Result.{IfOk-weaker}
use Rattle.textwrap_calls.proofs.TextLemmas.{lines-short}

pub returns : goal.returns
returns c =
    let short = c.in_ok-short.short.items in
    let is = c.in_ok-short.ensures in
    let by = c.args.shortening.now in
    let are = lines-short by.break_words c.args.most by.width by.placeholder.now c.deref.result.now
    (bytes_of c.args.lines.now) (map line_view short)
    (ap texts_of c.deref.ensures.value ∙ c.in_ok-lines.ensures) is.none is.whole is.cut in
    IfOk-weaker c.place_all.result _ _ (λ placed here. (texts_of short, are, here))
    c.place_all.ensures
