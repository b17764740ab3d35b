use Rattle.textwrap_marks.proofs.signs.split_last.Goals as goal
use Rattle.textwrap_marks.proofs.Common.{spaced_words, length, arith, ◌∙◌, ap}
use Rattle.textwrap_marks.proofs.WordCuts.{boundary-at, IsLastCut, last-cut}

last : (c : goal.After-split_at) → IsLastCut c.args.text.now c.word_start.result
last c =
    let same = c.as_bytes-bytes.ensures.value in
    let end = c.final_white.ensures in
    let start = c.word_start.ensures in
    last-cut c.args.text.now c.word_start.result c.final_white.result start.within (rw same at end.within)
    (rw same at start.ink) (rw same at start.white) (rw same at end.white) (rw same at end.ink)

pub split_at-requires : goal.split_at-requires
split_at-requires c =
    let same = c.as_bytes-bytes.ensures.value in
    boundary-at c.args.text.now c.word_start.result c.utf8.text
    (omega (arith, c.word_start.ensures.within, c.final_white.ensures.within, ap length same))
    (rw same at c.word_start.ensures.white)

pub returns-clause-front : goal.returns-clause-front
returns-clause-front c = ap spaced_words c.split_at.ensures.front ∙ (last c).front

pub returns-clause-last : goal.returns-clause-last
returns-clause-last c = ap spaced_words c.split_at.ensures.back ∙ (last c).last
