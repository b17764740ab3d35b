use Rattle.textwrap_marked.proofs.first_fit.push_by_first_fit.Goals as goal
use Rattle.std.proofs.lemmas.Result.{on_ok_weaker}
use Rattle.textwrap_base.proofs.Common.{IsGreedy}
use Rattle.textwrap_marked.proofs.Common.{marked_line_view, words_of_lines, fitting_view, spaced_words, ℕ}
use Rattle.textwrap_marked.proofs.Common.{printed, word_of, arith, subst, List, None, drop, left, refl}
use Rattle.textwrap_marked.proofs.Common.{string_bytes, line_texts, drop_more, drop_all, sizes_of, pieces}
use Rattle.textwrap_marked.proofs.Common.{◌++◌, map, sym, ◌+◌, ◌∙◌, ◌∷◌, [], ap}
use Rattle.textwrap_marked.specs.declared.first_fit.{FittingLine.FittingLine, ParagraphForm.ParagraphForm}
use Rattle.textwrap_marked.{proofs.FirstFitLines.paragraph-lines, specs.Reflow.room_behind}

pub loop-line-preserved : goal.loop-line-preserved
loop-line-preserved c =
    let form : ParagraphForm = record {
      options = c.args.options;
      starred = c.args.first.now.starred;
      ending = c.args.ending;
      hanging = c.as_str-hanging.result;
      room = c.room_behind.result;
    } in
    let lines = c.args.lines.now in
    let i = c.loop-line.line-index in
    let later = words_of_lines (map marked_line_view (drop (i + 1) lines)) in
    let before = string_bytes c.loop-line.output in
    c.in_ok-push_words.ensures later
    ∙ ap (λ l. before ++ left form c.loop-line.paragraph
    (map (λ w. w.word) (spaced_words l.text.now) ++ later)) c.line-item.is
    ∙ ap (λ ls. before ++ left form c.loop-line.paragraph (words_of_lines (map marked_line_view ls)))
    (sym (drop_more lines i c.line-item.result c.loop-line-test.true))
    ∙ c.loop-line.invariant

pub returns : goal.returns
returns c =
    let options = c.args.options.now in
    let form : ParagraphForm = record {
      options = c.args.options;
      starred = c.args.first.now.starred;
      ending = c.args.ending;
      hanging = c.as_str-hanging.result;
      room = c.room_behind.result;
    } in
    let line : FittingLine = record {
      text = c.new.result;
      blanks = c.new-2.result;
      columns = None;
      room = c.room_behind-2.result;
    } in
    let words = words_of_lines (map marked_line_view c.args.lines.now) in
    let hanging = c.as_str-hanging.ensures.value in
    let room = c.room_behind-2.ensures in
    let later = c.room_behind.ensures ∙ ap (room_behind options) hanging in
    on_ok_weaker c.push_end.result (λ is.
    let (division, greedy, written) = paragraph-lines form (fitting_view line)
    (string_bytes c.new-3.result) (string_bytes c.args.output.now) c.args.first.now.prefix.now
    (string_bytes c.push_str.new.self) (string_bytes c.push_end.new.output) words
    c.new.ensures.bytes c.new-2.ensures.bytes refl c.new-3.ensures.bytes c.in_ok-push_str.ensures.bytes
    (is ∙ ap (λ ls. string_bytes c.loop-line.output ++ left form c.loop-line.paragraph
    (words_of_lines (map marked_line_view ls)))
    (sym (drop_all c.loop-line.line-index c.args.lines.now (omega arith))) ∙ c.loop-line.invariant) in (
      division,
      subst (λ (rooms : List ℕ). IsGreedy sizes_of rooms
          (map word_of (pieces options c.args.first.now.starred words)) division)
          (λ i. room i ∷ later i ∷ []) greedy,
      written ∙ (λ i. string_bytes c.args.output.now ++ printed c.args.ending.now c.args.first.now.prefix.now (hanging i)
          (line_texts options.justify (room i) (later i) division)),
    )) c.push_end.ensures
