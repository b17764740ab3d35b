use Rattle.textwrap_text.proofs.Common.{rules, arith}
use Rattle.textwrap.proofs.Common.{unfilled_subsequent, ended_lines-texts, unfilled_initial, get_or}
use Rattle.textwrap.proofs.Common.{unfilled_width, common_prefix, line_prefix, append-nil, texts_of}
use Rattle.textwrap.proofs.Common.{text_width, IsAscii, lines, subst, refl, ◌++◌, max, sym, ◌∙◌, []}
use Rattle.textwrap.proofs.Text.Unfilling.{narrowed-ascii, width-first, common-end, narrowed}
use Rattle.textwrap.proofs.{Text.Unfilling.texts_in, Common.◌∷◌, Common.◌≡◌, Common.ap}
use Rattle.std.proofs.lemmas.List.{drop-map}
use Rattle.textwrap.proofs.refilling.find_layout.Goals as goal

pub loop-line-init : goal.loop-line-init
loop-line-init c =
    let given = c.into_iter-line-iterator.ensures.into_iter_gives in
    let lines = c.of-lines.ensures in
    let left = c.next_text-first.ensures.left in
    let text = c.next_text-first.ensures.text in
    let width = c.display_width-width.ensures.width in
    search (rules, arith, width-first, ended_lines-texts, drop-map, given, left, lines, text, width)

pub loop-line-preserved : goal.loop-line-preserved
loop-line-preserved c =
    let line = c.in-Some.line.text.now in
    let wide : c.max-width.result ≡ max c.loop-line.width (text_width line) =
    c.max-width.ensures ∙ ap (max c.loop-line.width) c.display_width.ensures.width in
    let narrows : c.narrow.result.now
    ≡ common_prefix (texts_in c.loop-line.common ++ line_prefix line ∷ []) =
    c.narrow.ensures ∙ ap (λ p. common_prefix (texts_in c.loop-line.common ++ p ∷ []))
    c.line_prefix.ensures in
    record {
      width = rw wide (rw c.in-Some.ensures.steps at c.loop-line.invariant.width);
      common = rw (narrows, narrowed) (rw c.in-Some.ensures.steps at c.loop-line.invariant.common);
      ascii = subst IsAscii (sym narrows)
          (narrowed-ascii c.loop-line.common line c.loop-line.invariant.ascii);
    }

pub returns : goal.returns
returns c =
    let text = c.args.text.now in
    let none = c.in-None.ensures.steps.0 in
    let first : c.next_text-first.result.now ≡ get_or (lines text) 0 [] =
    c.next_text-first.ensures.text ∙ ap (λ es. get_or (texts_of es) 0 []) c.of-lines.ensures
    ∙ ap (λ ls. get_or ls 0 []) (ended_lines-texts text) in
    let width : c.loop-line.width ≡ unfilled_width text = rw none at c.loop-line.invariant.width in
    let initial : c.line_prefix-2.result.now ≡ unfilled_initial text =
    c.line_prefix-2.ensures ∙ ap line_prefix first in
    let subsequent : c.unwrap_or.result.now ≡ unfilled_subsequent text =
    ap (λ b. b.now) c.unwrap_or.ensures ∙ common-end c.loop-line.common _ refl
    ∙ (rw (none, append-nil) at c.loop-line.invariant.common) in
    cc
