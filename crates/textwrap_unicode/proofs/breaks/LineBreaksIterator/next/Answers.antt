use Rattle.textwrap_text.proofs.ClassNames.{ap, ◌∙◌, ◌∷◌}
use Rattle.textwrap_text.proofs.ClassNames.{arith, chars, length, read-next, refl, sym, true, ◌+◌}
use Rattle.textwrap_text.proofs.Common.{rules}
use Rattle.textwrap_unicode.proofs.CutLemmas.{none-left, reading-break, reading-start, reading-step}
use Rattle.textwrap_unicode.proofs.{Common.and, CutLemmas.reading-end, WordVerdicts.letter-step}
use Rattle.textwrap_unicode.{proofs.Common.breaks_after, specs.declared.breaks.LineBreak.LineBreak}
use Rattle.textwrap_unicode.proofs.breaks.LineBreaksIterator.next.Goals as goal

pub loop-offset-init : goal.loop-offset-init
loop-offset-init c = rw c.into_iter-offset-iterator.ensures.into_iter_gives (
  reading-start _ _ _ _ _ _ _ (search rules) c.char_indices-offset-items.ensures.offset
      c.char_indices-offset-items.ensures.rest refl,
  refl,
  c.is_in_word-is_in_word.ensures,
)

pub loop-offset-preserved : goal.loop-offset-preserved
loop-offset-preserved c =
    let s = c.in-Some.ensures.steps in (
      reading-step _ _ _ _ _ _ _ c.loop-offset.invariant.0 c.in-Some.c _ s.1 _ _
          (rw (s.0, c.len_utf8.ensures.len, c.of-unit.ensures) at (sym c.decide_in-verdict.ensures)
          ∙ c.in-Prohibited.is) s.2
          (c.and-before.ensures ∙ ap (and c.loop-offset.before) c.of-unit.ensures),
      c.loop-offset.invariant.1,
      c.is_in_word-is_in_word-in-loop-offset.ensures,
    )

pub loop-offset-preserved-then-is_plain_letter : goal.loop-offset-preserved-then-is_plain_letter
loop-offset-preserved-then-is_plain_letter c =
    let (reading, same, in_word) = c.loop-offset.invariant in
    let s = c.in-Some.ensures.steps in
    let plain = sym c.of-unit.ensures ∙ c.is_plain_letter.ensures c.if-is_plain_letter.true in
    let letter = letter-step c.self.inside.numbers _ c.loop-offset.before _
    (in_word c.if-is_in_word.true) plain in (
      reading-step _ _ _ _ _ _ _ reading c.in-Some.c _ s.1 _ _ letter.0 s.2 (sym letter.1),
      same,
      in_word,
    )

pub decide_in-verdict-requires : goal.decide_in-verdict-requires
decide_in-verdict-requires c = rw (c.in-Some.ensures.steps.0, c.len_utf8.ensures.len)
    (read-next c.loop-offset.invariant.0.read _ _ c.in-Some.ensures.steps.1 _ refl).boundary

pub range_from-requires : goal.range_from-requires
range_from-requires c = λ _. rw (c.in-Some.ensures.steps.0, c.len_utf8.ensures.len)
    (read-next c.loop-offset.invariant.0.read _ _ c.in-Some.ensures.steps.1 _ refl).boundary

pub returns-in-loop-offset-clause-steps : goal.returns-in-loop-offset-clause-steps
returns-in-loop-offset-clause-steps c =
    let s = c.in-Some.ensures.steps in
    let said = rw (s.0, c.len_utf8.ensures.len, c.of-unit.ensures)
    at (sym c.decide_in-verdict.ensures) in
    let stands = c.and-before.ensures ∙ ap (and c.loop-offset.before) c.of-unit.ensures in
    let ends = reading-break _ _ _ _ _ _ _ c.loop-offset.invariant.0 c.in-Some.c _ s.1 in
    sym c.self.view_is
    ∙ rw (c.range_from.ensures.value, s.0, c.len_utf8.ensures.len) (elim c.match-verdict.branch [
      | goal.in-Allowed w ↦ ends _ _ _ (said ∙ w.in-Allowed.is) (rw w.is_mandatory-is refl) stands
      | goal.in-Mandatory w ↦ ends _ _ _ (said ∙ w.in-Mandatory.is)
          (rw w.is_mandatory-is refl) stands
    ])

pub returns-in-loop-offset-clause-goes : goal.returns-in-loop-offset-clause-goes
returns-in-loop-offset-clause-goes c =
    search (rules, arith, ap length (returns-in-loop-offset-clause-steps c))

pub returns-then-before-clause-steps : goal.returns-then-before-clause-steps
returns-then-before-clause-steps c =
    let (reading, same, in_word) = c.loop-offset.invariant in
    let none = rw c.if-before.true
    at (reading-end _ _ _ _ _ _ _ reading c.in-None.ensures.steps.0) in (
      sym c.self.view_is ∙ none,
      ap (λ i. breaks_after i.numbers i.before i.at (chars i.rest.now)) same ∙ none,
    )

pub returns-clause-steps : goal.returns-clause-steps
returns-clause-steps c =
    let reading = c.loop-offset.invariant.0 in
    let one = rw c.if-before.false
    at (reading-end _ _ _ _ _ _ _ reading c.in-None.ensures.steps.0) in
    let end = c.self.inside.at + length c.self.inside.rest.now in
    let place : LineBreak = record { at = end; is_mandatory = true } in
    sym c.self.view_is ∙ one ∙ ap (λ ls. place ∷ ls) (sym (none-left _ _ end c.new.ensures))

pub returns-clause-goes : goal.returns-clause-goes
returns-clause-goes c = search (rules, arith, ap length (returns-clause-steps c))
