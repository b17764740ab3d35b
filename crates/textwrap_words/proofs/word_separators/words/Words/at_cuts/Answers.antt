use Rattle.textwrap_text.proofs.Common.{ap, arith, map, rules, subst, sym, ◌∙◌}
use Rattle.textwrap_words.proofs.Common.{AreCuts, parts_between, tiled, word_of, word_view}
use Rattle.textwrap_words.proofs.Word.{Cuts.inner-cuts, Parts.parts-texts}
use Rattle.textwrap_words.proofs.word_separators.words.Words.at_cuts.Goals as goal

pub words_between-requires : goal.words_between-requires
words_between-requires g c = search (rules, arith, inner-cuts)

pub returns-clause-words : goal.returns-clause-words
returns-clause-words g c = (
  c.in_ok-cuts.cuts.items,
  c.in_ok-cuts.ensures.given,
  ap (map word_view) c.into_iter.ensures.rest ∙ c.in_ok-words.ensures
      ∙ ap (λ cuts. map word_of (parts_between cuts c.args.line.now)) c.deref.ensures.value,
)

pub returns-clause-tiles : goal.returns-clause-tiles
returns-clause-tiles g c =
    ap tiled (ap (map word_view) c.into_iter.ensures.rest ∙ c.in_ok-words.ensures)
    ∙ (parts-texts c.args.line.now c.deref.result.now c.utf8.line
    (subst (AreCuts c.args.line.now) (sym c.deref.ensures.value)
    (inner-cuts c.args.line.now c.in_ok-cuts.cuts.items c.in_ok-cuts.ensures.inner))).tile
