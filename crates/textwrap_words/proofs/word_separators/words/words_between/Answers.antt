use Rattle.textwrap_words.proofs.word_separators.words.words_between.Goals as goal
use Rattle.textwrap_text.proofs.Common.{append_assoc, drop_more, map_push, arith, refl, map}
use Rattle.textwrap_text.proofs.Common.{slice_range, get_or, List, drop, ◌++◌, sym, ◌+◌, ◌∙◌, ◌∷◌, ◌≡◌, [], ap}
use Rattle.textwrap_words.proofs.Common.{parts_onward, word_view, WordText, word_of, Word}

pub returns-then-is_empty : goal.returns-then-is_empty
returns-then-is_empty g c =
    rw (c.new-words.ensures.items, sym c.is_empty.ensures ∙ c.if-is_empty.true) refl

pub loop-cut-init : goal.loop-cut-init
loop-cut-init g c = record {
  words = rw c.new-words.ensures.items refl;
  boundary = λ none. absurd (omega arith);
  left = c.requires;
}

pub range-requires-clause-start_le_end : goal.range-requires-clause-start_le_end
range-requires-clause-start_le_end g c =
    (rw (drop_more c.args.cuts.now _ 0 c.loop-cut-test.true) at c.loop-cut.invariant.left).0.0

pub range-requires-clause-end_boundary : goal.range-requires-clause-end_boundary
range-requires-clause-end_boundary g c =
    (rw (drop_more c.args.cuts.now _ 0 c.loop-cut-test.true) at c.loop-cut.invariant.left).0.2

-- the words so far with one more, and the others
one-more : (words items : List Word) (w : Word) (is : WordText) (rest all : List WordText)
    → items ≡ words ++ w ∷ [] → word_view w ≡ is → map word_view words ++ is ∷ rest ≡ all
    → map word_view items ++ rest ≡ all
one-more words items w is rest all pushed same before =
    rw (pushed, map_push, same, append_assoc) before

pub loop-cut-preserved : goal.loop-cut-preserved
loop-cut-preserved g c =
    let line = c.args.line.now in
    let cuts = c.args.cuts.now in
    let i = c.loop-cut.cut-index in
    let cut = get_or cuts i 0 in
    let more = drop_more cuts i 0 c.loop-cut-test.true in
    let next = rw more at c.loop-cut.invariant.left in
    record {
      words = one-more c.loop-cut.words.items c.push.new.self.items c.from.result
          (word_of (slice_range line c.loop-cut.start cut))
          (map word_of (parts_onward cut (drop (i + 1) cuts) line)) (map word_of (parts_onward 0 cuts line))
          c.in_ok-push.ensures.items (c.from.ensures ∙ ap word_of c.range.ensures.value)
          (rw more at c.loop-cut.invariant.words);
      boundary = λ _. next.0.2;
      left = next.1;
    }
