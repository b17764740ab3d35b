use Rattle.std.proofs.lemmas.List.{take_rest, Splits.slice_split_first, Splits.slice_split_none}
use Rattle.std.{proofs.lemmas.List.Sums.fails_before_first, specs.Char.is_whitespace}
use Rattle.textwrap_text.proofs.Common.{slice_split, ap₂, drop-drop, [], append_assoc, ap, arith}
use Rattle.textwrap_text.proofs.Common.{drop, map, map-append, sym, take, ◌+◌, ◌++◌, ◌∙◌, ◌∷◌, ◌≡◌}
use Rattle.textwrap_dictionaries.proofs.parsing.words_of.Goals as goal

pub loop-len-preserved : goal.loop-len-preserved
loop-len-preserved g c =
    let left = c.loop-len.left.now in
    let words = map (λ word. word.now) c.loop-len.words.items in
    let len = c.loop-len.len in
    let word = c.split_at.result.0 in
    let rest = c.split_at.result.1.now in
    let later = slice_split is_whitespace (drop 1 rest) in
    let first : slice_split is_whitespace left ≡ word.now ∷ later =
    slice_split_first is_whitespace left 0
    (omega (arith, c.loop-len-test.true, c.loop-len.invariant.len))
    ∙ ap (λ n. take n left ∷ slice_split is_whitespace (drop (n + 1) left))
    (sym c.loop-len.invariant.len)
    ∙ ap₂ (λ w l. w ∷ slice_split is_whitespace l) (sym c.split_at.ensures.front)
    (sym (drop-drop 1 len left) ∙ ap (drop 1) (sym c.split_at.ensures.back)) in
    record {
      words = ap₂ (λ ws l. map (λ w. w.now) ws ++ slice_split is_whitespace l)
          c.in_ok-push.ensures.items (take_rest rest 1)
          ∙ ap (λ l. l ++ later) (map-append _ c.loop-len.words.items (word ∷ []))
          ∙ append_assoc words (word.now ∷ []) later
          ∙ ap (λ l. words ++ l) (sym first)
          ∙ c.loop-len.invariant.words;
      len = c.word_len-len-in-loop-len.ensures;
    }

pub returns : goal.returns
returns g c =
    let left = c.loop-len.left.now in
    let words = map (λ word. word.now) c.loop-len.words.items in
    ap (map (λ word. word.now)) c.in_ok-push-2.ensures.items
    ∙ map-append _ c.loop-len.words.items (c.loop-len.left ∷ [])
    ∙ ap (λ l. words ++ l) (sym (slice_split_none is_whitespace left (λ k d within.
    fails_before_first is_whitespace left k d
    (omega (arith, within, c.loop-len-test.false, c.loop-len.invariant.len)))))
    ∙ c.loop-len.invariant.words
