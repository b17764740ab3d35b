use Rattle.std.proofs.Common.{◌+◌, ◌++◌, ◌∷◌, [], ap, sym, ◌∙◌, arith}
use Rattle.std.proofs.lemmas.List.FromFn.{map-range_with_len_more}
use Rattle.textwrap.proofs.Cutting.{EndWith-push, ends-push}
use Rattle.textwrap_vectors.proofs.functions.end_each.Goals as goal

pub loop-before-preserved : goal.loop-before-preserved
loop-before-preserved c =
    let before = c.loop-before.before in
    let ends = c.loop-before.ends.items in
    rw c.in_ok-push.ensures.items (record {
      ends = ap (λ l. l ++ (before + 1) ∷ []) c.loop-before.invariant.ends
          ∙ sym (map-range_with_len_more (λ k. k + 1) 0 before before (omega arith));
      are = ends-push c.args.words.now ends (before + 1) before c.loop-before.invariant.are
          c.loop-before.invariant.end_with (omega arith) (omega arith);
      end_with = EndWith-push ends (before + 1);
    })
