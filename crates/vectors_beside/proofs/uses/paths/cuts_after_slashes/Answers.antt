use Rattle.vectors_beside.proofs.Common.{IsCharBoundary-after_ascii, EndWith-push, length_push, refl}
use Rattle.vectors_beside.proofs.Common.{inner-push, get_or, length, arith, subst, ◌++◌, ◌+◌, ◌-◌}
use Rattle.vectors_beside.proofs.Common.{◌<◌, ◌∙◌, ◌∷◌, ◌≡◌, [], ap}
use Rattle.std.specs.Prelude.{IsCharBoundary}
use Rattle.vectors_beside.proofs.uses.paths.cuts_after_slashes.Goals as goal

pub loop-cut-preserved : goal.loop-cut-preserved
loop-cut-preserved c = elim c.if-as_bytes-cut-eq47.branch [
  | goal.then-as_bytes-cut-eq47+in_ok-push w ↦
      let path = c.args.path.now in
      let cut = c.loop-cut.cut in
      let cuts = c.loop-cut.cuts.items in
      let grown : c.if-as_bytes-cut-eq47.cuts.items ≡ cuts ++ cut ∷ [] =
      ap (λ v. v.items) w.cuts-is ∙ w.in_ok-push.ensures.items in
      let inside : cut < length path = omega arith in
      let some : 0 < cut = omega (arith, c.loop-cut.invariant.before) in
      let slash : get_or path (cut - 1) 0 ≡ 47 =
      rw c.as_bytes.ensures.value at w.if-as_bytes-cut-eq47.true in
      let next : cut - 1 + 1 ≡ cut = omega (arith, some) in
      let boundary = subst (IsCharBoundary path) next
      (IsCharBoundary-after_ascii path (cut - 1) c.utf8.path (omega (arith, inside, some))
      (omega (arith, slash))) in
      let len = length_push cuts cut in
      let last = EndWith-push cuts cut (omega (arith, len)) in
      rw grown (record {
        cuts = inner-push path cuts cut (get_or cuts (length cuts - 1) 0) c.loop-cut.invariant.cuts
            (λ _. refl) c.loop-cut.invariant.before inside boundary;
        before = omega (arith, last);
      })
  | goal.else-as_bytes-cut-eq47 w ↦
      rw w.cuts-is (record {
        cuts = c.loop-cut.invariant.cuts;
        before = omega (arith, c.loop-cut.invariant.before);
      })
]
