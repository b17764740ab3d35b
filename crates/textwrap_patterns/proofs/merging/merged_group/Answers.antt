use Rattle.textwrap_patterns.proofs.GreatestNumbers.{greatest-first, greatest-more}
use Rattle.textwrap_patterns.proofs.merging.merged_group.Goals.{then-eq+else-loop-entry-test, else-eq}
use Rattle.textwrap_patterns.specs.{Merging.greatest, declared.entries.TrieEntry.TrieEntry}
use Rattle.textwrap_text.proofs.Common.{arith, List, get_or, map, ap, false≢true, sym, take_all, ◌∙◌}
use Rattle.textwrap_patterns.proofs.merging.merged_group.Goals as goal

pub loop-entry-preserved : goal.loop-entry-preserved
loop-entry-preserved g c = λ place.
    let f = λ (e : TrieEntry g.row.A.Denot). get_or e.numbers.items place 0 in
    let more = greatest-more f c.args.group.now c.loop-entry.entry-index c.entry-item.result
    (omega arith) c.entry-item.is in
    let other = ap (λ (l : _). get_or l place 0) c.deref-in-loop-entry.ensures.value in
    omega (arith, more, other, c.loop-entry.invariant place, c.in_ok-raise_and_append.ensures place)

pub returns-clause-greatest : goal.returns-clause-greatest
returns-clause-greatest g c = λ rule place.
    elim c.if-eq.branch [
      | then-eq+else-loop-entry-test w ↦
          let f = λ (e : TrieEntry g.row.A.Denot). get_or e.numbers.items place 0 in
          let all = ap (λ (es : List (TrieEntry g.row.A.Denot)). greatest (map f es))
          (take_all w.loop-entry.entry-index c.args.group.now (omega arith)) in
          let here = ap (λ (v : _). get_or v.items place 0) w.numbers-is in
          let first = greatest-first c.args.group.now place in
          omega (arith, all, here, first, w.loop-entry.invariant place)
      | else-eq w ↦ absurd (let is = rw rule at c.eq.ensures in false≢true (sym w.if-eq.false ∙ is))
    ]
