use Rattle.std.proofs.Common.{All, List, map, [], ◌++◌, ◌≡◌, ◌∷◌, ap, ap₂, arith, get_or, subst}
use Rattle.std.proofs.Common.{sym, ◌∙◌}
use Rattle.textwrap_patterns.proofs.MergedEntries.{before-first, before-more, first-before}
use Rattle.textwrap_patterns.proofs.MergedEntries.{first-more, first_key-take, first_numbers-take}
use Rattle.textwrap_patterns.proofs.MergedEntries.{greatest_number-more, ordered-drop, sorted-more}
use Rattle.textwrap_patterns.proofs.MergedEntries.{StandsBefore}
use Rattle.textwrap_patterns.specs.Entries.{AreSortedFrom, entry_for}
use Rattle.textwrap_patterns.specs.Merging.{AreInOrder, first_key, first_numbers, greatest}
use Rattle.textwrap_patterns.specs.{Merging.greatest_number, declared.entries.TrieEntry.TrieEntry}
use Rattle.textwrap_patterns.proofs.merging.merged.Goals as goal

pub loop-left-preserved : goal.loop-left-preserved
loop-left-preserved g c =
    let more = c.in_ok-push.ensures.items in
    let front = c.split_at.ensures.front in
    let back = c.split_at.ensures.back in
    let left = c.loop-left.left.now in
    let merged = c.loop-left.merged.items in
    let n = c.same_len.result in
    let x = c.in_ok-merged_group.field-0 in
    let some = c.same_len.ensures.some in
    let within = c.same_len.ensures.within in
    let same = c.same_len.ensures.same in
    let was = c.loop-left.invariant in
    let key : x.key.items ≡ first_key left =
    c.in_ok-merged_group.ensures.key ∙ ap first_key front ∙ first_key-take n left some in
    record {
      ordered = subst AreInOrder (sym {A = List (TrieEntry g.row.A.Denot)} back) (ordered-drop n left was.ordered);
      sorted = subst (λ (es : List (TrieEntry g.row.A.Denot)). AreSortedFrom 0 es) (sym {A = List (TrieEntry g.row.A.Denot)} more)
          (sorted-more merged x was.sorted
          (before-first merged left x (omega arith) key was.before));
      before = subst (λ (es : List (TrieEntry g.row.A.Denot)). All (λ m. StandsBefore m c.split_at.result.1.now) es)
          (sym {A = List (TrieEntry g.row.A.Denot)} more) (
          subst (λ (es : List (TrieEntry g.row.A.Denot)). All (λ m. StandsBefore m es) (merged ++ x ∷ []))
          (sym {A = List (TrieEntry g.row.A.Denot)} back)
          (before-more merged left x n was.before
          (first-before left n x was.ordered some key c.same_len.ensures.next)));
      first = λ rule key_of.
          ap₂ (λ (ms es : List (TrieEntry g.row.A.Denot)). entry_for 0 (ms ++ es) key_of) more back
          ∙ first-more key_of merged left x n some within key
          (c.in_ok-merged_group.ensures.first rule ∙ ap first_numbers front
          ∙ first_numbers-take n left some) same
          ∙ was.first rule key_of;
      greatest = λ rule text place.
          ap₂ (λ (ms es : List (TrieEntry g.row.A.Denot)). greatest_number (ms ++ es) text place) more back
          ∙ greatest_number-more text place merged left x n key
          (λ at. c.in_ok-merged_group.ensures.greatest rule at
          ∙ ap (λ (es : List (TrieEntry g.row.A.Denot)). greatest (map (λ (e : TrieEntry g.row.A.Denot). get_or e.numbers.items at 0) es))
          front) same
          ∙ was.greatest rule text place;
    }
