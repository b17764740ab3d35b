use Rattle.textwrap_layout.proofs.written.write_at.Goals as goal
use Rattle.textwrap_text.proofs.Common.{length-append, drop-drop, cases_lt, take_all, length, arith}
use Rattle.textwrap_text.proofs.Common.{List, drop, take, ◌++◌, inl, inr, min, ◌+◌, ◌-◌, ◌∙◌, ◌≡◌}
use Rattle.textwrap_text.proofs.Common.{◌≤◌, ap, ℕ}
use Rattle.std.proofs.Math.Seq.{drop-append_seam, take-append_seam, take-append-add}
use Rattle.std.proofs.lemmas.Grind.{common_steps}
use Rattle.textwrap_text.specs.LentText.{written_over}
use borrow.Rule.Slice.PartMut.{put_mid}

-- all of the items have room, or the last of them have none
whole : {X : Type 0} (before written items : List X) → length written + length items ≤ length before
    → written ++ (items ++ drop (length written + length items) before)
    ≡ written_over before (written ++ items)
whole before written items fits = grind (arith, common_steps)

part : {X : Type 0} (before written items : List X) (room : ℕ) → length before ≡ length written + room
    → room ≤ length items
    → written ++ (take room items ++ drop (length written + room) before)
    ≡ written_over before (written ++ items)
part before written items room is past =
    rw (is, take-append-add written items room) (grind (arith, common_steps, is))

-- as many as have room are written after those that were
after : {X : Type 0} (before written items : List X) (count : ℕ) → length written ≤ length before
    → count ≡ min (length items) (length before - length written)
    → put_mid (length written) count (written_over before written) (take count items)
    ≡ written_over before (written ++ items)
after before written items count within is = rw (
  take_all (length before) written within,
  take-append_seam written (drop (length written) before),
  drop-append_seam written (drop (length written) before),
  drop-drop count (length written) before,
)
    (elim (cases_lt (length before - length written) (length items)) [
      | inl past ↦
          let all : count ≡ length before - length written = omega (arith, is, past) in
          rw all (part before written items (length before - length written) (omega (arith, within))
          (omega (arith, past)))
      | inr fits ↦
          let all : count ≡ length items = omega (arith, is, fits) in
          rw (all, take_all (length items) items (omega arith)) (whole before written items
          (omega (arith, fits, within)))
    ])

length-written : {X : Type 0} (before written : List X)
    → length (written_over before written) ≡ length before
length-written before written = grind (arith, common_steps)

pub returns : goal.returns
returns g c = λ written before is.
    let items = c.args.items.now in
    let all = ap length is.room_is ∙ length-written before written in
    let len : c.args.len ≡ length written = omega (arith, all) in
    let count : c.args.len + c.min-count.result - c.args.len ≡ c.min-count.result = omega arith in
    let is_count : c.min-count.result ≡ min (length items) (length before - length written) =
    omega (arith, all, len) in
    record {
      room_is = rw (is.room_is, count, len, c.copy_from_slice.ensures.after)
          (after before written items c.min-count.result (omega (arith, all, len)) is_count);
      len_is = omega (arith, length-append written items);
    }
