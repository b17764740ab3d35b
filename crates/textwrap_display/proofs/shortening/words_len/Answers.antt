use Rattle.textwrap_display.proofs.shortening.words_len.Goals as goal
use Rattle.textwrap_display.proofs.Common.{CanEnd, added, char_indices_rest}
use Rattle.textwrap_display.proofs.KeptLines.{IsFound, found-here, found-kept, found-on}
use Rattle.textwrap_display.proofs.KeptLines.{found-past, found-rest, found-whole}
use Rattle.textwrap_display.proofs.KeptWords.{IsReadTo, latest-none, read-le, read_to-start, read_to-step}
use Rattle.textwrap_display.proofs.shortening.words_len.Goals.{Joined-ch-eq32, Joined-is_visible}
use Rattle.textwrap_text.proofs.Common.{arith, char_indices_offset, eqb}
use Rattle.textwrap_text.proofs.Common.{false≢true, inl, inr, sym, ◌+◌, ◌∙◌, ◌≡◌}

pub loop-at-init : goal.loop-at-init
loop-at-init c =
    let items = c.char_indices-at-items.ensures in
    let line = c.args.line.now in
    rw (c.into_iter-at-iterator.ensures.into_iter_gives, items.offset, items.rest)
    (record { read = read_to-start line c.utf8.line; found = latest-none (CanEnd line) c.args.room line })

pub returns-then-taken-room : goal.returns-then-taken-room
returns-then-taken-room c = λ width placeholder is.
    let h = c.loop-at.invariant in found-kept is (found-past c.utf8.line h.read h.found c.if-taken-room.true)

read : (c : Joined-is_visible) → IsReadTo c.args.line.now (char_indices_offset c.next.new.self)
    (char_indices_rest c.next.new.self) c.step-next.result.0
    (c.loop-at.taken + c.if-is_visible.taken) (eqb c.in-Some.ch 32)
read c =
    let s = c.in-Some.ensures.steps in
    let more : added c.loop-at.state c.in-Some.ch ≡ c.if-is_visible.taken = elim c.if-is_visible.branch [
      | goal.then-is_visible w ↦ rw (rw c.step-next.ensures at w.if-is_visible.true)
          (sym (w.taken-is ∙ w.columns.ensures))
      | goal.else-is_visible w ↦ rw (rw c.step-next.ensures at w.if-is_visible.false) (sym w.taken-is)
    ] in
    rw (c.step-next.ensures, ← more)
    (read_to-step c.utf8.line c.loop-at.invariant.read _ c.in-Some.ch _ s.1 s.2)

pub overflow_add-taken : goal.overflow_add-taken
overflow_add-taken c =
    omega (arith, read-le c.utf8.line (read (goal.at.overflow_add-taken c).Joined-is_visible))

found : (c : Joined-ch-eq32)
    → IsFound c.args.room c.args.line.now (char_indices_offset c.next.new.self) c.if-ch-eq32.kept
found c =
    let s = c.in-Some.ensures.steps in
    let h = c.loop-at.invariant in
    let end = char_indices_offset c.next.new.self in
    elim c.if-ch-eq32.branch [
      | goal.then-ch-eq32+then-not-after_blank+then-outside w ↦ rw (w.kept-is, s.0)
          (found-here c.utf8.line h.read h.found c.in-Some.ch _ s.1 end (omega (arith, s.2))
          c.if-taken-room.false w.if-ch-eq32.true w.if-not-after_blank.true
          (c.is_outside-outside.ensures.0 w.if-outside.true))
      | goal.else-ch-eq32 w ↦ rw w.kept-is
          (found-on c.utf8.line h.read h.found c.in-Some.ch _ s.1 end (omega (arith, s.2))
          (λ blank some outside. elim w.else-ch-eq32.branch [
            | goal.else-ch-eq32-via-then-ch-eq32+then-not-after_blank+else-outside w' ↦ absurd
                (false≢true (sym w'.if-outside.false ∙ c.is_outside-outside.ensures.1 outside))
            | goal.else-ch-eq32-via-then-ch-eq32+else-not-after_blank w' ↦
                absurd (false≢true (sym some ∙ w'.if-not-after_blank.false))
            | goal.else-ch-eq32-via-else-ch-eq32 w' ↦ absurd (w'.if-ch-eq32.false blank)
          ]))
    ]

pub loop-at-preserved : goal.loop-at-preserved
loop-at-preserved c =
    let at = goal.at.loop-at-preserved c in
    record { read = read at.Joined-is_visible; found = found at.Joined-ch-eq32 }

pub returns-then-not-outside : goal.returns-then-not-outside
returns-then-not-outside c =
    let h = c.loop-at.invariant in
    let ended = c.in-None.ensures.steps.0 in
    λ width placeholder is. found-kept is (elim c.if-not-outside.either [
      | inl past ↦ found-past c.utf8.line h.read h.found past
      | inr within ↦ found-rest c.utf8.line h.read h.found ended (λ some outside. elim within [
        | inl (_, blank) ↦ absurd (false≢true (sym some ∙ blank))
        | inr (_, _, inside) ↦ absurd (false≢true (sym inside ∙ c.is_outside-outside-2.ensures.1 outside))
      ])
    ])

pub returns-else-not-outside : goal.returns-else-not-outside
returns-else-not-outside c =
    let h = c.loop-at.invariant in
    let (room, some, outside) = c.if-not-outside.false in
    λ width placeholder is. found-kept is
    (found-whole c.utf8.line h.read h.found c.in-None.ensures.steps.0 room some
    (c.is_outside-outside-2.ensures.0 outside))
