use Rattle.textwrap_display.proofs.shortening.broken_len.Goals as goal
use Rattle.textwrap_display.proofs.{Common.encode_utf8, KeptLines.IsFoundCut}
use Rattle.textwrap_display.proofs.KeptLines.{IsReadWord, cut-here, cut-past, read_word-start, turn-end}
use Rattle.textwrap_display.proofs.KeptLines.{turn-full, turn-hidden, turn-le, turn-wide, turn-word, word-all}
use Rattle.textwrap_display.proofs.shortening.broken_len.Goals.{In-Some, Joined-taken-gt0}
use Rattle.textwrap_text.proofs.Common.{arith, characters_left, length, ◌+◌, ◌∷◌}

pub loop-character-init : goal.loop-character-init
loop-character-init c =
    rw (c.into_iter-character-iterator.ensures.into_iter_gives, c.of-character-items.ensures)
    (record { read = read_word-start c.args.left c.args.text.now c.utf8.text; room = omega arith })

-- the reader before the character
before : (c : In-Some) → IsReadWord c.args.left c.args.text.now
    (c.in-Some.character ∷ characters_left c.next.new.self) c.loop-character.taken c.loop-character.cut
before c = grind arith

pub loop-character-preserved : goal.loop-character-preserved
loop-character-preserved c = record {
  read = turn-hidden c.utf8.text (before (goal.at.loop-character-preserved c).In-Some) c.if-character.false;
  room = c.loop-character.invariant.room;
}

pub returns-then-character-eq32-clause-cut : goal.returns-then-character-eq32-clause-cut
returns-then-character-eq32-clause-cut c = λ wide.
    let all = turn-end c.utf8.text (before (goal.at.returns-then-character-eq32-clause-cut c).In-Some)
    c.if-character.true c.if-character-eq32.true in
    absurd (omega (arith, wide, all, c.loop-character.invariant.room))

pub overflow_add-taken : goal.overflow_add-taken
overflow_add-taken c =
    omega (arith, turn-le c.utf8.text (before (goal.at.overflow_add-taken c).In-Some) c.if-character.true)

found : (c : Joined-taken-gt0) → IsFoundCut c.args.left c.args.text.now
    (c.in-Some.character.at + length (encode_utf8 c.in-Some.character.ch)) c.if-taken-gt0.cut
found c =
    let h : IsReadWord c.args.left c.args.text.now (c.in-Some.character ∷ characters_left c.next.new.self)
    c.loop-character.taken c.loop-character.cut = grind arith in
    let wide = c.columns-width.ensures in
    elim c.if-taken-gt0.branch [
      | goal.then-taken-gt0+then-taken-left+then-width-gt0 w ↦ rw w.cut-is
          (cut-here c.utf8.text h c.if-character.true (omega (arith, w.if-width-gt0.true, wide))
          w.if-taken-gt0.true w.if-taken-left.true)
      | goal.else-taken-gt0 w ↦ rw w.cut-is
          (cut-past c.utf8.text h (λ shown columns some room. elim w.else-taken-gt0.branch [
            | goal.else-taken-gt0-via-then-taken-gt0+then-taken-left+else-width-gt0 w' ↦
                absurd (omega (arith, columns, w'.if-width-gt0.false, wide))
            | goal.else-taken-gt0-via-then-taken-gt0+else-taken-left w' ↦
                absurd (omega (arith, room, w'.if-taken-left.false))
            | goal.else-taken-gt0-via-else-taken-gt0 w' ↦ absurd (omega (arith, some, w'.if-taken-gt0.false))
          ]))
    ]

pub returns-then-taken-room-clause-whole : goal.returns-then-taken-room-clause-whole
returns-then-taken-room-clause-whole c = λ fits.
    let wide = turn-wide c.utf8.text (before (goal.at.returns-then-taken-room-clause-whole c).In-Some)
    c.if-character.true c.if-character-eq32.false in
    absurd (omega (arith, fits, wide, c.if-taken-room.true, c.columns-width.ensures))

pub returns-then-taken-room-clause-cut : goal.returns-then-taken-room-clause-cut
returns-then-taken-room-clause-cut c = λ wide. turn-full c.utf8.text
    (before (goal.at.returns-then-taken-room-clause-cut c).In-Some) c.if-taken-gt0.cut c.if-character.true
    (omega (arith, c.requires, c.if-taken-room.true, c.columns-width.ensures))
    (found (goal.at.returns-then-taken-room-clause-cut c).Joined-taken-gt0)

pub loop-character-preserved-else-taken-room : goal.loop-character-preserved-else-taken-room
loop-character-preserved-else-taken-room c = record {
  read = turn-word c.utf8.text
      (before (goal.at.loop-character-preserved-else-taken-room c).In-Some) _ c.if-taken-gt0.cut
      c.if-character.true c.if-character-eq32.false (omega (arith, c.columns-width.ensures))
      (found (goal.at.loop-character-preserved-else-taken-room c).Joined-taken-gt0);
  room = omega (arith, c.if-taken-room.false);
}

pub returns-clause-cut : goal.returns-clause-cut
returns-clause-cut c = λ wide.
    let all = word-all c.args.left c.args.text.now c.loop-character.taken c.loop-character.cut
    (grind arith) in
    absurd (omega (arith, wide, all, c.loop-character.invariant.room))
