use Rattle.textwrap_words.proofs.pieces.read_on.Goals as goal
use Rattle.textwrap_text.proofs.Common.{and_parts, append_assoc, char_indices_offset, length-append}
use Rattle.textwrap_text.proofs.Common.{ap, cases_lt, drop_split, is_blank, length-drop, true≢false}
use Rattle.textwrap_text.proofs.Common.{arith, false, get_or, length, List, lt-ltb, nat_lt, Visible}
use Rattle.textwrap_text.proofs.Common.{drop, inl, inr, refl, shows, subst, true, ◌&&◌, ◌++◌, ◌||◌}
use Rattle.textwrap_text.proofs.Common.{sym, ℕ, ◌+◌, ◌∙◌, ◌≡◌, ◌≤◌}
use Rattle.textwrap_text.proofs.Units.Reading.{added, columns-le}
use Rattle.std.specs.{Prelude.encode_utf8, Str.Iter.char_indices_rest}
use Rattle.textwrap_words.proofs.Common.{as_splitter, ascii-here, encode_ascii, is_due, IsFirstStop}
use Rattle.textwrap_words.proofs.Common.{is_point, is_stop, left-after, or-true, some-bytes}
use Rattle.textwrap_words.proofs.Word.Ahead.{plain-bytes, point-after}
use Rattle.textwrap_words.proofs.Word.Breaking.{due-false, due-true}
use Rattle.textwrap_words.proofs.Word.Scanned.{GoesOn, scanned-letters, scanned-step, stops-between}
use Rattle.textwrap_words.proofs.Word.Scanned.{IsScanned, no-stop, stop-full, stop-here}
use Rattle.textwrap_words.proofs.pieces.read_on.Goals.{After-step-next, In-Some, Joined-is_visible}

pub range-requires-clause-start_boundary : goal.range-requires-clause-start_boundary
range-requires-clause-start_boundary c = λ _.
    let splitter = as_splitter c.args.splitter in
    let text = c.args.text.now in
    (scanned-letters c.args.at_blanks splitter c.args.limit text c.utf8.text c.args.at c.requires.boundary
    (stops-between c.args.at_blanks splitter text c.utf8.text) c.args.letters c.requires.most
    (omega (arith, c.requires.within, c.requires.end.0)) c.requires.letters).scanned.boundary

pub loop-after-init : goal.loop-after-init
loop-after-init c =
    let splitter = as_splitter c.args.splitter in
    let text = c.args.text.now in
    let start = c.args.at + c.args.letters in
    let items = c.char_indices-after-items.ensures in
    let past = scanned-letters c.args.at_blanks splitter c.args.limit text c.utf8.text c.args.at
    c.requires.boundary (stops-between c.args.at_blanks splitter text c.utf8.text) c.args.letters
    c.requires.most (omega (arith, c.requires.within, c.requires.end.0)) c.requires.letters in
    let same : start + 0 ≡ start = omega arith in
    rw (c.into_iter-after-iterator.ensures.into_iter_gives, items.offset, items.rest, same, c.range.ensures.value)
    (record {
      scanned = past.scanned;
      on = past.on;
      left = drop_split text start c.args.end c.requires.within;
    })

-- the character that the iterator gives stands at the place
record IsHere (c : In-Some) : Type 0 where
  stands : drop (c.args.at + c.args.letters + char_indices_offset c.loop-after.after-iterator)
      c.args.text.now
      ≡ encode_utf8 c.in-Some.ch ++ (char_indices_rest c.next.new.self ++ drop c.args.end c.args.text.now)
  within : c.args.at + c.args.letters + char_indices_offset c.loop-after.after-iterator
      + length (encode_utf8 c.in-Some.ch) ≤ c.args.end

here : (c : In-Some) → IsHere c
here c =
    let text = c.args.text.now in
    let rest = char_indices_rest c.next.new.self in
    let tail = drop c.args.end text in
    let place = c.args.at + c.args.letters + char_indices_offset c.loop-after.after-iterator in
    let stands : drop place text ≡ encode_utf8 c.in-Some.ch ++ (rest ++ tail) =
    c.loop-after.invariant.left ∙ ap (λ bs. bs ++ tail) c.in-Some.ensures.steps.1
    ∙ append_assoc (encode_utf8 c.in-Some.ch) rest tail in
    record {
      stands = stands;
      within = omega (
        arith,
        ap length stands,
        length-append (encode_utf8 c.in-Some.ch) (rest ++ tail),
        length-append rest tail,
        length-drop c.args.end text,
        length-drop place text,
        c.requires.end.0,
        c.loop-after.invariant.scanned.boundary.0,
        some-bytes c.in-Some.ch,
      );
    }

pub returns-then-ch-eq32 : goal.returns-then-ch-eq32
returns-then-ch-eq32 c =
    let text = c.args.text.now in
    let start = c.args.at + c.args.letters in
    let place = start + char_indices_offset c.loop-after.after-iterator in
    let splitter = as_splitter c.args.splitter in
    let h = c.loop-after.invariant.scanned in
    let is = here (goal.at.returns-then-ch-eq32 c).In-Some in
    let byte = ascii-here text place c.in-Some.ch _ is.stands (omega (arith, c.if-ch-eq32.true))
    ∙ c.if-ch-eq32.true in
    let blank : is_blank (get_or text place 0) ≡ true = ap is_blank byte in
    let stops : is_stop c.args.at_blanks splitter text place ≡ true =
    rw (c.if-at_blanks.true, blank) refl in
    subst (λ n. IsFirstStop (is_stop c.args.at_blanks splitter text) c.args.limit text c.args.at
    c.args.end (start + n) c.loop-after.width) (sym c.in-Some.ensures.steps.0)
    (stop-here c.args.at_blanks splitter text c.utf8.text c.args.end c.requires.boundary c.requires.end h
    (omega (arith, is.within)) (λ _. stops)
    (λ inside. elim (cases_lt c.args.at place) [
      | inl some ↦ some
      | inr none ↦
          let same : place ≡ c.args.at = omega (arith, none, h.from) in
          absurd (true≢false (sym blank ∙ ap (λ k. is_blank (get_or text k 0)) same
          ∙ c.requires.other c.if-at_blanks.true inside))
    ]))

pub overflow_add-width : goal.overflow_add-width
overflow_add-width c = omega (
  arith,
  c.columns-columns.ensures,
  columns-le c.in-Some.ch,
  c.loop-after.invariant.scanned.bound,
  (here (goal.at.overflow_add-width c).In-Some).within,
  c.ranges.end.fits,
)

-- it does not stop there
on : (c : After-step-next) (after : List ℕ)
    → drop (c.args.at + c.args.letters + char_indices_offset c.loop-after.after-iterator) c.args.text.now
    ≡ encode_utf8 c.in-Some.ch ++ after → GoesOn (is_stop c.args.at_blanks (as_splitter c.args.splitter) c.args.text.now)
    c.args.text.now c.args.at
    (c.args.at + c.args.letters + char_indices_offset c.loop-after.after-iterator)
on c after is past inside = grind (arith, some-bytes, true≢false, plain-bytes, no-stop)

pub returns-then-width-columns : goal.returns-then-width-columns
returns-then-width-columns c =
    let text = c.args.text.now in
    let start = c.args.at + c.args.letters in
    let place = start + char_indices_offset c.loop-after.after-iterator in
    let splitter = as_splitter c.args.splitter in
    let ch = c.in-Some.ch in
    let at = goal.at.returns-then-width-columns c in
    let is = here at.In-Some in
    let due = due-true c.args.limit c.loop-after.width ch c.if-width-gt0.true
    (omega (arith, c.columns-columns.ensures, c.if-width-columns.true)) in
    subst (λ n. IsFirstStop (is_stop c.args.at_blanks splitter text) c.args.limit text c.args.at
    c.args.end (start + n) c.loop-after.width) (sym c.in-Some.ensures.steps.0)
    (stop-full c.args.at_blanks splitter text c.utf8.text c.args.end c.requires.boundary c.requires.end
    c.loop-after.invariant.scanned (on at.After-step-next _ is.stands) ch _ is.stands
    (omega (arith, is.within, some-bytes ch)) (rw c.step-next.ensures at c.if-is_visible.true)
    c.if-width-gt0.true due)

-- the reader is past the character
past : (c : Joined-is_visible) (after : List ℕ)
    → drop (c.args.at + c.args.letters + char_indices_offset c.loop-after.after-iterator) c.args.text.now
    ≡ encode_utf8 c.in-Some.ch ++ after
    → GoesOn (is_stop c.args.at_blanks (as_splitter c.args.splitter) c.args.text.now) c.args.text.now
    c.args.at (c.args.at + c.args.letters + char_indices_offset c.loop-after.after-iterator)
    → IsScanned (is_stop c.args.at_blanks (as_splitter c.args.splitter) c.args.text.now) c.args.limit
    c.args.text.now c.args.at
    (c.args.at + c.args.letters + char_indices_offset c.loop-after.after-iterator
    + length (encode_utf8 c.in-Some.ch)) c.step-next.result.0 c.if-is_visible.width
past c after is on =
    let limit = c.args.limit in
    let splitter = as_splitter c.args.splitter in
    let text = c.args.text.now in
    let width = c.loop-after.width in
    let ch = c.in-Some.ch in
    let place = c.args.at + c.args.letters + char_indices_offset c.loop-after.after-iterator in
    let more : width + added c.loop-after.state ch ≡ c.if-is_visible.width =
    elim c.if-is_visible.branch [
      | goal.then-is_visible+else-width-gt0 w ↦ rw (rw c.step-next.ensures at w.if-is_visible.true)
          (sym (w.width-is ∙ ap (λ n. width + n) w.columns-columns.ensures))
      | goal.else-is_visible w ↦ rw (rw c.step-next.ensures at w.if-is_visible.false)
          (omega (arith, w.width-is))
    ] in
    let room : shows c.loop-after.state ch ≡ true → is_due limit width (Visible ch) ≡ false =
    λ shown. elim c.if-is_visible.branch [
      | goal.else-is_visible w ↦ absurd (true≢false (sym shown
          ∙ (rw c.step-next.ensures at w.if-is_visible.false)))
      | goal.then-is_visible+else-width-gt0 w ↦ due-false limit width ch
          (λ some. elim w.else-width-gt0.branch [
            | goal.else-width-gt0-via-then-width-gt0+else-width-columns v ↦ omega
                (arith, w.columns-columns.ensures, v.if-width-columns.false)
            | goal.else-width-gt0-via-else-width-gt0 v ↦ absurd (omega (arith, v.if-width-gt0.false, some))
          ])
    ] in
    rw (c.step-next.ensures, ← more)
    (scanned-step c.utf8.text c.requires.boundary ch after
    (stops-between c.args.at_blanks splitter text c.utf8.text) c.loop-after.invariant.scanned
    on is room)

pub returns-then-is_point : goal.returns-then-is_point
returns-then-is_point c =
    let s = c.in-Some.ensures.steps in
    let start = c.args.at + c.args.letters in
    let place = start + char_indices_offset c.loop-after.after-iterator in
    let text = c.args.text.now in
    let splitter = as_splitter c.args.splitter in
    let at = goal.at.returns-then-is_point c in
    let is = here at.In-Some in
    let one : length (encode_utf8 c.in-Some.ch) ≡ 1 =
    ap (λ n. length (encode_utf8 n)) c.if-ch-eq45.true ∙ ap length (encode_ascii 45 (omega arith)) in
    let q = start + c.in-Some.after + 1 in
    let end : place + length (encode_utf8 c.in-Some.ch) ≡ q = omega (arith, one, s.0) in
    let point = and_parts _ _ (sym c.is_point.ensures ∙ c.if-is_point.true) in
    let stops : is_stop c.args.at_blanks splitter text q ≡ true =
    ap (λ p. (c.args.at_blanks && is_blank (get_or text q 0)) || p) point.1 ∙ or-true _ in
    stop-here c.args.at_blanks splitter text c.utf8.text c.args.end c.requires.boundary c.requires.end
    (rw end at (past at.Joined-is_visible _ is.stands (on at.After-step-next _ is.stands))) (omega (arith, is.within, end)) (λ _. stops)
    (λ _. omega (arith, c.loop-after.invariant.scanned.from, s.0))

pub loop-after-preserved : goal.loop-after-preserved
loop-after-preserved c =
    let s = c.in-Some.ensures.steps in
    let start = c.args.at + c.args.letters in
    let place = start + char_indices_offset c.loop-after.after-iterator in
    let text = c.args.text.now in
    let splitter = as_splitter c.args.splitter in
    let ch = c.in-Some.ch in
    let at = goal.at.loop-after-preserved c in
    let is = here at.In-Some in
    let end = start + char_indices_offset c.next.new.self in
    let same : place + length (encode_utf8 ch) ≡ end = omega (arith, s.2) in
    record {
      scanned = rw same at (past at.Joined-is_visible _ is.stands (on at.After-step-next _ is.stands));
      on = λ _ more.
          point-after text c.utf8.text place ch _ c.loop-after.invariant.scanned.boundary is.stands
          splitter end (sym same) more
          (λ hyphen. elim c.else-ch-eq45.branch [
            | goal.else-ch-eq45-via-else-ch-eq45 w ↦ absurd (w.if-ch-eq45.false hyphen)
            | goal.else-ch-eq45-via-then-ch-eq45+else-is_point w ↦
                let one : length (encode_utf8 ch) ≡ 1 = ap (λ n. length (encode_utf8 n)) hyphen
                ∙ ap length (encode_ascii 45 (omega arith)) in
                let q = start + c.in-Some.after + 1 in
                let next : q ≡ end = omega (arith, same, one, s.0) in
                let inside : nat_lt q (length text) ≡ true =
                lt-ltb q (length text) (omega (arith, next, more)) in
                ap (is_point splitter text) (sym next)
                ∙ sym (ap (λ t. t && is_point splitter text q) inside)
                ∙ sym w.is_point.ensures ∙ w.if-is_point.false
          ]);
      left = ap (λ k. drop k text) (sym same) ∙ left-after text place ch _ is.stands;
    }

pub returns : goal.returns
returns c =
    let text = c.args.text.now in
    let place = c.args.at + c.args.letters + char_indices_offset c.loop-after.after-iterator in
    let splitter = as_splitter c.args.splitter in
    let h = c.loop-after.invariant.scanned in
    let end : place ≡ c.args.end = omega (
      arith,
      ap length c.loop-after.invariant.left,
      c.in-None.ensures.steps.0,
      length-append (char_indices_rest c.loop-after.after-iterator) (drop c.args.end text),
      length-drop place text,
      length-drop c.args.end text,
      h.boundary.0,
      c.requires.end.0,
    ) in
    subst (λ k. IsFirstStop (is_stop c.args.at_blanks splitter text) c.args.limit text c.args.at
    c.args.end k c.loop-after.width) end
    (stop-here c.args.at_blanks splitter text c.utf8.text c.args.end c.requires.boundary c.requires.end h
    (omega (arith, end)) (λ inside. absurd (omega (arith, inside, end)))
    (λ inside. omega (arith, inside, end)))
