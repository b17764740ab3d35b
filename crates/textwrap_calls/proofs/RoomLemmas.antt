-- What is written into lent room, seen as an answer, and what of it are lines that are reported.
use Rattle.textwrap_calls.proofs.Common.{All, cond, done, drop, inl, inr, map, refl, sym, ◌++◌, ◌+◌}
use Rattle.textwrap_calls.proofs.Common.{All-cons, cases_lt, Line, line_bytes, ShowLines, too_small}
use Rattle.textwrap_calls.proofs.Common.{[], ap, ℕ, ◌<◌, ◌^◌, ◌↔◌, ◌∙◌, ◌∷◌, ◌≡◌, ◌≤◌, ◌⊎◌}
use Rattle.textwrap_calls.proofs.Common.{arith, Built, List, Place, rules, Slice, subst, take_all}
use Rattle.textwrap_calls.proofs.Common.{built_text, length, length-map, slice_range, TextwrapLine}
use Rattle.textwrap_calls.specs.Wrapping.{WritesLinesAs}
use Rattle.textwrap_calls.specs.{Reported.{ReportsLines, WritesReported}, Room.WritesText}
use Rattle.textwrap_layout.specs.LentPlaces.{WritesPlaces}
use Rattle.textwrap_layout.specs.declared.lent_places.LineCounts.{LineCounts}
use Rattle.textwrap_text.{proofs.Common.All-nil, specs.LentText.{as_len, written_over}}

-- ---- what is written into lent room, seen as an answer

-- room is too short for an answer exactly if it is shorter than the length that is reported
pub short-reported : (room answer : ℕ) → room < 2 ^ 63
    → (room < as_len answer → room < answer) × (room < answer → room < as_len answer)
short-reported room answer fits = (λ short. omega arith, λ short. omega arith)

-- an answer was written whose length is a number, which is reported
pub written-exactly : {X : Type 0} (answer : List X) {status : ℕ} {room_before room_after : List X}
    {len_before len_after room_len reported : ℕ} → length answer < 2 ^ 64
    → reported ≡ as_len (length answer) → room_after ≡ written_over room_before answer
    → room_len ≡ length room_before → len_after ≡ reported
    → (status ≡ too_small ↔ room_len < reported) → (status ≡ done) ⊎ (status ≡ too_small)
    → WritesText (λ a. a ≡ answer) status room_before room_after len_before len_after
written-exactly answer {reported = reported} fits len room whole told small statuses =
    let exact : reported ≡ length answer = omega (arith, fits, len) in
    record {
      written = λ answered. (answer, refl, told ∙ exact, room, rw (whole, exact) at small);
      kept = λ other short. search rules;
      kept_len = λ other short. search rules;
    }

-- bytes that are such an answer were written
pub WritesText-answer : {X : Type 0} {IsAnswer : List X → Type 0} {bytes : List X} {status : ℕ}
    {room_before room_after : List X} {len_before len_after : ℕ} → IsAnswer bytes
    → WritesText (λ answer. answer ≡ bytes) status room_before room_after len_before len_after
    → WritesText IsAnswer status room_before room_after len_before len_after
WritesText-answer is writes = grind arith

-- ---- what was written of lines that are reported

module _ (text room : List ℕ) where
  -- the bytes at a place
  abbrev pub bytes_at : Place → List ℕ
  bytes_at place =
      slice_range (cond place.is_built room text) place.offset (place.offset + place.len)

  abbrev pub IsInside : Place → Type 0
  IsInside place = place.offset + place.len ≤ length (cond place.is_built room text)

  -- lines that are shown are the bytes at their places
  pub shown-bytes : (from used : ℕ) (lines : List Line) (places : List Place)
      → ShowLines text room from used lines places
      → All IsInside places × (map line_bytes lines ≡ map bytes_at places)
  shown-bytes from used [] places none = rw none (All-nil IsInside, refl)
  shown-bytes from used (line ∷ lines) [] shows = absurd shows
  shown-bytes from used (Slice bytes ∷ lines) (place ∷ places) (here, rest) =
      let (inside, same) = shown-bytes (place.offset + length bytes) used lines places rest in (
        All-cons IsInside place places (rw here.not_built here.shows.within) inside,
        rw (here.not_built, here.shows.bytes_are) (ap (λ ts. bytes ∷ ts) same),
      )
  shown-bytes from used (Built bytes ∷ lines) (place ∷ places) (here, rest) =
      let (inside, same) = shown-bytes from (used + length bytes) lines places rest in (
        All-cons IsInside place places (rw here.built here.shows.within) inside,
        rw (here.built, here.shows.bytes_are) (ap (λ ts. bytes ∷ ts) same),
      )

  -- as many are reported as there are
  pub ShowLines-length : (lines : List Line) (places : List Place)
      → ShowLines text room 0 0 lines places → length places ≡ length lines
  ShowLines-length lines places shows =
      sym (length-map places bytes_at) ∙ ap length (sym (shown-bytes 0 0 lines places shows).1)
      ∙ length-map lines line_bytes

module _ {reported : ℕ → ℕ} {places : List Place} {built : List ℕ} {status : ℕ}
    {lines_before lines_after : List TextwrapLine} {count_after : ℕ}
    {room_before room_after : List ℕ} {len_after : ℕ} where
  -- lines were written by where they stand, and it was reported how long they are
  pub WritesReported-counts : {counts : LineCounts} {lines_len room_len : ℕ}
      → length places < 2 ^ 64 → reported (length built) ≡ as_len (length built)
      → WritesPlaces places built counts lines_before lines_after room_before room_after
      → ReportsLines counts lines_len room_len status count_after len_after
      → lines_len ≡ length lines_before → room_len ≡ length room_before
      → length room_before < 2 ^ 63
      → WritesReported reported places built status lines_before lines_after count_after room_before
      room_after len_after
  WritesReported-counts {counts} fits exact writes reports lines_is room_is within =
      let count : counts.lines ≡ length places = grind (arith, writes.lines.len_is, length-map) in
      let passed = short-reported (length room_before) (length built) within in
      let (few, enough) = rw (lines_is, count, room_is, writes.text.len_is) at reports.small in
      record {
        count = reports.count_is ∙ count;
        len = reports.len_is ∙ writes.text.len_is ∙ sym exact;
        lines = writes.lines.room_is;
        room = writes.text.room_is;
        small = (
          λ short. elim (few short) [
            | inl less ↦ inl less
            | inr less ↦ inr (passed.0 less)
          ],
          λ short. enough (elim short [
            | inl less ↦ inl less
            | inr less ↦ inr (passed.1 less)
          ]),
        );
      }

  -- lines that are such an answer, and are shown where they are reported, were written
  pub WritesLines-reported : {AreAnswer : List Line → List Place → Type 0} {text : List ℕ}
      {count_before len_before : ℕ} (lines : List Line) → AreAnswer lines places
      → built ≡ built_text lines
      → ((rest : List ℕ) → ShowLines text (built_text lines ++ rest) 0 0 lines places)
      → (status ≡ done) ⊎ (status ≡ too_small)
      → WritesReported reported places built status lines_before lines_after count_after
      room_before room_after len_after
      → WritesLinesAs reported AreAnswer text status lines_before lines_after count_before
      count_after room_before room_after len_before len_after
  WritesLines-reported {text = text} lines are built_is shows statuses writes =
      let all = ShowLines-length text (built_text lines ++ []) lines places (shows []) in
      let room = writes.room ∙ ap (written_over room_before) built_is in
      let small = rw (all, built_is) at writes.small in
      record {
        written = λ answered. (
          lines,
          places,
          are,
          writes.count ∙ all,
          writes.len ∙ ap (λ b. reported (length b)) built_is,
          writes.lines,
          room,
          small,
          λ here.
              let fits : length (built_text lines) ≤ length room_before =
              elim (cases_lt (length room_before) (length (built_text lines))) [
                | inl less ↦ absurd (omega (arith, here, small.1 (inr less)))
                | inr fits ↦ fits
              ] in
              subst (λ r. ShowLines text r 0 0 lines places)
              (sym (room ∙ ap (λ b. b ++ drop (length (built_text lines)) room_before)
              (take_all (length room_before) (built_text lines) fits)))
              (shows (drop (length (built_text lines)) room_before)),
        );
        kept = λ no not_short. search rules;
        kept_counts = λ no not_short. search rules;
      }
