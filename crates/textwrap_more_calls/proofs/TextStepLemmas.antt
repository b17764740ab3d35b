-- The lines of a text, each paragraph of which comes with its steps, as they are or justified.
use Rattle.std.{proofs.Common.{Fits, w64}, specs.declared.borrow.CowStr.CowStr, specs.Result.IfOk}
use Rattle.textwrap_calls.proofs.Common.{AreEnds, is_whole, length, lines_of, pieces_at, Settings}
use Rattle.textwrap_calls.proofs.Common.{HasPlacesMore, added_lines, join-paragraphs_of, line_bytes}
use Rattle.textwrap_calls.proofs.Common.{[], append_assoc, ending_bytes, paragraphs_of, rest-within}
use Rattle.textwrap_calls.proofs.Common.{append-nil, covered_by, length-map, parts_from, StartsWith}
use Rattle.textwrap_calls.proofs.Common.{arith, Bool, false, flat, List, nat_lt, refl, subst, Tiles}
use Rattle.textwrap_calls.proofs.Common.{further-cut_lines, HasPlaces, length-append, lines_between}
use Rattle.textwrap_calls.proofs.Common.{join_with, line_from, line_view, map, ShowLines}
use Rattle.textwrap_calls.proofs.Common.{sym, ℕ, ◌++◌, ◌+◌, ◌<◌, ◌^◌, ◌||◌, ◌↔◌, ◌∙◌, ◌∷◌, ◌≡◌, ◌≤◌}
use Rattle.textwrap_calls.proofs.PlaceLemmas.{AreBegun, groups-cut, shown-places}
use Rattle.textwrap_calls.proofs.{Common.ap, Lengths.Sums.texts-joined, Lengths.Texts.ending-length}
use Rattle.textwrap_display.proofs.JustifiedLines.{join-on, rows, rows-more}
use Rattle.textwrap_layout.proofs.Common.{cut_lines, CutLine, further, text_cuts}
use Rattle.textwrap_layout.proofs.Text.Sinks.{length-places_of, lines_of-cut_lines}
use Rattle.textwrap_layout.specs.{declared.places.PlacedLines.PlacedLines, Places.division_cuts}
use Rattle.textwrap_more_calls.specs.TextSteps.{AreTextSteps, division_at, groups_at, parts_at}
use Rattle.textwrap_more_calls.specs.declared.steps.TextwrapSteps.{TextwrapSteps}
use Rattle.textwrap_more_calls.{proofs.Common.text_step_cuts, specs.JustifiedSteps.justified_at}
use Rattle.textwrap_more_calls.{proofs.StepLemmas.step-rest, specs.Steps.AreLineSteps}
use Rattle.textwrap_text.proofs.{Common.{Err, Result, starts_with_of_append}, Numbers.is_later-or}
use Rattle.textwrap_text.{proofs.Common.Ok, specs.declared.line_ending.LineEnding.LineEnding}

-- ---- the lines of a text, each paragraph of which comes with its steps

-- ---- a paragraph that is divided

module _ (settings : Settings) (is_later : Bool) (paragraph : List ℕ) (steps : TextwrapSteps)
    (divided : is_whole settings is_later paragraph ≡ false) where
  -- its lines are cut where the division says
  pub further-divided : (start : ℕ) → map (further start) (division_cuts settings is_later
      (lines_between steps.ends.now (pieces_at settings steps.cuts.now steps.points.now paragraph)))
      ≡ cut_lines start (parts_at settings is_later paragraph steps)
  further-divided start =
      let parts = parts_from settings is_later (lines_between steps.ends.now
      (pieces_at settings steps.cuts.now steps.points.now paragraph)) in
      let from : start + 0 ≡ start = omega arith in
      rw divided (further-cut_lines start 0 parts ∙ ap (λ n. cut_lines n parts) from)

  -- it begins with what its lines cover
  pub divided-begins : Tiles (pieces_at settings steps.cuts.now steps.points.now paragraph) paragraph
      → AreEnds (pieces_at settings steps.cuts.now steps.points.now paragraph) steps.ends.now
      → StartsWith paragraph (covered_by (parts_at settings is_later paragraph steps))
  divided-begins tile ends =
      let (rest, whole) = step-rest settings is_later paragraph _ steps.ends.now tile ends in
      rw divided (starts_with_of_append paragraph _ rest whole)

-- two facts of a result that is right give a third
pub both-ok : {A E P Q R : Type 0} (result : Result A E) → IfOk result (λ a. P)
    → IfOk result (λ a. Q) → (P → Q → R) → IfOk result (λ a. R)
both-ok (Ok a) p q give = give p q
both-ok (Err e) p q give = tt

-- a paragraph and its ending have a number
pub paragraph-fits : (line_ending : LineEnding) (text paragraph : List ℕ) (after : List (List ℕ))
    (start : ℕ) (ending : List ℕ)
    → start + length (join_with (ending_bytes line_ending) (paragraph ∷ after)) ≤ length text
    → ending ≡ ending_bytes line_ending → length text < 2 ^ 63
    → Fits w64 (start + (length paragraph + length ending))
paragraph-fits line_ending text paragraph after start ending within is limit = omega (
  arith,
  within,
  limit,
  texts-joined (ending_bytes line_ending) paragraph after,
  ap length is,
  ending-length line_ending,
  length-append paragraph (flat after),
)

-- ---- one paragraph after another

-- the lines of the paragraphs so far stand there, and with those that are left, of which the first
-- begins at `start`, they are the lines of the text
pub record HasTextLines {Z : Type 0} (settings : Settings) (steps : List TextwrapSteps) (text : List ℕ)
    (placed : PlacedLines Z) (is_later : Bool) (start : ℕ) (left : List (List ℕ))
    (unused : List TextwrapSteps) : Type 0 where
  pub lines : List CutLine
  pub cuts : text_step_cuts settings steps text
      ≡ lines ++ text_cuts (length (ending_bytes settings.line_ending)) start left
      (groups_at settings is_later left unused)
  pub held : HasPlaces placed lines
  pub steps_are : AreTextSteps settings false (paragraphs_of settings.line_ending text) steps
      ↔ AreTextSteps settings is_later left unused
  pub begun : AreBegun is_later left (groups_at settings is_later left unused)
      → AreBegun false (paragraphs_of settings.line_ending text)
      (groups_at settings false (paragraphs_of settings.line_ending text) steps)
  pub within : 0 < length left
      → start + length (join_with (ending_bytes settings.line_ending) left) ≤ length text

-- whether a line stands there
abbrev pub has_lines : {Z : Type 0} → PlacedLines Z → Bool
has_lines placed = nat_lt 0 (length placed.places.items)

module _ {Z : Type 0} {settings : Settings} {steps : List TextwrapSteps} {text : List ℕ} where
  pub HasTextLines-start : {placed : PlacedLines Z} → HasPlaces placed []
      → HasTextLines settings steps text placed (has_lines placed) 0
      (paragraphs_of settings.line_ending text) steps
  HasTextLines-start none =
      let whole = ap length (join-paragraphs_of settings.line_ending text) in
      rw (ap length none.0) (record {
        lines = [];
        cuts = refl;
        held = none;
        steps_are = (λ are. are, λ are. are);
        begun = λ begun. begun;
        within = λ some. omega (arith, whole);
      })

  pub HasTextLines-more : {now then : PlacedLines Z} {is_later : Bool} {start next : ℕ}
      {paragraph : List ℕ} {after : List (List ℕ)} {one : TextwrapSteps}
      {others : List TextwrapSteps}
      → HasTextLines settings steps text now is_later start (paragraph ∷ after) (one ∷ others)
      → is_later ≡ has_lines now
      → next ≡ start + (length paragraph + length (ending_bytes settings.line_ending))
      → HasPlacesMore now then (cut_lines start (parts_at settings is_later paragraph one))
      → StartsWith paragraph (covered_by (parts_at settings is_later paragraph one))
      → (is_whole settings is_later paragraph ≡ false → AreLineSteps settings one.cuts.now
      one.points.now one.ends.now paragraph)
      → HasTextLines settings steps text then (has_lines then) next after others
  HasTextLines-more {now} {then} {is_later} {start} {next} {paragraph} {after} {one} {others} so_far
      later next_is more begins own =
      let parts = parts_at settings is_later paragraph one in
      let here = cut_lines start parts in
      let ending = ending_bytes settings.line_ending in
      let n = length ending in
      let held = more so_far.lines so_far.held in
      let as_many : length here ≡ length parts =
      sym (length-map here (λ (cut : CutLine). cut.line))
      ∙ ap length (lines_of-cut_lines start parts) ∙ length-map parts line_from in
      let then_later : has_lines then ≡ is_later || nat_lt 0 (length parts) =
      is_later-or (length then.places.items) (length now.places.items) (length parts) (omega (
        arith,
        ap length held.0,
        ap length so_far.held.0,
        length-places_of 0 (so_far.lines ++ here),
        length-places_of 0 so_far.lines,
        length-append so_far.lines here,
        as_many,
      )) ∙ ap (λ b. b || nat_lt 0 (length parts)) (sym later) in
      let ends : start + length paragraph + n ≡ next = omega (arith, next_is) in
      let groups = groups_at settings (is_later || nat_lt 0 (length parts)) after others in
      rw then_later (record {
        lines = so_far.lines ++ here;
        cuts = so_far.cuts
            ∙ sym (append_assoc so_far.lines here
            (text_cuts n (start + length paragraph + n) after groups))
            ∙ ap (λ at. (so_far.lines ++ here) ++ text_cuts n at after groups) ends;
        held = held;
        steps_are = (λ all. (so_far.steps_are.0 all).1, λ are. so_far.steps_are.1 (own, are));
        begun = λ begun. so_far.begun (begins, begun);
        within = λ some.
            let rest = rest-within ending paragraph after start (length text)
            (so_far.within (omega arith)) some in
            omega (arith, rest, next_is);
      })

  -- each is shown where it stands
  pub HasTextLines-shown : {placed : PlacedLines Z} {is_later : Bool} {start : ℕ}
      {unused : List TextwrapSteps}
      → HasTextLines settings steps text placed is_later start [] unused → (rest : List ℕ)
      → ShowLines text (placed.built.items ++ rest) 0 0
      (lines_of (text_step_cuts settings steps text)) placed.places.items
  HasTextLines-shown {placed} all rest =
      let paragraphs = paragraphs_of settings.line_ending text in
      let held = subst (HasPlaces placed) (sym (all.cuts ∙ append-nil all.lines)) all.held in
      rw held.1 (shown-places text (text_step_cuts settings steps text) placed.places.items
      (groups-cut text (ending_bytes settings.line_ending) false paragraphs
      (groups_at settings false paragraphs steps) 0 0 (omega arith) (record {
        within = omega arith;
        is = sym (join-paragraphs_of settings.line_ending text);
      })
      (all.begun refl)) held.0 rest)

-- ---- a text at steps whose lines are justified, one paragraph after another

-- with the lines of the paragraphs that are left it is the whole, and their steps are right where all
-- are
pub record IsJustifiedTo (settings : Settings) (steps : List TextwrapSteps) (text filled : List ℕ)
    (is_later : Bool) (left : List (List ℕ)) (unused : List TextwrapSteps) : Type 0 where
  pub whole : justified_at settings steps text
      ≡ filled ++ rows settings is_later (groups_at settings is_later left unused)
  pub steps_are : AreTextSteps settings false (paragraphs_of settings.line_ending text) steps
      ↔ AreTextSteps settings is_later left unused

module _ {settings : Settings} {steps : List TextwrapSteps} {text : List ℕ} where
  pub justified-start : {filled : List ℕ} → filled ≡ []
      → IsJustifiedTo settings steps text filled false (paragraphs_of settings.line_ending text)
      steps
  justified-start none = rw none (record {
    whole = join-on (ending_bytes settings.line_ending) _;
    steps_are = (λ are. are, λ are. are);
  })

  -- the lines of one more paragraph
  pub justified-more : {Z : Type 0} {filled new : List ℕ} {is_later then_later : Bool}
      {paragraph : List ℕ} {after : List (List ℕ)} {one : TextwrapSteps}
      {others : List TextwrapSteps} (lines : List (CowStr Z))
      → IsJustifiedTo settings steps text filled is_later (paragraph ∷ after) (one ∷ others)
      → map line_view lines ≡ map line_from (parts_at settings is_later paragraph one)
      → new ≡ filled ++ added_lines settings is_later (map line_bytes (map line_view lines))
      → then_later ≡ is_later || nat_lt 0 (length lines)
      → (is_whole settings is_later paragraph ≡ false → AreLineSteps settings one.cuts.now
      one.points.now one.ends.now paragraph)
      → IsJustifiedTo settings steps text new then_later after others
  justified-more {filled = filled} {new} {is_later} {then_later} {paragraph} {after} {one} {others}
      lines so_far views is later own =
      let parts = parts_at settings is_later paragraph one in
      let count : length lines ≡ length parts =
      sym (length-map lines line_view) ∙ ap length views ∙ length-map parts line_from in
      let then : then_later ≡ is_later || nat_lt 0 (length parts) =
      later ∙ ap (λ n. is_later || nat_lt 0 n) count in
      let added = is ∙ ap (λ ls. filled ++ added_lines settings is_later (map line_bytes ls)) views in
      rw then (record {
        whole = so_far.whole ∙ rows-more settings filled new is_later _
            (division_at settings is_later paragraph one)
            (groups_at settings (is_later || nat_lt 0 (length parts)) after others) added refl;
        steps_are = (λ all. (so_far.steps_are.0 all).1, λ are. so_far.steps_are.1 (own, are));
      })
