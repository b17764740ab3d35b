use Rattle.textwrap_more_calls.proofs.steps.textwrap_lines_at.Goals as goal
use Rattle.textwrap_calls.proofs.Common.{AreEnds, lines_of, List, refl, says_yes, subst, Tiles}
use Rattle.textwrap_calls.proofs.Common.{ArePlacesOf, parts_from, pieces_at, Settings, step_settings}
use Rattle.textwrap_calls.proofs.Common.{[], ℕ}
use Rattle.textwrap_calls.proofs.Common.{further-cut_lines, HasPlaces, lines_between, settings_view}
use Rattle.textwrap_more_calls.{proofs.Common.WritesLines-reported}
use Rattle.textwrap_more_calls.{proofs.StepLemmas.steps-shown, specs.Steps.step_cuts}

pub returns-in-Ok-push_step_lines-clause-lines : goal.returns-in-Ok-push_step_lines-clause-lines
returns-in-Ok-push_step_lines-clause-lines c =
    let settings = step_settings c.args.options.now in
    let read = settings_view c.in-Ok.options in
    let text = c.in-Ok-from_utf8.paragraph.now in
    let cuts = c.args.cuts.now in
    let points = c.args.points.now in
    let ends = c.args.ends.now in
    let later = c.args.is_later in
    let new = c.push_step_lines.new.lines in
    let found = c.in-Ok-push_step_lines.ensures in
    let parts = parts_from read (says_yes later) (lines_between ends (pieces_at read cuts points text)) in
    let Found : Settings → List ℕ → Type 0 =
    λ s t. ArePlacesOf (step_cuts s cuts points ends later t) new.places.items new.built.items
    × Tiles (pieces_at s cuts points t) t × AreEnds (pieces_at s cuts points t) ends in
    let (placed, tile, are) = subst (Found settings) c.in-Ok-from_utf8.ensures.0
    (subst (λ s. Found s text)
    c.in-Ok.ensures.read (
      subst (HasPlaces new) (further-cut_lines 0 0 parts)
          (found.placed [] (c.new-found.ensures.places, c.new-found.ensures.built)),
      found.tiles,
      found.steps.ends_are,
    )) in
    WritesLines-reported (lines_of (step_cuts settings cuts points ends later c.args.paragraph.now))
    (refl, placed.0) placed.1
    (steps-shown settings cuts points ends later c.args.paragraph.now _ tile are placed.0)
    c.put_lines.ensures.statuses c.put_lines.ensures.lines

pub returns-in-Ok-push_step_lines-clause-right_places :
    goal.returns-in-Ok-push_step_lines-clause-right_places
returns-in-Ok-push_step_lines-clause-right_places c placed enough few known texts =
    rw c.in-Ok.ensures.read at
    (rw c.in-Ok-from_utf8.ensures.0 at c.in-Ok-push_step_lines.ensures.steps)
