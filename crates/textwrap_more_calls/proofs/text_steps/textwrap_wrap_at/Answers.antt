use Rattle.textwrap_more_calls.proofs.text_steps.textwrap_wrap_at.Goals as goal
use Rattle.textwrap_calls.proofs.Common.{ArePlacesOf, step_settings, ShowLines, Settings, lines_of, ℕ}
use Rattle.textwrap_calls.proofs.Common.{subst, List, refl, ◌++◌}
use Rattle.textwrap_more_calls.proofs.Common.{WritesLines-reported, text_step_cuts}

pub returns-in-Ok-place_text-clause-lines : goal.returns-in-Ok-place_text-clause-lines
returns-in-Ok-place_text-clause-lines c =
    let steps = c.args.steps.now in
    let placed = c.in-Ok-place_text.placed in
    let Found : Settings → List ℕ → Type 0 =
    λ s text. ArePlacesOf (text_step_cuts s steps text) placed.places.items placed.built.items
    × ((rest : List ℕ) → ShowLines text (placed.built.items ++ rest) 0 0
    (lines_of (text_step_cuts s steps text)) placed.places.items) in
    let (at, shown) = subst (Found (step_settings c.args.options.now)) c.in-Ok-from_utf8.ensures.0
    (subst (λ s. Found s c.in-Ok-from_utf8.text.now)
    c.in-Ok.ensures.read
    (c.in-Ok-place_text.ensures.placed, c.in-Ok-place_text.ensures.shown)) in
    let lines = lines_of (text_step_cuts (step_settings c.args.options.now) steps c.args.text.now) in
    WritesLines-reported lines (refl, at.0) at.1
    (λ rest. subst (λ b. ShowLines c.args.text.now (b ++ rest) 0 0 lines placed.places.items) at.1
    (shown rest)) c.put_lines.ensures.statuses c.put_lines.ensures.lines
