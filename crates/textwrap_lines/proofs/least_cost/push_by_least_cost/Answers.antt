use Rattle.textwrap_lines.proofs.least_cost.push_by_least_cost.Goals as goal
use Rattle.textwrap_lines.proofs.Common.{as_splitter, frame_settings, on_ok_weaker, words_cut-texts}
use Rattle.textwrap_lines.proofs.Common.{Bor, cuts_of, List, refl, Span, subst, Pushed, words_cut}
use Rattle.textwrap_lines.proofs.Common.{map, ◌∙◌}
use Rattle.textwrap_lines.proofs.PlacedPieces.{are_searched, found-lines, FoundLines}
use Rattle.textwrap_lines.proofs.least_cost.push_by_least_cost.Goals.{After-deref-2}

pub least_cost_lines-requires : goal.least_cost_lines-requires
least_cost_lines-requires g c =
    let is = c.deref.ensures.value ∙ c.in_ok-spans.ensures in
    let cuts = c.args.cuts.now in
    let searched = are_searched (frame_settings c.args.frame.now) (as_splitter cuts.splitter)
    c.args.frame.now.is_later c.args.paragraph.now (words_cut (cuts_of cuts) c.args.paragraph.now)
    c.args.penalties.now c.utf8.paragraph
    (words_cut-texts (cuts_of cuts) c.args.paragraph.now c.utf8.paragraph c.requires.cuts)
    c.requires.some c.deref.result.now is c.requires.suits in
    record {
      measured = searched.measured;
      some = searched.some_spans;
      suits = rw (c.args.frame.now.first, c.args.frame.now.later) searched.suits;
    }

-- the lines that the table gives
lines_found : (g : _) (c : After-deref-2 g) → FoundLines (frame_settings c.args.frame.now)
    (as_splitter c.args.cuts.now.splitter) c.args.frame.now.is_later c.args.paragraph.now
    (words_cut (cuts_of c.args.cuts.now) c.args.paragraph.now) c.args.penalties.now c.utf8.paragraph
    (words_cut-texts (cuts_of c.args.cuts.now) c.args.paragraph.now c.utf8.paragraph c.requires.cuts)
    c.requires.some c.deref.result.now (c.deref.ensures.value ∙ c.in_ok-spans.ensures)
    (map (λ (line : Bor (List Span)). line.now) c.deref-2.result.now)
lines_found g c = found-lines _ _ _ _ _ _ _ _ _ _ _ _
    (rw (
      ← c.args.frame.now.first,
      ← c.args.frame.now.later,
      c.deref-2.ensures.value,
    ) c.in_ok-division.ensures)

pub push_lines-requires : goal.push_lines-requires
push_lines-requires g c = λ k.
    ((refl, tt), (lines_found g (goal.at.push_lines-requires g c).After-deref-2).texts)

pub returns-clause-pushed : goal.returns-clause-pushed
returns-clause-pushed g c =
    let found = lines_found g (goal.at.returns-clause-pushed g c).After-deref-2 in
    on_ok_weaker c.push_lines.result (λ took. (
      found.division,
      found.optimal,
      subst (Pushed _ c.args.lines.now c.push_lines.new.lines) found.are_lines took,
    )) c.push_lines.ensures.pushed
