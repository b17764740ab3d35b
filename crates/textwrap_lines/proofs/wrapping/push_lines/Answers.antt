use Rattle.textwrap_lines.proofs.wrapping.push_lines.Goals as goal
use Rattle.textwrap_lines.proofs.Common.{cut_lines-next, HasTaken-start, IsCharBoundary-start, List}
use Rattle.textwrap_lines.proofs.Common.{frame_settings, HasTaken-end, HasTaken-next, StartsWith}
use Rattle.textwrap_lines.proofs.Common.{arith, drop-drop, drop_all, drop_more, word_view, WordText}
use Rattle.textwrap_lines.proofs.Common.{Bor, drop, flat_map, map, refl, subst, sym, tiled, Word}
use Rattle.textwrap_lines.proofs.Common.{ap, ◌+◌, ◌∙◌}
use Rattle.textwrap_text.proofs.Lists.Parts.{starts-parts}

pub loop-pieces-init : goal.loop-pieces-init
loop-pieces-init g c = record {
  begins = IsCharBoundary-start c.args.paragraph.now c.utf8.paragraph;
  starts = c.requires;
  taken = HasTaken-start _ c.args.lines.now;
  name = refl;
}

pub push_line-requires : goal.push_line-requires
push_line-requires g c = λ k.
    let is = drop_more c.args.division.now c.loop-pieces.pieces-index _ c.loop-pieces-test.true in
    let starts = rw is at c.loop-pieces.invariant.starts in
    let begins = starts-parts (drop c.loop-pieces.start c.args.paragraph.now) _ _ starts in
    ((refl, tt), (c.loop-pieces.invariant.begins, begins.0))

pub loop-pieces-preserved : goal.loop-pieces-preserved
loop-pieces-preserved g c =
    let words : Bor (List Word) → List WordText = λ line. map word_view line.now in
    let text = c.args.paragraph.now in
    let at = c.loop-pieces.start in
    let left = drop (c.loop-pieces.pieces-index + 1) c.args.division.now in
    let is = drop_more c.args.division.now c.loop-pieces.pieces-index _ c.loop-pieces-test.true in
    let starts = rw is at c.loop-pieces.invariant.starts in
    let begins = starts-parts (drop at text) _ _ starts in
    let end = c.in_ok-start.ensures.end in record {
      begins = c.in_ok-start.ensures.boundary;
      starts = subst (λ rest. StartsWith rest (flat_map (λ line. tiled (words line)) left))
          (drop-drop _ at text ∙ ap (λ n. drop n text) (sym end)) begins.1;
      taken = HasTaken-next _ c.args.lines.now c.loop-pieces.lines c.push_line.new.lines _ _
          (rw (
            is,
            cut_lines-next (frame_settings c.args.frame.now) c.loop-pieces.has_line at _ _
                (map words left) end,
          ) at c.loop-pieces.invariant.taken) c.in_ok-start.ensures.line;
      name = c.push_line.ensures.name ∙ c.loop-pieces.invariant.name;
    }

pub returns-clause-pushed : goal.returns-clause-pushed
returns-clause-pushed g c = HasTaken-end _ c.args.lines.now c.loop-pieces.lines
    (rw (drop_all c.loop-pieces.pieces-index c.args.division.now (omega arith))
    at c.loop-pieces.invariant.taken)
