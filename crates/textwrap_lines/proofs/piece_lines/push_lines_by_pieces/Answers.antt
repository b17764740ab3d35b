use Rattle.textwrap_lines.proofs.Common.{IsCharBoundary-start, words_cut-texts, HasTaken-start, sym}
use Rattle.textwrap_lines.proofs.Common.{frame_settings, HasTaken-next, left_standing, HasTaken-end}
use Rattle.textwrap_lines.proofs.Common.{on_ok_weaker, as_splitter, frame_lines, line_so_far, rules}
use Rattle.textwrap_lines.proofs.Common.{lines_past, stand_from, LineSoFar, words_cut, cuts_of, ◌∙◌}
use Rattle.textwrap_lines.proofs.Common.{arith, subst, refl, Pushed, ◌≡◌, [], ap}
use Rattle.textwrap_lines.proofs.piece_lines.push_lines_by_pieces.Goals as goal
use Rattle.textwrap_layout.specs.Direct.{pieces_cut}
use Rattle.textwrap_lines.proofs.PieceLines.{AllCome, lines-greedy, pieces-come}

pub at-line-requires : goal.at-line-requires
at-line-requires g c = IsCharBoundary-start c.args.paragraph.now c.utf8.paragraph

pub loop-piece-init : goal.loop-piece-init
loop-piece-init g c =
    let settings = frame_settings c.args.frame.now in
    let cuts = c.args.cuts.now in
    let paragraph = c.args.paragraph.now in
    let left = left_standing c.into_iter-piece-iterator.result in
    let left_is : left ≡ stand_from 0 (pieces_cut settings cuts paragraph) =
    ap left_standing c.into_iter-piece-iterator.ensures.into_iter_gives
    ∙ c.cut_paragraph-piece-items.ensures in
    record {
      taken = HasTaken-start _ c.args.lines.now;
      come = subst (λ (line : LineSoFar). AllCome line.text line.bounds.end left) (sym c.at-line.ensures)
          (subst (AllCome paragraph 0) (sym left_is)
          (pieces-come settings (as_splitter cuts.splitter) paragraph (words_cut (cuts_of cuts) paragraph)
          c.utf8.paragraph (words_cut-texts (cuts_of cuts) paragraph c.utf8.paragraph c.requires)));
      name = refl;
    }

pub loop-piece-preserved : goal.loop-piece-preserved
loop-piece-preserved g c =
    let here = line_so_far c.loop-piece.line in
    let come = (subst (AllCome here.text here.bounds.end) c.in-Some.ensures.steps
    c.loop-piece.invariant.come).1 in
    let taken = rw c.in-Some.ensures.steps at c.loop-piece.invariant.taken in
    search (rules, arith, HasTaken-next, c.if-is_past.branch)

pub returns-clause-pushed : goal.returns-clause-pushed
returns-clause-pushed g c =
    let settings = frame_settings c.args.frame.now in
    let is_later = c.args.frame.now.is_later in
    let cuts = c.args.cuts.now in
    let paragraph = c.args.paragraph.now in
    let words = words_cut (cuts_of cuts) paragraph in
    let splitter = as_splitter cuts.splitter in
    let texts = words_cut-texts (cuts_of cuts) paragraph c.utf8.paragraph c.requires in
    let (division, greedy, found) = lines-greedy settings paragraph splitter is_later words
    c.utf8.paragraph texts in
    let all_is : lines_past settings (line_so_far c.at-line.result)
    (left_standing c.into_iter-piece-iterator.result) ≡ frame_lines c.args.frame.now division =
    ap (λ l. lines_past settings l (left_standing c.into_iter-piece-iterator.result))
    c.at-line.ensures
    ∙ (rw (
      c.args.frame.now.first,
      c.args.frame.now.indented,
      c.into_iter-piece-iterator.ensures.into_iter_gives,
      c.cut_paragraph-piece-items.ensures,
    ) found) in
    on_ok_weaker c.push_to-2.result (λ end. (
      division,
      greedy,
      subst (Pushed _ c.args.lines.now c.push_to-2.new.lines) all_is
          (HasTaken-end _ c.args.lines.now c.push_to-2.new.lines
          (HasTaken-next _ c.args.lines.now c.loop-piece.lines c.push_to-2.new.lines _ []
          (rw c.in-None.ensures.steps.0 at c.loop-piece.invariant.taken) end)),
    )) c.push_to-2.ensures.pushed
