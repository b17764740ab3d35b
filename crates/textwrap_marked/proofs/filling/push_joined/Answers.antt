use Rattle.textwrap_marked.proofs.filling.push_joined.Goals as goal
use Rattle.textwrap_base.proofs.Division.Map.{IsDividedBy-map}
use Rattle.textwrap_marked.proofs.Common.{parts_between, ByOptimalFit, IsDividedBy, piece_view, sizes_of}
use Rattle.textwrap_marked.proofs.Common.{word_of, arith, subst, List, map, ◌∙◌, ◌∷◌, ◌≡◌, [], ap, ℕ}
use Rattle.textwrap_marked.proofs.PieceSums.{pieces-fit}

pub pieces_between-requires : goal.pieces_between-requires
pieces_between-requires c = rw c.deref.ensures.value c.requires

pub divide_at_least_cost-requires-clause-row : goal.divide_at_least_cost-requires-clause-row
divide_at_least_cost-requires-clause-row c = rw c.deref-2.ensures.value c.in_ok-pieces.ensures.row

pub divide_at_least_cost-requires-clause-fits : goal.divide_at_least_cost-requires-clause-fits
divide_at_least_cost-requires-clause-fits c =
    let fit = pieces-fit c.args.text.now c.deref.result.now c.deref-2.result.now c.utf8.text
    (rw c.deref.ensures.value c.requires)
    (ap (map piece_view) c.deref-2.ensures.value ∙ c.in_ok-pieces.ensures.pieces) in
    omega (arith, fit)

pub returns-clause-lines : goal.returns-clause-lines
returns-clause-lines c =
    let options = c.args.options.now in
    let algorithm = ByOptimalFit c.args.penalties.now in
    let lines = map (λ line. line.now) c.in_ok-division.division.items in
    let division = map (map piece_view) lines in
    let cut : map piece_view c.deref-2.result.now
    ≡ map word_of (parts_between c.args.cuts.items c.args.text.now) =
    ap (map piece_view) c.deref-2.ensures.value ∙ c.in_ok-pieces.ensures.pieces
    ∙ ap (λ cs. map word_of (parts_between cs c.args.text.now)) c.deref.ensures.value in
    let divided = subst (λ ps. IsDividedBy algorithm sizes_of
    (c.room_behind.result ∷ c.room_behind-2.result ∷ []) ps division) cut
    (IsDividedBy-map piece_view sizes_of algorithm _ c.deref-2.result.now lines
    c.in_ok-division.ensures.divided) in (
      division,
      subst (λ (ws : List ℕ). IsDividedBy algorithm sizes_of ws
          (map word_of (parts_between c.args.cuts.items c.args.text.now)) division)
          (λ i. c.room_behind.ensures i ∷ c.room_behind-2.ensures i ∷ []) divided,
      rw c.deref-3.ensures.value at c.in_ok-push_division.ensures,
    )
