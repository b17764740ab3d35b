use Rattle.textwrap_more_calls.proofs.text_steps.join_lines.Goals as goal
use Rattle.std.{proofs.lemmas.List.map_more, specs.List.slice_index_or}
use Rattle.textwrap_calls.proofs.Common.{[], All, arith, false, length, map, subst, sym, take, ◌++◌}
use Rattle.textwrap_calls.proofs.Common.{join_with, length-map, length-take, line_bytes, take_all}
use Rattle.textwrap_calls.proofs.RoomLemmas.{bytes_at}
use Rattle.textwrap_calls.proofs.{Common.{ap, ◌+◌, ◌∙◌, ◌∷◌}, RoomLemmas.{IsInside, shown-bytes}}
use Rattle.textwrap_more_calls.proofs.StepLemmas.{join-more}

pub line_at-requires : goal.line_at-requires
line_at-requires c =
    let (lines, shows) = c.requires in
    let text = c.args.text.now in
    let built = c.args.placed.now.built.items in
    let inside = subst (All (IsInside text built)) (sym c.deref-place-items.ensures.value)
    (shown-bytes text built 0 0 lines c.args.placed.now.places.items shows).0 in
    rw c.deref.ensures.value (inside c.loop-i.i _ c.loop-i-test.true)

pub loop-i-preserved : goal.loop-i-preserved
loop-i-preserved c =
    let text = c.args.text.now in
    let ending = c.as_bytes-ending.result.now in
    let bytes = bytes_at text c.args.placed.now.built.items in
    let places = c.deref-place-items.result.now in
    let value = c.deref-place-items.ensures.value in
    let i = c.loop-i.i in
    let place = slice_index_or places i (record { offset = 0; len = 0; is_built = false }) in
    let count = length-take i places in
    c.in_ok-push_line.ensures
    ∙ join-more ending c.loop-i.joined.items c.line_at.result.now i (map bytes (take i places))
    (length-map (take i places) bytes ∙ (omega (arith, count, c.loop-i-test.true)))
    (c.loop-i.invariant ∙ ap (λ ps. join_with ending (map bytes (take i ps))) (sym value))
    ∙ ap (λ b. join_with ending (map bytes (take i places) ++ b ∷ []))
    (c.line_at.ensures ∙ ap (λ built. bytes_at text built place) c.deref.ensures.value)
    ∙ ap (join_with ending) (sym (map_more bytes places i _ c.loop-i-test.true))
    ∙ ap (λ ps. join_with ending (map bytes (take (i + 1) ps))) value

pub returns : goal.returns
returns c = λ lines shows.
    let text = c.args.text.now in
    let built = c.args.placed.now.built.items in
    let places = c.args.placed.now.places.items in
    let ending = c.as_bytes-ending.result.now in
    c.loop-i.invariant ∙ ap (λ ps. join_with ending (map (bytes_at text built) ps))
    (take_all c.loop-i.i places
    (omega (arith, ap length c.deref-place-items.ensures.value, c.loop-i-test.false)))
    ∙ ap (join_with ending) (sym (shown-bytes text built 0 0 lines places shows).1)
    ∙ ap (λ e. join_with e (map line_bytes lines)) (c.as_bytes-ending.ensures.value ∙ c.as_str.ensures)
