use Rattle.std.proofs.{Common.refl, lemmas.Str.drop_past_char}
use Rattle.textwrap_text.proofs.ClassNames.{IsIdeographAt, char_indices_rest, drop, ideograph_places}
use Rattle.textwrap_text.proofs.ClassNames.{add-one, append_assoc, cases_lt, encode, length-append}
use Rattle.textwrap_text.proofs.ClassNames.{ap, arith, length, sym, ◌*◌, ◌++◌, ◌+◌, ◌∙◌, ◌≡◌}
use Rattle.textwrap_text.proofs.Common.{length-drop, length-encode}
use Rattle.textwrap_unicode.proofs.WordVerdicts.{three-bytes}
use Rattle.textwrap_unicode.proofs.cuts.push_ideographs.Goals as goal

pub loop-after-preserved : goal.loop-after-preserved
loop-after-preserved c =
    let h = c.loop-after.invariant in
    let s = c.in-Some.ensures.steps in
    let rest = c.args.rest.now in
    let at = c.args.at in
    let n = c.loop-after.count in
    let ch = c.in-Some.ch in
    let left = char_indices_rest c.next.new.self in
    let common = c.is_common_ideograph.ensures c.if-not-is_common_ideograph.false in
    let three = three-bytes ch common in
    let is : drop (3 * n) rest ≡ encode ch ++ left = h.left ∙ s.1 in
    let size = length-encode ch in
    let sum = length-append (encode ch) left in
    let next : 3 * (n + 1) ≡ 3 * n + 3 = omega arith in
    let past : drop (3 * n + 3) rest ≡ left =
    ap (λ k. drop (3 * n + k) rest) (sym three) ∙ drop_past_char rest left (3 * n) ch is in
    let here : IsIdeographAt rest (3 * n) = record {
      character = ch;
      common = common;
      stands = is ∙ ap (λ bs. encode ch ++ bs) (sym past);
    } in
    let place : at + c.in-Some.after ≡ at + 3 * n = omega (arith, s.0, h.place) in
    record {
      place = omega (arith, s.2, h.place, size);
      left = ap (λ k. drop k rest) next ∙ past;
      within = omega (arith, h.within, ap length is, length-drop (3 * n) rest, size);
      ideographs = grind (arith, cases_lt, h.ideographs, here);
      cuts = rw (add-one n) (c.in_ok-push.ensures.items
          ∙ rw (h.cuts, place, append_assoc c.args.cuts.now.items (ideograph_places at n)) refl);
    }
