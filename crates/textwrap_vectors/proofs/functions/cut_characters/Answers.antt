use Rattle.std.proofs.Common.{◌≡◌, ◌-◌, ◌<◌, ◌++◌, ◌∷◌, [], length, get_or, ap, sym, ◌∙◌, subst, arith, refl, inl, inr}
use Rattle.std.proofs.lemmas.Bool.{true≢false, cases_lt}
use Rattle.std.specs.Prelude.{Contains, IsCharBoundary}
use Rattle.std.proofs.lemmas.List.{length_push}
use Rattle.std.proofs.lemmas.List.Elements.{Contains-push, Contains-append_left}
use Rattle.textwrap.proofs.Cutting.{EndWith-push, inner-push}
use Rattle.textwrap_vectors.proofs.functions.cut_characters.Goals as goal
use Rattle.textwrap_vectors.proofs.functions.cut_characters.Goals.{then-is_char_boundary+in_ok-push}
use Rattle.textwrap_vectors.proofs.functions.cut_characters.Goals.{else-is_char_boundary}

pub loop-place-preserved : goal.loop-place-preserved
loop-place-preserved c = elim c.if-is_char_boundary.branch [
  | then-is_char_boundary+in_ok-push w ↦
      let line = c.args.line.now in
      let place = c.loop-place.place in
      let cuts = c.loop-place.cuts.items in
      let grown : c.if-is_char_boundary.cuts.items ≡ cuts ++ place ∷ [] =
      ap (λ v. v.items) w.cuts-is ∙ w.in_ok-push.ensures.items in
      let inside : place < length line = omega arith in
      let len = length_push cuts place in
      let last = EndWith-push cuts place (omega (arith, len)) in
      rw grown (record {
        cuts = inner-push line cuts place (get_or cuts (length cuts - 1) 0) c.loop-place.invariant.cuts
            (λ _. refl) c.loop-place.invariant.before inside (w.if-is_char_boundary.ensures.test.0 refl);
        before = omega (arith, last);
        all = λ k some lt boundary. elim (cases_lt k place) [
          | inl less ↦ Contains-append_left cuts (place ∷ []) k
              (c.loop-place.invariant.all k some less boundary)
          | inr more ↦
              let here : place ≡ k = omega (arith, lt, more) in
              subst (Contains (cuts ++ place ∷ [])) here (Contains-push cuts place)
        ];
      })
  | else-is_char_boundary w ↦
      rw w.cuts-is (record {
        cuts = c.loop-place.invariant.cuts;
        before = omega (arith, c.loop-place.invariant.before);
        all = λ k some lt boundary. elim (cases_lt k c.loop-place.place) [
          | inl less ↦ c.loop-place.invariant.all k some less boundary
          | inr more ↦
              let here : k ≡ c.loop-place.place = omega (arith, lt, more) in
              absurd (true≢false (sym (w.if-is_char_boundary.ensures.test.1
              (subst (IsCharBoundary c.args.line.now) here boundary))))
        ];
      })
]
