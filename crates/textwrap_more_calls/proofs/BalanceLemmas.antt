-- Lines that were written by first fit at the balanced width are balanced, and as many as at the width of
-- the options; and what a refusal says of texts.
use Rattle.textwrap_calls.proofs.Common.{arith, done, inl, inr, length, Line, List, ℕ, ◌∙◌}
use Rattle.textwrap_calls.proofs.Common.{separator_of, options_settings, subst, TextwrapLine}
use Rattle.textwrap_calls.proofs.Common.{too_small, ◌↔◌, ◌≡◌, ◌⊎◌}
use Rattle.textwrap_calls.specs.{Options.{options_points, ArePlacedBy}, Status.not_utf8}
use Rattle.textwrap_calls.specs.{Status.{out_of_memory, unknown_options}, Wrapping.WritesLongLines}
use Rattle.textwrap_calls.specs.declared.options.TextwrapOptions.{TextwrapOptions}
use Rattle.textwrap_more_calls.specs.Balancing.{AreBalancedBy, AreByFirstFit, first_fit_at}
use Rattle.textwrap_more_calls.specs.Balancing.{IsBalancedBy}
use Rattle.textwrap_plain.{proofs.Balance.Search.balanced-many, specs.Options.words_by}

module _ (o options : TextwrapOptions) (text : List ℕ) (width : ℕ) {status : ℕ}
    {lines_before lines_after : List TextwrapLine} {count_before count_after : ℕ}
    {room_before room_after : List ℕ} {len_before len_after : ℕ}
    (balanced : IsBalancedBy o text width) (at : options ≡ first_fit_at o width)
    (writes : WritesLongLines (ArePlacedBy options text) text status lines_before lines_after
    count_before count_after room_before room_after len_before len_after) where
  pub balanced-written : WritesLongLines (AreBalancedBy o text) text status lines_before lines_after
      count_before count_after room_before room_after len_before len_after
  balanced-written = record {
    written = λ answered.
        let (lines, places, are, count, len, reported, room, small, shown) =
        writes.written answered in
        let balanced_are : AreBalancedBy o text lines places =
        (width, balanced, subst (λ p. ArePlacedBy p text lines places) at are) in
        (lines, places, balanced_are, count, len, reported, room, small, shown);
    kept = writes.kept;
    kept_counts = writes.kept_counts;
  }

  pub balanced-count : (status ≡ done) ⊎ (status ≡ too_small) → (others : List Line)
      → AreByFirstFit o text others → count_after ≡ length others
  balanced-count answered others other_are =
      let (lines, places, are, count, len, reported, room, small, shown) =
      writes.written answered in
      let placed = subst (λ p. ArePlacedBy p text lines places) at are in
      count ∙ balanced-many (options_settings o) (words_by (separator_of o)) (options_points o) text width
      lines others balanced placed.are other_are

-- what is not known, or has no memory, tells nothing of texts
pub refused-not_utf8 : {status : ℕ} {Known Texts Rest : Type 0}
    → ((status ≡ unknown_options) × (Known → ⊥))
    ⊎ ((status ≡ not_utf8) × Known × (Texts → ⊥))
    ⊎ ((status ≡ out_of_memory) × Known × Texts × Rest)
    → status ≡ not_utf8 ↔ Known × (Texts → ⊥)
refused-not_utf8 (inl (is, unknown)) =
    (λ same. absurd (omega (arith, is, same)), λ (known, _). absurd (unknown known))
refused-not_utf8 (inr (inl (is, known, wrong))) = (λ same. (known, wrong), λ refused. is)
refused-not_utf8 (inr (inr (is, known, texts, _))) =
    (λ same. absurd (omega (arith, is, same)), λ (_, wrong). absurd (wrong texts))
