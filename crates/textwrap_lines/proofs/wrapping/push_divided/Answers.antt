use Rattle.textwrap_lines.proofs.wrapping.push_divided.Goals as goal
use Rattle.textwrap_lines.proofs.Common.{arith, first_width, frame_settings, word_view}
use Rattle.textwrap_lines.proofs.Common.{[], ap, map, refl, ◌∙◌, ◌∷◌}
use Rattle.textwrap_base.specs.Cost.{total_width}
use Rattle.textwrap_base.specs.Errors.{Fits64Bits}
use Rattle.textwrap_words.specs.Words.{sizes_of}
use Rattle.std.proofs.lemmas.Bool.{ltb-true, ltb-false}
use Rattle.std.specs.Prelude.{Bool, ℕ, nat_lt, true, false, ◌≡◌, ◌^◌}
use Rattle.textwrap_lines.proofs.Paragraph.KeepsTo.{passed-on}

pub push_lines-requires : goal.push_lines-requires
push_lines-requires g c = λ k. (
  (refl, tt),
  rw c.deref-2.ensures.value (rw (c.deref.ensures.value, c.in_ok-pieces.ensures.tiles)
      at c.in_ok-division.ensures.begins),
)

pub returns-in_err-division-clause-only_memory : goal.returns-in_err-division-clause-only_memory
returns-in_err-division-clause-only_memory g c = λ never.
    passed-on c.from_residual-in_err-division.result c.in_err-division.field-0.0
    c.from_residual-in_err-division.ensures.1
    (c.in_err-division.ensures.only_memory (frame_settings c.args.frame.now) c.args.paragraph.now
    c.utf8.paragraph (omega arith)
    (rw c.deref.ensures.value c.in_ok-pieces.ensures.cut)
    (rw c.deref.ensures.value c.in_ok-pieces.ensures.tiles) never)

-- whether widths fit can be told
fits-or : (n : ℕ) → ((Fits64Bits n → ⊥) → ⊥) → Fits64Bits n
fits-or n never = by_test (nat_lt n (2 ^ 64)) refl
  where
    by_test : (b : Bool) → nat_lt n (2 ^ 64) ≡ b → Fits64Bits n
    by_test true fits = ltb-true n (2 ^ 64) fits
    by_test false past = absurd (never (λ fits. let not = ltb-false n (2 ^ 64) past in omega (arith, fits, not)))

pub returns-in_err-division-clause-no_overflow : goal.returns-in_err-division-clause-no_overflow
returns-in_err-division-clause-no_overflow g c = λ never.
    let pieces = map word_view c.in_ok-pieces.pieces.items in
    let total = total_width sizes_of pieces in
    passed-on c.from_residual-in_err-division.result c.in_err-division.field-0.0
    c.from_residual-in_err-division.ensures.1
    (c.in_err-division.ensures.no_overflow (rw c.deref.ensures.value (fits-or total (λ over.
    never (pieces, c.in_ok-pieces.ensures.pieces, over)))))

pub returns-clause-taken : goal.returns-clause-taken
returns-clause-taken g c =
    let frame = c.args.frame.now in
    let widths = ap (λ n. n ∷ frame.later_columns ∷ []) frame.first
    ∙ ap (λ n. first_width (frame_settings frame) frame.is_later ∷ n ∷ []) frame.later in (
      map (λ line. map word_view line.now) c.in_ok-division.division.items,
      (
        map word_view c.in_ok-pieces.pieces.items,
        c.in_ok-pieces.ensures.pieces,
        rw (← widths) (rw c.deref.ensures.value at c.in_ok-division.ensures.divides),
      ),
      rw c.deref-2.ensures.value at c.in_ok-push_lines.ensures.pushed,
    )
