-- Answers that do not meet the laws.
use Rattle.std.{proofs.Math.Seq.drop-append_seam, proofs.lemmas.List.Folds.list_any-append}
use Rattle.textwrap_marked_laws.proofs.Common.{ap}
use Rattle.textwrap_marked_laws.proofs.Common.{bytes_eq, list_any, length, arith, codes, false, Bool, List, ℕ}
use Rattle.textwrap_marked_laws.proofs.Common.{drop, refl, true, zero, ◌++◌, ◌||◌, suc, sym, ◌∙◌, ◌∷◌, ◌≡◌}
use Rattle.textwrap_marked_laws.proofs.Common.{words_between_white, ReflowOptions, cases_Bool, true≢false, []}
use Rattle.textwrap_marked_laws.specs.Laws.{ShowTheSame}

-- an empty line is shown
abbrev has_feed : List (List ℕ) → Bool
has_feed shown = list_any (λ w. bytes_eq w (10 ∷ [])) shown

-- by no end of this line
no-feed : (n : ℕ) → has_feed (words_between_white (drop n (codes "a b"))) ≡ false
no-feed zero = refl
no-feed (suc zero) = refl
no-feed (suc (suc zero)) = refl
no-feed (suc (suc (suc zero))) = refl
no-feed (suc (suc (suc (suc n)))) = refl

-- paragraphs on both sides of an empty line, joined into one
pub paragraphs_joined : (options : ReflowOptions) → ShowTheSame options (codes "a\n\nb") (codes "a b") → ⊥
paragraphs_joined options (
  marked,
  shown,
  (first, later, one, (feed, last, (m, r, of, empty, feed_is), two, later_is), is),
  (front, back, (margin, rest, is_margin, whole, shows), none, other_is),
) =
    let fed : has_feed shown ≡ true =
    ap has_feed (is ∙ ap (λ l. first ++ l) (later_is ∙ ap (λ l. l ++ last) feed_is))
    ∙ list_any-append (λ w. bytes_eq w (10 ∷ [])) first ((10 ∷ []) ∷ last) ∙ or-true (has_feed first) in
    let ends : rest ≡ drop (length margin) (codes "a b") =
    sym (drop-append_seam margin rest) ∙ ap (drop (length margin)) (sym whole) in
    let unfed : has_feed shown ≡ false =
    ap has_feed (other_is ∙ ap (λ l. front ++ l) none) ∙ list_any-append (λ w. bytes_eq w (10 ∷ [])) front []
    ∙ ap (λ l. has_feed l || false) (shows ∙ ap words_between_white ends)
    ∙ ap (λ b. b || false) (no-feed (length margin)) in
    true≢false (sym fed ∙ unfed)
  where
    or-true : (b : Bool) → (b || true) ≡ true
    or-true b = grind (arith, cases_Bool)
