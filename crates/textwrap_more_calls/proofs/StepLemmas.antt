-- The lines of a paragraph in steps stand where they are reported, and joined where they are shown.
use Rattle.textwrap_calls.proofs.Common.{[], join_with, parts_from, pieces_at, places_of, ShowLines}
use Rattle.textwrap_calls.proofs.Common.{ap, length, lines_of, lt-ltb, says_yes, Settings, WordText}
use Rattle.textwrap_calls.proofs.Common.{append-nil, AreEnds, built_text, covered_by, lines_between}
use Rattle.textwrap_calls.proofs.Common.{arith, Bool, List, nat_lt, Place, subst, sym, tiled, Tiles}
use Rattle.textwrap_calls.proofs.Common.{cond, flat, ℕ, ◌++◌, ◌∙◌, ◌∷◌, ◌≡◌}
use Rattle.textwrap_calls.proofs.PlaceLemmas.{AreCut, paragraph-cut, shown-places}
use Rattle.textwrap_layout.proofs.{Paragraph.LeftOff.covered_by-parts_from, Text.Lines.join-push}
use Rattle.textwrap_more_calls.specs.Steps.{step_cuts}
use Rattle.textwrap_words.proofs.Word.{Divisions.lines_from-begin, Words.tiled-append}

-- ---- the lines of a paragraph in steps stand where they are reported

-- it begins with what they cover
pub step-rest : (settings : Settings) (is_later : Bool) (paragraph : List ℕ) (pieces : List WordText)
    (ends : List ℕ) → Tiles pieces paragraph → AreEnds pieces ends → (rest : List ℕ)
    × (paragraph ≡ covered_by (parts_from settings is_later (lines_between ends pieces)) ++ rest)
step-rest settings is_later paragraph pieces ends tile are =
    let division = lines_between ends pieces in
    let (left, is) = lines_from-begin pieces 0 ends are in (
      tiled left,
      sym tile ∙ ap tiled (sym is) ∙ tiled-append (flat division) left
          ∙ ap (λ bytes. bytes ++ tiled left) (sym (covered_by-parts_from settings is_later division)),
    )

-- what is reported of them shows them
pub steps-shown : (settings : Settings) (cuts points ends : List ℕ) (is_later : ℕ)
    (paragraph : List ℕ) (places : List Place)
    → Tiles (pieces_at settings cuts points paragraph) paragraph
    → AreEnds (pieces_at settings cuts points paragraph) ends
    → places ≡ places_of 0 (step_cuts settings cuts points ends is_later paragraph) → (rest : List ℕ)
    → let lines = lines_of (step_cuts settings cuts points ends is_later paragraph) in
    ShowLines paragraph (built_text lines ++ rest) 0 0 lines places
steps-shown settings cuts points ends is_later paragraph places tile are is =
    let pieces = pieces_at settings cuts points paragraph in
    let parts = parts_from settings (says_yes is_later) (lines_between ends pieces) in
    let all = step_cuts settings cuts points ends is_later paragraph in
    let (left, whole) = step-rest settings (says_yes is_later) paragraph pieces ends tile are in
    shown-places paragraph all places (subst (AreCut paragraph 0) (append-nil all)
    (paragraph-cut paragraph [] parts left 0 0 (omega arith)
    (record { within = omega arith; is = whole }) (λ next le. tt))) is

-- ---- lines that stand where they are shown, joined by an ending

-- one more text is joined
pub join-more : (ending joined bytes : List ℕ) (i : ℕ) (texts : List (List ℕ)) → length texts ≡ i
    → joined ≡ join_with ending texts
    → cond (nat_lt 0 i) (joined ++ ending ++ bytes) (joined ++ bytes)
    ≡ join_with ending (texts ++ bytes ∷ [])
join-more ending joined bytes i [] count is = grind arith
join-more ending joined bytes i (first ∷ texts) count is = grind (arith, lt-ltb, join-push)
