-- Worked rows on what the lines of texts cost.
use Rattle.textwrap_text.proofs.Common.{codes, List, refl, map, ◌∷◌, ◌≡◌, [], ℕ}
use Rattle.textwrap_base.proofs.Common.{default_penalties, division_cost, problem_at}
use Rattle.textwrap_words.proofs.Common.{sizes_of, words_of}
use Rattle.std.specs.Str.{chars}
use Rattle.unicode_width.specs.Width.{char_width}

abbrev cost_at : ℕ → List ℕ → List (List ℕ) → ℕ
cost_at width text lines =
    division_cost (problem_at default_penalties sizes_of (width ∷ []) (words_of text))
    (map words_of lines)

abbrev question : List (List ℕ) → ℕ
question = cost_at 10 (codes "To be, or not to be: that is the question")

abbrev library : List (List ℕ) → ℕ
library = cost_at 18 (codes "textwrap: a small library for wrapping text.")

-- those of first fit, of optimal fit, and others
costs : question (codes "To be, or " ∷ codes "not to be: " ∷ codes "that is " ∷ codes "the "
    ∷ codes "question" ∷ [])
    ∷ question (codes "To be, " ∷ codes "or not to " ∷ codes "be: that " ∷ codes "is the "
    ∷ codes "question" ∷ [])
    ∷ question (codes "To be, or " ∷ codes "not to " ∷ codes "be: that " ∷ codes "is the "
    ∷ codes "question" ∷ [])
    ∷ library (codes "textwrap: a " ∷ codes "small library for " ∷ codes "wrapping text." ∷ [])
    ∷ library (codes "textwrap: a small " ∷ codes "library for " ∷ codes "wrapping text." ∷ [])
    ∷ [] ≡ 5059 ∷ 5037 ∷ 5037 ∷ 3050 ∷ 3050 ∷ []
unfolding chars char_width
costs = refl
