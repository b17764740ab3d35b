-- The runs of letters, one after another.
use Rattle.textwrap_hyphens.proofs.Common.{List, ℕ, ◌≡◌, ◌≤◌, ◌<◌, ◌++◌, ◌∷◌, [], arith, drop}
use Rattle.textwrap_hyphens.proofs.Common.{length, take, zero, suc, true, false, refl, get_or}
use Rattle.textwrap_hyphens.proofs.Common.{cases_Bool}
use Rattle.textwrap_hyphens.specs.{Hyphenation.Hyphenation, Points.points_in, Points.points_past}
use Rattle.textwrap_patterns.specs.Letters.{is_letter_or_mark, run_len}
use Rattle.textwrap_patterns.specs.declared.letters.Letter.{Letter}

pub past-drop : (h : Hyphenation) (n : ℕ) (cs : List Letter)
    → points_past h n cs ≡ points_past h 0 (drop n cs)
past-drop h zero cs = refl
past-drop h (suc n) [] = refl
past-drop h (suc n) (c ∷ cs) = past-drop h n cs

pub run-within : (cs : List Letter) → run_len cs ≤ length cs
run-within [] = omega arith
run-within (c ∷ cs) = grind (arith, cases_Bool, run-within cs)

pub past-letter : (h : Hyphenation) (cs : List Letter) (d : Letter) → 0 < length cs
    → is_letter_or_mark (get_or cs 0 d).ch ≡ true
    → (points_past h 0 cs
    ≡ points_in h (take (run_len cs) cs) ++ points_past h 0 (drop (run_len cs) cs))
    × (0 < run_len cs)
past-letter h [] d some is = absurd (omega arith)
past-letter h (c ∷ cs) d some is = grind (arith, past-drop h (run_len cs) cs)

pub past-other : (h : Hyphenation) (cs : List Letter) (d : Letter) → 0 < length cs
    → is_letter_or_mark (get_or cs 0 d).ch ≡ false → points_past h 0 cs ≡ points_past h 0 (drop 1 cs)
past-other h [] d some is = absurd (omega arith)
past-other h (c ∷ cs) d some is = rw is refl
