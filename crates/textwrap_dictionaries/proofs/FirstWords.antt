-- Of words one after another the first that is wrong.
use Rattle.textwrap_dictionaries.proofs.FirstWrong.{IsJudgedItem, item-judged, item-wrong}
use Rattle.textwrap_dictionaries.specs.Entries.{Said, NextGroup, Wrong, item_said}
use Rattle.textwrap_dictionaries.specs.Faults.{IsFirstWrongItem, IsWrongItem}
use Rattle.textwrap_dictionaries.specs.{Parsing.with_all, declared.entries.Section.Section}
use Rattle.textwrap_dictionaries.specs.declared.errors.{Fault.Fault, ParseError.TheVariants.Line}
use Rattle.textwrap_patterns.specs.Listed.{Listed}
use Rattle.textwrap_text.proofs.Common.{Ok, Err, List, ℕ, [], ap, arith, inl, inr, length, map, refl, sym, ⊤}
use Rattle.textwrap_text.proofs.Common.{◌∙◌, ◌∷◌, ◌≡◌, ◌⊎◌}
use Rattle.textwrap_dictionaries.specs.declared.errors.Fault.TheVariants as fault

-- a line is wrong in one way, or it is not and reading goes on with this
abbrev pub IsStep : (Listed → Type 0) → ℕ → List Said → Listed → (Fault → Type 0) → Type 0
IsStep P m saids h W =
    ((f : Fault) × (with_all m saids h ≡ Err (Line m f)) × W f × ((g : Fault) → W g → g ≡ f))
    ⊎ ((k : Listed) × (with_all m saids h ≡ Ok k) × P k × ((g : Fault) → ¬ W g))

pub step-as : (P : Listed → Type 0) (m : ℕ) (saids : List Said) (h : Listed) (V W : Fault → Type 0)
    → ((f : Fault) → V f → W f) → ((f : Fault) → W f → V f) → IsStep P m saids h V → IsStep P m saids h W
step-as P m saids h V W to from (inl (f, is, wrong, one)) = inl (f, is, to f wrong, λ g other. one g (from g other))
step-as P m saids h V W to from (inr (k, is, room, none)) = inr (k, is, room, λ g other. none g (from g other))

-- it says nothing that is wrong
abbrev pub IsRight : Said → Type 0
IsRight (Wrong f) = ⊥
IsRight _ = ⊤

abbrev pub fault_said : Said → Fault
fault_said (Wrong f) = f
fault_said _ = fault.Empty

module _ (P : Listed → Type 0) (kept : (k j : Listed) → length j.joints ≡ length k.joints → P k → P j)
    (section : Section) where
  -- a word that is not wrong, before others
  goes-on : (m : ℕ) (word : List ℕ) (words : List (List ℕ)) (k : Listed) (more : List Said)
      → ((g : Fault) → ¬ IsWrongItem section g word)
      → IsStep P m more k (λ f. IsFirstWrongItem section f words)
      → IsStep P m more k (λ f. IsFirstWrongItem section f (word ∷ words))
  goes-on m word words k more none (inl (f, is, wrong, one)) = inl (f, is, inr (none, wrong), only)
    where
      only : (g : Fault) → IsFirstWrongItem section g (word ∷ words) → g ≡ f
      only g (inl here) = absurd (none g here)
      only g (inr (before, later)) = one g later
  goes-on m word words k more none (inr (j, is, room, nothing)) = inr (j, is, room, never)
    where
      never : (g : Fault) → ¬ IsFirstWrongItem section g (word ∷ words)
      never g (inl here) = none g here
      never g (inr (before, later)) = nothing g later

  unwrong : (word : List ℕ) (said : Said) → item_said section word ≡ said → IsRight said
      → (g : Fault) → ¬ IsWrongItem section g word
  unwrong word said is right g wrong = grind (arith, item-wrong)

  by-said : (m : ℕ) (word : List ℕ) (words : List (List ℕ)) (h : Listed) (more : List Said) (said : Said)
      → item_said section word ≡ said → IsJudgedItem section word said → P h
      → ((k : Listed) → P k → IsStep P m more k (λ f. IsFirstWrongItem section f words))
      → IsStep P m (said ∷ more) h (λ f. IsFirstWrongItem section f (word ∷ words))
  by-said m word words h more NextGroup is judge room rest = absurd judge
  by-said m word words h more (Wrong f) is judge room rest = inl (f, refl, inl judge, only)
    where
      only : (g : Fault) → IsFirstWrongItem section g (word ∷ words) → g ≡ f
      only g (inl here) = ap fault_said (sym (item-wrong section word g here) ∙ is)
      only g (inr (before, later)) = absurd (before f judge)
  by-said m word words h more said is judge room rest =
      goes-on m word words _ more (unwrong word said is tt) (rest _ (kept h _ refl room))

  pub words-are : (m : ℕ) (words : List (List ℕ)) (h : Listed) → P h
      → IsStep P m (map (item_said section) words) h (λ f. IsFirstWrongItem section f words)
  words-are m [] h room = inr (h, refl, room, λ g never. never)
  words-are m (word ∷ words) h room = by-said m word words h (map (item_said section) words) (item_said section word)
      refl (item-judged section word) room (λ k more. words-are m words k more)
