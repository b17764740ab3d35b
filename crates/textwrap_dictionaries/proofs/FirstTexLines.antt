-- The first line of a text of TeX that is wrong.
use Rattle.textwrap_dictionaries.proofs.{FirstLines.{line-from, line-to}, FirstWords.{IsStep, step-as, words-are}}
use Rattle.textwrap_dictionaries.{proofs.Skipped.{bare-text, with_bare}, specs.Entries.item_said}
use Rattle.textwrap_dictionaries.specs.Faults.{IsFirstWrongItem, IsFirstWrongTex, IsWrongTex, is_of_end}
use Rattle.textwrap_dictionaries.specs.Laws.{AreTex, uncommented}
use Rattle.textwrap_dictionaries.specs.Parsing.{closed_text, is_group, opened, opened_text, outside_fault, parsed}
use Rattle.textwrap_dictionaries.specs.Parsing.{tex_after, fault_said as fault_saids, tex_said, text_said}
use Rattle.textwrap_dictionaries.specs.Parsing.{unmarked, words_between}
use Rattle.textwrap_dictionaries.specs.declared.entries.Section.{Section, TheVariants.Preamble}
use Rattle.textwrap_dictionaries.specs.declared.errors.{Fault.Fault, ParseError.TheVariants.Line}
use Rattle.textwrap_patterns.specs.Listed.{Listed}
use Rattle.textwrap_text.proofs.Common.{Option, None, Some, Err, ◌↔◌, if◌then◌else◌, lines, Bool, List, ℕ, [], ap}
use Rattle.textwrap_text.proofs.Common.{arith, false, false≢true, inl, inr, map, refl, suc, sym, true, ⊤, ◌∙◌}
use Rattle.textwrap_text.proofs.Common.{◌∷◌, ◌≡◌}
use Rattle.textwrap_dictionaries.specs.declared.errors.Fault.TheVariants as fault

abbrev Anything : Listed → Type 0
Anything k = ⊤

-- ---- lines

abbrev or_empty : Option Fault → Fault
or_empty None = fault.Empty
or_empty (Some f) = f

abbrev has_fault : Option Fault → Bool
has_fault None = false
has_fault (Some f) = true

outside-is : (section : Section) (m : ℕ) (line : List ℕ) (h : Listed) (o : Option Fault)
    → is_group (opened section line) ≡ false → outside_fault line ≡ o
    → IsStep Anything m (fault_saids o) h (λ f. IsWrongTex section f line)
outside-is section m line h None none is = inr (h, refl, tt, never)
  where
    never : (g : Fault) → ¬ IsWrongTex section g line
    never g (inl (group, wrong)) = false≢true (sym none ∙ group)
    never g (inr (outside, told)) = false≢true (ap has_fault (sym is ∙ told))
outside-is section m line h (Some f) none is = inl (f, refl, inr (none, is), only)
  where
    only : (g : Fault) → IsWrongTex section g line → g ≡ f
    only g (inl (group, wrong)) = absurd (false≢true (sym none ∙ group))
    only g (inr (outside, told)) = ap or_empty (sym told ∙ is)

line-is : (section : Section) (m : ℕ) (line : List ℕ) (h : Listed) (b : Bool)
    → is_group (opened section line) ≡ b
    → IsStep Anything m (if b then text_said (opened section line) (closed_text (opened_text section line))
    else fault_saids (outside_fault line)) h (λ f. IsWrongTex section f line)
line-is section m line h true is =
    let now = opened section line in
    let words = words_between (closed_text (opened_text section line)) in
    step-as Anything m (map (item_said now) words) h (λ f. IsFirstWrongItem now f words) (λ f. IsWrongTex section f line)
    (λ f wrong. inl (is, wrong)) from (words-are Anything (λ k j same any. tt) now m words h tt)
  where
    from : (f : Fault) → IsWrongTex section f line
        → IsFirstWrongItem (opened section line) f (words_between (closed_text (opened_text section line)))
    from f (inl (group, wrong)) = wrong
    from f (inr (outside, told)) = absurd (false≢true (sym outside ∙ is))
line-is section m line h false is = outside-is section m line h (outside_fault line) is refl

-- ---- texts

tex-iff : (k : ℕ) (section : Section) (ls : List (List ℕ)) (h : Listed) (n : ℕ) (f : Fault) → is_of_end f ≡ false
    → (with_bare k section ls h ≡ Err (Line n f)) ↔ IsFirstWrongTex section k ls n f
tex-iff k section [] h n f own = grind arith
tex-iff k section (line ∷ ls) h n f own =
    let m = suc k in
    let W : Fault → Type 0 = λ g. IsWrongTex section g line in
    let after = tex_after section line in
    let is : IsStep Anything m (tex_said section line) h W =
    line-is section m line h (is_group (opened section line)) refl in
    let rest : (j : Listed) → ⊤ → (with_bare m after ls j ≡ Err (Line n f)) ↔ IsFirstWrongTex after m ls n f =
    λ j any. tex-iff m after ls j n f own in (
      line-to m n f (tex_said section line) h Anything W (IsFirstWrongTex after m ls n f) (with_bare m after ls) rest is,
      line-from m n f (tex_said section line) h Anything W (IsFirstWrongTex after m ls n f) (with_bare m after ls) rest
          is,
    )

pub errors-of-tex : (text : List ℕ) (n : ℕ) (f : Fault) → AreTex (lines (unmarked text)) → is_of_end f ≡ false
    → (parsed text ≡ Err (Line n f)) ↔ IsFirstWrongTex Preamble 0 (map uncommented (lines (unmarked text))) n f
errors-of-tex text n f are own = grind (arith, bare-text, tex-iff)
