-- Worked rows on plain texts.
use Rattle.textwrap.proofs.Common.{IsPlainLine, IsPlainWord, line_prefix, All-cons, All-nil, length}
use Rattle.textwrap.proofs.Common.{IsPlain, blanked, arith, rules, refl, ◌∷◌, ◌≡◌, ◌≤◌, [], ap, ℕ}
use Rattle.textwrap_text.proofs.Common.{codes}
use Rattle.textwrap.proofs.Text.PlainFilled.{unfilled-plain}

pub blanked-lines : blanked (codes "a b\nc") ≡ codes "a b c"
blanked-lines = refl

one_letter : (c : ℕ) → 97 ≤ c → line_prefix (c ∷ []) ≡ [] → IsPlainWord (c ∷ [])
one_letter c low begins = grind (arith, All-cons, All-nil)

plain-lines : IsPlain (codes "a b\nc")
plain-lines =
    let first : IsPlainLine (codes "a b") = (
      codes "a" ∷ codes "b" ∷ [],
      λ none. cc,
      search (rules, arith, All-cons, one_letter, All-nil),
      refl,
    ) in
    let second : IsPlainLine (codes "c") = (
      codes "c" ∷ [],
      λ none. cc,
      search (rules, arith, All-cons, one_letter, All-nil),
      refl,
    ) in (
      codes "a b" ∷ codes "c" ∷ [],
      search (rules, arith, All-cons, All-nil),
      refl,
    )

plain-nothing : IsPlain []
plain-nothing = ([], All-nil IsPlainLine, refl)

-- an indent would be found in it
not_plain-dash : ¬ IsPlain (codes "- a")
not_plain-dash plain =
    omega (arith, ap length (unfilled-plain (codes "- a") plain).initial_is)

-- the line feed would be added back
not_plain-last_feed : ¬ IsPlain (codes "a\n")
not_plain-last_feed plain =
    omega (arith, ap length (unfilled-plain (codes "a\n") plain).joined_is)

-- the empty line would be left out
not_plain-empty_line : ¬ IsPlain (codes "a\n\nb")
not_plain-empty_line plain =
    omega (arith, ap length (unfilled-plain (codes "a\n\nb") plain).joined_is)
