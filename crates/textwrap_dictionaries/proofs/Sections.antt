-- The parts of a text of TeX, and what is read by them.
use Rattle.textwrap_dictionaries.proofs.{Said.then-read, Skipped.{all-shifted, bare-text, then-same, with_bare}}
use Rattle.textwrap_dictionaries.specs.{Entries.Said, Laws.{AreTex, uncommented, without_line}}
use Rattle.textwrap_dictionaries.specs.Parsing.{Outcome, after_mark, and_then, closed, closed_text, count_fault}
use Rattle.textwrap_dictionaries.specs.Parsing.{end_fault, ended, exceptions_mark, fault_said, is_closed}
use Rattle.textwrap_dictionaries.specs.Parsing.{is_group, no_patterns, outside_fault, parsed, patterns_mark}
use Rattle.textwrap_dictionaries.specs.Parsing.{tex_after, tex_said, text_said, unmarked, with_all, with_said}
use Rattle.textwrap_dictionaries.specs.Sections.{Part, Outside, Group, IsClosedBehind, IsOpened, IsTexPart}
use Rattle.textwrap_dictionaries.specs.Sections.{IsReadFrom, has_group, lines_of, part_said, section_in}
use Rattle.textwrap_dictionaries.specs.declared.entries.Section.{Section, TheVariants.Preamble}
use Rattle.textwrap_dictionaries.specs.declared.entries.Section.TheVariants.{Patterns, Exceptions, Behind}
use Rattle.textwrap_dictionaries.specs.declared.errors.{Fault.Fault, ParseError.TheVariants.{Memory, Line}}
use Rattle.textwrap_patterns.specs.Listed.{Listed}
use Rattle.textwrap_text.proofs.Common.{Option, None, Some, Ok, Err, ◌↔◌, ◌||◌, flat_map, lines, All, All-cons}
use Rattle.textwrap_text.proofs.Common.{All-head, All-nil, All-tail, Bool, List, ℕ, [], ap, append_assoc}
use Rattle.textwrap_text.proofs.Common.{cases_Bool, false, false≢true, inl, inr, length, map, refl, subst, suc}
use Rattle.textwrap_text.proofs.Common.{sym, true, ◌++◌, ◌∙◌, ◌∷◌, ◌≡◌, ◌⊎◌}

-- ---- what lines say, without their numbers

then-ok : (o : Outcome) (next : Listed → Outcome) (k : Listed) → and_then o next ≡ Ok k
    → (j : Listed) × (o ≡ Ok j) × (next j ≡ Ok k)
then-ok (Ok j) next k is = (j, refl, is)
then-ok (Err e) next k is = absurd (let never : ⊥ = cc in never)

then-then : (o : Outcome) (f g : Listed → Outcome) → and_then (and_then o f) g ≡ and_then o (λ k. and_then (f k) g)
then-then (Ok k) f g = refl
then-then (Err e) f g = refl

all-append : (n : ℕ) (saids more : List Said) (h : Listed)
    → with_all n (saids ++ more) h ≡ and_then (with_all n saids h) (with_all n more)
all-append n [] more h = refl
all-append n (said ∷ saids) more h = then-same (with_said n said h) (with_all n (saids ++ more))
    (λ k. and_then (with_all n saids k) (with_all n more)) (all-append n saids more)
    ∙ sym (then-then (with_said n said h) (with_all n saids) (with_all n more))

lined : (o : Outcome) (k : Listed) → without_line o ≡ Ok k → o ≡ Ok k
lined (Ok h) k is = cc
lined (Err (Memory e)) k is = cc
lined (Err (Line n f)) k is = cc

-- what is read does not depend on the number of its line
renumbered : (n m : ℕ) (saids : List Said) (h k : Listed) → with_all n saids h ≡ Ok k → with_all m saids h ≡ Ok k
renumbered n m saids h k is = lined (with_all m saids h) k (ap without_line (sym (then-read (with_all m saids h)))
    ∙ all-shifted m n saids h (λ j. Ok j) (λ j. Ok j) (λ j. refl)
    ∙ ap without_line (then-read (with_all n saids h) ∙ is))

abbrev saids_in : Section → List (List ℕ) → List Said
saids_in section [] = []
saids_in section (line ∷ ls) = tex_said section line ++ saids_in (tex_after section line) ls

abbrev behind_all : Section → List (List ℕ) → Section
behind_all section [] = section
behind_all section (line ∷ ls) = behind_all (tex_after section line) ls

abbrev Ends : Section → Listed → Type 0
Ends section h = end_fault section (length h.patterns) (length h.exceptions) ≡ None

ended-ok : (n : ℕ) (o : Option Fault) (h k : Listed) → ended n o h ≡ Ok k → (h ≡ k) × (o ≡ None)
ended-ok n None h k is = (cc, refl)
ended-ok n (Some f) h k is = absurd (let never : ⊥ = cc in never)

flat-to : (n : ℕ) (section : Section) (ls : List (List ℕ)) (h k : Listed) → with_bare n section ls h ≡ Ok k
    → (with_all 0 (saids_in section ls) h ≡ Ok k) × Ends (behind_all section ls) k
flat-to n section [] h k is =
    let same = ended-ok n (end_fault section (length h.patterns) (length h.exceptions)) h k is in
    (ap (λ j. Ok j) same.0, subst (Ends section) same.0 same.1)
flat-to n section (line ∷ ls) h k is =
    let after = tex_after section line in
    let first = then-ok (with_all (suc n) (tex_said section line) h) (with_bare (suc n) after ls) k is in
    let rest = flat-to (suc n) after ls first.0 k first.2 in (
      all-append 0 (tex_said section line) (saids_in after ls) h
          ∙ ap (λ o. and_then o (with_all 0 (saids_in after ls)))
          (renumbered (suc n) 0 (tex_said section line) h first.0 first.1) ∙ rest.0,
      rest.1,
    )

flat-from : (n : ℕ) (section : Section) (ls : List (List ℕ)) (h k : Listed)
    → with_all 0 (saids_in section ls) h ≡ Ok k → Ends (behind_all section ls) k → with_bare n section ls h ≡ Ok k
flat-from n section [] h k said end =
    let same : h ≡ k = cc in
    ap (λ o. ended n o h) (subst (Ends section) (sym same) end) ∙ said
flat-from n section (line ∷ ls) h k said end =
    let after = tex_after section line in
    let first = then-ok (with_all 0 (tex_said section line) h) (with_all 0 (saids_in after ls)) k
    (sym (all-append 0 (tex_said section line) (saids_in after ls) h) ∙ said) in
    ap (λ o. and_then o (with_bare (suc n) after ls))
    (renumbered 0 (suc n) (tex_said section line) h first.0 first.1)
    ∙ flat-from (suc n) after ls first.0 k first.2 end

-- ---- lines of parts

abbrev outside_of : Bool → Section
outside_of true = Behind
outside_of false = Preamble

abbrev said_by : Bool → List ℕ → List Said
said_by exceptions text = text_said (section_in exceptions) (closed_text text)

outside-line : (seen : Bool) (line : List ℕ) → after_mark patterns_mark line ≡ None
    → after_mark exceptions_mark line ≡ None
    → (tex_said (outside_of seen) line ≡ fault_said (outside_fault line))
    × (tex_after (outside_of seen) line ≡ outside_of seen)
outside-line true line one two = rw (one, two) (refl, refl)
outside-line false line one two = rw (one, two) (refl, refl)

opened-line : (seen exceptions : Bool) (line text : List ℕ) → IsOpened exceptions line text
    → (tex_said (outside_of seen) line ≡ said_by exceptions text)
    × (tex_after (outside_of seen) line ≡ closed (section_in exceptions) text)
opened-line true true line text is = rw (is.0, is.1) (refl, refl)
opened-line true false line text is = rw is (refl, refl)
opened-line false true line text is = rw (is.0, is.1) (refl, refl)
opened-line false false line text is = rw is (refl, refl)

inside-line : (exceptions : Bool) (text : List ℕ) → (tex_said (section_in exceptions) text ≡ said_by exceptions text)
    × (tex_after (section_in exceptions) text ≡ closed (section_in exceptions) text)
inside-line true text = (refl, refl)
inside-line false text = (refl, refl)

goes-on : (section : Section) (text : List ℕ) → is_closed text ≡ false → closed section text ≡ section
goes-on section text is = rw is refl

group-says : (x : Bool) (text : List ℕ) (more rest : List (List ℕ)) → IsClosedBehind (text ∷ more)
    → (saids_in (closed (section_in x) text) (more ++ rest) ≡ flat_map (said_by x) more ++ saids_in Behind rest)
    × (behind_all (closed (section_in x) text) (more ++ rest) ≡ behind_all Behind rest)
group-says x text [] rest is = rw is (refl, refl)
group-says x text (next ∷ more) rest (stays, is) =
    let behind = group-says x next more rest is in
    let here = inside-line x next in
    let on = goes-on (section_in x) text stays in (
      ap (λ s. saids_in s (next ∷ more ++ rest)) on
          ∙ ap (λ l. l ++ saids_in (tex_after (section_in x) next) (more ++ rest)) here.0
          ∙ ap (λ s. said_by x next ++ saids_in s (more ++ rest)) here.1
          ∙ ap (λ l. said_by x next ++ l) behind.0
          ∙ sym (append_assoc (said_by x next) (flat_map (said_by x) more) (saids_in Behind rest)),
      ap (λ s. behind_all s (next ∷ more ++ rest)) on ∙ ap (λ s. behind_all s (more ++ rest)) here.1 ∙ behind.1,
    )

seen-group : (seen : Bool) → true ≡ (seen || true)
seen-group true = refl
seen-group false = refl

parts-say : (seen : Bool) (parts : List Part) → All IsTexPart parts
    → (saids_in (outside_of seen) (flat_map lines_of parts) ≡ flat_map part_said parts)
    × (behind_all (outside_of seen) (flat_map lines_of parts) ≡ outside_of (seen || has_group parts))
parts-say true [] are = (refl, refl)
parts-say false [] are = (refl, refl)
parts-say seen (Outside line ∷ parts) are =
    let is = All-head IsTexPart (Outside line) parts are in
    let here = outside-line seen line is.0 is.1 in
    let rest = parts-say seen parts (All-tail IsTexPart (Outside line) parts are) in
    let ls = flat_map lines_of parts in (
      ap (λ l. l ++ saids_in (tex_after (outside_of seen) line) ls) here.0
          ∙ ap (λ s. fault_said (outside_fault line) ++ saids_in s ls) here.1
          ∙ ap (λ l. fault_said (outside_fault line) ++ l) rest.0,
      ap (λ s. behind_all s ls) here.1 ∙ rest.1,
    )
parts-say seen (Group x line text more ∷ parts) are =
    let is = All-head IsTexPart (Group x line text more) parts are in
    let here = opened-line seen x line text is.0 in
    let rest = parts-say true parts (All-tail IsTexPart (Group x line text more) parts are) in
    let ls = flat_map lines_of parts in
    let behind = group-says x text more ls is.1 in (
      ap (λ l. l ++ saids_in (tex_after (outside_of seen) line) (more ++ ls)) here.0
          ∙ ap (λ s. said_by x text ++ saids_in s (more ++ ls)) here.1
          ∙ ap (λ l. said_by x text ++ l) (behind.0 ∙ ap (λ l. flat_map (said_by x) more ++ l) rest.0)
          ∙ sym (append_assoc (said_by x text) (flat_map (said_by x) more) (flat_map part_said parts)),
      ap (λ s. behind_all s (more ++ ls)) here.1 ∙ behind.1 ∙ rest.1 ∙ ap outside_of (seen-group seen),
    )

-- ---- lines are parts, if the last group is closed

abbrev HasParts : List (List ℕ) → Type 0
HasParts ls = (parts : List Part) × (ls ≡ flat_map lines_of parts) × All IsTexPart parts

abbrev HasEnd : List ℕ → List (List ℕ) → Type 0
HasEnd text ls = (more : List (List ℕ)) × (rest : List (List ℕ)) × (ls ≡ more ++ rest)
    × IsClosedBehind (text ∷ more) × HasParts rest

abbrev StaysOpen : Section → List (List ℕ) → Type 0
StaysOpen section ls = is_group (behind_all section ls) ≡ true

abbrev OutsideIs : List (List ℕ) → Type 0
OutsideIs ls = (seen : Bool) → HasParts ls ⊎ StaysOpen (outside_of seen) ls

abbrev InsideIs : List (List ℕ) → Type 0
InsideIs ls = (x : Bool) (text : List ℕ) → HasEnd text ls ⊎ StaysOpen (closed (section_in x) text) ls

opened-is : (seen x : Bool) (line text : List ℕ) (ls : List (List ℕ)) → InsideIs ls → IsOpened x line text
    → HasParts (line ∷ ls) ⊎ StaysOpen (outside_of seen) (line ∷ ls)
opened-is seen x line text ls inside is = elim (inside x text) [
  | inl (more, rest, same, closes, (parts, are_parts, are)) ↦ inl (
    Group x line text more ∷ parts,
    ap (λ l. line ∷ l) (same ∙ ap (λ l. more ++ l) are_parts),
    All-cons IsTexPart (Group x line text more) parts (is, closes) are,
  )
  | inr stays ↦ inr (ap (λ s. is_group (behind_all s ls)) (opened-line seen x line text is).1 ∙ stays)
]

outside-is : (line : List ℕ) (ls : List (List ℕ)) → OutsideIs ls → InsideIs ls → (p e : Option (List ℕ))
    → after_mark patterns_mark line ≡ p → after_mark exceptions_mark line ≡ e → OutsideIs (line ∷ ls)
outside-is line ls outside inside (Some text) e one two seen = opened-is seen false line text ls inside one
outside-is line ls outside inside None (Some text) one two seen = opened-is seen true line text ls inside (one, two)
outside-is line ls outside inside None None one two seen = elim (outside seen) [
  | inl (parts, are_parts, are) ↦ inl (
    Outside line ∷ parts,
    ap (λ l. line ∷ l) are_parts,
    All-cons IsTexPart (Outside line) parts (one, two) are,
  )
  | inr stays ↦ inr (ap (λ s. is_group (behind_all s ls)) (outside-line seen line one two).1 ∙ stays)
]

ended-is : (x : Bool) (text : List ℕ) (ls : List (List ℕ)) → OutsideIs ls → is_closed text ≡ true
    → HasEnd text ls ⊎ StaysOpen (closed (section_in x) text) ls
ended-is x text ls outside is = elim (outside true) [
  | inl parts ↦ inl ([], ls, refl, is, parts)
  | inr stays ↦ inr (rw is stays)
]

in-group : (x : Bool) → is_group (section_in x) ≡ true
in-group true = refl
in-group false = refl

none-is : OutsideIs []
none-is seen = inl ([], refl, All-nil IsTexPart)

inside-is : (line : List ℕ) (ls : List (List ℕ)) → OutsideIs (line ∷ ls) → InsideIs ls → InsideIs (line ∷ ls)
inside-is line ls outside inside x text = elim (cases_Bool (is_closed text)) [
  | inl is ↦ ended-is x text (line ∷ ls) outside is
  | inr is ↦ elim (inside x line) [
    | inl (more, rest, same, closes, parts) ↦ inl (line ∷ more, rest, ap (λ l. line ∷ l) same, (is, closes), parts)
    | inr stays ↦ inr (ap (λ s. is_group (behind_all s (line ∷ ls))) (goes-on (section_in x) text is)
        ∙ ap (λ s. is_group (behind_all s ls)) (inside-line x line).1 ∙ stays)
  ]
]

parts-exist : (ls : List (List ℕ)) → OutsideIs ls × InsideIs ls
parts-exist [] = (
  none-is,
  λ x text. elim (cases_Bool (is_closed text)) [
    | inl is ↦ ended-is x text [] none-is is
    | inr is ↦ inr (ap is_group (goes-on (section_in x) text is) ∙ in-group x)
  ],
)
parts-exist (line ∷ ls) =
    let behind = parts-exist ls in
    let outside : OutsideIs (line ∷ ls) = outside-is line ls behind.0 behind.1 (after_mark patterns_mark line)
    (after_mark exceptions_mark line) refl refl in
    (outside, inside-is line ls outside behind.1)

-- ---- texts

unclosed : (section : Section) (h : Listed) → is_group section ≡ true → Ends section h → ⊥
unclosed Patterns h is end = cc
unclosed Exceptions h is end = cc
unclosed _ h is end = false≢true is

some-group : (b : Bool) (h : Listed) → Ends (outside_of b) h
    → (b ≡ true) × (count_fault (length h.patterns) (length h.exceptions) ≡ None)
some-group true h end = (refl, end)
some-group false h end = absurd (let never : ⊥ = cc in never)

read-from : (ls : List (List ℕ)) (h : Listed) → HasParts ls
    → (with_all 0 (saids_in Preamble ls) no_patterns ≡ Ok h) × Ends (behind_all Preamble ls) h → IsReadFrom ls h
read-from ls h (parts, are_parts, are) (said, end) =
    let say = parts-say false parts are in
    let counted = some-group (has_group parts) h
    (subst (λ s. Ends s h) (ap (behind_all Preamble) are_parts ∙ say.1) end) in record {
      parts = parts;
      lines = are_parts;
      each = are;
      some = counted.0;
      said = ap (λ saids. with_all 0 saids no_patterns) (sym say.0 ∙ ap (saids_in Preamble) (sym are_parts)) ∙ said;
      counted = counted.1;
    }

bare-from : (ls : List (List ℕ)) (h : Listed) → with_bare 0 Preamble ls no_patterns ≡ Ok h → IsReadFrom ls h
bare-from ls h is =
    let flat = flat-to 0 Preamble ls no_patterns h is in elim ((parts-exist ls).0 false) [
      | inl parts ↦ read-from ls h parts flat
      | inr stays ↦ absurd (unclosed (behind_all Preamble ls) h stays flat.1)
    ]

from-bare : (ls : List (List ℕ)) (h : Listed) → IsReadFrom ls h → with_bare 0 Preamble ls no_patterns ≡ Ok h
from-bare ls h r =
    let say = parts-say false r.parts r.each in flat-from 0 Preamble ls no_patterns h
    (ap (λ saids. with_all 0 saids no_patterns) (ap (saids_in Preamble) r.lines ∙ say.0) ∙ r.said)
    (subst (λ s. Ends s h) (sym (ap (behind_all Preamble) r.lines ∙ say.1 ∙ ap outside_of r.some)) r.counted)

pub sections-read : (text : List ℕ) (h : Listed) → AreTex (lines (unmarked text))
    → (parsed text ≡ Ok h) ↔ IsReadFrom (map uncommented (lines (unmarked text))) h
sections-read text h are =
    let ls = map uncommented (lines (unmarked text)) in
    let bare = bare-text (lines (unmarked text)) are in
    (λ is. bare-from ls h (sym bare ∙ is), λ r. bare ∙ from-bare ls h r)
