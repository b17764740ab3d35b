-- Lines that say nothing.
use Rattle.std.specs.Str.{trim}
use Rattle.textwrap_dictionaries.specs.{Entries.{Said, NextGroup, Wrong, is_list}, Faults.{are_among, is_comment}}
use Rattle.textwrap_dictionaries.specs.{Faults.{is_silent, listed_in, marks_exceptions}, Laws.{AreListed, AreTex}}
use Rattle.textwrap_dictionaries.specs.{Laws.{uncommented, without_line}, Parsing.{Outcome, after_mark}}
use Rattle.textwrap_dictionaries.specs.Parsing.{and_then, begins_exceptions, ends_exceptions, comment_in}
use Rattle.textwrap_dictionaries.specs.Parsing.{exceptions_mark, end_fault, ended, is_minima, is_skipped, is_tex}
use Rattle.textwrap_dictionaries.specs.Parsing.{line_said, listed_said, names_minima, opened, patterns_mark}
use Rattle.textwrap_dictionaries.specs.Parsing.{parsed, section_after, tex_after, tex_said, unmarked, with_all}
use Rattle.textwrap_dictionaries.specs.{Parsing.{with_lines, no_patterns}, declared.entries.Section.Section}
use Rattle.textwrap_dictionaries.specs.declared.entries.Section.TheVariants.{Start, Listing, Words, Preamble}
use Rattle.textwrap_dictionaries.specs.declared.{entries.Section.TheVariants.Minima, errors.Fault.Fault}
use Rattle.textwrap_patterns.specs.Listed.{Listed}
use Rattle.textwrap_text.proofs.Common.{Option, None, Some, Ok, Err, ◌==◌, ◌&&◌, ◌||◌, if◌then◌else◌, is_some}
use Rattle.textwrap_text.proofs.Common.{not, lines, All, All-head, All-tail, Bool, List, ℕ, [], ap, arith, false}
use Rattle.textwrap_text.proofs.Common.{length, map, nat_tests, refl, suc, sym, true, false≢true, ◌++◌, ◌∙◌, ◌∷◌}
use Rattle.textwrap_text.proofs.Common.{◌≡◌}

-- ---- the numbers of lines

pub all-shifted : (n m : ℕ) (saids : List Said) (h : Listed) (next other : Listed → Outcome)
    → ((k : Listed) → without_line (next k) ≡ without_line (other k))
    → without_line (and_then (with_all n saids h) next) ≡ without_line (and_then (with_all m saids h) other)
all-shifted n m [] h next other same = same h
all-shifted n m (NextGroup ∷ more) h next other same =
    grind (arith, all-shifted n m more (record h { joints = h.patterns; patterns = [] }), next, other)
all-shifted n m (Wrong fault ∷ more) h next other same = refl
all-shifted n m (said ∷ more) h next other same = all-shifted n m more _ next other same

end-shifted : (n m : ℕ) (fault : Option Fault) (h : Listed)
    → without_line (ended n fault h) ≡ without_line (ended m fault h)
end-shifted n m None h = refl
end-shifted n m (Some fault) h = refl

lines-shifted : (n m : ℕ) (section : Section) (ls : List (List ℕ)) (h : Listed)
    → without_line (with_lines n section ls h) ≡ without_line (with_lines m section ls h)
lines-shifted n m section [] h = grind (arith, nat_tests, end-shifted)
lines-shifted n m section (line ∷ more) h =
    grind (arith, nat_tests, lines-shifted (suc n) (suc m) section_next more, all-shifted, section_next)
  where
    section_next : Section
    section_next = section_after section line

-- ---- lists

pub comment-skipped : (line : List ℕ) → is_silent line ≡ is_skipped line
comment-skipped [] = refl
comment-skipped (b ∷ bs) = grind arith

by-marks : (among begins ends : Bool) → (if begins then Words else if ends then Listing else listed_in among)
    ≡ listed_in (begins || (among && not ends))
by-marks among true ends = refl
by-marks true false true = refl
by-marks true false false = refl
by-marks false false true = refl
by-marks false false false = refl

-- a line of a list, and where the next is read
pub list-step : (n : ℕ) (among : Bool) (line : List ℕ) (more : List (List ℕ)) (h : Listed)
    → with_lines n (listed_in among) (line ∷ more) h
    ≡ and_then (with_all (suc n) (listed_said (listed_in among) (trim line)) h)
    (with_lines (suc n) (listed_in (are_among among (trim line))) more)
list-step n true line more h =
    grind (arith, by-marks true (begins_exceptions (trim line)) (ends_exceptions (trim line)))
list-step n false line more h =
    grind (arith, by-marks false (begins_exceptions (trim line)) (ends_exceptions (trim line)))

-- and so the first
pub first-step : (first : List ℕ) (more : List (List ℕ)) → is_tex first ≡ false
    → with_lines 0 Start (first ∷ more) no_patterns
    ≡ and_then (with_all 1 (listed_said Start (trim first)) no_patterns)
    (with_lines 1 (listed_in (are_among false (trim first))) more)
first-step first more list =
    grind (arith, by-first (begins_exceptions (trim first)) (ends_exceptions (trim first)))
  where
    by-first : (begins ends : Bool) → (if begins then Words else Listing)
        ≡ listed_in (begins || (false && not ends))
    by-first true ends = refl
    by-first false ends = refl

-- a comment ends and begins no exceptions
comment-among : (among : Bool) (line : List ℕ) → is_comment line ≡ true → are_among among line ≡ among
comment-among true [] is = refl
comment-among false [] is = refl
comment-among among (b ∷ bs) is = rw (other 0x5C refl refl, other 0x7D refl refl) (stays among)
  where
    other : (c : ℕ) → (0x25 == c) ≡ false → (0x23 == c) ≡ false → (b == c) ≡ false
    other c one two = grind (arith, nat_tests)

    stays : (x : Bool) → (x && true) ≡ x
    stays true = refl
    stays false = refl

line-skipped : (n : ℕ) (among : Bool) (before after : List (List ℕ)) (line : List ℕ) (h : Listed)
    → is_comment (trim line) ≡ true
    → without_line (with_lines n (listed_in among) (before ++ line ∷ after) h)
    ≡ without_line (with_lines n (listed_in among) (before ++ after) h)
line-skipped n among [] after line h is =
    grind (arith, nat_tests, list-step, silent, comment-among, lines-shifted)
  where
    silent : listed_said (listed_in among) (trim line) ≡ []
    silent = rw (sym (comment-skipped (trim line)) ∙ ap (λ b. b || marks_exceptions (trim line)) is) refl
line-skipped n among (first ∷ before) after line h is =
    ap without_line (list-step n among first (before ++ line ∷ after) h)
    ∙ all-shifted (suc n) (suc n) (listed_said (listed_in among) (trim first)) h
    (with_lines (suc n) next (before ++ line ∷ after)) (with_lines (suc n) next (before ++ after))
    (λ k. line-skipped (suc n) (are_among among (trim first)) before after line k is)
    ∙ ap without_line (sym (list-step n among first (before ++ after) h))
  where
    next : Section
    next = listed_in (are_among among (trim first))

pub lists-skipped : (text other first line : List ℕ) (before after : List (List ℕ))
    → is_tex first ≡ false → is_comment (trim line) ≡ true
    → lines (unmarked text) ≡ first ∷ before ++ line ∷ after
    → lines (unmarked other) ≡ first ∷ before ++ after
    → without_line (parsed text) ≡ without_line (parsed other)
lists-skipped text other first line before after list is whole less = grind (
  arith,
  first-step first (before ++ after) list,
  all-shifted 1 1 (listed_said Start (trim first)) no_patterns (with_lines 1 next (before ++ line ∷
      after)) (with_lines 1 next (before ++ after)) (λ k. line-skipped 1 (are_among false (trim first))
      before after line k is),
)
  where
    next : Section
    next = listed_in (are_among false (trim first))

-- ---- blanks

pub then-same : (o : Outcome) (next other : Listed → Outcome) → ((k : Listed) → next k ≡ other k)
    → and_then o next ≡ and_then o other
then-same (Ok k) next other same = same k
then-same (Err e) next other same = refl

abbrev is_among : Section → Bool
is_among Words = true
is_among _ = false

-- what lines of a list say without the blanks on their sides
abbrev with_trimmed : ℕ → Section → List (List ℕ) → Listed → Outcome
with_trimmed n section [] h = ended n (end_fault section (length h.patterns) (length h.exceptions)) h
with_trimmed n section (line ∷ more) h = and_then (with_all (suc n) (listed_said section line) h)
    (with_trimmed (suc n) (listed_in (are_among (is_among section) line)) more)

trimmed-lines : (n : ℕ) (among : Bool) (ls : List (List ℕ)) (h : Listed)
    → with_lines n (listed_in among) ls h ≡ with_trimmed n (listed_in among) (map trim ls) h
trimmed-lines n among [] h = refl
trimmed-lines n true (line ∷ more) h = list-step n true line more h
    ∙ then-same (with_all (suc n) (listed_said Words (trim line)) h) (with_lines (suc n) (listed_in next) more)
    (with_trimmed (suc n) (listed_in next) (map trim more)) (trimmed-lines (suc n) next more)
  where
    next : Bool
    next = are_among true (trim line)
trimmed-lines n false (line ∷ more) h = list-step n false line more h
    ∙ then-same (with_all (suc n) (listed_said Listing (trim line)) h) (with_lines (suc n) (listed_in next) more)
    (with_trimmed (suc n) (listed_in next) (map trim more)) (trimmed-lines (suc n) next more)
  where
    next : Bool
    next = are_among false (trim line)

trimmed-text : (ls : List (List ℕ)) → AreListed ls
    → with_lines 0 Start ls no_patterns ≡ with_trimmed 0 Start (map trim ls) no_patterns
trimmed-text [] are = refl
trimmed-text (first ∷ more) are = first-step first more are
    ∙ then-same (with_all 1 (listed_said Start (trim first)) no_patterns) (with_lines 1 (listed_in next) more)
    (with_trimmed 1 (listed_in next) (map trim more)) (trimmed-lines 1 next more)
  where
    next : Bool
    next = are_among false (trim first)

pub blanks-skipped : (text other : List ℕ) → AreListed (lines (unmarked text)) → AreListed (lines (unmarked other))
    → map trim (lines (unmarked text)) ≡ map trim (lines (unmarked other)) → parsed text ≡ parsed other
blanks-skipped text other list same_list same = grind (arith, nat_tests, trimmed-text, other)

-- ---- texts of TeX

-- a section of a text of TeX but for the numbers of letters
abbrev IsOfTex : Section → Type 0
IsOfTex section = (is_list section ≡ false) × (is_minima section ≡ false)

one-of : (b : Bool) (x y : Section) → IsOfTex x → IsOfTex y → IsOfTex (if b then x else y)
one-of true x y is other = is
one-of false x y is other = other

tex_after-of : (section : Section) (cs : List ℕ) → IsOfTex section → IsOfTex (tex_after section cs)
tex_after-of section cs is = grind (arith, nat_tests, one-of, now, is_now)
  where
    now : Section
    now = opened section cs

    opens_patterns : Bool
    opens_patterns = is_some (after_mark patterns_mark cs)

    opens_exceptions : Bool
    opens_exceptions = is_some (after_mark exceptions_mark cs)

    is_now : IsOfTex now
    is_now = grind (arith, nat_tests, one-of, opens_patterns, opens_exceptions)

tex-line : (section : Section) (line : List ℕ) → IsOfTex section → names_minima (comment_in line) ≡ false
    → (line_said section line ≡ tex_said section (uncommented line))
    × (section_after section line ≡ tex_after section (uncommented line))
tex-line Start line is none = absurd (false≢true (sym is.0))
tex-line Listing line is none = absurd (false≢true (sym is.0))
tex-line Words line is none = absurd (false≢true (sym is.0))
tex-line Preamble line is none = rw none (refl, refl)
tex-line Minima line is none = absurd (false≢true (sym is.1))
tex-line _ line is none = (refl, refl)

-- what lines of TeX say, by what stands before their comments
abbrev pub with_bare : ℕ → Section → List (List ℕ) → Listed → Outcome
with_bare n section [] h = ended n (end_fault section (length h.patterns) (length h.exceptions)) h
with_bare n section (line ∷ more) h =
    and_then (with_all (suc n) (tex_said section line) h) (with_bare (suc n) (tex_after section line) more)

abbrev IsBare : List ℕ → Type 0
IsBare line = names_minima (comment_in line) ≡ false

bare-lines : (n : ℕ) (section : Section) (ls : List (List ℕ)) (h : Listed) → IsOfTex section
    → All IsBare ls
    → with_lines n section ls h ≡ with_bare n section (map uncommented ls) h
bare-lines n section [] h is none = refl
bare-lines n section (line ∷ more) h is none =
    rw (here.0, here.1) (then-same (with_all (suc n) (tex_said section (uncommented line)) h)
    (with_lines (suc n) behind more) (with_bare (suc n) behind (map uncommented more))
    (λ k. bare-lines (suc n) behind more k (tex_after-of section (uncommented line) is)
    (All-tail IsBare line more none)))
  where
    here : (line_said section line ≡ tex_said section (uncommented line))
        × (section_after section line ≡ tex_after section (uncommented line))
    here = tex-line section line is (All-head IsBare line more none)

    behind : Section
    behind = tex_after section (uncommented line)

-- the first line of a text of TeX is read as one of its header
pub bare-text : (ls : List (List ℕ)) → AreTex ls
    → with_lines 0 Start ls no_patterns ≡ with_bare 0 Preamble (map uncommented ls) no_patterns
bare-text [] are = absurd are
bare-text (first ∷ more) are = rw are.0 (bare-lines 0 Preamble (first ∷ more) no_patterns (refl, refl) are.1)

pub tex-skipped : (text other : List ℕ) → AreTex (lines (unmarked text)) → AreTex (lines (unmarked other))
    → map uncommented (lines (unmarked text)) ≡ map uncommented (lines (unmarked other))
    → parsed text ≡ parsed other
tex-skipped text other tex same_tex same = grind (arith, nat_tests, bare-text, other)
