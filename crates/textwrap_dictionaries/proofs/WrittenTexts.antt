-- Texts that are written from patterns and exceptions, as they are read.
use Rattle.std.specs.Str.{chars, trim_end, trim_start}
use Rattle.textwrap_dictionaries.proofs.Words.{exception-hyphened, exception-is-said, exception-shown}
use Rattle.textwrap_dictionaries.proofs.Words.{exception-undigited, hyphened-some, pattern-is-said}
use Rattle.textwrap_dictionaries.proofs.Words.{pattern-is-shown, pattern-listed, pattern-some}
use Rattle.textwrap_dictionaries.proofs.WrittenLines.{AreInk, IsRead, exceptions-word, hyphened-begun, is_ink}
use Rattle.textwrap_dictionaries.proofs.WrittenLines.{level-begun, list-word, patterns-word, text-lines, word-ink}
use Rattle.textwrap_dictionaries.specs.Dictionaries.{IsException, IsPattern, exception_lines, group_lines}
use Rattle.textwrap_dictionaries.specs.Dictionaries.{hyphened, list_lines, pattern_line, pattern_lines, tex_lines}
use Rattle.textwrap_dictionaries.specs.{Dictionaries.text_of_lines, Entries.{Said, Pattern, Exception, NextGroup}}
use Rattle.textwrap_dictionaries.specs.{Laws.AreWritable, Parsing.{and_then, count_fault, line_said, no_patterns}}
use Rattle.textwrap_dictionaries.specs.Parsing.{parsed, section_after, unmarked, with_all, with_lines, with_said}
use Rattle.textwrap_dictionaries.specs.declared.entries.Section.{Section, TheVariants.{Start, Listing}}
use Rattle.textwrap_dictionaries.specs.declared.entries.Section.TheVariants.{Patterns, Exceptions, Behind}
use Rattle.textwrap_patterns.specs.Listed.{ExceptionText, Listed, PatternText, listed}
use Rattle.textwrap_text.proofs.Common.{None, Ok, ◌==◌, ◌&&◌, codes, list_all, encode_utf8_all, lines, All-map}
use Rattle.textwrap_text.proofs.Common.{All-weaker, and_parts, eqb-true, le-ltb, map-append, All, All-append}
use Rattle.textwrap_text.proofs.Common.{All-cons, All-head, All-nil, All-tail, List, [], ap, append-nil}
use Rattle.textwrap_text.proofs.Common.{append_assoc, arith, cases_Bool, false, inl, inr, length, map, refl}
use Rattle.textwrap_text.proofs.Common.{subst, suc, sym, true, ℕ, ◌+◌, ◌++◌, ◌<◌, ◌∙◌, ◌∷◌, ◌≡◌, ◌≤◌, ◌⊎◌, ◌^◌}

-- ---- one line after another

-- lines that are read one by one in a section, and what follows them
module _ {X : Type 0} (section : Section) (line : X → List ℕ) (said : X → Said) (Is : X → Type 0)
    (add : Listed → List X → Listed) (none : (h : Listed) → add h [] ≡ h)
    (one : (n : ℕ) (x : X) (h : Listed) → with_said n (said x) h ≡ Ok (add h (x ∷ [])))
    (more : (h : Listed) (x : X) (xs : List X) → add (add h (x ∷ [])) xs ≡ add h (x ∷ xs))
    (each : (x : X) → Is x → IsRead section (encode_utf8_all (line x)) (said x)) where
  all-read : (xs : List X) (rest : List (List ℕ)) (h k : Listed) → All Is xs
      → ((n : ℕ) → with_lines n section rest (add h xs) ≡ Ok k) → (n : ℕ)
      → with_lines n section (map encode_utf8_all (map line xs) ++ rest) h ≡ Ok k
  all-read [] rest h k are behind n = subst (λ l. with_lines n section rest l ≡ Ok k) (none h) (behind n)
  all-read (x ∷ xs) rest h k are behind n =
      ap (λ saids. and_then (with_all (suc n) saids h) (with_lines (suc n) (section_after section first) lines_left))
      here.0
      ∙ ap (λ s. and_then (with_all (suc n) (said x ∷ []) h) (with_lines (suc n) s lines_left)) here.1
      ∙ ap (λ o. and_then (and_then o (with_all (suc n) [])) (with_lines (suc n) section lines_left)) (one (suc n) x h)
      ∙ all-read xs rest (add h (x ∷ [])) k (All-tail Is x xs are)
      (λ m. subst (λ l. with_lines m section rest l ≡ Ok k) (sym (more h x xs)) (behind m)) (suc n)
    where
      first : List ℕ
      first = encode_utf8_all (line x)

      lines_left : List (List ℕ)
      lines_left = map encode_utf8_all (map line xs) ++ rest

      here : IsRead section first (said x)
      here = each x (All-head Is x xs are)

abbrev with_patterns : Listed → List PatternText → Listed
with_patterns h ps = record h { patterns = h.patterns ++ ps }

abbrev with_exceptions : Listed → List ExceptionText → Listed
with_exceptions h es = record h { exceptions = h.exceptions ++ es }

patterns-read : (section : Section) → ((p : PatternText) → IsPattern p
    → IsRead section (encode_utf8_all (pattern_line p.levels p.letters)) (Pattern p))
    → (ps : List PatternText) (rest : List (List ℕ)) (h k : Listed) → All IsPattern ps
    → ((n : ℕ) → with_lines n section rest (with_patterns h ps) ≡ Ok k) → (n : ℕ)
    → with_lines n section (map encode_utf8_all (pattern_lines ps) ++ rest) h ≡ Ok k
patterns-read section each = all-read section (λ p. pattern_line p.levels p.letters) Pattern IsPattern
    with_patterns (λ h. ap (λ l. record h { patterns = l }) (append-nil h.patterns)) (λ n x h. refl)
    (λ h x xs. ap (λ l. record h { patterns = l }) (append_assoc h.patterns (x ∷ []) xs)) each

exceptions-read : (section : Section) → ((e : ExceptionText) → IsException e
    → IsRead section (encode_utf8_all (hyphened 0 e.places e.letters)) (Exception e))
    → (es : List ExceptionText) (rest : List (List ℕ)) (h k : Listed) → All IsException es
    → ((n : ℕ) → with_lines n section rest (with_exceptions h es) ≡ Ok k) → (n : ℕ)
    → with_lines n section (map encode_utf8_all (exception_lines es) ++ rest) h ≡ Ok k
exceptions-read section each = all-read section (λ e. hyphened 0 e.places e.letters) Exception IsException
    with_exceptions (λ h. ap (λ l. record h { exceptions = l }) (append-nil h.exceptions)) (λ n x h. refl)
    (λ h x xs. ap (λ l. record h { exceptions = l }) (append_assoc h.exceptions (x ∷ []) xs)) each

-- ---- lines of lists

listed-pattern : (p : PatternText) → IsPattern p
    → IsRead Listing (encode_utf8_all (pattern_line p.levels p.letters)) (Pattern p)
listed-pattern p is =
    let begun = level-begun p.levels p.letters is.digits (omega (arith, is.each)) in
    subst (IsRead Listing (encode_utf8_all (pattern_line p.levels p.letters)))
    (pattern-is-said Listing p is (pattern-listed p is))
    (list-word (pattern_line p.levels p.letters) (pattern-is-shown p is) begun)

listed-exception : (e : ExceptionText) → IsException e
    → IsRead Listing (encode_utf8_all (hyphened 0 e.places e.letters)) (Exception e)
listed-exception e is =
    let begun = hyphened-begun e.places e.letters is.bare is.inner is.some in
    subst (IsRead Listing (encode_utf8_all (hyphened 0 e.places e.letters)))
    (exception-is-said Listing e is (rw (exception-hyphened e is, exception-undigited e is) refl))
    (list-word (hyphened 0 e.places e.letters) (exception-shown e is) begun)

-- ---- the end

count-none : (a b : ℕ) → a ≤ 2 ^ 24 → 0 < a + b → count_fault a b ≡ None
count-none a b few some = rw (le-ltb 16777216 a few, both (cases_Bool ((a == 0) && (b == 0)))) refl
  where
    both : (((a == 0) && (b == 0)) ≡ true) ⊎ (((a == 0) && (b == 0)) ≡ false) → ((a == 0) && (b == 0)) ≡ false
    both (inl none) = let parts = and_parts (a == 0) (b == 0) none in
        absurd (omega (arith, some, eqb-true a 0 parts.0, eqb-true b 0 parts.1))
    both (inr other) = other

-- ---- lists

behind-groups : (joints ps : List PatternText) (es : List ExceptionText) (right : ℕ) → AreWritable joints ps es
    → (n : ℕ) → with_lines n Listing (map encode_utf8_all (pattern_lines ps ++ exception_lines es))
    (record (listed [] [] 2 right) { joints = joints }) ≡ Ok (record (listed ps es 2 right) { joints = joints })
behind-groups joints ps es right are n =
    ap (λ ls. with_lines n Listing ls (record (listed [] [] 2 right) { joints = joints }))
    (map-append encode_utf8_all (pattern_lines ps) (exception_lines es))
    ∙ patterns-read Listing listed-pattern ps (map encode_utf8_all (exception_lines es))
    (record (listed [] [] 2 right) { joints = joints }) last are.are_patterns
    (λ m. subst (λ ls. with_lines m Listing ls (record (listed ps [] 2 right) { joints = joints }) ≡ Ok last)
    (append-nil (map encode_utf8_all (exception_lines es)))
    (exceptions-read Listing listed-exception es [] (record (listed ps [] 2 right) { joints = joints }) last
    are.are_exceptions (λ k. rw (count-none (length ps) (length es) are.few are.some) refl) m)) n
  where
    last : Listed
    last = record (listed ps es 2 right) { joints = joints }

-- a line that says nothing
silent : (section next : Section) (line : List ℕ) (rest : List (List ℕ)) (h : Listed) (n : ℕ)
    → line_said section line ≡ [] → section_after section line ≡ next
    → with_lines n section (line ∷ rest) h ≡ with_lines (suc n) next rest h
silent section next line rest h n none after =
    ap (λ saids. and_then (with_all (suc n) saids h) (with_lines (suc n) (section_after section line) rest)) none
    ∙ ap (λ s. with_lines (suc n) s rest h) after

next-group : IsRead Listing (encode_utf8_all (codes "NEXTLEVEL")) NextGroup
unfolding trim_start trim_end chars lib.Utf8.encode
next-group = (refl, refl)

groups-read : (joints : List PatternText) (rest : List (List ℕ)) (right : ℕ) (k : Listed) → All IsPattern joints
    → ((n : ℕ) → with_lines n Listing rest (record (listed [] [] 2 right) { joints = joints }) ≡ Ok k)
    → (n : ℕ) → with_lines n Listing (map encode_utf8_all (group_lines joints) ++ rest) (listed [] [] 2 right) ≡ Ok k
groups-read [] rest right k are behind n = behind n
groups-read (p ∷ ps) rest right k are behind n =
    ap (λ ls. with_lines n Listing ls (listed [] [] 2 right))
    (ap (λ ls. ls ++ rest) (map-append encode_utf8_all (pattern_lines (p ∷ ps)) (codes "NEXTLEVEL" ∷ []))
    ∙ append_assoc (map encode_utf8_all (pattern_lines (p ∷ ps))) (encode_utf8_all (codes "NEXTLEVEL") ∷ []) rest)
    ∙ patterns-read Listing listed-pattern (p ∷ ps) (encode_utf8_all (codes "NEXTLEVEL") ∷ rest)
    (listed [] [] 2 right) k are (λ m. ap (λ saids. and_then (with_all (suc m) saids (listed (p ∷ ps) [] 2 right))
    (with_lines (suc m) (section_after Listing (encode_utf8_all (codes "NEXTLEVEL"))) rest)) next-group.0
    ∙ ap (λ s. and_then (with_all (suc m) (NextGroup ∷ []) (listed (p ∷ ps) [] 2 right)) (with_lines (suc m) s rest))
    next-group.1 ∙ behind (suc m)) n

-- ---- texts

ink-from : (cs : List ℕ) → list_all is_ink cs ≡ true → AreInk cs
ink-from [] are = All-nil (λ c. is_ink c ≡ true)
ink-from (c ∷ cs) are = let parts = and_parts (is_ink c) (list_all is_ink cs) are in
    All-cons (λ d. is_ink d ≡ true) c cs parts.0 (ink-from cs parts.1)

patterns-ink : (ps : List PatternText) → All IsPattern ps → All AreInk (pattern_lines ps)
patterns-ink ps are = All-map AreInk (λ p. pattern_line p.levels p.letters) ps
    (All-weaker IsPattern (λ p. AreInk (pattern_line p.levels p.letters))
    (λ p is. word-ink (pattern_line p.levels p.letters) (pattern-is-shown p is)) ps are)

exceptions-ink : (es : List ExceptionText) → All IsException es → All AreInk (exception_lines es)
exceptions-ink es are = All-map AreInk (λ e. hyphened 0 e.places e.letters) es
    (All-weaker IsException (λ e. AreInk (hyphened 0 e.places e.letters))
    (λ e is. word-ink (hyphened 0 e.places e.letters) (exception-shown e is)) es are)

groups-ink : (joints : List PatternText) → All IsPattern joints → All AreInk (group_lines joints)
groups-ink [] are = All-nil AreInk
groups-ink (p ∷ ps) are = All-append AreInk (pattern_lines (p ∷ ps)) (codes "NEXTLEVEL" ∷ [])
    (patterns-ink (p ∷ ps) are)
    (All-cons AreInk (codes "NEXTLEVEL") [] (ink-from (codes "NEXTLEVEL") refl) (All-nil AreInk))

list-ink : (joints ps : List PatternText) (es : List ExceptionText) → AreWritable joints ps es
    → All AreInk (list_lines joints ps es)
list-ink joints ps es are = All-append AreInk (group_lines joints) (pattern_lines ps ++ exception_lines es)
    (groups-ink joints are.are_joints) (All-append AreInk (pattern_lines ps) (exception_lines es)
    (patterns-ink ps are.are_patterns) (exceptions-ink es are.are_exceptions))

list-read : (first : List ℕ) (right : ℕ) (joints ps : List PatternText) (es : List ExceptionText)
    → AreWritable joints ps es → AreInk first
    → unmarked (text_of_lines (first ∷ list_lines joints ps es)) ≡ text_of_lines (first ∷ list_lines joints ps es)
    → with_all 1 (line_said Start (encode_utf8_all first)) no_patterns ≡ Ok (listed [] [] 2 right)
    → section_after Start (encode_utf8_all first) ≡ Listing
    → parsed (text_of_lines (first ∷ list_lines joints ps es)) ≡ Ok (record (listed ps es 2 right) { joints = joints })
list-read first right joints ps es are ink whole said after =
    ap (λ t. with_lines 0 Start (lines t) no_patterns) whole
    ∙ ap (λ ls. with_lines 0 Start ls no_patterns)
    (text-lines (first ∷ list_lines joints ps es) (All-cons AreInk first (list_lines joints ps es) ink
    (list-ink joints ps es are)))
    ∙ ap (λ o. and_then o (with_lines 1 (section_after Start (encode_utf8_all first)) behind)) said
    ∙ ap (λ s. with_lines 1 s behind (listed [] [] 2 right)) after
    ∙ ap (λ ls. with_lines 1 Listing ls (listed [] [] 2 right))
    (map-append encode_utf8_all (group_lines joints) (pattern_lines ps ++ exception_lines es))
    ∙ groups-read joints (map encode_utf8_all (pattern_lines ps ++ exception_lines es)) right
    (record (listed ps es 2 right) { joints = joints }) are.are_joints (behind-groups joints ps es right are) 1
  where
    behind : List (List ℕ)
    behind = map encode_utf8_all (list_lines joints ps es)

pub lists-read : (joints ps : List PatternText) (es : List ExceptionText) → AreWritable joints ps es
    → parsed (text_of_lines ([] ∷ list_lines joints ps es)) ≡ Ok (record (listed ps es 2 3) { joints = joints })
unfolding trim_start trim_end chars
lists-read joints ps es are = list-read [] 3 joints ps es are (All-nil (λ c. is_ink c ≡ true)) refl refl refl

pub named-read : (joints ps : List PatternText) (es : List ExceptionText) → AreWritable joints ps es
    → parsed (text_of_lines (codes "UTF-8" ∷ list_lines joints ps es))
    ≡ Ok (record (listed ps es 2 2) { joints = joints })
unfolding trim_start trim_end chars lib.Utf8.encode
named-read joints ps es are =
    list-read (codes "UTF-8") 2 joints ps es are (ink-from (codes "UTF-8") refl) refl refl refl

-- ---- texts of TeX

tex-pattern : (p : PatternText) → IsPattern p
    → IsRead Patterns (encode_utf8_all (pattern_line p.levels p.letters)) (Pattern p)
tex-pattern p is = subst (IsRead Patterns (encode_utf8_all (pattern_line p.levels p.letters)))
    (pattern-is-said Patterns p is refl) (patterns-word (pattern_line p.levels p.letters) (pattern-is-shown p is)
    (pattern-some p.levels p.letters (omega (arith, is.each))))

tex-exception : (e : ExceptionText) → IsException e
    → IsRead Exceptions (encode_utf8_all (hyphened 0 e.places e.letters)) (Exception e)
tex-exception e is = subst (IsRead Exceptions (encode_utf8_all (hyphened 0 e.places e.letters)))
    (exception-is-said Exceptions e is refl) (exceptions-word (hyphened 0 e.places e.letters) (exception-shown e is)
    (hyphened-some (hyphened 0 e.places e.letters) (exception-hyphened e is)))

-- the commands before the groups, and what closes them
abbrev opens_patterns : List ℕ
opens_patterns = encode_utf8_all (codes "\\patterns{")

abbrev opens_exceptions : List ℕ
opens_exceptions = encode_utf8_all (codes "\\hyphenation{")

abbrev closes : List ℕ
closes = encode_utf8_all (codes "}")

patterns-opened : (line_said Start opens_patterns ≡ []) × (section_after Start opens_patterns ≡ Patterns)
unfolding trim_start trim_end chars lib.Utf8.encode
patterns-opened = (refl, refl)

patterns-closed : (line_said Patterns closes ≡ []) × (section_after Patterns closes ≡ Behind)
unfolding trim_start trim_end chars lib.Utf8.encode
patterns-closed = (refl, refl)

exceptions-opened : (line_said Behind opens_exceptions ≡ []) × (section_after Behind opens_exceptions ≡ Exceptions)
unfolding trim_start trim_end chars lib.Utf8.encode
exceptions-opened = (refl, refl)

exceptions-closed : (line_said Exceptions closes ≡ []) × (section_after Exceptions closes ≡ Behind)
unfolding trim_start trim_end chars lib.Utf8.encode
exceptions-closed = (refl, refl)

tex-exceptions : (ps : List PatternText) (es : List ExceptionText) → AreWritable [] ps es → (n : ℕ)
    → with_lines n Exceptions (map encode_utf8_all (exception_lines es ++ codes "}" ∷ [])) (listed ps [] 2 3)
    ≡ Ok (listed ps es 2 3)
tex-exceptions ps es are n =
    ap (λ ls. with_lines n Exceptions ls (listed ps [] 2 3))
    (map-append encode_utf8_all (exception_lines es) (codes "}" ∷ []))
    ∙ exceptions-read Exceptions tex-exception es (closes ∷ []) (listed ps [] 2 3) (listed ps es 2 3)
    are.are_exceptions (λ m. silent Exceptions Behind closes [] (listed ps es 2 3) m exceptions-closed.0
    exceptions-closed.1 ∙ rw (count-none (length ps) (length es) are.few are.some) refl) n

tex-patterns : (ps : List PatternText) (es : List ExceptionText) → AreWritable [] ps es → (n : ℕ)
    → with_lines n Patterns (map encode_utf8_all (pattern_lines ps ++ (codes "}" ∷ codes "\\hyphenation{"
    ∷ (exception_lines es ++ codes "}" ∷ [])))) (listed [] [] 2 3) ≡ Ok (listed ps es 2 3)
tex-patterns ps es are n =
    ap (λ ls. with_lines n Patterns ls (listed [] [] 2 3))
    (map-append encode_utf8_all (pattern_lines ps) (codes "}" ∷ codes "\\hyphenation{"
    ∷ (exception_lines es ++ codes "}" ∷ [])))
    ∙ patterns-read Patterns tex-pattern ps (closes ∷ opens_exceptions ∷ rest) (listed [] [] 2 3)
    (listed ps es 2 3) are.are_patterns (λ m. silent Patterns Behind closes (opens_exceptions ∷ rest)
    (listed ps [] 2 3) m patterns-closed.0 patterns-closed.1
    ∙ silent Behind Exceptions opens_exceptions rest (listed ps [] 2 3) (suc m) exceptions-opened.0
    exceptions-opened.1 ∙ tex-exceptions ps es are (suc (suc m))) n
  where
    rest : List (List ℕ)
    rest = map encode_utf8_all (exception_lines es ++ codes "}" ∷ [])

tex-ink : (ps : List PatternText) (es : List ExceptionText) → AreWritable [] ps es
    → All AreInk (tex_lines ps es)
tex-ink ps es are = All-cons AreInk (codes "\\patterns{") behind (ink-from (codes "\\patterns{") refl)
    (All-append AreInk (pattern_lines ps) closing (patterns-ink ps are.are_patterns)
    (All-cons AreInk (codes "}") opening (ink-from (codes "}") refl)
    (All-cons AreInk (codes "\\hyphenation{") exceptions (ink-from (codes "\\hyphenation{") refl)
    (All-append AreInk (exception_lines es) (codes "}" ∷ []) (exceptions-ink es are.are_exceptions)
    (All-cons AreInk (codes "}") [] (ink-from (codes "}") refl) (All-nil AreInk))))))
  where
    exceptions : List (List ℕ)
    exceptions = exception_lines es ++ codes "}" ∷ []

    opening : List (List ℕ)
    opening = codes "\\hyphenation{" ∷ exceptions

    closing : List (List ℕ)
    closing = codes "}" ∷ opening

    behind : List (List ℕ)
    behind = pattern_lines ps ++ closing

tex-unmarked : (ps : List PatternText) (es : List ExceptionText)
    → unmarked (text_of_lines (tex_lines ps es)) ≡ text_of_lines (tex_lines ps es)
unfolding lib.Utf8.encode
tex-unmarked ps es = refl

pub tex-read : (ps : List PatternText) (es : List ExceptionText) → AreWritable [] ps es
    → parsed (text_of_lines (tex_lines ps es)) ≡ parsed (text_of_lines ([] ∷ list_lines [] ps es))
tex-read ps es are =
    ap (λ t. with_lines 0 Start (lines t) no_patterns) (tex-unmarked ps es)
    ∙ ap (λ ls. with_lines 0 Start ls no_patterns) (text-lines (tex_lines ps es) (tex-ink ps es are))
    ∙ silent Start Patterns opens_patterns (map encode_utf8_all (pattern_lines ps ++ (codes "}"
    ∷ codes "\\hyphenation{" ∷ (exception_lines es ++ codes "}" ∷ [])))) no_patterns 0 patterns-opened.0
    patterns-opened.1
    ∙ tex-patterns ps es are 1 ∙ sym (lists-read [] ps es are)
