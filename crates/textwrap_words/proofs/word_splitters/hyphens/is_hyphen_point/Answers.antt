use Rattle.textwrap_words.proofs.word_splitters.hyphens.is_hyphen_point.Goals as goal
use Rattle.textwrap_text.proofs.Common.{length-take, get_or-take, slice_range, reverse, get_or, length, arith}
use Rattle.textwrap_text.proofs.Common.{ap, Bool, drop, false, IsUtf8, List, None, Option, refl}
use Rattle.textwrap_text.proofs.Common.{subst, take, true, ◌-◌, ◌&&◌, ◌<◌, ◌∙◌, ◌∷◌, ◌≡◌, [], ℕ}
use Rattle.std.specs.Prelude.{chars, MatchOption, slice_get}
use Rattle.textwrap_words.proofs.Common.{IsCharBoundary-before_ascii, is_hyphen_point, ends_in_hyphen}
use Rattle.textwrap_words.specs.WordSplitters.{begins_alphanumeric, is_alphanumeric}
use Rattle.textwrap_words.proofs.Word.Splitting.{after-hyphen_byte, ends-none, ends-some}
use lib.Utf8.{encode}
use Rattle.textwrap_text.proofs.Common.{Some, sym, ◌++◌}
use Rattle.textwrap_words.proofs.word_splitters.hyphens.is_hyphen_point.Goals.{After-is_some_and}

pub range_from-requires : goal.range_from-requires
range_from-requires c = λ some.
    after-hyphen_byte c.args.word.now c.args.point c.utf8.word c.requires.after_start
    c.requires.before_end (rw c.as_bytes.ensures.value at c.if-as_bytes-point-ne45.false)

pub range-requires-clause-end_boundary : goal.range-requires-clause-end_boundary
range-requires-clause-end_boundary c =
    let here = rw c.as_bytes.ensures.value at c.if-as_bytes-point-ne45.false in
    IsCharBoundary-before_ascii c.args.word.now (c.args.point - 1) (omega arith) (omega (arith, here))

-- after a hyphen the characters around it tell
around : (text : List ℕ) (point : ℕ) → 0 < point → point < length text
    → get_or text (point - 1) 0 ≡ 45 → is_hyphen_point text point
    ≡ (begins_alphanumeric (reverse (chars (slice_range text 0 (point - 1))))
    && begins_alphanumeric (chars (drop point text)))
around text point some inside here =
    let ends : ends_in_hyphen (take point text) ≡ true = grind (arith, length-take, get_or-take) in
    let same : point - 1 - 0 ≡ point - 1 = omega arith in simp (ends, same)

-- whether there is a last character, and it is alphanumeric
last-is : (text rest : List ℕ) (same : Type 0) (found : Option ℕ) (answer : Bool)
    → IsUtf8 text → MatchOption found ((length text ≡ 0) × same) (λ ch. text ≡ rest ++ encode ch)
    → MatchOption found (answer ≡ false) (λ ch. answer ≡ is_alphanumeric ch)
    → begins_alphanumeric (reverse (chars text)) ≡ answer
last-is text rest same None answer utf8 none never = ends-none text none.0 ∙ sym never
last-is text rest same (Some ch) answer utf8 is tells = ends-some text rest ch utf8 is ∙ sym tells

-- and a first one
first-is : (characters : List ℕ) (answer : Bool) → MatchOption (slice_get characters 0)
    (answer ≡ false) (λ ch. answer ≡ is_alphanumeric ch) → begins_alphanumeric characters ≡ answer
first-is [] answer never = sym never
first-is (ch ∷ characters) answer tells = sym tells

-- a hyphen is there, and so are the answers
told : (c : After-is_some_and) → is_hyphen_point c.args.word.now c.args.point
    ≡ (c.is_some_and.result && begins_alphanumeric (chars (drop c.args.point c.args.word.now)))
told c =
    let here = rw c.as_bytes.ensures.value at c.if-as_bytes-point-ne45.false in
    let before = last-is c.chars.result.rest.now _ _ c.next_back-before.result c.is_some_and.result
    (rw c.chars.ensures.rest c.range.utf8) c.next_back-before.ensures.steps c.is_some_and.ensures in
    around c.args.word.now c.args.point (omega arith) (omega arith) here
    ∙ ap (λ b. b && begins_alphanumeric (chars (drop c.args.point c.args.word.now)))
    (rw (c.chars.ensures.rest, c.range.ensures.value) at before)

pub returns-then-is_some_and : goal.returns-then-is_some_and
returns-then-is_some_and c =
    let answer = c.is_some_and-then-is_some_and.result in
    let found = rw (c.chars-2.ensures.rest, c.range_from.ensures.value)
    at c.next-after.ensures.steps.2 in
    let after = first-is (chars (drop c.args.point c.args.word.now)) answer
    (subst (λ (f : Option ℕ). MatchOption f (answer ≡ false) (λ ch. answer ≡ is_alphanumeric ch))
    found c.is_some_and-then-is_some_and.ensures) in
    record {
      point = rw (
        told (goal.at.returns-then-is_some_and c).After-is_some_and,
        c.if-is_some_and.true,
      ) (sym after);
    }

pub returns-else-is_some_and : goal.returns-else-is_some_and
returns-else-is_some_and c = record {
  point = rw (told (goal.at.returns-else-is_some_and c).After-is_some_and, c.if-is_some_and.false)
      refl;
}
