use Rattle.textwrap_marks.proofs.words.contains.Goals as goal
use Rattle.std.{proofs.lemmas.Str.Pattern.contains_text, specs.Prelude.slice_index_or}
use Rattle.textwrap_marks.proofs.Common.{length, arith, false, List, refl, true, ◌==◌, ◌||◌, sym, ◌<◌, []}
use Rattle.textwrap_marks.proofs.Common.{◌∙◌, ◌∷◌, ◌≡◌, ap, ℕ}
use Rattle.textwrap_marks.proofs.ContainedTexts.{contains-nothing, contains-lacks, contains-is}
use Rattle.textwrap_marks.specs.Words.{has_byte}
use Rattle.textwrap_text.proofs.Common.{eq-eqb}

has-first : (part : List ℕ) → 0 < length part → has_byte (slice_index_or part 0 0) part ≡ true
has-first [] some = absurd (omega (arith, some))
has-first (byte ∷ part) some = ap (λ b. b || has_byte byte part) (eq-eqb byte byte refl)

pub returns-in-empty : goal.returns-in-empty
returns-in-empty c =
    sym (contains-nothing c.args.part.now c.args.text.now
    (omega (arith, ap length c.as_bytes.ensures.value, c.in-empty.len_below)))

pub returns-then-has_byte : goal.returns-then-has_byte
returns-then-has_byte c =
    let part = c.args.part.now in
    let text = c.args.text.now in
    contains-is part text c.contains.result
    (contains_text c.contains.result part text c.contains.ensures.cases)

pub returns-else-has_byte : goal.returns-else-has_byte
returns-else-has_byte c =
    let part = c.args.part.now in
    let text = c.args.text.now in
    let lacks : has_byte (slice_index_or part 0 0) text ≡ false =
    rw (c.as_bytes.ensures.value, c.as_bytes-in-len1-up.ensures.value) at (sym c.has_byte.ensures ∙ c.if-has_byte.false) in
    c.if-has_byte.false ∙ sym (contains-lacks (λ c. c == slice_index_or part 0 0) part text
    (has-first part (omega (arith, ap length c.as_bytes.ensures.value, c.in-len1-up.len_at_least))) lacks)
