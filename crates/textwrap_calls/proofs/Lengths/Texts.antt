-- How long the lines of a text are, a text that is unfilled, and one that is dedented.
use Rattle.std.proofs.{Common.slice_index_or, lemmas.Slice.Eq.bytes_eq-Decides}
use Rattle.textwrap.proofs.Common.{common_prefix, EndedLine, joined_text, line_prefix, margin_of}
use Rattle.textwrap.proofs.Common.{without_margin, added_ending, has_text, All-head, filter}
use Rattle.textwrap.proofs.Common.{flat_map, List, StartsWith, ℕ, ◌≤◌, [], Bool, drop, false, inl}
use Rattle.textwrap.proofs.Common.{map, sym, ◌++◌, ◌+◌, ◌-◌, ◌≡◌, ap, arith, IsUtf8, join_with}
use Rattle.textwrap.proofs.Common.{take, true, ◌==◌, chars, dedented, ending_bytes-some, cond}
use Rattle.textwrap.proofs.Common.{length, length-append, refl, subst, ◌∙◌, ending_bytes, flat, inr}
use Rattle.textwrap.proofs.Common.{is_blank_line, take_all, ◌*◌, ◌∷◌, length-map, take-append-drop}
use Rattle.textwrap.proofs.Common.{blank, encode_utf8_all, ends_with, nat_eq, take_more, by-lines}
use Rattle.textwrap.proofs.Common.{ended_lines-texts, made_of, lines, starts_with_length, texts_of}
use Rattle.textwrap.proofs.{Common.ended_lines, Text.Unfilling.common_prefix-begins}
use Rattle.textwrap.{proofs.Text.Unfilling.line_prefix-begins, specs.Refilling.without_indents}
use Rattle.textwrap_calls.proofs.{Common.unfilled_parts, Lengths.Sums.{flat-each, texts-joined}}
use Rattle.textwrap_text.proofs.Common.{strip_carriage_return, ◌&&◌, cases_Bool, eqb-true}
use Rattle.textwrap_text.proofs.Common.{length-take, length-drop, slice_index, last}
use Rattle.textwrap_text.proofs.Lists.{Elements.flat-map, Parts.{last-append, last-cons}}
use Rattle.textwrap_text.proofs.TextLines.{lines-front, lines-made, lines-whole, ended_lines-front}
use Rattle.textwrap_text.proofs.TextLines.{last-free, ended_lines-whole}
use Rattle.textwrap_text.proofs.Texts.{ascii_seam, cut_text}
use Rattle.textwrap_text.specs.declared.line_ending.LineEnding.{LineEnding, TheVariants.{CRLF, LF}}

-- ---- how long the lines of a text are together

-- the bytes of lines, each with a line feed
abbrev pub ended_length : List (List ℕ) → ℕ
ended_length ls = length (flat ls) + length ls

-- 1 where the text ends in a line feed, else 0
abbrev pub final_feed : List ℕ → ℕ
final_feed text = cond (last text == 10) 1 0

strip-le : (part : List ℕ) → length (strip_carriage_return part) ≤ length part
strip-le part = grind (arith, length-take)

-- ---- one line after another

-- what the lines of a text keep to
abbrev AreWithin : List ℕ → ℕ → Type 0
AreWithin text feed = ended_length (lines text) + feed ≤ length text + 1

-- a line feed before the text is the last of both only if the text is empty
feed-before : (front text : List ℕ) → AreWithin text (final_feed text)
    → AreWithin text (final_feed (front ++ 10 ∷ text))
feed-before front [] within =
    omega (arith, ap {B = ℕ} (λ b. cond (b == 10) 1 0) (last-append front (10 ∷ []) (omega arith)))
feed-before front (d ∷ ds) within = grind (arith, last-append, last-cons)

-- together, each with a line feed, they are at most one byte longer than the text
pub lines-length : (text : List ℕ)
    → ended_length (lines text) + final_feed text ≤ length text + 1
lines-length = by-lines (λ text. AreWithin text (final_feed text)) (omega arith)
    (λ part lacks some.
    omega (
      arith,
      ap ended_length (lines-whole part lacks some),
      ap {B = ℕ} (λ b. cond b 1 0) (last-free part lacks some),
      length-append {A = ℕ},
    ))
    (λ front rest lacks within.
    omega (
      arith,
      ap ended_length (lines-front front rest lacks),
      strip-le front,
      length-append {A = ℕ},
      feed-before front rest within,
    ))

pub feed-within : (text : List ℕ) → final_feed text ≤ length text
feed-within [] = omega arith
feed-within (c ∷ cs) = grind arith

-- ---- how long the text is at most that unfilling joins

without-length : (initial subsequent : List ℕ) (ls : List (List ℕ))
    → length (join_with (blank ∷ []) (without_indents initial subsequent ls)) ≤ ended_length ls - 1
without-length initial subsequent [] = omega arith
without-length initial subsequent (x ∷ xs) =
    let later = map (drop (length subsequent)) xs in
    omega (
      arith,
      texts-joined (blank ∷ []) (drop (length initial) x) later,
      length-map xs (drop {A = ℕ} (length subsequent)),
      ap length (flat-map (drop (length subsequent)) xs),
      flat-each (drop (length subsequent)) (λ x. x) 0
          (λ x. omega (arith, length-drop (length subsequent) x)) xs,
      length-drop (length initial) x,
      length-append {A = ℕ},
    )

some-length : (es : List EndedLine)
    → ended_length (texts_of (filter has_text es)) ≤ ended_length (texts_of es)
some-length [] = omega arith
some-length (e ∷ es) =
    let rest = some-length es in
    elim (has_text e) as (λ b. ended_length (texts_of (cond b (e ∷ filter has_text es)
    (filter has_text es))) ≤ ended_length (texts_of (e ∷ es))) [
      | true ↦ omega (arith, rest, length-append {A = ℕ})
      | false ↦ omega (arith, rest, length-append {A = ℕ})
    ]

-- no longer than the lines, each with a byte after it, and shorter where there are lines
pub joined-length : (text : List ℕ)
    → length (joined_text text) ≤ ended_length (lines text) - 1
joined-length text =
    grind (arith, without-length, some-length, ap ended_length (ended_lines-texts text))

-- ---- how long an unfilled text is at most, with its ending and its indents

-- ---- its ending

last-ending : (ending : LineEnding) → last (ending_bytes ending) ≡ 10
last-ending LF = refl
last-ending CRLF = refl

-- a text that ends in an ending ends in a line feed
ends_with-feed : (text : List ℕ) (ending : LineEnding)
    → ends_with nat_eq text (ending_bytes ending) ≡ true → final_feed text ≡ 1
ends_with-feed text ending ends =
    let bytes = ending_bytes ending in
    let place = length text - length bytes in
    ap (λ l. final_feed l) (sym (take-append-drop place text)
    ∙ ap (λ l. take place text ++ l) (sym ((bytes_eq-Decides bytes (drop place text)).0 ends)))
    ∙ ap (λ b. cond (b == 10) 1 0) (last-append (take place text) bytes (ending_bytes-some ending)
    ∙ last-ending ending)

pub ending-length : (ending : LineEnding) → length (ending_bytes ending) ≤ 2
ending-length LF = omega arith
ending-length CRLF = omega arith

-- an ending is added only to a text that ends in a line feed
added-length : (text : List ℕ) (detects : Bool) (ending other : LineEnding)
    → length (added_ending (detects && ends_with nat_eq text (ending_bytes ending)) other)
    ≤ length (ending_bytes other) * final_feed text
added-length text false ending other = omega arith
added-length text true ending other = grind (arith, ends_with-feed)

-- ---- its indents

prefix-length : (line : List ℕ) → length (line_prefix line) ≤ length line
prefix-length line = starts_with_length line (line_prefix line) (line_prefix-begins line)

indents-length : (ls : List (List ℕ))
    → length (line_prefix (slice_index_or ls 0 []))
    + length (common_prefix (map line_prefix (drop 1 ls))) ≤ ended_length ls - 1
indents-length [] = omega arith
indents-length (l ∷ []) = omega (arith, prefix-length l, length-append {A = ℕ})
indents-length (l ∷ m ∷ ls) =
    let prefixes = map line_prefix ls in
    let begins = All-head (λ t. StartsWith t (common_prefix (line_prefix m ∷ prefixes)))
    (line_prefix m) prefixes (common_prefix-begins (line_prefix m ∷ prefixes)) in
    omega (
      arith,
      prefix-length l,
      prefix-length m,
      starts_with_length (line_prefix m) (common_prefix (line_prefix m ∷ prefixes)) begins,
      length-append {A = ℕ},
    )

-- ---- all of it

pub unfilled-length : (text : List ℕ) → length (unfilled_parts text) ≤ 2 * length text
unfilled-length text =
    grind (
      arith,
      ending-length,
      joined-length,
      added-length,
      indents-length,
      lines-length,
      feed-within,
      length-append,
    )

-- ---- how long a dedented text is at most

-- ---- the lines of a text of UTF-8

strip-utf8 : (part : List ℕ) → IsUtf8 part → IsUtf8 (strip_carriage_return part)
strip-utf8 [] utf8 = utf8
strip-utf8 (c ∷ cs) utf8 =
    let part = c ∷ cs in
    let n = length part - 1 in
    let whole : part ≡ take n part ++ slice_index part n ∷ [] =
    sym (take_all (n + 1) part (omega arith)) ∙ take_more part n 0 (omega arith) in
    elim (cases_Bool (slice_index part n == 13)) [
      | inl return ↦
          let shape : part ≡ take n part ++ 13 ∷ [] =
          whole ∙ ap (λ b. take n part ++ b ∷ []) (eqb-true (slice_index part n) 13 return) in
          rw return (ascii_seam (take n part) [] 13 (subst IsUtf8 shape utf8) (omega arith)).front
      | inr other ↦ rw other utf8
    ]

-- ---- a dedented text

margin-le : (margin line : List ℕ) → IsUtf8 line
    → length (without_margin margin line) ≤ length line
margin-le margin line utf8 =
    let n = length margin in
    let cut = cut_text line (take n (chars line)) (drop n (chars line)) utf8
    (sym (take-append-drop n (chars line))) in
    let front = encode_utf8_all (take n (chars line)) in
    let back = encode_utf8_all (drop n (chars line)) in
    elim (is_blank_line line) as (λ b. length (cond b [] back) ≤ length line) [
      | true ↦ omega arith
      | false ↦ omega (arith, ap length cut.whole, length-append front back)
    ]

pub dedented-length : (text : List ℕ) → IsUtf8 text → length (dedented text) ≤ length text
dedented-length text utf8 =
    let margin = margin_of text in
    let made = λ (t : List ℕ). flat_map (made_of (without_margin margin)) (ended_lines t) in
    omega (
      arith,
      ap length (lines-made (without_margin margin) text),
      by-lines (λ t. IsUtf8 t → length (made t) ≤ length t) (λ _. omega arith)
          (λ part lacks some whole.
          rw (ended_lines-whole part lacks some)
          (omega (arith, margin-le margin part whole, length-append {A = ℕ})))
          (λ front rest lacks is whole.
          let seam = ascii_seam front rest 10 whole (omega arith) in
          let line = strip-utf8 front seam.front in
          rw (ended_lines-front front rest lacks)
          (omega (
            arith,
            margin-le margin (strip_carriage_return front) line,
            strip-le front,
            is seam.back,
            length-append {A = ℕ},
          )))
          text utf8,
    )
