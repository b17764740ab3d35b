-- The margin of a text, the parts of a text that are indented, and indents that are put before lines
-- and taken off again.
use Rattle.textwrap.proofs.Common.{append_cancel_left, leading_whitespace, starts_with_length, Bool}
use Rattle.textwrap.proofs.Common.{IsUtf8-from_ascii, length-prefix_len, starts_with_of_eq, All-nil}
use Rattle.textwrap.proofs.Common.{starts_with_trans, take-append-drop, encode_utf8_all, All-weaker}
use Rattle.textwrap.proofs.Common.{list_all-append, indent_of_part, is_blank_line, is_whitespace, ℕ}
use Rattle.textwrap.proofs.Common.{scalars-chars, append_assoc, common_steps, either_short, IsAscii}
use Rattle.textwrap.proofs.Common.{StartsWith, append-nil, false≢true, option_map, prefix_len, List}
use Rattle.textwrap.proofs.Common.{and_parts, margin_of, nat_tests, take_more, unwrap_or, All-cons}
use Rattle.textwrap.proofs.Common.{All-head, All-tail, by-lines, flat_map, indented, take_all, None}
use Rattle.textwrap.proofs.Common.{drop_at, IsUtf8, Option, eq-eqb, get_or, length, ne_eqb, ⊎_elim}
use Rattle.textwrap.proofs.Common.{arith, chars, false, lines, rules, Some, cond, drop, fold, refl}
use Rattle.textwrap.proofs.Common.{take, true, ◌++◌, ◌==◌, All, Bor, inl, inr, map, min, sym, zip}
use Rattle.textwrap.proofs.Common.{◌+◌, ◌-◌, ◌<◌, ◌↔◌, ◌∙◌, ◌∷◌, ◌≡◌, ◌⊎◌, [], ap}
use Rattle.textwrap_text.proofs.Common.{chars-IsAscii, chars-append, All-append, and_right}
use Rattle.textwrap_text.proofs.Common.{chars-nil, drop_more, drop_all, list_all}
use Rattle.textwrap.specs.Indentation.{lines_from_first, IsMarginOfLines, margin_of_lines, AreEnded}
use Rattle.textwrap.specs.Indentation.{unindented_part, EndsInLineFeed, AreComparable, ended_parts}
use Rattle.textwrap.specs.Indentation.{AreEndedParts, HasNoLineFeed, IsMarginOf, IsMargin, narrowed}
use Rattle.std.specs.Str.{drop_trailing_whitespace, skip_leading_whitespace, trim_start, trim_end}
use Rattle.textwrap_text.proofs.Lists.Parts.{nothing-starts, longest-step, starts-cons, starts-head}
use Rattle.textwrap_text.proofs.Lists.Parts.{starts-tail, nil_after, all-left}
use Rattle.textwrap_text.proofs.Texts.{leading-skipped, trim_end-front, white-leading, white-front}
use Rattle.textwrap_text.proofs.Texts.{cut_text, skipped, IsCut}
use Rattle.std.proofs.lemmas.Slice.Zip.{get_or-zip, length-zip}
use Rattle.textwrap_text.proofs.TextLines.{ended_parts-front, ended_parts-whole, ended_parts-flat}
use Rattle.textwrap_text.proofs.Lists.Elements.{dropped-map, flat-map}
use lib.Utf8.{scalars, scalar}

-- ---- a margin and one line, and the later lines

narrowed-front : (margin line : List ℕ) → StartsWith margin (narrowed margin line)
narrowed-front [] line = refl
narrowed-front (c ∷ margin) [] = starts_with_of_eq (c ∷ margin) (c ∷ margin) refl
narrowed-front (c ∷ margin) (d ∷ line) = search (rules, starts-cons, narrowed-front margin line)

comparable-head : (c d : ℕ) (xs ys : List ℕ) → AreComparable (c ∷ xs) (d ∷ ys) → c ≡ d
comparable-head c d xs ys (inl is) = starts-head c d xs ys is
comparable-head c d xs ys (inr is) = sym (starts-head d c ys xs is)

comparable-tail : (c d : ℕ) (xs ys : List ℕ) → AreComparable (c ∷ xs) (d ∷ ys) → AreComparable xs ys
comparable-tail c d xs ys (inl is) = inl (starts-tail c d xs ys is)
comparable-tail c d xs ys (inr is) = inr (starts-tail d c ys xs is)

-- what a narrowed margin begins with is comparable with the line
narrowed-comparable : (margin line other : List ℕ) → StartsWith (narrowed margin line) other
    → AreComparable other line
narrowed-comparable margin line [] starts = inr refl
narrowed-comparable [] line (e ∷ other) starts = absurd (nothing-starts e other starts)
narrowed-comparable (c ∷ margin) [] (e ∷ other) starts = inl refl
narrowed-comparable (c ∷ margin) (d ∷ line) (e ∷ other) starts =
    search (rules, narrowed-comparable margin line other)

-- and what the margin begins with and is comparable with the line, the narrowed margin begins with
narrowed-longest : (margin line other : List ℕ) → StartsWith margin other
    → AreComparable other line → StartsWith (narrowed margin line) other
narrowed-longest margin line [] starts comparable = refl
narrowed-longest [] line (e ∷ other) starts comparable = starts
narrowed-longest (c ∷ margin) [] (e ∷ other) starts comparable = starts
narrowed-longest (c ∷ margin) (d ∷ line) (e ∷ other) starts comparable =
    longest-step c d e (narrowed margin line) other (c == d) refl
    (starts-head c e margin other starts) (comparable-head e d other line comparable)
    (narrowed-longest margin line other (starts-tail c e margin other starts)
    (comparable-tail e d other line comparable))

abbrev pub narrowed_by : List ℕ → List (List ℕ) → List ℕ
narrowed_by margin later = fold (λ m line. narrowed m (chars line)) margin later

pub by-front : (margin : List ℕ) (later : List (List ℕ))
    → StartsWith margin (narrowed_by margin later)
by-front margin [] = starts_with_of_eq margin margin refl
by-front margin (line ∷ later) =
    let next = narrowed margin (chars line) in
    starts_with_trans margin next (narrowed_by next later) (narrowed-front margin (chars line))
    (by-front next later)

pub by-comparable : (margin other : List ℕ) (later : List (List ℕ))
    → StartsWith (narrowed_by margin later) other
    → All (λ line. AreComparable other (chars line)) later
by-comparable margin other [] starts = All-nil (λ line. AreComparable other (chars line))
by-comparable margin other (line ∷ later) starts =
    let next = narrowed margin (chars line) in
    All-cons (λ l. AreComparable other (chars l)) line later
    (narrowed-comparable margin (chars line) other
    (starts_with_trans next (narrowed_by next later) other (by-front next later) starts))
    (by-comparable next other later starts)

pub by-longest : (margin other : List ℕ) (later : List (List ℕ)) → StartsWith margin other
    → All (λ line. AreComparable other (chars line)) later
    → StartsWith (narrowed_by margin later) other
by-longest margin other [] starts all = starts
by-longest margin other (line ∷ later) starts all =
    by-longest (narrowed margin (chars line)) other later
    (search (rules, narrowed-longest, All-head))
    (All-tail (λ l. AreComparable other (chars l)) line later all)

-- ---- the margin of a text

is_margin : (first : List ℕ) (later : List (List ℕ))
    → IsMargin first later (narrowed_by (leading_whitespace first) later)
is_margin first later =
    let margin = narrowed_by (leading_whitespace first) later in
    search (rules, by-front, by-comparable, starts_with_of_eq, starts_with_length, by-longest)

margin_one : (first : List ℕ) (later : List (List ℕ)) (margin : List ℕ)
    → IsMargin first later margin → margin ≡ narrowed_by (leading_whitespace first) later
margin_one first later margin is = search (rules, arith, is_margin first later, by-longest)

margins_of_lines : (ls : List (List ℕ)) (margin : List ℕ)
    → IsMarginOfLines ls margin ↔ (margin ≡ margin_of_lines ls)
margins_of_lines [] margin = (λ is. is, λ is. is)
margins_of_lines (first ∷ later) margin =
    grind (arith, common_steps, margin_one first later margin, is_margin first later)

pub margins_one : (text margin : List ℕ) → IsMarginOf text margin ↔ (margin ≡ margin_of text)
margins_one text margin = margins_of_lines (lines_from_first text) margin

-- ---- each line that is not blank begins with the margin

begins-later : (margin : List ℕ) (line : List ℕ) → list_all is_whitespace margin ≡ true
    → AreComparable margin (chars line) → is_blank_line line ≡ false
    → StartsWith (chars line) margin
begins-later margin line white (inr starts) full = starts
begins-later margin line white (inl starts) full = search (rules, false≢true, white-front)

begins-first : (line : List ℕ) (ls : List (List ℕ))
    → All (λ l. is_blank_line l ≡ false
    → StartsWith (chars l) (narrowed_by (leading_whitespace line) ls)) (line ∷ ls)
begins-first line ls =
    let start = leading_whitespace line in
    let margin = narrowed_by start ls in
    let front = by-front start ls in
    let leads : StartsWith (chars line) start = search (rules, length-prefix_len) in
    All-cons (λ l. is_blank_line l ≡ false → StartsWith (chars l) margin) line ls
    (λ full. starts_with_trans (chars line) start margin leads front)
    (All-weaker (λ l. AreComparable margin (chars l))
    (λ l. is_blank_line l ≡ false → StartsWith (chars l) margin)
    (λ l. begins-later margin l (white-front start margin (white-leading (chars line)) front)) ls
    (by-comparable start margin ls (starts_with_of_eq margin margin refl)))

from-first : (line : List ℕ) (ls : List (List ℕ)) (n : ℕ) (b : Bool) → is_blank_line line ≡ b
    → All (λ l. is_blank_line l ≡ false → StartsWith (chars l) (margin_of_lines (drop n ls))) ls
    → All (λ l. is_blank_line l ≡ false
    → StartsWith (chars l) (margin_of_lines (drop (cond b (1 + n) 0) (line ∷ ls)))) (line ∷ ls)
from-first line ls n true blank all = search (rules, All-cons, false≢true)
from-first line ls n false full all = begins-first line ls

lines-begin : (ls : List (List ℕ)) → All (λ line. is_blank_line line ≡ false
    → StartsWith (chars line) (margin_of_lines (drop (prefix_len is_blank_line ls) ls))) ls
lines-begin [] = All-nil (λ line. is_blank_line line ≡ false → StartsWith (chars line) [])
lines-begin (line ∷ ls) = search (rules, from-first, lines-begin ls)

pub lines_begin_with_margin : (text : List ℕ) → All (λ line. is_blank_line line ≡ false
    → StartsWith (chars line) (margin_of text)) (lines text)
lines_begin_with_margin text = lines-begin (lines text)

-- ---- the margin of the lines so far, if one is not blank

abbrev pub margin_after : Option (List ℕ) → List (List ℕ) → List ℕ
margin_after None ls = margin_of_lines (drop (prefix_len is_blank_line ls) ls)
margin_after (Some margin) ls = narrowed_by margin ls

pub margin_after-blank : (line : List ℕ) (ls : List (List ℕ)) → is_blank_line line ≡ true
    → margin_after None (line ∷ ls) ≡ margin_after None ls
margin_after-blank line ls blank = search rules

pub margin_after-first : (line : List ℕ) (ls : List (List ℕ)) → is_blank_line line ≡ false
    → margin_after None (line ∷ ls) ≡ margin_after (Some (leading_whitespace line)) ls
margin_after-first line ls full = cc

pub margin_after-end : (margin : Option (Bor (List ℕ))) (empty : Bor (List ℕ)) → empty.now ≡ []
    → chars (unwrap_or margin empty).now ≡ margin_after (option_map (λ m. chars m.now) margin) []
margin_after-end None empty is = ap chars is ∙ chars-nil
margin_after-end (Some margin) empty is = refl

-- ---- a text that is cut after some of its characters

pub leading-cut : (line : List ℕ) → IsUtf8 line
    → IsCut line (leading_whitespace line) (skip_leading_whitespace (chars line))
leading-cut line utf8 = search (rules, cut_text, leading-skipped)

pub leading-len : (line : List ℕ) → IsUtf8 line
    → length line - length (trim_start line) ≡ length (encode_utf8_all (leading_whitespace line))
unfolding trim_start
leading-len line utf8 = grind (arith, common_steps, leading-cut line utf8)

-- ---- a margin that is compared with a line, character by character

narrowed-ended : (margin : List ℕ) → narrowed margin [] ≡ margin
narrowed-ended [] = refl
narrowed-ended (c ∷ margin) = refl

-- the characters at place n of both
pub record AreAt (ms ls : List ℕ) (n a b : ℕ) : Type 0 where
  pub in_margin : n < length ms
  pub in_line : n < length ls
  pub ours : a ≡ get_or ms n a
  pub theirs : b ≡ get_or ls n b

pub zip_at : (ms ls : List ℕ) (n a b : ℕ) → n < length (zip ms ls)
    → (a, b) ≡ get_or (zip ms ls) n (a, b) → AreAt ms ls n a b
zip_at ms ls n a b within is = search (rules, length-zip, get_or-zip)

narrowed-more : (ms ls : List ℕ) (n a b : ℕ) → AreAt ms ls n a b
    → narrowed (drop n ms) (drop n ls)
    ≡ cond (a == b) (a ∷ narrowed (drop (n + 1) ms) (drop (n + 1) ls)) []
narrowed-more ms ls n a b here = search (rules, drop_more)

pub narrowed-stop : (ms ls : List ℕ) (n a b : ℕ) → AreAt ms ls n a b → (a ≡ b → ⊥)
    → take n ms ++ narrowed (drop n ms) (drop n ls) ≡ narrowed ms ls → take n ms ≡ narrowed ms ls
narrowed-stop ms ls n a b here other so_far =
    simp append-nil at (rw (narrowed-more ms ls n a b here, ne_eqb a b other) at so_far)

pub narrowed-step : (ms ls : List ℕ) (n a b : ℕ) → AreAt ms ls n a b → a ≡ b
    → take n ms ++ narrowed (drop n ms) (drop n ls) ≡ narrowed ms ls
    → take (n + 1) ms ++ narrowed (drop (n + 1) ms) (drop (n + 1) ls) ≡ narrowed ms ls
narrowed-step ms ls n a b here same so_far =
    search (rules, common_steps, take_more, append_assoc, narrowed-more, eq-eqb)

pub narrowed-done : (ms ls : List ℕ) (n : ℕ) → n ≡ length (zip ms ls)
    → take n ms ++ narrowed (drop n ms) (drop n ls) ≡ narrowed ms ls → ms ≡ narrowed ms ls
narrowed-done ms ls n all so_far =
    let len : n ≡ min (length ms) (length ls) = all ∙ length-zip ms ls in
    ⊎_elim (search (rules, take_all, drop_all, append-nil))
    (search (rules, drop_all, narrowed-ended, take-append-drop))
    (either_short (length ms) (length ls) n len)

-- ---- the parts of a text that is cut after each line feed: a text has them in one way

ended-more : (part : List ℕ) (parts : List (List ℕ)) → EndsInLineFeed part → AreEnded parts
    → AreEnded (part ∷ parts)
ended-more part [] ends all = inl ends
ended-more part (next ∷ parts) ends all = (ends, all)

AreEnded-ended_parts : (text : List ℕ) → AreEnded (ended_parts text)
AreEnded-ended_parts = by-lines (λ text. AreEnded (ended_parts text)) tt
    (λ part lacks some. rw (ended_parts-whole part lacks some) (inr (lacks, some)))
    (λ front rest lacks all. rw (ended_parts-front front rest lacks)
    (ended-more (front ++ 10 ∷ []) (ended_parts rest) (front, lacks, refl) all))

ended_parts-of : (parts : List (List ℕ)) → AreEnded parts
    → ended_parts (flat_map (λ part. part) parts) ≡ parts
ended_parts-of [] all = refl
ended_parts-of (part ∷ []) (inl (front, lacks, is)) =
    rw (append-nil, is) (ended_parts-front front [] lacks)
ended_parts-of (part ∷ []) (inr (lacks, some)) = search (rules, append-nil, ended_parts-whole)
ended_parts-of (part ∷ next ∷ parts) ((front, lacks, is), all) =
    search (rules, append_assoc, ended_parts-front, ended_parts-of (next ∷ parts) all)

pub ended_parts_one : (text : List ℕ) (parts : List (List ℕ))
    → AreEndedParts text parts ↔ (parts ≡ ended_parts text)
ended_parts_one text parts =
    search (rules, arith, ended_parts-of, ended_parts-flat, AreEnded-ended_parts)

-- ---- blank lines

-- a visible character of ASCII is no whitespace
pub is_blank_line-visible : (text : List ℕ) → 0 < length text → 32 < get_or text 0 0
    → get_or text 0 0 < 127 → is_blank_line text ≡ false
is_blank_line-visible [] some low high = absurd (omega arith)
is_blank_line-visible (c ∷ cs) some low high =
    let dark : is_whitespace c ≡ false = grind (arith, nat_tests, low, high) in
    let ascii : IsAscii (c ∷ []) = grind (arith, high) in
    let first : chars (c ∷ cs) ≡ c ∷ chars cs =
    chars-append (c ∷ []) cs (IsUtf8-from_ascii (c ∷ []) ascii)
    ∙ ap (λ l. l ++ chars cs) (chars-IsAscii (c ∷ []) ascii) in
    rw (first, dark) refl

pub is_blank_line-trim_start : (text : List ℕ)
    → (length (trim_start text) == 0) ≡ is_blank_line text
unfolding trim_start
is_blank_line-trim_start text = skipped (chars text)

-- ---- indents without line feed leave the cuts where they are

ends-after : (before part : List ℕ) → HasNoLineFeed before → EndsInLineFeed part
    → EndsInLineFeed (before ++ part)
ends-after before part free (front, lacks, is) =
    grind (arith, common_steps, append_assoc before front (10 ∷ []))

AreEnded-map : (indent : List ℕ → List ℕ) → ((part : List ℕ) → HasNoLineFeed (indent part))
    → (parts : List (List ℕ)) → AreEnded parts
    → AreEnded (map (λ part. indent part ++ part) parts)
AreEnded-map indent free [] all = tt
AreEnded-map indent free (part ∷ []) (inl ends) = search (rules, ends-after)
AreEnded-map indent free (part ∷ []) (inr (lacks, some)) =
    search (rules, common_steps, All-append, nil_after)
AreEnded-map indent free (part ∷ next ∷ parts) (ends, all) =
    (ends-after (indent part) part (free part) ends, AreEnded-map indent free (next ∷ parts) all)

ended_parts-map : (indent : List ℕ → List ℕ) → ((part : List ℕ) → HasNoLineFeed (indent part))
    → (text : List ℕ) → ended_parts (flat_map (λ part. indent part ++ part) (ended_parts text))
    ≡ map (λ part. indent part ++ part) (ended_parts text)
ended_parts-map indent free text =
    search (rules, flat-map, ended_parts-of, AreEnded-map, AreEnded-ended_parts)

indent-free : (prefix part : List ℕ) → IsUtf8 prefix → HasNoLineFeed prefix
    → HasNoLineFeed (indent_of_part prefix part)
indent-free prefix part utf8 free =
    let (more, is) = trim_end-front prefix utf8 in
    search (rules, common_steps, all-left)

pub ended_parts-indented : (prefix text : List ℕ) → IsUtf8 prefix → HasNoLineFeed prefix
    → ended_parts (indented prefix text)
    ≡ map (λ part. indent_of_part prefix part ++ part) (ended_parts text)
ended_parts-indented prefix text utf8 free = simp (ended_parts-map, indent-free)

-- ---- the whole prefix before each part

whole-map : (prefix : List ℕ) (parts : List (List ℕ))
    → (trim_end prefix ≡ prefix) ⊎ All (λ part. is_blank_line part ≡ false) parts
    → map (λ part. indent_of_part prefix part ++ part) parts ≡ map (λ part. prefix ++ part) parts
whole-map prefix [] whole = refl
whole-map prefix (part ∷ parts) (inl bare) = search (rules, whole-map prefix parts (inl bare))
whole-map prefix (part ∷ parts) (inr full) =
    rw (
      All-head (λ p. is_blank_line p ≡ false) part parts full,
      whole-map prefix parts (inr (All-tail (λ p. is_blank_line p ≡ false) part parts full)),
    )

pub indented-whole : (prefix text : List ℕ)
    → (trim_end prefix ≡ prefix) ⊎ All (λ part. is_blank_line part ≡ false) (ended_parts text)
    → indented prefix text ≡ flat_map (λ part. prefix ++ part) (ended_parts text)
indented-whole prefix text whole =
    search (rules, arith, flat-map, whole-map prefix (ended_parts text) whole)

pub indents-removed : (prefix text : List ℕ) → HasNoLineFeed prefix
    → (trim_end prefix ≡ prefix) ⊎ All (λ part. is_blank_line part ≡ false) (ended_parts text)
    → map (drop (length prefix)) (ended_parts (indented prefix text)) ≡ ended_parts text
indents-removed prefix text free whole = simp (indented-whole, ended_parts-map, dropped-map)

pub text-removed : (prefix text : List ℕ) → HasNoLineFeed prefix
    → (trim_end prefix ≡ prefix) ⊎ All (λ part. is_blank_line part ≡ false) (ended_parts text)
    → flat_map (drop (length prefix)) (ended_parts (indented prefix text)) ≡ text
text-removed prefix text free whole =
    search (rules, arith, flat-map, indents-removed, ended_parts-flat)

-- ---- the parts of an indented text come back when each loses what was put before it

trimmed-scalars : (cs : List ℕ) → scalars cs ≡ true → scalars (drop_trailing_whitespace cs) ≡ true
trimmed-scalars [] are = refl
trimmed-scalars (c ∷ cs) are =
    let (here, rest) = and_parts (scalar c) (scalars cs) are in
    search (rules, arith, trimmed-scalars cs rest)

trim_end-utf8 : (text : List ℕ) → IsUtf8 text → IsUtf8 (trim_end text)
unfolding trim_end
trim_end-utf8 text utf8 = search (rules, arith, trimmed-scalars, scalars-chars)

module _ (prefix : List ℕ) (utf8 : IsUtf8 prefix) where
  abbrev trimmed : List ℕ
  trimmed = trim_end prefix

  -- what the prefix has after its own text leaves a part that is not blank as it is
  not_blank : (more part : List ℕ) → prefix ≡ trimmed ++ more → is_blank_line part ≡ false
      → is_blank_line (more ++ part) ≡ false
  not_blank more part is some =
      let front = trim_end-utf8 prefix utf8 in
      let apart : chars (more ++ part) ≡ chars more ++ chars part =
      append_cancel_left (chars trimmed) (chars (more ++ part)) (chars more ++ chars part)
      (sym (chars-append trimmed (more ++ part) front)
      ∙ ap chars (sym (append_assoc trimmed more part) ∙ ap (λ l. l ++ part) (sym is))
      ∙ chars-append prefix part utf8
      ∙ ap (λ l. l ++ chars part) (ap chars is ∙ chars-append trimmed more front)
      ∙ append_assoc (chars trimmed) (chars more) (chars part)) in
      ap (list_all is_whitespace) apart
      ∙ list_all-append is_whitespace (chars more) (chars part)
      ∙ and_right (list_all is_whitespace (chars more)) (is_blank_line part) some

  part-back : (part : List ℕ)
      → unindented_part prefix (indent_of_part prefix part ++ part) ≡ part
  part-back part = by_case (is_blank_line part) refl
    where
      by_case : (b : Bool) → is_blank_line part ≡ b
          → unindented_part prefix (cond b trimmed prefix ++ part) ≡ part
      by_case true blank = rw (drop_at trimmed part (length trimmed) refl, blank) refl
      by_case false some =
          let (more, is) = trim_end-front prefix utf8 in
          let rest : drop (length trimmed) (prefix ++ part) ≡ more ++ part =
          ap (λ l. drop (length trimmed) (l ++ part)) is
          ∙ ap (drop (length trimmed)) (append_assoc trimmed more part)
          ∙ drop_at trimmed (more ++ part) (length trimmed) refl in
          ap (λ l. cond (is_blank_line l) l (drop (length prefix) (prefix ++ part))) rest
          ∙ ap (λ b. cond b (more ++ part) (drop (length prefix) (prefix ++ part)))
          (not_blank more part is some)
          ∙ drop_at prefix part (length prefix) refl

  parts-back : (parts : List (List ℕ))
      → map (unindented_part prefix) (map (λ part. indent_of_part prefix part ++ part) parts)
      ≡ parts
  parts-back [] = refl
  parts-back (part ∷ parts) = rw (part-back part, parts-back parts) refl

  pub indents-back : (text : List ℕ) → HasNoLineFeed prefix
      → (map (unindented_part prefix) (ended_parts (indented prefix text)) ≡ ended_parts text)
      × (flat_map (unindented_part prefix) (ended_parts (indented prefix text)) ≡ text)
  indents-back text free =
      let parts = ap (map (unindented_part prefix)) (ended_parts-indented prefix text utf8 free)
      ∙ parts-back (ended_parts text) in
      search (rules, arith, flat-map, ended_parts-flat)
