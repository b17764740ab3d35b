-- What is read of the text of hunks is the hunks.
use Rattle.std.proofs.lemmas.{Fmt.decimal_is_IsNumeral, List.Elements.All-get_or}
use Rattle.std.proofs.lemmas.List.{Splits.{slice_split_at, slice_split_none}, Sums.AllPass-from_list_all}
use Rattle.std.{proofs.lemmas.Str.Parse.digit_at, specs.Fmt.decimal, specs.Str.Parse.digits_value}
use Rattle.textwrap_text.proofs.Common.{◌≡◌, ◌≢◌, ◌⊎◌, ◌∙◌, ap, ap₂, refl, sym, subst, ℕ, ◌+◌, ◌-◌, ◌<◌}
use Rattle.textwrap_text.proofs.Common.{◌^◌, arith, Bool, true, false, not, zero, suc, inl, inr, cond}
use Rattle.textwrap_text.proofs.Common.{rules, ◌==◌, List, [], ◌∷◌, ◌++◌, length, take, map, get_or, All}
use Rattle.textwrap_text.proofs.Common.{append_assoc, append-nil, length-append, take_all, take_more}
use Rattle.textwrap_text.proofs.Common.{take_at, All-append, All-cons, All-from_get_or, All-head}
use Rattle.textwrap_text.proofs.Common.{All-nil, All-tail, All-weaker, ends_with, flat_map, list_all}
use Rattle.textwrap_text.proofs.Common.{slice_split, codes, nat_eq, eqb-false, ne_eqb}
use Rattle.textwrap_text.proofs.Lists.Parts.{all-left, all-right, ends_with-other, ends_with-true}
use Rattle.textwrap_text.proofs.TextLines.{by-lines, ended_parts-front, ended_parts-whole}
use Rattle.text_files.specs.Differences.{HunkText, Patches, SignedText, count_text, head_text}
use Rattle.text_files.specs.Differences.{hunk_text, line_text, missing_feed, new_end, news, old_end}
use Rattle.text_files.specs.Differences.{olds, range_text, sign_byte, signed_text, text_lines}
use Rattle.text_files.specs.Laws.{HunksAreRead}
use Rattle.text_files.specs.Reading.{ReadText, range_start, read_lines, read_text, with_line}
use Rattle.text_files.specs.declared.differences.Sign.{Sign, TheVariants.{Kept, Removed, Added}}

-- ---- lines

abbrev Free : ℕ → List ℕ → Type 0
Free c text = All (λ b. b ≢ c) text

-- a line feed stands at the end alone, if at all
abbrev pub IsLine : List ℕ → Type 0
IsLine line = Free 10 line ⊎ ((front : List ℕ) × (line ≡ front ++ 10 ∷ []) × Free 10 front)

pub text_lines-are : (text : List ℕ) → All IsLine (text_lines text)
text_lines-are = by-lines (λ text. All IsLine (text_lines text)) (All-nil IsLine)
    (λ part lacks some. subst (All IsLine) (sym (ended_parts-whole part lacks some))
    (All-cons IsLine part [] (inl lacks) (All-nil IsLine)))
    (λ front rest lacks are. subst (All IsLine) (sym (ended_parts-front front rest lacks))
    (All-cons IsLine (front ++ 10 ∷ []) (text_lines rest) (inr (front, refl, lacks)) are))

-- ---- the lines of hunks are lines of the texts

signed-line : (sign : Sign) (line : List ℕ) (lines : List SignedText)
    → All IsLine (olds (signed_text sign line ∷ lines)) → All IsLine (news (signed_text sign line ∷ lines))
    → IsLine line × All IsLine (olds lines) × All IsLine (news lines)
signed-line Kept line lines old new = (
  All-head IsLine line (olds lines) old,
  All-tail IsLine line (olds lines) old,
  All-tail IsLine line (news lines) new,
)
signed-line Removed line lines old new = search (rules, arith, All-head, All-tail)
signed-line Added line lines old new = search (rules, arith, All-head, All-tail)

abbrev AreLines : List SignedText → Type 0
AreLines lines = All (λ (s : SignedText). IsLine s.line) lines

signed-lines : (lines : List SignedText) → All IsLine (olds lines) → All IsLine (news lines)
    → AreLines lines
signed-lines [] old new = All-nil (λ (s : SignedText). IsLine s.line)
signed-lines (s ∷ lines) old new =
    let first = signed-line s.sign s.line lines old new in
    All-cons (λ (s : SignedText). IsLine s.line) s lines first.0 (signed-lines lines first.1 first.2)

-- ---- a line that is read

not-true : (b : Bool) → not b ≡ true → b ≡ false
not-true true is = absurd (cc is)
not-true false is = refl

-- a text that can be computed
free-of : (c : ℕ) (text : List ℕ) → list_all (λ b. not (b == c)) text ≡ true → Free c text
free-of c text all = grind (arith, All-weaker, eqb-false, AllPass-from_list_all)

abbrev marked : List ℕ
marked = codes "\\ No newline at end of file"

marked-free : Free 10 marked
marked-free = free-of 10 marked refl

sign-free : (sign : Sign) → sign_byte sign ≢ 10
sign-free Kept = λ is. omega (arith, is)
sign-free Removed = λ is. omega (arith, is)
sign-free Added = λ is. omega (arith, is)

no-feed : (line : List ℕ) → Free 10 line → ends_with nat_eq line (10 ∷ []) ≡ false
no-feed [] free = refl
no-feed (c ∷ cs) free =
    let n : ℕ = length cs in
    ends_with-other (c ∷ cs) (take n (c ∷ cs)) (get_or (c ∷ cs) n 0) 10
    (All-get_or (λ b. b ≢ 10) (c ∷ cs) n 0 (omega arith) free)
    (sym (take_all (n + 1) (c ∷ cs) (omega arith)) ∙ take_more (c ∷ cs) n 0 (omega arith))

with-sign : (sign : Sign) (line : List ℕ) (read : ReadText)
    → with_line (sign_byte sign ∷ line) read
    ≡ read_text false
    (signed_text sign (cond read.lacks (take (length line - 1) line) line) ∷ read.lines) read.hunks
with-sign Kept line read = search (rules, arith)
with-sign Removed line read = search (rules, arith)
with-sign Added line read = search (rules, arith)

-- what is read of a text
abbrev read : List ℕ → ReadText
read text = read_lines (text_lines text)

-- a line with its line feed is read, and one without it
read-ended : (sign : Sign) (front rest : List ℕ) → Free 10 front → (read rest).lacks ≡ false
    → read ((sign_byte sign ∷ front) ++ 10 ∷ rest)
    ≡ read_text false (signed_text sign (front ++ 10 ∷ []) ∷ (read rest).lines) (read rest).hunks
read-ended sign front rest free lacks = grind (
  arith,
  ended_parts-front (sign_byte sign ∷ front) rest (All-cons (λ b. b ≢ 10) (sign_byte sign) front
      (sign-free sign) free),
  with-sign sign (front ++ 10 ∷ []) (read rest),
)

read-marked : (rest : List ℕ)
    → read (marked ++ 10 ∷ rest) ≡ read_text true (read rest).lines (read rest).hunks
read-marked rest = ap read_lines (ended_parts-front marked rest marked-free)

read-whole : (sign : Sign) (line rest : List ℕ) → Free 10 line
    → read ((sign_byte sign ∷ line) ++ 10 ∷ (marked ++ 10 ∷ rest))
    ≡ read_text false (signed_text sign line ∷ (read rest).lines) (read rest).hunks
read-whole sign line rest free =
    let all : List ℕ = line ++ 10 ∷ [] in
    let len : length all ≡ length line + 1 = length-append line (10 ∷ []) in
    ap read_lines (ended_parts-front (sign_byte sign ∷ line) (marked ++ 10 ∷ rest)
    (All-cons (λ b. b ≢ 10) (sign_byte sign) line (sign-free sign) free))
    ∙ ap (with_line ((sign_byte sign ∷ line) ++ 10 ∷ [])) (read-marked rest)
    ∙ with-sign sign all (read_text true (read rest).lines (read rest).hunks)
    ∙ ap (λ l. read_text false (signed_text sign l ∷ (read rest).lines) (read rest).hunks)
    (take_at line (10 ∷ []) (length all - 1) (omega arith))

read-line : (s : SignedText) (rest : List ℕ) → IsLine s.line → (read rest).lacks ≡ false
    → read (line_text s ++ rest) ≡ read_text false (s ∷ (read rest).lines) (read rest).hunks
read-line s rest (inl free) lacks =
    let begun : List ℕ = sign_byte s.sign ∷ s.line in
    let feeds : missing_feed s.line ≡ 10 ∷ (marked ++ 10 ∷ []) =
    ap (λ b. cond b [] (codes "\n\\ No newline at end of file\n")) (no-feed s.line free) in
    ap (λ f. read ((sign_byte s.sign ∷ (s.line ++ f)) ++ rest)) feeds
    ∙ ap read (let whole : (begun ++ 10 ∷ (marked ++ 10 ∷ [])) ++ rest
    ≡ begun ++ 10 ∷ (marked ++ 10 ∷ rest) = append_assoc begun (10 ∷ (marked ++ 10 ∷ [])) rest in whole)
    ∙ read-whole s.sign s.line rest free
read-line s rest (inr (front, is, free)) lacks = grind (
  arith,
  ends_with-true (10 ∷ []) s.line front is,
  append-nil s.line,
  append_assoc (sign_byte s.sign ∷ front) (10 ∷ []) rest,
  read-ended s.sign front rest free lacks,
)

read-body : (lines : List SignedText) (rest : List ℕ) → AreLines lines → (read rest).lacks ≡ false
    → read (flat_map line_text lines ++ rest)
    ≡ read_text false (lines ++ (read rest).lines) (read rest).hunks
read-body [] rest are lacks = ap (λ b. read_text b (read rest).lines (read rest).hunks) lacks
read-body (s ∷ lines) rest are lacks =
    let more = read-body lines rest (All-tail (λ (s : SignedText). IsLine s.line) s lines are) lacks in
    ap read (append_assoc (line_text s) (flat_map line_text lines) rest)
    ∙ read-line s (flat_map line_text lines ++ rest)
    (All-head (λ (s : SignedText). IsLine s.line) s lines are) (ap (λ r. r.lacks) more)
    ∙ ap (λ (r : ReadText). read_text false (s ∷ r.lines) r.hunks) more

-- ---- heads

decimal-free : (c n : ℕ) → c < 48 → n < 2 ^ 64 → Free c (decimal n)
decimal-free c n small fits =
    let numeral = decimal_is_IsNumeral n fits in
    All-from_get_or (λ b. b ≢ c) (decimal n) 0 (λ i below is.
    let digit = digit_at (decimal n) i numeral.0.1 below in absurd (omega (arith, digit, is)))

value-is : (n : ℕ) → n < 2 ^ 64 → digits_value 10 (decimal n) ≡ n
value-is n fits = (decimal_is_IsNumeral n fits).1

parted : (c : ℕ) (text : List ℕ) → Free c text → All (λ b. (b == c) ≡ false) text
parted c text free = All-weaker (λ b. b ≢ c) (λ b. (b == c) ≡ false) (λ b other. ne_eqb b c other) text free

-- the number of the first line
abbrev first_of : ℕ → ℕ → ℕ
first_of start len = cond (len == 0) start (start + 1)

range-free : (c start len : ℕ) → c < 44 → start + 1 < 2 ^ 64 → len < 2 ^ 64
    → Free c (range_text start len)
range-free c start len small starts fits =
    All-append (λ b. b ≢ c) (decimal (first_of start len)) (count_text len)
    (decimal-free c (first_of start len) (omega arith) (first-fits (len == 0)))
    (count-free (len == 1))
  where
    first-fits : (none : Bool) → cond none start (start + 1) < 2 ^ 64
    first-fits true = omega (arith, starts)
    first-fits false = starts

    count-free : (one : Bool) → Free c (cond one [] (44 ∷ decimal len))
    count-free true = All-nil (λ b. b ≢ c)
    count-free false =
        All-cons (λ b. b ≢ c) 44 (decimal len) (λ is. absurd (omega (arith, small, is)))
        (decimal-free c len (omega arith) fits)

-- its numbers are read
range-more : (start len : ℕ) → 1 < len → start + 1 < 2 ^ 64 → len < 2 ^ 64
    → range_start (range_text start len) ≡ start
range-more start len more starts fits =
    let none : (len == 0) ≡ false = ne_eqb len 0 (λ is. omega (arith, is, more)) in
    let one : (len == 1) ≡ false = ne_eqb len 1 (λ is. omega (arith, is, more)) in
    ap₂ (λ n o. range_start (decimal (cond n start (start + 1)) ++ cond o [] (44 ∷ decimal len))) none one
    ∙ ap (λ numbers. cond (get_or numbers 1 1 == 0) (get_or numbers 0 0) (get_or numbers 0 0 - 1))
    (ap (map (digits_value 10)) (slice_split_at (λ c. c == 44) (decimal (start + 1)) 44 (decimal len)
    (parted 44 (decimal (start + 1)) (decimal-free 44 (start + 1) (omega arith) starts)) refl
    ∙ ap (λ ls. decimal (start + 1) ∷ ls) (slice_split_none (λ c. c == 44) (decimal len)
    (parted 44 (decimal len) (decimal-free 44 len (omega arith) fits))))
    ∙ ap₂ (λ n m. n ∷ m ∷ []) (value-is (start + 1) starts) (value-is len fits))
    ∙ ap (λ b. cond b (start + 1) (start + 1 - 1)) none ∙ omega arith

range-read : (start len : ℕ) → start + 1 < 2 ^ 64 → len < 2 ^ 64
    → range_start (range_text start len) ≡ start
range-read start zero starts fits =
    ap (λ numbers. cond (get_or numbers 1 1 == 0) (get_or numbers 0 0) (get_or numbers 0 0 - 1))
    (ap (map (digits_value 10)) (slice_split_at (λ c. c == 44) (decimal start) 44 (decimal 0)
    (parted 44 (decimal start) (decimal-free 44 start (omega arith) (omega arith))) refl
    ∙ ap (λ ls. decimal start ∷ ls) (slice_split_none (λ c. c == 44) (decimal 0)
    (parted 44 (decimal 0) (decimal-free 44 0 (omega arith) (omega arith)))))
    ∙ ap₂ (λ n m. n ∷ m ∷ []) (value-is start (omega arith)) (value-is 0 (omega arith)))
range-read start (suc zero) starts fits =
    ap (λ numbers. cond (get_or numbers 1 1 == 0) (get_or numbers 0 0) (get_or numbers 0 0 - 1))
    (ap (λ t. map (digits_value 10) (slice_split (λ c. c == 44) t)) (append-nil (decimal (start + 1)))
    ∙ ap (map (digits_value 10)) (slice_split_none (λ c. c == 44) (decimal (start + 1))
    (parted 44 (decimal (start + 1)) (decimal-free 44 (start + 1) (omega arith) starts)))
    ∙ ap (λ n. n ∷ []) (value-is (start + 1) starts))
    ∙ omega arith
range-read start (suc (suc len)) starts fits = grind (arith, range-more)

head-words : (old new : List ℕ) → Free 32 old → Free 32 new
    → slice_split (λ c. c == 32) (head_text old new)
    ≡ codes "@@" ∷ (45 ∷ old) ∷ (43 ∷ new) ∷ codes "@@\n" ∷ []
head-words old new old_free new_free = grind (arith, slice_split_at, All-cons)

head-line : (old new rest : List ℕ) → Free 10 old → Free 10 new
    → text_lines (head_text old new ++ rest) ≡ head_text old new ∷ text_lines rest
head-line old new rest old_free new_free =
    let front : List ℕ = codes "@@ -" ++ (old ++ (codes " +" ++ (new ++ codes " @@"))) in
    let whole : (t : List ℕ) → head_text old new ++ t ≡ front ++ 10 ∷ t = λ t. simp append_assoc in
    let one : head_text old new ≡ front ++ 10 ∷ [] = sym (append-nil (head_text old new)) ∙ whole [] in
    let free : Free 10 front =
    All-append (λ b. b ≢ 10) (codes "@@ -") (old ++ (codes " +" ++ (new ++ codes " @@")))
    (free-of 10 (codes "@@ -") refl)
    (All-append (λ b. b ≢ 10) old (codes " +" ++ (new ++ codes " @@")) old_free
    (All-append (λ b. b ≢ 10) (codes " +") (new ++ codes " @@") (free-of 10 (codes " +") refl)
    (All-append (λ b. b ≢ 10) new (codes " @@") new_free (free-of 10 (codes " @@") refl)))) in
    ap text_lines (whole rest) ∙ ended_parts-front front rest free
    ∙ ap (λ l. l ∷ text_lines rest) (sym one)

read-head : (old new rest : List ℕ) → Free 10 old → Free 10 new → Free 32 old → Free 32 new
    → read (head_text old new ++ rest) ≡ read_text false [] (record {
      old_start = range_start old;
      new_start = range_start new;
      lines = (read rest).lines;
    } ∷ (read rest).hunks)
read-head old new rest old_feedless new_feedless old_free new_free = grind (arith, head-line, head-words)

-- ---- hunks

read-hunk : (hunk : HunkText) (rest : List ℕ) → hunk.old_start + 1 < 2 ^ 64
    → length (olds hunk.lines) < 2 ^ 64 → hunk.new_start + 1 < 2 ^ 64
    → length (news hunk.lines) < 2 ^ 64 → AreLines hunk.lines → (hunks : List HunkText)
    → read rest ≡ read_text false [] hunks
    → read (hunk_text hunk ++ rest) ≡ read_text false [] (hunk ∷ hunks)
read-hunk hunk rest old_start old_len new_start new_len are hunks is =
    let old : List ℕ = range_text hunk.old_start (length (olds hunk.lines)) in
    let new : List ℕ = range_text hunk.new_start (length (news hunk.lines)) in
    let body : List ℕ = flat_map line_text hunk.lines in
    let bodies : read (body ++ rest) ≡ read_text false hunk.lines hunks =
    read-body hunk.lines rest are (ap (λ r. r.lacks) is)
    ∙ ap (λ (r : ReadText). read_text false (hunk.lines ++ r.lines) r.hunks) is
    ∙ ap (λ ls. read_text false ls hunks) (append-nil hunk.lines) in
    ap read (append_assoc (head_text old new) body rest)
    ∙ read-head old new (body ++ rest)
    (range-free 10 hunk.old_start (length (olds hunk.lines)) (omega arith) old_start old_len)
    (range-free 10 hunk.new_start (length (news hunk.lines)) (omega arith) new_start new_len)
    (range-free 32 hunk.old_start (length (olds hunk.lines)) (omega arith) old_start old_len)
    (range-free 32 hunk.new_start (length (news hunk.lines)) (omega arith) new_start new_len)
    ∙ ap (λ (r : ReadText). read_text false [] (record {
      old_start = range_start old;
      new_start = range_start new;
      lines = r.lines;
    } ∷ r.hunks)) bodies
    ∙ ap₂ (λ o n. read_text false [] (record { old_start = o; new_start = n; lines = hunk.lines } ∷ hunks))
    (range-read hunk.old_start (length (olds hunk.lines)) old_start old_len)
    (range-read hunk.new_start (length (news hunk.lines)) new_start new_len)

-- all lines of a part are lines
mid-lines : (front mid back : List (List ℕ)) (all : List (List ℕ)) → all ≡ front ++ (mid ++ back)
    → All IsLine all → All IsLine mid × All IsLine back
mid-lines front mid back all is are =
    let behind = all-right IsLine front (mid ++ back) (subst (All IsLine) is are) in
    (all-left IsLine mid back behind, all-right IsLine mid back behind)

read-hunks : (hunks : List HunkText) (old_at new_at : ℕ) (old new : List (List ℕ))
    → old_at + length old < 2 ^ 64 - 1 → new_at + length new < 2 ^ 64 - 1
    → All IsLine old → All IsLine new → Patches old_at new_at old new hunks
    → read (flat_map hunk_text hunks) ≡ read_text false [] hunks
read-hunks [] old_at new_at old new old_few new_few old_are new_are same = refl
read-hunks (hunk ∷ hunks) old_at new_at old new old_few new_few old_are new_are
    (kept, old_left, new_left, is_old, is_new, old_start, new_start, rest) =
    let old_parts = mid-lines kept (olds hunk.lines) old_left old is_old old_are in
    let new_parts = mid-lines kept (news hunk.lines) new_left new is_new new_are in
    let old_len : length old ≡ length kept + (length (olds hunk.lines) + length old_left) =
    ap length is_old ∙ length-append kept (olds hunk.lines ++ old_left)
    ∙ ap (λ n. length kept + n) (length-append (olds hunk.lines) old_left) in
    let new_len : length new ≡ length kept + (length (news hunk.lines) + length new_left) =
    ap length is_new ∙ length-append kept (news hunk.lines ++ new_left)
    ∙ ap (λ n. length kept + n) (length-append (news hunk.lines) new_left) in
    read-hunk hunk (flat_map hunk_text hunks) (omega arith) (omega arith) (omega arith) (omega arith)
    (signed-lines hunk.lines old_parts.0 new_parts.0) hunks
    (read-hunks hunks (old_end hunk) (new_end hunk) old_left new_left (omega arith) (omega arith)
    old_parts.1 new_parts.1 rest)

pub are-read : HunksAreRead
are-read old new hunks old_few new_few is =
    ap (λ (r : ReadText). r.hunks) (read-hunks hunks 0 0 (text_lines old) (text_lines new)
    (omega arith) (omega arith) (text_lines-are old) (text_lines-are new) is.patches)
