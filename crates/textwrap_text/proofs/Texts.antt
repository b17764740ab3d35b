-- Texts of UTF-8: where their characters end, what is left of one that is cut, and whitespace at
-- its ends.
use Rattle.textwrap_text.proofs.Common.{arith, IsCharBoundary-after_ascii, IsCharBoundary-from_drop}
use Rattle.textwrap_text.proofs.Common.{chars-IsAscii, IsCharBoundary-from_take, starts_with_length}
use Rattle.textwrap_text.proofs.Common.{encode_utf8_all, IsUtf8, IsUtf8-past_char, take-append-drop}
use Rattle.textwrap_text.proofs.Common.{append_assoc, encodes-append, encodes-chars, IsCharBoundary}
use Rattle.textwrap_text.proofs.Common.{[], encode_ascii, IsUtf8-drop, length-append, length-encode}
use Rattle.textwrap_text.proofs.Common.{add-one, all_scalars, get_or-drop, IsUtf8-take, length-drop}
use Rattle.textwrap_text.proofs.Common.{append-nil, length_push, prefix_len, StartsWith, take_while}
use Rattle.textwrap_text.proofs.Common.{All-head, and_parts, cond_both, drop-drop, false, take_more}
use Rattle.textwrap_text.proofs.Common.{add-zero, All-tail, and_from, drop_at, list_all, ltb-true}
use Rattle.textwrap_text.proofs.Common.{All, encode, get_or, length, ne_eqb, rules, scalar, take_at}
use Rattle.textwrap_text.proofs.Common.{cond, drop, List, refl, subst, take, true, zero, ◌&&◌, ◌++◌}
use Rattle.textwrap_text.proofs.Common.{ap, suc, sym, ℕ, ◌+◌, ◌-◌, ◌<◌, ◌==◌, ◌∙◌, ◌∷◌, ◌≡◌, ◌≤◌}
use Rattle.textwrap_text.proofs.Lists.Parts.{nothing-starts, starts-head, starts-tail}
use Rattle.std.proofs.lemmas.List.{get_or-append-add, get_or_at}
use Rattle.std.proofs.lemmas.Str.{IsCharBoundary-at_seam, len_utf8_bounds, scalars-chars}
use Rattle.std.specs.Char.{encode_utf8, is_whitespace}
use Rattle.std.specs.Str.{chars, drop_trailing_whitespace, skip_leading_whitespace, trim_end}

-- ---- texts of UTF-8: where characters end, and what is left of a text

pub one-text : (c : ℕ) → length (encode_utf8_all (c ∷ [])) ≡ length (encode c)
one-text c = ap length (append-nil (encode c))

-- a place after one character and others
pub past-one : (at c : ℕ) (cs : List ℕ)
    → at + length (encode_utf8_all (c ∷ cs)) ≡ (at + length (encode c)) + length (encode_utf8_all cs)
past-one at c cs = omega (arith, length-append (encode c) (encode_utf8_all cs))

-- the first byte of a character is no continuation byte
abbrev IsLead : List ℕ → Type 0
IsLead bytes = 128 ≤ get_or bytes 0 0 → 192 ≤ get_or bytes 0 0

encode-lead : (c : ℕ) → IsLead (encode c)
unfolding encode
encode-lead c = search (rules, arith, cond_both, ltb-true)

-- a text may be cut before its last character
pub before-last : (text rest : List ℕ) (c : ℕ) → text ≡ rest ++ encode c
    → IsCharBoundary text (length rest)
before-last text rest c e = (
  omega (arith, ap length e, length-append rest (encode c)),
  λ _ high.
      let at : get_or text (length rest) 0 ≡ get_or (encode c) 0 0 =
      ap (λ t. get_or t (length rest) 0) e ∙ ap (λ n. get_or (rest ++ encode c) n 0)
      (sym (add-zero (length rest))) ∙ get_or-append-add rest (encode c) 0 0 in
      subst (λ n. 192 ≤ n) (sym at) (encode-lead c (subst (λ n. 128 ≤ n) at high)),
)

pub IsCharBoundary-after_blank : (bs : List ℕ) (n : ℕ) → IsUtf8 bs → 0 < n → n ≤ length bs
    → (n < length bs → get_or bs (n - 1) 0 ≡ 32) → IsCharBoundary bs n
IsCharBoundary-after_blank bs zero utf8 some within blank = absurd (omega arith)
IsCharBoundary-after_blank bs (suc n) utf8 some within blank =
    grind (arith, add-one, IsCharBoundary-after_ascii)

-- what comes before the byte, what goes up to it, what it begins, and what comes after it
pub record AsciiSeam (before after : List ℕ) (c : ℕ) : Type 0 where
  pub front : IsUtf8 before
  pub through : IsUtf8 (before ++ c ∷ [])
  pub from : IsUtf8 (c ∷ after)
  pub back : IsUtf8 after

pub ascii_seam : (before after : List ℕ) (c : ℕ) → IsUtf8 (before ++ c ∷ after) → c < 128
    → AsciiSeam before after c
ascii_seam before after c utf8 ascii =
    let bs = before ++ c ∷ after in
    let i = length before in
    let byte : get_or bs i 0 ≡ c = get_or_at before c after 0 (length before) refl in
    let within : length before < length bs = omega (arith, length-append before (c ∷ after)) in
    let past : IsCharBoundary bs (i + 1) = IsCharBoundary-after_ascii bs i utf8 within
    (omega (arith, byte)) in
    let whole : bs ≡ (before ++ c ∷ []) ++ after = sym (append_assoc before (c ∷ []) after) in
    grind (arith, length_push, take_at, IsUtf8-take, drop_at, IsUtf8-drop)

pub after_ascii : (front rest : List ℕ) → All (λ c. c < 128) front → IsUtf8 (front ++ rest)
    → IsUtf8 rest
after_ascii [] rest ascii utf8 = utf8
after_ascii (c ∷ front) rest ascii utf8 =
    after_ascii front rest (All-tail (λ b. b < 128) c front ascii)
    (ascii_seam [] (front ++ rest) c utf8 (All-head (λ b. b < 128) c front ascii)).back

pub StartsWith-boundary : (xs p : List ℕ) → IsUtf8 xs → IsUtf8 p → StartsWith xs p
    → IsCharBoundary xs (length p)
StartsWith-boundary xs p utf8 prefix starts =
    grind (arith, IsCharBoundary-from_take, starts_with_length)

-- ---- texts that are cut after some of their characters

pub utf8-back : (xs ys : List ℕ) → IsUtf8 (encode_utf8_all (xs ++ ys)) → IsUtf8 (encode_utf8_all ys)
utf8-back [] ys u = u
utf8-back (x ∷ xs) ys u = utf8-back xs ys (IsUtf8-past_char (encode_utf8_all (x ∷ xs ++ ys))
    (encode_utf8_all (xs ++ ys)) x u refl)

pub utf8-front : (xs ys : List ℕ) → IsUtf8 (encode_utf8_all (xs ++ ys)) → IsUtf8 (encode_utf8_all xs)
utf8-front xs ys u =
    let front = encode_utf8_all xs in
    let back = encode_utf8_all ys in
    let whole = encode_utf8_all (xs ++ ys) in
    let all : whole ≡ front ++ back = encodes-append xs ys in
    let within : length front ≤ length whole =
    omega (arith, ap length all, length-append front back) in
    let rest : drop (length front) whole ≡ back = ap (drop (length front)) all
    ∙ drop_at front back (length front) refl in
    let cut = IsCharBoundary-from_drop whole (length front) within
    (subst IsUtf8 (sym rest) (utf8-back xs ys u)) in
    search (rules, arith, front, take_at, back, IsUtf8-take, whole)

scalars-parts : (cs ds : List ℕ) → all_scalars (cs ++ ds) ≡ true
    → (all_scalars cs ≡ true) × (all_scalars ds ≡ true)
scalars-parts [] ds all = (refl, all)
scalars-parts (c ∷ cs) ds all =
    let (here, rest) = and_parts (scalar c) (all_scalars (cs ++ ds)) all in
    let (front, back) = scalars-parts cs ds rest in search (rules, arith, and_from, front, back)

-- the bytes before and after the cut
pub record IsCut (text cs ds : List ℕ) : Type 0 where
  pub whole : text ≡ encode_utf8_all cs ++ encode_utf8_all ds
  pub front : take (length (encode_utf8_all cs)) text ≡ encode_utf8_all cs
  pub back : drop (length (encode_utf8_all cs)) text ≡ encode_utf8_all ds
  pub boundary : IsCharBoundary text (length (encode_utf8_all cs))

pub cut_text : (text cs ds : List ℕ) → IsUtf8 text → chars text ≡ cs ++ ds → IsCut text cs ds
cut_text text cs ds utf8 is =
    let whole : text ≡ encode_utf8_all cs ++ encode_utf8_all ds =
    sym (encodes-chars text utf8) ∙ ap encode_utf8_all is ∙ encodes-append cs ds in
    let all : all_scalars (cs ++ ds) ≡ true = ap all_scalars (sym is) ∙ scalars-chars text utf8 in
    grind (arith, scalars-parts, take_at, drop_at, IsCharBoundary-at_seam)

-- the bytes of one character more
pub encoded-more : (ms : List ℕ) (n a : ℕ) → n < length ms → a ≡ get_or ms n a
    → length (encode_utf8_all (take (n + 1) ms))
    ≡ length (encode_utf8_all (take n ms)) + length (encode_utf8 a)
encoded-more ms n a within is = ap (λ l. length (encode_utf8_all l))
    (take_more ms n a within ∙ ap (λ x. take n ms ++ x ∷ []) (sym is))
    ∙ ap length (encodes-append (take n ms) (a ∷ [])
    ∙ ap (λ l. encode_utf8_all (take n ms) ++ l) (append-nil (encode_utf8 a)))
    ∙ length-append (encode_utf8_all (take n ms)) (encode_utf8 a)

pub encoded-within : (text : List ℕ) (n : ℕ) → IsUtf8 text
    → length (encode_utf8_all (take n (chars text))) ≤ length text
encoded-within text n utf8 =
    let front = take n (chars text) in
    let back = drop n (chars text) in
    let cut = cut_text text front back utf8 (sym (take-append-drop n (chars text))) in
    omega (arith, length-append (encode_utf8_all front) (encode_utf8_all back))

-- a line that begins with a margin is cut after it
pub after-margin : (line margin : List ℕ) → IsUtf8 line → IsUtf8 margin
    → StartsWith (chars line) (chars margin)
    → IsCharBoundary line (length margin)
    × (drop (length margin) line ≡ encode_utf8_all (drop (length (chars margin)) (chars line)))
after-margin line margin utf8 margin_utf8 starts =
    let rest = drop (length (chars margin)) (chars line) in
    let cut = cut_text line (chars margin) rest utf8
    (sym (take-append-drop (length (chars margin)) (chars line)) ∙ ap (λ l. l ++ rest) starts) in
    grind (arith, encodes-chars)

-- a character has a byte
pub some-bytes : (c : ℕ) → 0 < length (encode_utf8 c)
some-bytes c = omega (arith, length-encode c, (len_utf8_bounds c).0)

-- a byte of ASCII is its character
pub one-byte : (l : List ℕ) (b : ℕ) → length l ≡ 1 → get_or l 0 0 ≡ b → b < 128 → chars l ≡ l
one-byte l b one is ascii = chars-IsAscii l (λ k. by l k one is)
  where
    by : (l : List ℕ) (k : ℕ) → length l ≡ 1 → get_or l 0 0 ≡ b → get_or l k 0 < 128
    by [] k one is = absurd (omega (arith, one))
    by (x ∷ []) zero one is = omega (arith, is, ascii)
    by (x ∷ []) (suc k) one is = omega arith
    by (x ∷ y ∷ l) k one is = absurd (omega (arith, one))

-- ---- texts without the whitespace at their beginning or end

-- a text without its leading whitespace
pub leading-skipped : (cs : List ℕ) → cs ≡ take_while is_whitespace cs ++ skip_leading_whitespace cs
leading-skipped [] = refl
leading-skipped (c ∷ cs) =
    let n = prefix_len is_whitespace cs in
    let more : 1 + n ≡ suc n = omega arith in grind (arith, leading-skipped cs)

pub skipped : (cs : List ℕ)
    → (length (encode_utf8_all (skip_leading_whitespace cs)) == 0) ≡ list_all is_whitespace cs
skipped [] = refl
skipped (c ∷ cs) = grind (arith, ne_eqb, length-append, length-encode, skipped cs)

trimmed-front : (cs : List ℕ) → (more : List ℕ) × (cs ≡ drop_trailing_whitespace cs ++ more)
trimmed-front [] = ([], refl)
trimmed-front (c ∷ cs) =
    let (more, is) = trimmed-front cs in
    let rest = drop_trailing_whitespace cs in
    elim (is_whitespace c && (length rest == 0)) as
    (λ b. (others : List ℕ) × (c ∷ cs ≡ cond b [] (c ∷ rest) ++ others)) [
      | true ↦ (c ∷ cs, refl)
      | false ↦ (more, ap (λ l. c ∷ l) is)
    ]

-- a text begins with what is left without its trailing whitespace
pub trim_end-front : (text : List ℕ) → IsUtf8 text
    → (more : List ℕ) × (text ≡ trim_end text ++ more)
unfolding trim_end
trim_end-front text utf8 =
    let (more, is) = trimmed-front (chars text) in (
      encode_utf8_all more,
      sym (encodes-chars text utf8) ∙ ap encode_utf8_all is
          ∙ encodes-append (drop_trailing_whitespace (chars text)) more,
    )

pub white-front : (xs ys : List ℕ) → list_all is_whitespace xs ≡ true → StartsWith xs ys
    → list_all is_whitespace ys ≡ true
white-front xs [] white starts = refl
white-front [] (y ∷ ys) white starts = absurd (nothing-starts y ys starts)
white-front (x ∷ xs) (y ∷ ys) white starts =
    let (here, rest) = and_parts (is_whitespace x) (list_all is_whitespace xs) white in
    and_from (is_whitespace y) (list_all is_whitespace ys)
    (ap is_whitespace (sym (starts-head x y xs ys starts)) ∙ here)
    (white-front xs ys rest (starts-tail x y xs ys starts))

pub white-leading : (cs : List ℕ) → list_all is_whitespace (take_while is_whitespace cs) ≡ true
white-leading [] = refl
white-leading (c ∷ cs) =
    let n = prefix_len is_whitespace cs in
    let more : 1 + n ≡ suc n = omega arith in
    search (rules, arith, cond_both, and_from, white-leading cs)

-- ---- a character that begins at a place of a text

module _ (text : List ℕ) (place c : ℕ) (after : List ℕ)
    (is : drop place text ≡ encode_utf8 c ++ after) where
  pub ends-within : place + length (encode_utf8 c) ≤ length text
  ends-within = omega (
    arith,
    length-drop place text,
    ap length is,
    length-append (encode_utf8 c) after,
    some-bytes c,
  )

  pub starts-within : place < length text
  starts-within = omega (arith, ends-within, some-bytes c)

  pub left-after : drop (place + length (encode_utf8 c)) text ≡ after
  left-after =
      let len = length (encode_utf8 c) in
      sym (drop-drop len place text) ∙ ap (drop len) is ∙ drop_at (encode_utf8 c) after len refl

  pub ascii-here : c < 128 → get_or text place 0 ≡ c
  ascii-here low =
      let at : place ≡ place + 0 = omega arith in search (rules, arith, get_or-drop, encode_ascii)
