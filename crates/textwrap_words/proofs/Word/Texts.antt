-- The blanks at the end of a text, and where it ends without them.
use Rattle.textwrap_text.proofs.Common.{without_final_blanks, take-append-add, IsCharBoundary, List}
use Rattle.textwrap_text.proofs.Common.{final_blanks, IsUtf8-take, get_or-drop, length-drop, IsUtf8}
use Rattle.textwrap_text.proofs.Common.{trimmed_len, false≢true, suffix_len, cases_lt, eqb-true, []}
use Rattle.textwrap_text.proofs.Common.{is_blank, get_or, length, arith, false, subst, drop, refl}
use Rattle.textwrap_text.proofs.Common.{true, zero, ◌++◌, All, inl, inr, suc, sym, ◌+◌, ◌-◌, ◌<◌, ℕ}
use Rattle.textwrap_text.proofs.Common.{◌∙◌, ◌∷◌, ◌≡◌, ◌≤◌, ap}
use Rattle.textwrap_words.proofs.Common.{IsCharBoundary-before_ascii, IsCharBoundary-end, word_of}
use Rattle.textwrap_words.proofs.Common.{get_or-reverse, length-reverse, piece}
use Rattle.std.proofs.lemmas.List.Sums.{prefix_len_passes, prefix_len_stops, suffix_len_is}

-- ---- the blanks at the end of a text

abbrev pub AreBlanks : List ℕ → Type 0
AreBlanks bytes = All (λ c. is_blank c ≡ true) bytes

pub trimmed-blank : (bytes : List ℕ) (k d : ℕ) → trimmed_len bytes ≤ k → k < length bytes
    → is_blank (get_or bytes k d) ≡ true
trimmed-blank bytes k d from within =
    let back : length bytes - 1 - (length bytes - 1 - k) ≡ k = omega arith in
    grind (arith, prefix_len_passes, get_or-reverse)

-- and the byte before them is no blank
pub trimmed-other : (bytes : List ℕ) → 0 < trimmed_len bytes
    → is_blank (get_or bytes (trimmed_len bytes - 1) 0) ≡ false
trimmed-other bytes some =
    let j = suffix_len is_blank bytes in
    let len = length-reverse bytes in
    let back : length bytes - 1 - j ≡ trimmed_len bytes - 1 = omega arith in
    grind (arith, prefix_len_stops, get_or-reverse)

-- they begin after each byte that is no blank
pub trimmed-past : (bytes : List ℕ) (i : ℕ) → i < length bytes → is_blank (get_or bytes i 0) ≡ false
    → i < trimmed_len bytes
trimmed-past bytes i within other = grind (arith, cases_lt, false≢true, trimmed-blank)

-- a byte in front of a text that is not all blanks changes nothing at its end
pub final_blanks-more : (c : ℕ) (bytes : List ℕ) → 0 < trimmed_len bytes
    → (trimmed_len (c ∷ bytes) ≡ suc (trimmed_len bytes))
    × (final_blanks (c ∷ bytes) ≡ final_blanks bytes)
final_blanks-more c bytes some =
    let n = suc (trimmed_len bytes) in
    let place : suc (trimmed_len bytes) - 1 ≡ suc (trimmed_len bytes - 1) = omega (arith, some) in
    let s = suffix_len_is is_blank (c ∷ bytes) n 0 (omega arith) after
    (λ more. ap (λ k. is_blank (get_or (c ∷ bytes) k 0)) place ∙ trimmed-other bytes some) in
    let len : trimmed_len (c ∷ bytes) ≡ n = omega (arith, s) in
    (len, ap (λ m. drop m (c ∷ bytes)) len)
  where
    after : (k : ℕ) → suc (trimmed_len bytes) ≤ k → k < length (c ∷ bytes)
        → is_blank (get_or (c ∷ bytes) k 0) ≡ true
    after zero from within = absurd (omega arith)
    after (suc k) from within = trimmed-blank bytes k 0 (omega arith) (omega arith)

pub final_blanks-blank : (bytes : List ℕ) → AreBlanks (final_blanks bytes)
final_blanks-blank bytes = grind (arith, get_or-drop, trimmed-blank, length-drop)

pub trimmed-boundary : (bytes : List ℕ) → IsCharBoundary bytes (trimmed_len bytes)
trimmed-boundary bytes =
    let n = trimmed_len bytes in
    elim (cases_lt n (length bytes)) [
      | inl less ↦
          let blank : get_or bytes n 0 ≡ 32 =
          eqb-true (get_or bytes n 0) 32 (trimmed-blank bytes n 0 (omega arith) less) in
          IsCharBoundary-before_ascii bytes n less (omega arith)
      | inr past ↦ let whole : length bytes ≡ n = omega arith in
          subst (IsCharBoundary bytes) whole (IsCharBoundary-end bytes)
    ]

pub without_final_blanks-utf8 : (bytes : List ℕ) → IsUtf8 bytes
    → IsUtf8 (without_final_blanks bytes)
without_final_blanks-utf8 bytes utf8 = grind (arith, IsUtf8-take, trimmed-boundary)

-- ---- where a text without its final blanks ends

-- bytes in front of a text that is not all blanks
pub trimmed-front : (front rest : List ℕ) → 0 < trimmed_len rest
    → (trimmed_len (front ++ rest) ≡ length front + trimmed_len rest)
    × (final_blanks (front ++ rest) ≡ final_blanks rest)
trimmed-front [] rest some = (omega arith, refl)
trimmed-front (c ∷ front) rest some =
    grind (arith, final_blanks-more, trimmed-front front rest some)

-- where blanks alone stand from a place on, the text without its final blanks ends before
pub trimmed-le : (bytes : List ℕ) (n : ℕ)
    → ((k : ℕ) → n ≤ k → k < length bytes → is_blank (get_or bytes k 0) ≡ true)
    → trimmed_len bytes ≤ n
trimmed-le bytes n blanks = elim (cases_lt n (trimmed_len bytes)) [
  | inr le ↦ le
  | inl past ↦
      absurd (false≢true (sym (trimmed-other bytes (omega (arith, past)))
      ∙ blanks (trimmed_len bytes - 1) (omega (arith, past)) (omega (arith, past))))
]

-- the last byte of a word that is no blank, and the blanks after it
pub word_of-seam : (x bl : List ℕ) (b : ℕ) → is_blank b ≡ false → AreBlanks bl
    → word_of (x ++ b ∷ bl) ≡ piece (x ++ b ∷ []) bl []
word_of-seam x bl b other blanks =
    let back = b ∷ bl in
    let past = trimmed-past back 0 (omega arith) other in
    let at_most = trimmed-le back 1 (after bl blanks) in
    grind (arith, trimmed-front, take-append-add)
  where
    after : (bs : List ℕ) → AreBlanks bs → (k : ℕ) → 1 ≤ k → k < length (b ∷ bs)
        → is_blank (get_or (b ∷ bs) k 0) ≡ true
    after bs all zero from within = absurd (omega (arith, from))
    after bs all (suc k) from within = all k 0 (omega (arith, within))
