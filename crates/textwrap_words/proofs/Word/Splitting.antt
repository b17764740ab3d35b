-- The points at which words are split: characters end there, and those of a word are those of the
-- text that it stands in.
use Rattle.textwrap_text.proofs.Common.{encodes-chars, IsCharBoundary-after_ascii, take-append-drop}
use Rattle.textwrap_text.proofs.Common.{All-head, chars_past_char, encode_utf8_all, nil_from_length}
use Rattle.textwrap_text.proofs.Common.{append-nil, IsCharBoundary, length-take-le, take-append-add}
use Rattle.textwrap_text.proofs.Common.{append_assoc, length-append, range_with_len, reverse-append}
use Rattle.textwrap_text.proofs.Common.{chars-append, get_or-take, IsUtf8, IsUtf8-drop, IsUtf8-take}
use Rattle.textwrap_text.proofs.Common.{and_parts, cases_Bool, false≢true, length-take, length_push}
use Rattle.textwrap_text.proofs.Common.{and_right, chars-nil, drop_more, eqb-true, filter, is_blank}
use Rattle.textwrap_text.proofs.Common.{arith, drop_at, get_or, length, list_any, reverse, take_at}
use Rattle.textwrap_text.proofs.Common.{All, Bool, drop, false, List, refl, rules, take, true, zero}
use Rattle.textwrap_text.proofs.Common.{inl, inr, suc, sym, ◌&&◌, ◌++◌, ◌+◌, ◌-◌, ◌<◌, ◌==◌, ◌||◌}
use Rattle.textwrap_text.proofs.Common.{[], ap, ℕ, ◌∙◌, ◌∷◌, ◌≡◌, ◌≤◌}
use Rattle.std.{proofs.lemmas.List.Elements.filter_passes, specs.Str.chars}
use Rattle.std.proofs.lemmas.List.Folds.{list_any-append, list_any_at}
use Rattle.textwrap_words.proofs.Common.{ascii_seam, ends_in_hyphen, hyphen_points, is_hyphen_point}
use Rattle.textwrap_words.proofs.Common.{AtHyphens, before-last, IsNextPoint, last-push, points_of}
use Rattle.textwrap_words.proofs.Common.{AreCuts, AreNext, hyphen, is_point, Splitter, Whole}
use Rattle.textwrap_words.specs.WordSplitters.{begins_alphanumeric, inner_offsets, is_alphanumeric}
use Rattle.unicode.proofs.{CategoryComputing.ucd_category, DerivedComputing.ucd_derived}
use lib.Utf8.{encode}

-- ---- lemmas on the points at which words are split

-- a text that is empty, or has a last character
pub ends-none : (text : List ℕ) → length text ≡ 0
    → begins_alphanumeric (reverse (chars text)) ≡ false
ends-none text none = grind (arith, nil_from_length, chars-nil)

pub ends-some : (text rest : List ℕ) (c : ℕ) → IsUtf8 text → text ≡ rest ++ encode c
    → begins_alphanumeric (reverse (chars text)) ≡ is_alphanumeric c
ends-some text rest c utf8 e =
    let cut = before-last text rest c e in
    let front : IsUtf8 rest = grind (arith, take_at, IsUtf8-take) in
    let back : IsUtf8 (encode c) = grind (arith, drop_at, IsUtf8-drop) in
    let first = chars_past_char (encode c) [] c back (sym (append-nil (encode c))) in
    let second = chars-append rest (encode c) front in
    let third = reverse-append (chars rest) (c ∷ []) in cc chars-nil

-- ---- the points

-- a text may be cut after a hyphen
pub after-hyphen_byte : (text : List ℕ) (point : ℕ) → IsUtf8 text → 0 < point → point < length text
    → get_or text (point - 1) 0 ≡ 45 → IsCharBoundary text point
after-hyphen_byte text point utf8 start inside here = grind (arith, IsCharBoundary-after_ascii)

pub hyphen-before : (text : List ℕ) (point : ℕ) → 1 ≤ point → point ≤ length text
    → is_hyphen_point text point ≡ true → get_or text (point - 1) 0 ≡ 45
hyphen-before text point start within is = grind (arith, and_parts, length-take, get_or-take)

pub after-hyphen : (text : List ℕ) (point : ℕ) → IsUtf8 text → 1 ≤ point → point < length text
    → is_hyphen_point text point ≡ true → IsCharBoundary text point
after-hyphen text point utf8 start inside is = grind (arith, after-hyphen_byte, hyphen-before)

-- a text without hyphens has no points
any-ends : (text : List ℕ) → ends_in_hyphen text ≡ true → list_any (λ c. c == hyphen) text ≡ true
any-ends [] ends = absurd (false≢true ends)
any-ends (c ∷ cs) ends = grind (arith, list_any_at)

any-take : (n : ℕ) (text : List ℕ) → list_any (λ c. c == hyphen) (take n text) ≡ true
    → list_any (λ c. c == hyphen) text ≡ true
any-take n text any = ap (list_any (λ c. c == hyphen)) (sym (take-append-drop n text))
    ∙ list_any-append (λ c. c == hyphen) (take n text) (drop n text)
    ∙ ap (λ b. b || list_any (λ c. c == hyphen) (drop n text)) any

pub hyphen_points-none : (text : List ℕ) → list_any (λ c. c == hyphen) text ≡ false
    → hyphen_points text ≡ []
hyphen_points-none text none =
    nothing (hyphen_points text) (filter_passes (is_hyphen_point text) (inner_offsets text))
  where
    nothing : (points : List ℕ) → All (λ p. is_hyphen_point text p ≡ true) points → points ≡ []
    nothing [] all = refl
    nothing (p ∷ points) all =
        let found = All-head (λ p. is_hyphen_point text p ≡ true) p points all in
        let ends = (and_parts _ _ (and_parts _ _ found).0).0 in
        absurd (false≢true (sym none ∙ any-take p text (any-ends (take p text) ends)))

hyphen_points-next : (text : List ℕ) (n at last : ℕ) → IsUtf8 text → last ≤ at → 1 ≤ at
    → at + n ≤ 1 + (length text - 1)
    → AreNext (IsNextPoint text) (filter (is_hyphen_point text) (range_with_len at n)) last
hyphen_points-next text zero at last utf8 after start within = tt
hyphen_points-next text (suc n) at last utf8 after start within =
    let rest = λ (last : ℕ) (before : last ≤ at + 1).
    hyphen_points-next text n (at + 1) last utf8 before (omega arith) (omega (arith, within)) in
    let inside : at < length text = omega (arith, start, within) in
    elim (cases_Bool (is_hyphen_point text at)) [
      | inl is ↦ rw is ((after, inside, after-hyphen text at utf8 start inside is), rest at (omega arith))
      | inr none ↦ rw none (rest last (omega (arith, after)))
    ]

pub hyphen_points-cuts : (text : List ℕ) → IsUtf8 text → AreCuts text (hyphen_points text)
hyphen_points-cuts text utf8 = search (rules, arith, hyphen_points-next)

-- ---- tiling

pub points_of-cuts : (splitter : Splitter) (text : List ℕ) → IsUtf8 text
    → AreCuts text (points_of splitter text)
points_of-cuts Whole text utf8 = tt
points_of-cuts AtHyphens text utf8 = hyphen_points-cuts text utf8

-- ---- where a splitter has points, characters end, and none stands after a letter

pub point-hyphen : (splitter : Splitter) (text : List ℕ) (place : ℕ) → 0 < place
    → place < length text → is_point splitter text place ≡ true → get_or text (place - 1) 0 ≡ 45
point-hyphen Whole text place some inside is = absurd (false≢true is)
point-hyphen AtHyphens text place some inside is = grind (arith, hyphen-before)

-- the test holds only between characters
abbrev pub HoldsBetween : (ℕ → Bool) → List ℕ → Type 0
HoldsBetween test text = (place : ℕ) → 0 < place → place < length text → test place ≡ true
    → IsCharBoundary text place

-- ---- blanks are not alphanumeric

blank-plain : is_alphanumeric 32 ≡ false
unfolding ucd_derived ucd_category
blank-plain = refl

begins-blank : (bytes : List ℕ) → begins_alphanumeric (chars (32 ∷ bytes)) ≡ false
unfolding chars
begins-blank [] = blank-plain
begins-blank (b ∷ bytes) = blank-plain

-- nothing alphanumeric stands before what follows the text
abbrev pub EndsPlain : List ℕ → Type 0
EndsPlain text = begins_alphanumeric (reverse (chars text)) ≡ false

pub ends-blank : (front : List ℕ) → IsUtf8 (front ++ 32 ∷ []) → EndsPlain (front ++ 32 ∷ [])
unfolding encode
ends-blank front utf8 = ends-some (front ++ 32 ∷ []) front 32 utf8 refl ∙ blank-plain

-- ---- points

-- a point directly after the byte b
pub point-is : (front rest : List ℕ) (b p : ℕ) → length front + 1 ≡ p
    → is_hyphen_point (front ++ b ∷ rest) p
    ≡ ((b == 45) && begins_alphanumeric (reverse (chars front)) && begins_alphanumeric (chars rest))
point-is front rest b p len =
    let first = take-append-add front (b ∷ rest) 1 in
    let second = last-push front b in
    let third = take_at front (b ∷ rest) (p - 1) (omega (arith, len)) in
    let fourth = append_assoc front (b ∷ []) rest in
    let fifth = drop_at (front ++ b ∷ []) rest p (length_push front b ∙ len) in cc

begins-before : (front back : List ℕ) → begins_alphanumeric back ≡ false
    → begins_alphanumeric (front ++ back) ≡ begins_alphanumeric front
begins-before [] back plain = plain
begins-before (c ∷ front) back plain = refl

begins-front : (front back : List ℕ) → 0 < length front
    → begins_alphanumeric (front ++ back) ≡ begins_alphanumeric front
begins-front [] back some = absurd (omega arith)
begins-front (c ∷ front) back some = refl

chars-some : (text : List ℕ) → IsUtf8 text → 0 < length text → 0 < length (chars text)
chars-some text utf8 some = by (chars text) (encodes-chars text utf8)
  where
    by : (cs : List ℕ) → encode_utf8_all cs ≡ text → 0 < length cs
    by [] is = absurd (let none = ap length is in omega (arith, none, some))
    by (c ∷ cs) is = omega arith

both-tests : (t : Bool) (a b c d : Bool) → (t ≡ true → (a ≡ c) × (b ≡ d))
    → (t && a && b) ≡ (t && c && d)
both-tests true a b c d same = let is = same refl in cc
both-tests false a b c d same = refl

module _ (before tail : List ℕ) (utf8 : IsUtf8 before) (plain : EndsPlain before) where
  point-same : (front rest : List ℕ) (b p : ℕ) → IsUtf8 (front ++ b ∷ rest) → 0 < length rest
      → length front + 1 ≡ p
      → is_hyphen_point (before ++ ((front ++ b ∷ rest) ++ tail)) (length before + p)
      ≡ is_hyphen_point (front ++ b ∷ rest) p
  point-same front rest b p word_utf8 some len =
      let whole : before ++ ((front ++ b ∷ rest) ++ tail) ≡ (before ++ front) ++ b ∷ (rest ++ tail) =
      grind (arith, append_assoc) in
      ap (λ t. is_hyphen_point t (length before + p)) whole
      ∙ point-is (before ++ front) (rest ++ tail) b (length before + p)
      (omega (arith, length-append before front, len))
      ∙ both-tests (b == 45) _ _ _ _ (λ is.
      let byte : b ≡ 45 = eqb-true b 45 is in
      let seam = ascii_seam front rest b word_utf8 (omega (arith, byte)) in
      search (chars-append, reverse-append, begins-before, begins-front, chars-some))
      ∙ sym (point-is front rest b p len)

  -- within a word of the text
  pub points-apart : (w : List ℕ) (p : ℕ) → IsUtf8 w → 0 < p → p < length w
      → is_hyphen_point (before ++ (w ++ tail)) (length before + p) ≡ is_hyphen_point w p
  points-apart w p word_utf8 some inside =
      let m = p - 1 in
      let front = take m w in
      let rest = drop (m + 1) w in
      let shape : w ≡ front ++ get_or w m 0 ∷ rest = grind (arith, take-append-drop, drop_more) in
      grind (arith, length-take-le, length-append, point-same)

-- no point stands before a blank
pub point-blank : (text : List ℕ) (p : ℕ) → p < length text → is_blank (get_or text p 0) ≡ true
    → is_hyphen_point text p ≡ false
point-blank text p inside blank = grind (arith, drop_more, begins-blank, and_right)

-- a point stands after a hyphen
pub hyphen-before-point : (text : List ℕ) (p : ℕ) → is_hyphen_point text p ≡ true
    → ends_in_hyphen (take p text) ≡ true
hyphen-before-point text p is = (and_parts _ _ (and_parts _ _ is).0).0
