-- The reader of characters: its states, what it shows, the columns of that, and how far it has
-- come.
use Rattle.unicode_width.specs.declared.kind.Kind.TheVariants as kinds
use Rattle.textwrap_text.proofs.Common.{IsCharBoundary-from_drop, IsCharBoundary-start, IsPrintable}
use Rattle.textwrap_text.proofs.Common.{All-from_get_or, Bool, chars_from_encodes, IsUtf8-past_char}
use Rattle.textwrap_text.proofs.Common.{All-head, chars_past_char, encode_utf8_all, IsPrintableByte}
use Rattle.textwrap_text.proofs.Common.{All-append, encodes-append, IsCharBoundary, nil_from_length}
use Rattle.textwrap_text.proofs.Common.{chars-IsAscii, encodes-chars, length-append, length-encode}
use Rattle.textwrap_text.proofs.Common.{encode_ascii, get_or_past, length-drop, List, sum_by-append}
use Rattle.textwrap_text.proofs.Common.{append-nil, cases_Bool, escape_len, inside_one, sum_by-cons}
use Rattle.textwrap_text.proofs.Common.{chars-nil, text_width, units_past, visible_in, visible_of}
use Rattle.textwrap_text.proofs.Common.{All-nil, All-tail, drop_more, IsNarrow, nat_tests, TextUnit}
use Rattle.textwrap_text.proofs.Common.{cases_eq, cases_lt, flat_map, stripped, taken_at, taken_in}
use Rattle.textwrap_text.proofs.Common.{columns, encodes, IsAscii, next_of, Text, Visible, zero-add}
use Rattle.textwrap_text.proofs.Common.{[], encode, escape, get_or, IsUtf8, length, ne_eqb, unit_at}
use Rattle.textwrap_text.proofs.Common.{All, arith, cond, false, shows, State, subst, sum_by, units}
use Rattle.textwrap_text.proofs.Common.{drop, eqb, inl, inr, kind, map, refl, suc, true, zero, ◌++◌}
use Rattle.textwrap_text.proofs.Common.{ap, sym, ℕ, ◌+◌, ◌<◌, ◌∙◌, ◌∷◌, ◌≡◌, ◌≢◌, ◌≤◌}
use Rattle.textwrap_text.proofs.Texts.{ends-within, left-after}
use Rattle.textwrap_text.specs.declared.escapes.State.TheVariants.{Command, Control, Escape}
use Rattle.std.specs.Prelude.{chars, encode_utf8}
use Rattle.unicode_width.{proofs.Rules.width_or_zero-le, specs.declared.kind.Kind.Kind}
use Rattle.unicode_width.specs.Width.{alone, char_width, of_kind}

-- ---- what the states of the reader show and take of a text

-- a character inside a sequence is taken from it
pub taken-step : (s : State) (c : ℕ) (cs : List ℕ) → s ≢ Text
    → taken_in s (c ∷ cs) ≡ suc (taken_in (next_of s c) cs)
taken-step Text c cs inside = absurd (inside refl)
taken-step Escape c cs inside = grind (arith, cases_Bool)
taken-step Control c cs inside = grind (arith, cases_Bool)
taken-step (Command last) c cs inside = grind (arith, cases_Bool)

-- the units that begin in the characters to come
abbrev pub units_in : State → List ℕ → List TextUnit
units_in s cs = units_past (taken_in s cs) cs

pub units_in-inside : (s : State) (c : ℕ) (cs : List ℕ) → s ≢ Text
    → units_in s (c ∷ cs) ≡ units_in (next_of s c) cs
units_in-inside s c cs inside = ap (λ n. units_past n (c ∷ cs)) (taken-step s c cs inside)

pub units_in-text : (c : ℕ) (cs : List ℕ)
    → units_in Text (c ∷ cs) ≡ unit_at c cs ∷ units_in (next_of Text c) cs
units_in-text c cs = elim (cases_Bool (eqb c 27)) [ inl t ↦ rw t refl | inr f ↦ rw f refl ]

-- what the reader shows of a text is visible in it
pub visible-step : (s : State) (c : ℕ) (cs : List ℕ)
    → visible_in s (c ∷ cs)
    ≡ cond (shows s c) (c ∷ visible_in (next_of s c) cs) (visible_in (next_of s c) cs)
visible-step Text c cs = elim (cases_Bool (eqb c 27)) [ inl t ↦ rw t refl | inr f ↦ rw f refl ]
visible-step Escape c cs = ap (flat_map visible_of) (units_in-inside Escape c cs (λ e. cc))
visible-step Control c cs = ap (flat_map visible_of) (units_in-inside Control c cs (λ e. cc))
visible-step (Command last) c cs = grind (arith, units_in-inside)

pub plain-step : (c : ℕ) → eqb c 27 ≡ false
    → ◌≡◌ {A = State × Bool} (Text, true) (next_of Text c, shows Text c)
plain-step c plain = rw plain refl

-- ---- a text that is read up to a place, and its next character

-- one more character behind a text
pub chars-push : (front : List ℕ) (c : ℕ) → IsUtf8 front → IsUtf8 (front ++ encode_utf8 c)
    → chars (front ++ encode_utf8 c) ≡ chars front ++ c ∷ []
chars-push front c utf8 both =
    sym (chars_from_encodes (chars front ++ c ∷ []) (front ++ encode_utf8 c) both
    (encodes-append (chars front) (c ∷ [])
    ∙ ap (λ l. l ++ encode_utf8_all (c ∷ [])) (encodes-chars front utf8)
    ∙ ap (λ l. front ++ l) (append-nil (encode_utf8 c))))

-- after so many bytes of the text, this is ahead
pub record IsRead (text : List ℕ) (at : ℕ) (ahead : List ℕ) : Type 0 where
  pub utf8 : IsUtf8 ahead
  pub place : drop at text ≡ ahead
  pub boundary : IsCharBoundary text at

pub read-start : (text : List ℕ) → IsUtf8 text → IsRead text 0 text
read-start text utf8 = grind (arith, IsCharBoundary-start)

module _ {text : List ℕ} {at : ℕ} {ahead : List ℕ} (h : IsRead text at ahead) where
  pub read-none : length ahead ≡ 0 → chars ahead ≡ []
  read-none none = ap chars (nil_from_length ahead none) ∙ chars-nil

  pub read-all : length ahead ≡ 0 → at ≡ length text
  read-all none = omega (arith, h.boundary.0, length-drop at text, ap length h.place, none)

  -- the next character
  module _ (c : ℕ) (after : List ℕ) (e : ahead ≡ encode_utf8 c ++ after) where
    pub read-ahead : chars ahead ≡ c ∷ chars after
    read-ahead = chars_past_char ahead after c h.utf8 e

    pub read-room : at + length (encode_utf8 c) ≤ length text
    read-room = ends-within text at c after (h.place ∙ e)

    pub read-next : (end : ℕ) → end ≡ at + length (encode_utf8 c) → IsRead text end after
    read-next end past =
        let utf8 = IsUtf8-past_char ahead after c h.utf8 e in
        let place : drop end text ≡ after =
        ap (λ k. drop k text) past ∙ left-after text at c after (h.place ∙ e) in
        record {
          utf8 = utf8;
          place = place;
          boundary = IsCharBoundary-from_drop text end (omega (arith, past, read-room))
              (subst IsUtf8 (sym place) utf8);
        }

-- ---- no escape character is left

-- the characters of a character other than ESC, and of such characters, are bytes other than ESC
encode-plain : (c : ℕ) → c ≢ escape → All (λ b. b ≢ escape) (encode c)
encode-plain c other = All-from_get_or (λ b. b ≢ escape) (encode c) 0 (λ k within is.
    let whole : encode c ≡ encode c ++ [] = sym (append-nil (encode c)) in
    other (inside_one c [] (encode c) k whole within (omega (arith, is)) ∙ is))

encodes-plain : (cs : List ℕ) → All (λ c. c ≢ escape) cs → All (λ b. b ≢ escape)
    (encode_utf8_all cs)
encodes-plain [] plain = All-nil (λ b. b ≢ escape)
encodes-plain (c ∷ cs) plain = All-append (λ b. b ≢ escape) (encode c) (encode_utf8_all cs)
    (encode-plain c (All-head (λ d. d ≢ escape) c cs plain))
    (encodes-plain cs (All-tail (λ d. d ≢ escape) c cs plain))

visible-plain : (n : ℕ) (cs : List ℕ) → All (λ c. c ≢ escape)
    (flat_map visible_of (units_past n cs))
visible-plain n [] = All-nil (λ c. c ≢ escape)
visible-plain zero (c ∷ cs) = grind (arith, visible-plain (escape_len cs) cs, visible-plain 0 cs)
visible-plain (suc n) (c ∷ cs) = visible-plain n cs

pub stripped-plain : (bytes : List ℕ) → All (λ b. b ≢ escape) (stripped bytes)
stripped-plain bytes = grind (arith, encodes-plain, visible-plain)

-- ---- a text is no shorter than its visible characters

visible-short : (n : ℕ) (cs : List ℕ)
    → length (encode_utf8_all (flat_map visible_of (units_past n cs)))
    ≤ length (encode_utf8_all cs)
visible-short n [] = omega arith
visible-short zero (c ∷ cs) =
    grind (arith, length-append, visible-short (escape_len cs) cs, visible-short 0 cs)
visible-short (suc n) (c ∷ cs) = omega (arith, visible-short n cs, length-append {A = ℕ})

pub stripped-short : (text : List ℕ) → IsUtf8 text → length (stripped text) ≤ length text
stripped-short text utf8 = grind (arith, visible-short, encodes-chars)

-- ---- lemmas on the units of a text and their columns

-- the columns of the characters to come
abbrev pub columns_in : State → List ℕ → ℕ
columns_in state cs = sum_by columns (visible_in state cs)

-- the columns that a character adds
abbrev pub added : State → ℕ → ℕ
added state c = cond (shows state c) (columns c) 0

-- one step over a character
pub columns_in-step : (state : State) (c : ℕ) (cs : List ℕ)
    → columns_in state (c ∷ cs) ≡ added state c + columns_in (next_of state c) cs
columns_in-step state c cs = ap (sum_by columns) (visible-step state c cs)
    ∙ elim (cases_Bool (shows state c)) [
      | inl t ↦ rw t (sum_by-cons columns c (visible_in (next_of state c) cs))
      | inr f ↦ rw f (sym (zero-add (columns_in (next_of state c) cs)))
    ]

-- nothing has no columns
pub columns_in-empty : (state : State) (text : List ℕ) → length text ≡ 0
    → columns_in state (chars text) ≡ 0
columns_in-empty state text none = grind (arith, nil_from_length, chars-nil)

pub columns-ascii : (c : ℕ) → c < 128 → columns c ≤ 1
unfolding char_width
columns-ascii c low = grind (arith, nat_tests)

unit_at-le : (c : ℕ) (cs : List ℕ) → sum_by columns (visible_of (unit_at c cs)) ≤ columns c
unit_at-le c cs = grind arith

-- the visible characters from place n on have no more columns than all of them
pub visible-le : (n : ℕ) (cs : List ℕ)
    → sum_by columns (flat_map visible_of (units_past n cs)) ≤ sum_by columns cs
visible-le n [] = omega arith
visible-le zero (c ∷ cs) = simp (sum_by-cons, sum_by-append)
    (omega (arith, unit_at-le c cs, visible-le (taken_at c cs) cs))
visible-le (suc n) (c ∷ cs) = simp sum_by-cons (omega (arith, visible-le n cs))

-- ---- a text of printable ASCII characters: each takes one byte and one column

pub columns-printable : (c : ℕ) → IsPrintableByte c → columns c ≡ 1
unfolding char_width
columns-printable c (low, high) = grind (arith, nat_tests, low, high)

pub printable-no_escape : (c : ℕ) → IsPrintableByte c → eqb c 27 ≡ false
printable-no_escape c (low, high) = grind (arith, nat_tests, low)

pub printable-ascii : (text : List ℕ) → IsPrintable text → IsAscii text
printable-ascii text printable i = grind (arith, cases_lt, get_or_past)

pub units-printable : (cs : List ℕ) → IsPrintable cs → units cs ≡ map Visible cs
units-printable [] printable = refl
units-printable (c ∷ cs) printable =
    rw (printable-no_escape c (All-head IsPrintableByte c cs printable))
    (ap (λ us. Visible c ∷ us) (units-printable cs (All-tail IsPrintableByte c cs printable)))

columns-all_printable : (cs : List ℕ) → IsPrintable cs
    → sum_by columns (flat_map visible_of (map Visible cs)) ≡ length cs
columns-all_printable [] printable = refl
columns-all_printable (c ∷ cs) printable =
    let one = columns-printable c (All-head IsPrintableByte c cs printable) in
    let rest = columns-all_printable cs (All-tail IsPrintableByte c cs printable) in
    simp sum_by-cons (omega (arith, one, rest))

pub printable-width : (text : List ℕ) → IsPrintable text → text_width text ≡ length text
printable-width text printable =
    grind (arith, chars-IsAscii, printable-ascii, units-printable, columns-all_printable)

-- ---- no character takes more columns than its bytes, so no text does

of_kind-narrow : (c : ℕ) (k : Kind) → c ≢ 0x17D8 → (of_kind false c k).0 ≤ 2
of_kind-narrow c kinds.Zero other = omega arith
of_kind-narrow c kinds.Narrow other = omega arith
of_kind-narrow c kinds.Wide other = omega arith
of_kind-narrow c kinds.Ambiguous other = omega arith
of_kind-narrow c kinds.Alef other = omega arith
of_kind-narrow c kinds.KhmerLetter other = omega arith
of_kind-narrow c kinds.TifinaghConsonant other = omega arith
of_kind-narrow c kinds.LisuTone other = omega arith
of_kind-narrow c kinds.RegionalIndicator other = omega arith
of_kind-narrow c kinds.EmojiModifier other = omega arith
of_kind-narrow c kinds.Emoji other = omega arith
of_kind-narrow c kinds.Single other = grind (arith, ne_eqb c 0x17D8 other)

columns-other : (c : ℕ) → c ≢ 0x17D8 → columns c ≤ 2
unfolding char_width alone
columns-other c other = grind (arith, of_kind-narrow c (kind c) other)

pub columns-le : (c : ℕ) → columns c ≤ length (encode c)
columns-le c =
    grind (
      arith,
      cases_lt,
      length-encode,
      nat_tests,
      columns-ascii,
      cases_eq,
      width_or_zero-le,
      columns-other,
    )

pub added-le : (s : State) (c : ℕ) → added s c ≤ length (encode c)
added-le s c = grind (arith, cases_Bool, columns-le c)

pub all-narrow : (text : List ℕ) → IsNarrow text
all-narrow text = λ k d within. columns-le (get_or (chars text) k d)

together-le : (cs : List ℕ) → sum_by columns cs ≤ length (encodes cs)
together-le [] = omega arith
together-le (c ∷ cs) = simp (length-append, sum_by-cons)
    (omega (arith, together-le cs, columns-le c))

pub text_width-le : (text : List ℕ) → IsUtf8 text → text_width text ≤ length text
text_width-le text utf8 = grind (arith, encodes-chars, together-le, visible-le)

-- ---- the reader that measures a text: where it stands, and the columns before that

-- the reader has read up to the place, and the rest is left
pub record IsMeasured (text : List ℕ) (place : ℕ) (rest : List ℕ) (state : State) (width : ℕ) :
    Type 0 where
  pub read : IsRead text place rest
  pub columns : text_width text ≡ width + columns_in state (chars rest)

module _ (text : List ℕ) where
  pub measured-start : IsUtf8 text → IsMeasured text 0 text Text 0
  measured-start utf8 = record { read = read-start text utf8; columns = omega arith }

  -- it goes over a character
  pub measured-step : (place end c : ℕ) (rest after : List ℕ) (state : State) (width : ℕ)
      → IsMeasured text place rest state width → rest ≡ encode_utf8 c ++ after
      → end ≡ place + length (encode_utf8 c)
      → IsMeasured text end after (next_of state c) (width + added state c)
  measured-step place end c rest after state width h is past = record {
    read = read-next h.read c after is end past;
    columns = grind (arith, read-ahead, columns_in-step);
  }

  pub measured-le : (place : ℕ) (rest : List ℕ) (state : State) (width : ℕ) → IsUtf8 text
      → IsMeasured text place rest state width → width ≤ length text
  measured-le place rest state width utf8 h = omega (arith, h.columns, text_width-le text utf8)

  -- it goes over printable ASCII
  pub measured-printable : IsUtf8 text → (n : ℕ) → n ≤ length text
      → ((k : ℕ) → k < n → IsPrintableByte (get_or text k 0))
      → IsMeasured text n (drop n text) Text n
  measured-printable utf8 zero within printable = measured-start utf8
  measured-printable utf8 (suc n) within printable =
      let c = get_or text n 0 in
      let here = printable n (omega arith) in
      let one = encode_ascii c (omega (arith, here.1)) in
      let before = measured-printable utf8 n (omega (arith, within))
      (λ k below. printable k (omega (arith, below))) in
      let is : drop n text ≡ encode_utf8 c ++ drop (n + 1) text =
      drop_more text n 0 (omega (arith, within)) ∙ sym (ap (λ bs. bs ++ drop (n + 1) text) one) in
      subst (λ k. IsMeasured text k (drop k text) Text k) (omega arith)
      (subst (IsMeasured text (n + 1) (drop (n + 1) text) Text)
      (omega (arith, columns-printable c here))
      (rw (printable-no_escape c here) at (measured-step n (n + 1) c (drop n text) (drop (n + 1) text) Text n before is
      (omega (arith, ap length one)))))
