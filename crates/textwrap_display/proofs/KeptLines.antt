-- The longest beginning of a line that may be kept, words that are cut, and the first lines.
use Rattle.std.proofs.lemmas.List.Sums.{take_while-cons}
use Rattle.textwrap_display.proofs.Common.{AreShortened, CanCut, CanEnd, CowStr, IsCut, IsKeptBeginning}
use Rattle.textwrap_display.proofs.Common.{IsShortened, Line, Slice, State, Text, added, chars, cow_str_bytes}
use Rattle.textwrap_display.proofs.Common.{encode_utf8, is_blank, line_bytes, line_bytes-line_view, line_view}
use Rattle.textwrap_display.proofs.Common.{nil-whole, read-all, text_width-nil, texts_of, units, word_width}
use Rattle.textwrap_display.proofs.KeptWords.{BlankAhead, IsLatest, IsReadTo, ahead-blank, before-character}
use Rattle.textwrap_display.proofs.KeptWords.{blank-ahead, latest-here, latest-none, latest-on, latest-past}
use Rattle.textwrap_display.proofs.KeptWords.{may_end-boundary, may_end-other, may_end-within, read-le}
use Rattle.textwrap_display.proofs.KeptWords.{read-whole, read-width, read_to-start, read_to-step, whole-read}
use Rattle.textwrap_text.proofs.Common.{Bool, IsCharBoundary, IsUtf8, List, [], ap, arith, cases_Bool}
use Rattle.textwrap_text.proofs.Common.{columns, drop, drop_more, encode_utf8_all, encodes-chars}
use Rattle.textwrap_text.proofs.Common.{eqb, eqb-true, false, false≢true, get_or, inl, length}
use Rattle.textwrap_text.proofs.Common.{length-map, length-take-le, map, map-append, nat_tests, ne_eqb}
use Rattle.textwrap_text.proofs.Common.{next_of, not, refl, rules, shows, subst, sum_by, sum_by-cons}
use Rattle.textwrap_text.proofs.Common.{sym, take, take-append-drop, take_while, text_width, true}
use Rattle.textwrap_text.proofs.Common.{units_width, ℕ, ◌++◌, ◌+◌, ◌<◌, ◌∙◌, ◌∷◌, ◌≡◌, ◌≢◌, ◌≤◌}
use Rattle.textwrap_text.proofs.Units.{Characters.shown-from, Reading.read-ahead}
use Rattle.textwrap_text.specs.Characters.{characters_from, characters_of, shown}
use Rattle.textwrap_text.specs.declared.characters.Character.{Character}

-- ---- what the reader has found of a line up to a place: the longest beginning that may be kept

abbrev pub IsFound : ℕ → List ℕ → ℕ → ℕ → Type 0
IsFound room line = IsLatest (CanEnd line) room line

-- nothing may be kept
pub none-kept : (line : List ℕ) → CanEnd line 0
none-kept line = (refl, nil-whole.1)

-- what is found at the end is kept, where this is the room beside the placeholder
pub found-kept : {room width : ℕ} {placeholder line : List ℕ} {n : ℕ} → room + text_width placeholder ≡ width
    → IsFound room line (length line + 1) n → IsKeptBeginning width placeholder line n
found-kept {line = line} is h = search (rules, arith, none-kept line, may_end-within, h.latest)

module _ {room : ℕ} {line : List ℕ} (utf8 : IsUtf8 line) {place : ℕ} {rest : List ℕ}
    {state : State} {taken kept : ℕ} {after_blank : Bool}
    (read : IsReadTo line place rest state taken after_blank) (found : IsFound room line place kept) where
  boundary : (m : ℕ) → CanEnd line m → IsCharBoundary line m
  boundary m may = may_end-boundary line m utf8 may.0

  ends-here : after_blank ≡ false → state ≡ Text → BlankAhead line place → CanEnd line place
  ends-here some outside ahead = (grind (arith, cases_Bool, nat_tests, read.blank), read-whole read outside)

  ends-other : (BlankAhead line place → after_blank ≡ false → state ≢ Text) → CanEnd line place → place ≤ kept
  ends-other other may =
      let start = may_end-other line place may.0 (λ ahead.
      grind (arith, cases_Bool, other ahead, whole-read read may.1)) in omega (arith, start)

  -- past the room nothing has room
  pub found-past : room < taken → IsFound room line (length line + 1) kept
  found-past over = latest-past utf8 read found (length line + 1) boundary over

  module _ (c : ℕ) (after : List ℕ) (is : rest ≡ encode_utf8 c ++ after) (end : ℕ)
      (past : end ≡ place + length (encode_utf8 c)) where
    whole : drop place line ≡ encode_utf8 c ++ after
    whole = read.read.place ∙ is

    -- in the character no beginning ends
    within : (m : ℕ) → m < end → CanEnd line m → m ≤ place
    within m before may = before-character line utf8 place c after read.read.boundary whole m
        (omega (arith, before, past)) (boundary m may)

    -- one may end before it
    pub found-here : taken ≤ room → c ≡ 32 → after_blank ≡ false → state ≡ Text → IsFound room line end place
    found-here has blank some outside = latest-here utf8 read found end within has (ends-here some outside
        (blank-ahead line utf8 place c after read.read.boundary whole (ap (λ x. eqb x 32) blank)))

    -- none may
    pub found-on : (c ≡ 32 → after_blank ≡ false → state ≢ Text) → IsFound room line end kept
    found-on other = latest-on utf8 read found end within (λ has. ends-other (λ ahead.
        other (eqb-true c 32 (ahead-blank line utf8 place c after read.read.boundary whole ahead))))

  module _ (ended : length rest ≡ 0) where
    at_end : place ≡ length line
    at_end = read-all read.read ended

    last : (m : ℕ) → m < length line + 1 → CanEnd line m → m ≤ place
    last m before may = omega (arith, before, at_end)

    -- the whole line may be kept
    pub found-whole : taken ≤ room → after_blank ≡ false → state ≡ Text
        → IsFound room line (length line + 1) (length line)
    found-whole has some outside = subst (IsFound room line (length line + 1)) at_end
        (latest-here utf8 read found (length line + 1) last has (ends-here some outside (inl at_end)))

    -- it ends in a blank or in a sequence
    pub found-rest : (after_blank ≡ false → state ≢ Text) → IsFound room line (length line + 1) kept
    found-rest other = latest-on utf8 read found (length line + 1) last (λ has. ends-other (λ ahead. other))

-- ---- the first lines as they are, and the one after them cut

pub cut-lines : {Z : Type 0} (breaks : Bool) (most width : ℕ) (placeholder : List ℕ)
    (lines : List (CowStr Z)) (n : ℕ) (line : CowStr Z) (last : Line) → n + 1 ≡ most → n < length lines
    → line ≡ get_or lines n line → IsShortened breaks width placeholder (cow_str_bytes line) last
    → AreShortened breaks most width placeholder (texts_of lines)
    (map Slice (texts_of (take n lines)) ++ last ∷ [])
cut-lines breaks most width placeholder lines n line last number within is cut = record {
  whole = texts_of (take n lines);
  line = line_bytes (line_view line);
  left_out = texts_of (drop (n + 1) lines);
  last = last;
  lines_are = grind (arith, take-append-drop n lines, map-append, drop_more lines n line within);
  count = grind (arith, length-map, length-take-le, within, number);
  cut = subst (λ l. IsShortened breaks width placeholder l last) (sym (line_bytes-line_view line)) cut;
  are = refl;
}

-- ---- the columns of the word that visible characters begin with

abbrev pub word_columns : List ℕ → ℕ
word_columns cs = sum_by columns (take_while (λ c. not (is_blank c)) cs)

-- what is visible stands outside of sequences
shown-outside : (s : State) (c : ℕ) → shows s c ≡ true → s ≡ Text
shown-outside Text c shown = refl
shown-outside _ c shown = absurd (false≢true shown)

shown-plain : (s : State) (c : ℕ) → shows s c ≡ true → eqb c 27 ≡ false
shown-plain s c shown = search (rules, arith, shown-outside)

-- the first of these units takes columns where the first character is visible and does
module _ (c : ℕ) (cs : List ℕ) where
  next-visible : 0 < units_width (take 1 (units (c ∷ cs))) → (eqb c 27 ≡ false) × (0 < columns c)
  next-visible wide = search (rules, arith, cases_Bool)

-- ---- the reader of a word's characters: where it stands, the characters ahead of it, and the last
-- place before at which the word may be cut so that it has room

abbrev pub IsFoundCut : ℕ → List ℕ → ℕ → ℕ → Type 0
IsFoundCut left text = IsLatest (CanCut text 0) left text

pub record IsReadWord (left : ℕ) (text : List ℕ) (ahead : List Character) (taken cut : ℕ) :
    Type 0 where
  pub state : State
  pub place : ℕ
  pub rest : List ℕ
  pub after_blank : Bool
  pub read : IsReadTo text place rest state taken after_blank
  pub are : ahead ≡ characters_from state place (chars rest)
  pub word : word_width text ≡ taken + word_columns (shown ahead)
  pub found : IsFoundCut left text place cut

pub read_word-start : (left : ℕ) (text : List ℕ) → IsUtf8 text → IsReadWord left text (characters_of text) 0 0
read_word-start left text utf8 = record {
  state = Text;
  place = 0;
  rest = text;
  after_blank = true;
  read = read_to-start text utf8;
  are = refl;
  word = rw shown-from (omega arith);
  found = latest-none (CanCut text 0) left text;
}

-- what is found at the end
cut-whole : (left : ℕ) (text : List ℕ) (n : ℕ) → IsFoundCut left text (length text + 1) n
    → IsCut left [] text 0 0 n
cut-whole left text n h = search (rules, arith, text_width-nil, h.latest)

-- it stands before the next of them
record IsTurn (left : ℕ) (text : List ℕ) (c : Character) (ahead : List Character)
    (taken cut : ℕ) : Type 0 where
  state : State
  rest : List ℕ
  after : List ℕ
  after_blank : Bool
  read : IsReadTo text c.at rest state taken after_blank
  is : rest ≡ encode_utf8 c.ch ++ after
  shown : c.is_visible ≡ shows state c.ch
  are : ahead ≡ characters_from (next_of state c.ch) (c.at + length (encode_utf8 c.ch)) (chars after)
  found : IsFoundCut left text c.at cut

turn : (left : ℕ) (text : List ℕ) (c : Character) (ahead : List Character) (taken cut : ℕ)
    → IsReadWord left text (c ∷ ahead) taken cut → IsTurn left text c ahead taken cut
turn left text c ahead taken cut h = by (chars h.rest) refl h.are
  where
    by : (cs : List ℕ) → chars h.rest ≡ cs → c ∷ ahead ≡ characters_from h.state h.place cs
        → IsTurn left text c ahead taken cut
    by [] none is = absurd (omega (arith, ap length is))
    by (d ∷ ds) some is =
        let after = encode_utf8_all ds in
        let e : h.rest ≡ encode_utf8 d ++ after = cc (encodes-chars h.rest h.read.read.utf8, some) in
        let more : ds ≡ chars after = ap (drop 1) (sym some ∙ read-ahead h.read.read d after e) in
        rw (ap (λ l. get_or l 0 c) is, ap (drop 1) is) (record {
          state = h.state;
          rest = h.rest;
          after = after;
          after_blank = h.after_blank;
          read = h.read;
          is = e;
          shown = refl;
          are = ap (characters_from (next_of h.state d) (h.place + length (encode_utf8 d))) more;
          found = h.found;
        })

module _ {left : ℕ} {text : List ℕ} (utf8 : IsUtf8 text) {c : Character} {ahead : List Character}
    {taken cut : ℕ} (h : IsReadWord left text (c ∷ ahead) taken cut) where
  abbrev end_of : ℕ
  end_of = c.at + length (encode_utf8 c.ch)

  t : IsTurn left text c ahead taken cut
  t = turn left text c ahead taken cut h

  past : IsReadTo text end_of t.after (next_of t.state c.ch) (taken + added t.state c.ch) (eqb c.ch 32)
  past = read_to-step utf8 t.read end_of c.ch t.after t.is refl

  -- a character that is visible stands outside of sequences, and adds its columns
  outside : c.is_visible ≡ true → t.state ≡ Text
  outside is = shown-outside t.state c.ch (sym t.shown ∙ is)

  adds : c.is_visible ≡ true → added t.state c.ch ≡ columns c.ch
  adds is = rw (sym t.shown ∙ is) refl

  -- the columns fit the text
  pub turn-le : c.is_visible ≡ true → taken + columns c.ch ≤ length text
  turn-le is = omega (arith, read-le utf8 past, adds is)

  -- the units that follow the place begin with this character
  first : units (chars (drop c.at text)) ≡ units (c.ch ∷ chars t.after)
  first = ap (λ l. units (chars l)) t.read.read.place ∙ ap units (read-ahead t.read.read c.ch t.after t.is)

  before_end : (m : ℕ) → m < end_of → CanCut text 0 m → m ≤ c.at
  before_end m before may = before-character text utf8 c.at c.ch t.after t.read.read.boundary
      (t.read.read.place ∙ t.is) m before may.place

  -- where a word may be cut directly before this character, it is visible and has columns
  before_it : CanCut text 0 c.at → (c.is_visible ≡ true) × (0 < columns c.ch) × (0 < taken)
  before_it may =
      let next = next-visible c.ch (chars t.after) (rw first at may.before) in
      (t.shown ∙ rw (whole-read t.read may.whole, next.0) refl, next.1, omega (arith, read-width utf8 t.read))

  -- it is no place for a cut
  pub cut-past : (c.is_visible ≡ true → 0 < columns c.ch → 0 < taken → taken ≤ left → ⊥)
      → IsFoundCut left text end_of cut
  cut-past none = latest-on utf8 t.read t.found end_of before_end (λ has may.
      let (shown, wide, some) = before_it may in absurd (none shown wide some has))

  -- it is one
  pub cut-here : c.is_visible ≡ true → 0 < columns c.ch → 0 < taken → taken ≤ left
      → IsFoundCut left text end_of c.at
  cut-here is wide some room = latest-here utf8 t.read t.found end_of before_end room (record {
    after = omega arith;
    behind = omega (arith, some, read-width utf8 t.read, text_width-nil);
    place = t.read.read.boundary;
    before = rw (first, shown-plain t.state c.ch (sym t.shown ∙ is)) (omega (arith, wide));
    whole = read-whole t.read (outside is);
  })

  -- the reader behind it
  read_word-next : (more new : ℕ) → more ≡ taken + added t.state c.ch
      → word_width text ≡ more + word_columns (shown ahead)
      → IsFoundCut left text end_of new → IsReadWord left text ahead more new
  read_word-next more new are word found = record {
    state = next_of t.state c.ch;
    place = end_of;
    rest = t.after;
    after_blank = eqb c.ch 32;
    read = rw are past;
    are = t.are;
    word = word;
    found = found;
  }

  -- ---- one turn: over a character that is not visible, over one of the word, or to its end

  pub turn-hidden : c.is_visible ≡ false → IsReadWord left text ahead taken cut
  turn-hidden is = read_word-next taken cut (rw (sym t.shown ∙ is) (omega arith)) (rw is at h.word)
      (cut-past (λ visible wide some room. absurd (false≢true (sym is ∙ visible))))

  word-more : c.is_visible ≡ true → c.ch ≢ 32
      → word_width text ≡ taken + columns c.ch + word_columns (shown ahead)
  word-more is other =
      let rest = sum_by-cons columns c.ch (take_while (λ d. not (is_blank d)) (shown ahead)) in
      omega (arith, rw (is, take_while-cons, ne_eqb c.ch 32 other) at h.word, rest)

  pub turn-word : (more new : ℕ) → c.is_visible ≡ true → c.ch ≢ 32 → more ≡ taken + columns c.ch
      → IsFoundCut left text end_of new → IsReadWord left text ahead more new
  turn-word more new is other sum found =
      read_word-next more new (omega (arith, sum, adds is)) (omega (arith, sum, word-more is other)) found

  -- the word is wider than the room, and more has no room
  pub turn-wide : c.is_visible ≡ true → c.ch ≢ 32 → taken + columns c.ch ≤ word_width text
  turn-wide is other = omega (arith, word-more is other)

  pub turn-full : (new : ℕ) → c.is_visible ≡ true → left < taken + columns c.ch
      → IsFoundCut left text end_of new → IsCut left [] text 0 0 new
  turn-full new is over found = cut-whole left text new
      (latest-past utf8 past found (length text + 1) (λ m may. may.place) (omega (arith, over, adds is)))

  pub turn-end : c.is_visible ≡ true → c.ch ≡ 32 → word_width text ≡ taken
  turn-end is blank = omega (arith, rw (is, take_while-cons, ap (λ x. eqb x 32) blank) at h.word)

-- at the end of the text
pub word-all : (left : ℕ) (text : List ℕ) (taken cut : ℕ) → IsReadWord left text [] taken cut
    → word_width text ≡ taken
word-all left text taken cut h = omega (arith, h.word)
