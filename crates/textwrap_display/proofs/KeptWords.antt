-- The beginning of a line that is kept: its words, where it may end, and the reader that finds it.
use Rattle.std.proofs.{Math.Seq.take-add, lemmas.Str.IsCharBoundary-end}
use Rattle.textwrap_display.proofs.Common.{AreBlanks, IsCharBoundary-start, IsRead, IsWhole, State}
use Rattle.textwrap_display.proofs.Common.{Text, added, can_end, chars, chunks, chunks-from}
use Rattle.textwrap_display.proofs.Common.{encode_ascii, encode_utf8, ends, is_blank, is_cut, map-map}
use Rattle.textwrap_display.proofs.Common.{read-next, read-start, units, units-append, word_texts}
use Rattle.textwrap_layout.specs.Text.{HasWholeSequences}
use Rattle.textwrap_text.proofs.Common.{All, All-cons, All-head, All-nil, All-tail, AreUnits, Bool}
use Rattle.textwrap_text.proofs.Common.{IsCharBoundary, IsUncut, IsUtf8, IsUtf8-take, List, Sequence}
use Rattle.textwrap_text.proofs.Common.{TextUnit, Visible, [], add-zero, ap, append-nil, append_assoc}
use Rattle.textwrap_text.proofs.Common.{arith, cases_Bool, cases_lt, characters, chars-append, chars-nil}
use Rattle.textwrap_text.proofs.Common.{columns, drop, drop_all, eqb, eqb-false, eqb-true, escape, false}
use Rattle.textwrap_text.proofs.Common.{flat_map, flat_map-append, get_or, get_or-drop, get_or_past, inl}
use Rattle.textwrap_text.proofs.Common.{inr, length, length-map, length-take-le, length_push, map, next_of}
use Rattle.textwrap_text.proofs.Common.{refl, reverse-append, rules, subst, sum_by, sum_by-append, sym, take}
use Rattle.textwrap_text.proofs.Common.{take-append-drop, take-append-le, take_all, take_at, text_width, true}
use Rattle.textwrap_text.proofs.Common.{visible_of, ℕ, ◌++◌, ◌+◌, ◌-◌, ◌<◌, ◌||◌, ◌∙◌, ◌∷◌, ◌≡◌, ◌≢◌, ◌≤◌}
use Rattle.textwrap_text.proofs.{Common.◌⊎◌, Lists.Parts.take_slice, Texts.ascii-here, Texts.ends-within}
use Rattle.textwrap_text.proofs.{Texts.some-bytes, Texts.starts-within, Units.Reading.chars-push}
use Rattle.textwrap_text.proofs.Units.Reading.{columns-printable, columns_in, columns_in-step, text_width-le}
use Rattle.textwrap_text.proofs.Units.{Reading.units_in-inside, Texts.IsInUnits-units, Texts.units-tile}
use Rattle.textwrap_text.{proofs.Units.Texts.units_unique, specs.Blanks.final_blanks}
use Rattle.textwrap_text.specs.{Blanks.trimmed_len, Blanks.without_final_blanks, Units.IsOpen, Units.visible}
use Rattle.textwrap_words.proofs.Word.{Ahead.character-within, Ahead.plain-bytes, Texts.final_blanks-blank}

-- ---- where a beginning of a line may end: these places are within the line, and characters end there

-- a blank follows, or nothing
abbrev pub BlankAhead : List ℕ → ℕ → Type 0
BlankAhead line n = (n ≡ length line) ⊎ (is_blank (get_or line n 0) ≡ true)

-- whether nothing or a blank stands before the place
abbrev pub is_after_blank : List ℕ → ℕ → Bool
is_after_blank line n = (eqb n 0) || is_blank (get_or line (n - 1) 0)

pub may_end-cases : (line : List ℕ) (n : ℕ) → can_end line n ≡ true
    → (n ≡ 0) ⊎ ((is_blank (get_or line (n - 1) 0) ≡ false) × BlankAhead line n)
may_end-cases line n may = grind (arith, cases_Bool, eqb-true)

pub may_end-within : (line : List ℕ) (n : ℕ) → can_end line n ≡ true → n ≤ length line
may_end-within line n may = grind (arith, may_end-cases, get_or_past, cases_lt)

pub may_end-boundary : (line : List ℕ) (n : ℕ) → IsUtf8 line → can_end line n ≡ true → IsCharBoundary line n
may_end-boundary line n utf8 may =
    search (rules, arith, may_end-cases, IsCharBoundary-start, IsCharBoundary-end, eqb-true, may_end-within)

pub may_end-other : (line : List ℕ) (n : ℕ) → can_end line n ≡ true
    → (BlankAhead line n → is_after_blank line n ≡ true) → n ≡ 0
may_end-other line n may none = grind (arith, may_end-cases, cases_Bool)

-- ---- where a character begins

module _ (line : List ℕ) (utf8 : IsUtf8 line) (place c : ℕ) (after : List ℕ)
    (here : IsCharBoundary line place) (is : drop place line ≡ encode_utf8 c ++ after) where
  -- each byte of it is a blank where it is one
  byte-blank : (k : ℕ) → place ≤ k → k < place + length (encode_utf8 c)
      → is_blank (get_or line k 0) ≡ eqb c 32
  byte-blank k from below = elim (cases_Bool (eqb c 32)) [
    | inl blank ↦ rw blank (
        let low : c < 128 = omega (arith, eqb-true c 32 blank) in
        let first : k ≡ place = omega (arith, ap length (encode_ascii c low)) in
        rw first (ap is_blank (ascii-here line place c after is low) ∙ blank))
    | inr other ↦ rw other (plain-bytes line utf8 place c after here is (eqb-false c 32 other) k
        from below (omega (arith, below, ends-within line place c after is)))
  ]

  first-blank : is_blank (get_or line place 0) ≡ eqb c 32
  first-blank = byte-blank place (omega arith) (omega (arith, some-bytes c))

  pub blank-ahead : eqb c 32 ≡ true → BlankAhead line place
  blank-ahead blank = inr (first-blank ∙ blank)

  pub ahead-blank : BlankAhead line place → eqb c 32 ≡ true
  ahead-blank ahead = search (rules, arith, first-blank, starts-within)

  -- inside it nothing ends
  pub before-character : (m : ℕ) → m < place + length (encode_utf8 c) → IsCharBoundary line m → m ≤ place
  before-character m before cut = grind (arith, character-within line utf8 place c after here is m)

  pub after_blank-past : (end : ℕ) → end ≡ place + length (encode_utf8 c) → is_after_blank line end ≡ eqb c 32
  after_blank-past end past = search (rules, arith, byte-blank, some-bytes, cases_Bool)

-- ---- the words of a line's beginning, where blanks follow it, are the first words of the line

-- nothing follows, or a blank
abbrev pub BlankFollows : List ℕ → Type 0
BlankFollows ys = (ys ≡ []) ⊎ (is_blank (get_or ys 0 0) ≡ true)

-- a chunk that begins with a blank is blanks
uncut-blanks : (y : ℕ) (part : List ℕ) → is_blank y ≡ true → IsUncut (y ∷ part) → AreBlanks (y ∷ part)
uncut-blanks y [] blank uncut = search (rules, arith, All-cons, All-nil)
uncut-blanks y (d ∷ part) blank uncut =
    let next : is_blank d ≡ true = grind (arith, cases_Bool, uncut [] part y d refl) in
    All-cons (λ c. is_blank c ≡ true) y (d ∷ part) blank (uncut-blanks d part next
    (λ before after c e is. uncut (y ∷ before) after c e (ap (λ l. y ∷ l) is)))

-- blanks at the end of a text are final ones
pub trimmed_len-blanks : (text bs : List ℕ) → AreBlanks bs → trimmed_len (text ++ bs) ≡ trimmed_len text
trimmed_len-blanks text [] blanks = ap trimmed_len (append-nil text)
trimmed_len-blanks text (b ∷ bs) blanks =
    let byte = eqb-true b 32 (All-head (λ c. is_blank c ≡ true) b bs blanks) in
    let others = trimmed_len-blanks (text ++ b ∷ []) bs (All-tail (λ c. is_blank c ≡ true) b bs blanks) in
    grind (arith, append_assoc, byte, others, reverse-append, length_push)

trimmed-blanks : (text bs : List ℕ) → AreBlanks bs
    → without_final_blanks (text ++ bs) ≡ without_final_blanks text
trimmed-blanks text bs blanks = grind (arith, trimmed_len-blanks, take-append-le)

-- blanks at the end of a text stay final ones behind one more byte
trimmed-cons : (c : ℕ) (part : List ℕ)
    → without_final_blanks (c ∷ part) ≡ without_final_blanks (c ∷ without_final_blanks part)
trimmed-cons c part = ap (λ l. without_final_blanks (c ∷ l)) (sym (take-append-drop (trimmed_len part) part))
    ∙ trimmed-blanks (c ∷ without_final_blanks part) (final_blanks part) (final_blanks-blank part)

first-texts : (c : ℕ) (cs ys : List ℕ) → BlankFollows ys
    → take (length (chunks (c ∷ cs))) (map without_final_blanks (chunks (c ∷ (cs ++ ys))))
    ≡ map without_final_blanks (chunks (c ∷ cs))
first-texts c [] [] follows = refl
first-texts c [] (y ∷ ys) (inl none) = cc
first-texts c [] (y ∷ ys) (inr blank) =
    let h = chunks-from y ys in
    let uncut : is_cut c y ≡ false = grind (arith, cases_Bool) in
    let all = uncut-blanks y h.first blank (All-head IsUncut (y ∷ h.first) h.rest h.uncut) in
    rw (uncut, h.shape) (ap (λ l. l ∷ []) (trimmed-blanks (c ∷ []) (y ∷ h.first) all))
first-texts c (d ∷ cs) ys follows =
    let h = chunks-from d cs in
    let k = chunks-from d (cs ++ ys) in
    let rest = rw (h.shape, k.shape) at (first-texts d cs ys follows) in
    elim (cases_Bool (is_cut c d)) [
      | inl cut ↦ rw (h.shape, k.shape, cut) (ap (λ l. without_final_blanks (c ∷ []) ∷ l) rest)
      | inr uncut ↦ rw (h.shape, k.shape, uncut)
          (cc (rest, trimmed-cons c (d ∷ h.first), trimmed-cons c (d ∷ k.first)))
    ]

word_texts-front : (xs ys : List ℕ) → BlankFollows ys
    → take (length (word_texts xs)) (word_texts (xs ++ ys)) ≡ word_texts xs
word_texts-front [] ys follows = refl
word_texts-front (c ∷ cs) ys follows = grind (arith, length-map, map-map, first-texts c cs ys follows)

pub word_texts-take : (line : List ℕ) (n : ℕ) → can_end line n ≡ true
    → take (length (word_texts (take n line))) (word_texts line) ≡ word_texts (take n line)
word_texts-take line n may = elim (may_end-cases line n may) [
  | inl none ↦ rw none refl
  | inr (plain, past) ↦
      let follows : BlankFollows (drop n line) = search (rules, arith, drop_all, get_or-drop, add-zero) in
      rw take-append-drop at (word_texts-front (take n line) (drop n line) follows)
]

-- ---- the reader that finds how much of a line is kept: where it stands, and the columns before that

-- whatever characters follow the place, these are the columns of those that the reader has read
pub record IsReadTo (line : List ℕ) (place : ℕ) (rest : List ℕ) (state : State) (taken : ℕ)
    (after_blank : Bool) : Type 0 where
  pub read : IsRead line place rest
  pub columns : (ds : List ℕ) → columns_in Text (chars (take place line) ++ ds) ≡ taken + columns_in state ds
  pub blank : after_blank ≡ is_after_blank line place

pub read_to-start : (line : List ℕ) → IsUtf8 line → IsReadTo line 0 line Text 0 true
read_to-start line utf8 = search (rules, arith, read-start, chars-nil)

module _ {line : List ℕ} (utf8 : IsUtf8 line) {place : ℕ} {rest : List ℕ} {state : State}
    {taken : ℕ} {after_blank : Bool} (h : IsReadTo line place rest state taken after_blank) where
  pub read_to-step : (end c : ℕ) (after : List ℕ) → rest ≡ encode_utf8 c ++ after
      → end ≡ place + length (encode_utf8 c)
      → IsReadTo line end after (next_of state c) (taken + added state c) (eqb c 32)
  read_to-step end c after is past =
      let next = read-next h.read c after is end past in
      let whole = h.read.place ∙ is in
      let front = take place line in
      let bytes : take end line ≡ front ++ encode_utf8 c = grind (arith, take-add, whole, take_at) in
      let more = ap chars bytes ∙ chars-push front c (IsUtf8-take line place utf8 h.read.boundary)
      (subst IsUtf8 bytes (IsUtf8-take line end utf8 next.boundary)) in
      record {
        read = next;
        columns = λ ds. rw (more, append_assoc, h.columns) (omega (arith, columns_in-step state c ds));
        blank = sym (after_blank-past line utf8 place c after h.read.boundary whole end past);
      }

  pub read-width : text_width (take place line) ≡ taken
  read-width = cc (h.columns [], append-nil (chars (take place line)), add-zero taken)

  pub read-le : taken ≤ length line
  read-le = search (rules, arith, read-width, text_width-le, IsUtf8-take, length-take-le)

  -- no later beginning has fewer columns
  pub read-more : (m : ℕ) → place ≤ m → IsCharBoundary line m → taken ≤ text_width (take m line)
  read-more m later cut =
      let front = IsUtf8-take line place utf8 h.read.boundary in
      rw (take_slice line place m later, chars-append (take place line) _ front, h.columns) (omega arith)

-- ---- the latest place before another at which a part of the line may end, by what `May` says, so
-- that it has room; or 0

abbrev pub HasRoom : ℕ → List ℕ → ℕ → Type 0
HasRoom room line n = text_width (take n line) ≤ room

pub record IsLatest (May : ℕ → Type 0) (room : ℕ) (line : List ℕ) (place kept : ℕ) : Type 0 where
  pub fits : (kept ≡ 0) ⊎ (May kept × HasRoom room line kept)
  pub latest : (m : ℕ) → m < place → May m → HasRoom room line m → m ≤ kept

pub latest-none : (May : ℕ → Type 0) (room : ℕ) (line : List ℕ) → IsLatest May room line 0 0
latest-none May room line = record { fits = inl refl; latest = λ m before may has. omega arith }

module _ {May : ℕ → Type 0} {room : ℕ} {line : List ℕ} (utf8 : IsUtf8 line) {place : ℕ}
    {rest : List ℕ} {state : State} {taken kept : ℕ} {after_blank : Bool}
    (read : IsReadTo line place rest state taken after_blank)
    (found : IsLatest May room line place kept) (end : ℕ) where
  latest-until : ((m : ℕ) → place ≤ m → m < end → May m → HasRoom room line m → m ≤ kept)
      → IsLatest May room line end kept
  latest-until none =
      record { fits = found.fits; latest = λ m before may has. grind (arith, found.latest m, none m) }

  -- past the room nothing has room
  pub latest-past : ((m : ℕ) → May m → IsCharBoundary line m) → room < taken → IsLatest May room line end kept
  latest-past boundary over = latest-until (λ m later before may has.
      absurd (omega (arith, has, over, read-more utf8 read m later (boundary m may))))

  -- where no place between may be one
  module _ (within : (m : ℕ) → m < end → May m → m ≤ place) where
    pub latest-here : taken ≤ room → May place → IsLatest May room line end place
    latest-here has may = search (rules, arith, within, read-width utf8 read)

    pub latest-on : (taken ≤ room → May place → place ≤ kept) → IsLatest May room line end kept
    latest-on none = latest-until (λ m later before may has.
        let here : m ≡ place = omega (arith, later, within m before may) in
        grind (arith, here, none, read-width utf8 read))

-- ---- units of which the last has no end

record EndsOpen (us : List TextUnit) : Type 0 where
  front : List TextUnit
  body : List ℕ
  are : us ≡ front ++ Sequence (escape ∷ body) ∷ []
  whole : All IsWhole front
  opens : (k : ℕ) → k ≤ length body → ends (take k body) ≡ false

whole-or-open : (us : List TextUnit) → AreUnits us → All IsWhole us ⊎ EndsOpen us
whole-or-open [] are = inl (All-nil IsWhole)
whole-or-open (u ∷ []) (inl whole) = inl (All-cons IsWhole u [] whole (All-nil IsWhole))
whole-or-open (Visible c ∷ []) (inr impossible) = absurd impossible
whole-or-open (Sequence cs ∷ []) (inr (body, is, none)) =
    inr (record { front = []; body = body; are = rw is; whole = All-nil IsWhole; opens = none })
whole-or-open (u ∷ v ∷ us) (whole, rest) = elim (whole-or-open (v ∷ us) rest) [
  | inl all ↦ inl (All-cons IsWhole u (v ∷ us) whole all)
  | inr h ↦ inr (record {
    front = u ∷ h.front;
    body = h.body;
    are = ap (λ l. u ∷ l) h.are;
    whole = All-cons IsWhole u h.front whole h.whole;
    opens = h.opens;
  })
]

-- one more unit after whole ones
units-push : (us : List TextUnit) (u : TextUnit) → All IsWhole us → IsWhole u ⊎ IsOpen u
    → AreUnits (us ++ u ∷ [])
units-push [] u whole is = is
units-push (v ∷ []) u whole is = search (rules, arith, All-head)
units-push (v ∷ w ∷ us) u whole is = search (rules, arith, All-head, All-tail, units-push (w ∷ us))

-- one more character belongs to the last one, whether it ends it or not
longer-unit : (body : List ℕ) (c : ℕ) → ((k : ℕ) → k ≤ length body → ends (take k body) ≡ false)
    → IsWhole (Sequence (escape ∷ (body ++ c ∷ []))) ⊎ IsOpen (Sequence (escape ∷ (body ++ c ∷ [])))
longer-unit body c opens =
    let more = body ++ c ∷ [] in
    let len = length_push body c in
    let earlier : (k : ℕ) → k ≤ length body → ends (take k more) ≡ false =
    λ k within. ap ends (take-append-le k body (c ∷ []) within) ∙ opens k within in
    elim (cases_Bool (ends more)) [
      | inl ended ↦ inl (more, refl, ended, λ k below. earlier k (omega (arith, below, len)))
      | inr on ↦ inr (more, refl, λ k within. search (rules, arith, cases_lt, earlier, take_all))
    ]

open-takes : (cs : List ℕ) (c : ℕ) → EndsOpen (units cs) → visible (cs ++ c ∷ []) ≡ visible cs
open-takes cs c h =
    let new = Sequence (escape ∷ (h.body ++ c ∷ [])) in
    let tile : flat_map characters (h.front ++ new ∷ []) ≡ cs ++ c ∷ [] =
    grind (arith, units-tile cs, h.are, flat_map-append, append-nil, append_assoc) in
    let same = (units_unique (cs ++ c ∷ []) (h.front ++ new ∷ [])).0
    (tile, units-push h.front new h.whole (longer-unit h.body c h.opens)) in
    grind (arith, same, h.are, flat_map-append)

-- ---- the reader of the characters of a text

state-cases : (s : State) → (s ≡ Text) ⊎ (s ≢ Text)
state-cases _ = search (rules, arith)

-- a letter, which has a column outside of sequences alone
letter-outside : columns_in Text (120 ∷ []) ≡ 1
letter-outside = omega (arith, columns-printable 120 (omega arith, omega arith))

module _ {line : List ℕ} {place : ℕ} {rest : List ℕ} {state : State} {taken : ℕ}
    {after_blank : Bool} (h : IsReadTo line place rest state taken after_blank) where
  pub read-whole : state ≡ Text → HasWholeSequences (take place line)
  read-whole is =
      let cs = chars (take place line) in
      elim (whole-or-open (units cs) (IsInUnits-units cs).1) [
        | inl whole ↦ whole
        | inr opens ↦
            let none = ap (sum_by columns) (open-takes cs 120 opens) in
            absurd (grind (arith, h.columns (120 ∷ []), h.columns [], append-nil cs, none, is, letter-outside))
      ]

  pub whole-read : HasWholeSequences (take place line) → state ≡ Text
  whole-read whole =
      let cs = chars (take place line) in
      elim (state-cases state) [
        | inl is ↦ is
        | inr inside ↦
            let own = ap (columns_in Text) (append-nil cs) in
            let one : columns_in Text (cs ++ 120 ∷ []) ≡ columns_in Text cs + columns_in Text (120 ∷ []) =
            grind (arith, units-append cs (120 ∷ []) whole, flat_map-append, sum_by-append) in
            let no = ap (λ l. sum_by columns (flat_map visible_of l)) (units_in-inside state 120 [] inside) in
            absurd (omega (arith, h.columns (120 ∷ []), h.columns [], own, one, letter-outside, no))
      ]
