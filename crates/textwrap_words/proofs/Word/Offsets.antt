-- Offsets of the visible text of a line, and the cuts of the line there.
use Rattle.textwrap_text.{proofs.Common.characters, specs.declared.characters.Character.Character}
use Rattle.textwrap_text.proofs.{Common.zero-add, Units.Reading.taken-step, Units.Reading.units_in}
use Rattle.textwrap_text.proofs.{Common.units, Units.Characters.shown-all, Units.Texts.units-tile}
use Rattle.textwrap_text.proofs.Common.{All-weaker, cases_Bool, encode_utf8_all, eqb, taken_in, ◌∙◌}
use Rattle.textwrap_text.proofs.Common.{false, inr, length, length-append, map, take, ◌+◌, ◌<◌, ◌∷◌}
use Rattle.textwrap_text.proofs.Common.{encodes-chars, flat_map, refl, rules, stripped, subst, true}
use Rattle.textwrap_text.proofs.Common.{flat_map-append, IsCharBoundary, Sequence, sym, Visible, ℕ}
use Rattle.textwrap_text.proofs.Common.{Contains, escape_len, IsUtf8, next_of, TextUnit, units_past}
use Rattle.textwrap_text.proofs.Common.{add-zero, arith, Bool, cond, inl, List, lt-ltb, shows, ◌++◌}
use Rattle.textwrap_text.proofs.Common.{[], ap, append_assoc, encodes-append, ◌↔◌, ◌≡◌, ◌≢◌, ◌≤◌}
use Rattle.textwrap_text.proofs.Lists.Elements.{contains-cases, contains-nil, increasing-rising}
use Rattle.textwrap_text.proofs.Lists.Elements.{any-contains, contains-any, same-members}
use Rattle.textwrap_text.proofs.Lists.Elements.{contains-here, contains-later, rising-in_order}
use Rattle.textwrap_text.proofs.Units.Characters.{ahead-next, ahead-start, AreAhead, shown-next}
use Rattle.textwrap_text.specs.Characters.{characters_from, characters_of, shown_text}
use Rattle.textwrap_text.specs.declared.escapes.State.TheVariants.{Command, Control, Escape, Text}
use Rattle.std.proofs.lemmas.List.Elements.{All-contains_itself}
use Rattle.std.specs.{List.Sorted.IsStrictlyIncreasing, Prelude.◌&&◌, Str.chars}
use Rattle.textwrap_words.proofs.Common.{AreNext, cuts_at, parts_between, State, utf8-back, word_of}
use Rattle.textwrap_words.proofs.Common.{ends_from, IsCharBoundary-at_seam, one-text, past-one}
use Rattle.textwrap_words.proofs.Common.{cuts_among, is_cut_after, IsNextCut, not_from_false}
use Rattle.textwrap_words.proofs.Common.{shown_len, some-bytes, units_text, VisibleEnd, WordText}
use Rattle.textwrap_words.proofs.Word.Cuts.{next-increasing, next-with}
use Rattle.textwrap_words.specs.Cuts.{AreInnerCuts}
use Rattle.textwrap_words.specs.WordOffsets.{AreCutsAt, AreWordsAt, IsCutAt, words_at}
use lib.Utf8.{encode}

-- ---- where the visible characters of a line end

-- where a character ends that begins at these places
abbrev pub end_of : ℕ → ℕ → ℕ → VisibleEnd
end_of at shown c =
    record { character = c; end = at + length (encode c); shown = shown + length (encode c) }

-- the units are those that the state has begun, which are no longer visible, and those after them
abbrev pub ends_in : State → ℕ → ℕ → List ℕ → List VisibleEnd
ends_in s at shown cs =
    ends_from (at + length (encode_utf8_all (take (taken_in s cs) cs))) shown (units_in s cs)

-- the ends from one more character on, if it is visible or not
abbrev pub ends_past : State × Bool → ℕ → ℕ → ℕ → List ℕ → List VisibleEnd
ends_past (next, flag) at shown c cs =
    cond flag (end_of at shown c ∷ ends_in next (at + length (encode c))
    (shown + length (encode c)) cs) (ends_in next (at + length (encode c)) shown cs)

ends-inside : (s : State) (at shown c : ℕ) (cs : List ℕ) → s ≢ Text
    → ends_in s at shown (c ∷ cs) ≡ ends_in (next_of s c) (at + length (encode c)) shown cs
ends-inside s at shown c cs inside = search (taken-step, past-one)

pub ends-step : (s : State) (at shown c : ℕ) (cs : List ℕ)
    → ends_in s at shown (c ∷ cs) ≡ ends_past (next_of s c, shows s c) at shown c cs
ends-step Text at shown c cs = elim (cases_Bool (eqb c 27)) [
  | inl t ↦ rw (add-zero at, t) (ap (λ n. ends_from n shown (units_past (escape_len cs) cs))
      (past-one at c (take (escape_len cs) cs)))
  | inr f ↦ rw (add-zero at, f, add-zero (at + length (encode c))) refl
]
ends-step Escape at shown c cs = ends-inside Escape at shown c cs (λ e. cc)
ends-step Control at shown c cs = ends-inside Control at shown c cs (λ e. cc)
ends-step (Command last) at shown c cs = ends-inside (Command last) at shown c cs (λ e. cc)

-- ---- the cuts that a walk along a line finds are those at the offsets

-- a cut among units, of which the first begins at these places
pub record IsFound (offsets : List ℕ) (total at shown : ℕ) (us : List TextUnit) (cut : ℕ) : Type 0 where
  pub before : List TextUnit
  pub character : ℕ
  pub after : List TextUnit
  pub divided : us ≡ (before ++ Visible character ∷ []) ++ after
  pub place : cut ≡ at + length (units_text (before ++ Visible character ∷ []))
  pub passes : is_cut_after offsets total character (shown + shown_len (before ++ Visible character ∷ []))
      ≡ true

found-visible : (offsets : List ℕ) (total at shown c : ℕ) (us : List TextUnit) (cut : ℕ)
    → IsFound offsets total (at + length (encode c)) (shown + length (encode c)) us cut
    → IsFound offsets total at shown (Visible c ∷ us) cut
found-visible offsets total at shown c us cut f =
    let front = f.before ++ Visible f.character ∷ [] in
    let further : shown + shown_len (Visible c ∷ front)
    ≡ (shown + length (encode c)) + shown_len front = omega (arith, length-append {A = ℕ}) in
    record {
      before = Visible c ∷ f.before;
      character = f.character;
      after = f.after;
      divided = ap (λ vs. Visible c ∷ vs) f.divided;
      place = omega (arith, f.place, length-append (encode c) (units_text front));
      passes = ap (is_cut_after offsets total f.character) further ∙ f.passes;
    }

found-sequence : (offsets : List ℕ) (total at shown : ℕ) (cs : List ℕ) (us : List TextUnit)
    (cut : ℕ) → IsFound offsets total (at + length (encode_utf8_all cs)) shown us cut
    → IsFound offsets total at shown (Sequence cs ∷ us) cut
found-sequence offsets total at shown cs us cut f =
    let front = f.before ++ Visible f.character ∷ [] in
    let text = ap length (encodes-append cs (flat_map characters front)) in
    record {
      before = Sequence cs ∷ f.before;
      character = f.character;
      after = f.after;
      divided = ap (λ vs. Sequence cs ∷ vs) f.divided;
      place = omega (arith, f.place, text, length-append {A = ℕ});
      passes = f.passes;
    }

pub contains-found : (offsets : List ℕ) (total : ℕ) (us : List TextUnit) (at shown cut : ℕ)
    → Contains (cuts_among offsets total (ends_from at shown us)) cut
    → IsFound offsets total at shown us cut
contains-found offsets total [] at shown cut h = absurd (contains-nil cut h)
contains-found offsets total (Sequence cs ∷ us) at shown cut h =
    found-sequence offsets total at shown cs us cut
    (contains-found offsets total us (at + length (encode_utf8_all cs)) shown cut h)
contains-found offsets total (Visible c ∷ us) at shown cut h =
    let len = length (encode c) in
    let later = λ (g : Contains (cuts_among offsets total (ends_from (at + len) (shown + len) us)) cut).
    found-visible offsets total at shown c us cut
    (contains-found offsets total us (at + len) (shown + len) cut g) in
    elim (cases_Bool (is_cut_after offsets total c (shown + len))) [
      | inl t ↦ elim (contains-cases (at + len) cut
          (cuts_among offsets total (ends_from (at + len) (shown + len) us)) (rw t at h)) [
            | inl e ↦ record {
              before = [];
              character = c;
              after = us;
              divided = refl;
              place = omega (arith, e, one-text c);
              passes = ap (λ n. is_cut_after offsets total c (shown + n)) (one-text c) ∙ t;
            }
            | inr g ↦ later g
          ]
      | inr f ↦ later (rw f at h)
    ]

among-more : (offsets : List ℕ) (total : ℕ) (e : VisibleEnd) (ends : List VisibleEnd) (cut : ℕ)
    → Contains (cuts_among offsets total ends) cut
    → Contains (cuts_among offsets total (e ∷ ends)) cut
among-more offsets total e ends cut h =
    elim (cases_Bool (is_cut_after offsets total e.character e.shown)) [
      | inl t ↦ rw t (contains-later e.end cut (cuts_among offsets total ends) h)
      | inr f ↦ rw f h
    ]

pub found-contains : (offsets : List ℕ) (total : ℕ) (before after : List TextUnit) (c at shown : ℕ)
    → is_cut_after offsets total c (shown + shown_len (before ++ Visible c ∷ [])) ≡ true
    → Contains (cuts_among offsets total (ends_from at shown ((before ++ Visible c ∷ []) ++ after)))
    (at + length (units_text (before ++ Visible c ∷ [])))
found-contains offsets total [] after c at shown passes = grind (arith, one-text, contains-here)
found-contains offsets total (Visible d ∷ before) after c at shown passes =
    let len = length (encode d) in
    let front = before ++ Visible c ∷ [] in
    let place : (at + len) + length (units_text front) ≡ at + length (units_text (Visible d ∷ front)) =
    omega (arith, length-append {A = ℕ}) in
    let further : (shown + len) + shown_len front ≡ shown + shown_len (Visible d ∷ front) =
    omega (arith, length-append {A = ℕ}) in
    among-more offsets total (record { character = d; end = at + len; shown = shown + len })
    (ends_from (at + len) (shown + len) (front ++ after))
    (at + length (units_text (Visible d ∷ front)))
    (subst (Contains (cuts_among offsets total (ends_from (at + len) (shown + len)
    (front ++ after)))) place
    (found-contains offsets total before after c (at + len) (shown + len)
    (ap (is_cut_after offsets total c) further ∙ passes)))
found-contains offsets total (Sequence cs ∷ before) after c at shown passes =
    let len = length (encode_utf8_all cs) in
    let again = found-contains offsets total before after c (at + len) shown passes in
    grind (arith, encodes-append, length-append)

-- ---- the computed cuts are the cuts

-- they are in order
among-next : (offsets : List ℕ) (total : ℕ) (us : List TextUnit) (at shown last : ℕ) → last ≤ at
    → AreNext (λ a b. a < b) (cuts_among offsets total (ends_from at shown us)) last
among-next offsets total [] at shown last below = tt
among-next offsets total (Sequence cs ∷ us) at shown last below =
    among-next offsets total us (at + length (encode_utf8_all cs)) shown last (omega (arith, below))
among-next offsets total (Visible c ∷ us) at shown last below =
    let end = at + length (encode c) in
    let above : last < end = omega (arith, below, some-bytes c) in
    let rest = among-next offsets total us end (shown + length (encode c)) in
    search (rules, arith, cases_Bool)

pub cut-found : (offsets line : List ℕ) (cut : ℕ) → Contains (cuts_at offsets line) cut
    → IsCutAt offsets line cut
cut-found offsets line cut h =
    let f = contains-found offsets (length (stripped line)) (units (chars line)) 0 0 cut h in
    grind (arith, any-contains)

cut-contained : (offsets line : List ℕ) (cut : ℕ) → IsCutAt offsets line cut
    → Contains (cuts_at offsets line) cut
cut-contained offsets line cut h =
    let total = length (stripped line) in
    let front = h.before ++ Visible h.character ∷ [] in
    let passes : is_cut_after offsets total h.character (0 + shown_len front) ≡ true =
    search (zero-add, not_from_false, lt-ltb, contains-any) in
    let place : 0 + length (units_text front) ≡ cut = grind (arith, zero-add) in
    subst (λ us. Contains (cuts_among offsets total (ends_from 0 0 us)) cut) (sym h.divided)
    (subst (Contains (cuts_among offsets total (ends_from 0 0 (front ++ h.after)))) place
    (found-contains offsets total h.before h.after h.character 0 0 passes))

cuts_at-next : (offsets line : List ℕ) → AreNext (λ a b. a < b) (cuts_at offsets line) 0
cuts_at-next offsets line = search (rules, arith, among-next)

cuts-increasing : (cuts : List ℕ) (last : ℕ) → AreNext (λ a b. a < b) cuts last
    → IsStrictlyIncreasing cuts
cuts-increasing [] last are = λ k within. absurd (omega arith)
cuts-increasing (cut ∷ cuts) last (_, rest) = search (rules, arith, next-increasing)

pub cuts_at-cuts : (offsets line : List ℕ) → AreCutsAt offsets line (cuts_at offsets line)
cuts_at-cuts offsets line = record {
  in_order = cuts-increasing (cuts_at offsets line) 0 (cuts_at-next offsets line);
  all = λ cut. (cut-found offsets line cut, cut-contained offsets line cut);
}

-- ---- and there are no others

cuts-unique : (offsets line cuts : List ℕ) → AreCutsAt offsets line cuts
    → cuts ≡ cuts_at offsets line
cuts-unique offsets line cuts h =
    let order = λ (ns : List ℕ) (up : IsStrictlyIncreasing ns). rising-in_order ns (increasing-rising ns up) in
    same-members (λ cut. cut) cuts (cuts_at offsets line) (order cuts h.in_order)
    (order (cuts_at offsets line) (cuts_at-cuts offsets line).in_order)
    (λ cut in_cuts. cut-contained offsets line cut ((h.all cut).0 in_cuts))
    (λ cut found. (h.all cut).1 (cut-found offsets line cut found))

pub words_at-unique : (offsets line : List ℕ) (words : List WordText)
    → AreWordsAt offsets line words ↔ (words ≡ words_at offsets line)
words_at-unique offsets line words = (
  λ h. h.2 ∙ ap (λ cuts. map word_of (parts_between cuts line)) (cuts-unique offsets line h.0 h.1),
  λ e. (cuts_at offsets line, cuts_at-cuts offsets line, e),
)

-- ---- a line may be cut at the offsets of its visible text

shown-short : (us : List TextUnit) → shown_len us ≤ length (units_text us)
shown-short [] = omega arith
shown-short (Visible c ∷ us) = omega (arith, shown-short us, length-append {A = ℕ})
shown-short (Sequence cs ∷ us) = grind (arith, encodes-append, length-append, shown-short us)

cut-inside : (offsets line : List ℕ) (cut : ℕ) → IsUtf8 line → IsCutAt offsets line cut
    → (cut < length line) × IsCharBoundary line cut
cut-inside offsets line cut utf8 h =
    let front = h.before ++ Visible h.character ∷ [] in
    let chars_are : chars line ≡ flat_map characters front ++ flat_map characters h.after =
    sym (units-tile (chars line)) ∙ ap (flat_map characters) h.divided
    ∙ flat_map-append characters front h.after in
    let whole : line ≡ encode_utf8_all (flat_map characters front ++ flat_map characters h.after) =
    sym (encodes-chars line utf8) ∙ ap encode_utf8_all chars_are in
    let back : IsUtf8 (units_text h.after) =
    utf8-back (flat_map characters front) (flat_map characters h.after) (subst IsUtf8 whole utf8) in
    search (
      rules,
      flat_map-append,
      encodes-append,
      length-append,
      shown-short,
      IsCharBoundary-at_seam,
    )

pub cuts_at-AreInnerCuts : (offsets line : List ℕ) → IsUtf8 line
    → AreInnerCuts line (cuts_at offsets line)
cuts_at-AreInnerCuts offsets line utf8 =
    let cuts = cuts_at offsets line in
    let IsInside = λ (cut : ℕ). (cut < length line) × IsCharBoundary line cut in
    next-with (λ a b. a < b) (IsNextCut line) IsInside (λ last cut above (inside, at). (above, inside, at)) cuts 0
    (cuts_at-next offsets line)
    (All-weaker (Contains cuts) IsInside
    (λ cut h. cut-inside offsets line cut utf8 (cut-found offsets line cut h)) cuts
    (All-contains_itself cuts))

-- ---- the cuts

-- where the visible ones among characters end, of which the first begins after so many bytes of
-- the visible text
abbrev pub ends_among : ℕ → List Character → List VisibleEnd
ends_among shown [] = []
ends_among shown (c ∷ cs) =
    cond c.is_visible (end_of c.at shown c.ch ∷ ends_among (shown + length (encode c.ch)) cs)
    (ends_among shown cs)

ends-among : (s : State) (at shown : ℕ) (cs : List ℕ)
    → ends_among shown (characters_from s at cs) ≡ ends_in s at shown cs
ends-among s at shown [] = refl
ends-among s at shown (c ∷ cs) =
    let len = length (encode c) in
    elim (cases_Bool (shows s c)) [
      | inl t ↦ grind (arith, ends-step, ends-among (next_of s c) (at + len) (shown + len) cs)
      | inr f ↦ grind (arith, ends-step, ends-among (next_of s c) (at + len) shown cs)
    ]

-- the cuts so far, and those among the ends from this character on
cuts-next : (offsets : List ℕ) (total shown : ℕ) (c : Character) (left : List Character)
    (cuts : List ℕ) (visible passes : Bool) → c.is_visible ≡ visible
    → is_cut_after offsets total c.ch (shown + length (encode c.ch)) ≡ passes
    → cond (visible && passes) (cuts ++ (c.at + length (encode c.ch)) ∷ []) cuts
    ++ cuts_among offsets total (ends_among (cond visible (shown + length (encode c.ch)) shown) left)
    ≡ cuts ++ cuts_among offsets total (ends_among shown (c ∷ left))
cuts-next offsets total shown c left cuts true true see is = grind (arith, append_assoc)
cuts-next offsets total shown c left cuts true false see is = rw (see, is) refl
cuts-next offsets total shown c left cuts false passes see is = rw see refl

-- the visible bytes so far and those of the characters to come are all, and so are the cuts
pub record IsFinding (offsets line : List ℕ) (left : List Character) (shown : ℕ) (cuts : List ℕ)
    : Type 0 where
  pub ahead : AreAhead line left
  pub bytes : shown + length (shown_text left) ≡ length (stripped line)
  pub found : cuts ++ cuts_among offsets (length (stripped line)) (ends_among shown left)
      ≡ cuts_at offsets line

module _ (offsets line : List ℕ) where
  pub IsFinding-start : IsUtf8 line → IsFinding offsets line (characters_of line) 0 []
  IsFinding-start utf8 = grind (arith, ahead-start, shown-all, ends-among)

  -- a character is read: the cut after it is found, if there is one
  pub IsFinding-step : (c : Character) (left : List Character) (shown : ℕ) (cuts : List ℕ)
      (visible passes : Bool) → IsFinding offsets line (c ∷ left) shown cuts
      → c.is_visible ≡ visible
      → is_cut_after offsets (length (stripped line)) c.ch (shown + length (encode c.ch)) ≡ passes
      → IsFinding offsets line left (cond visible (shown + length (encode c.ch)) shown)
      (cond (visible && passes) (cuts ++ (c.at + length (encode c.ch)) ∷ []) cuts)
  IsFinding-step c left shown cuts visible passes h see is =
      grind (arith, ahead-next, cases_Bool, shown-next, cuts-next)
