-- The words of a line that is cut at offsets of its visible text.
use Rattle.std.specs.Prelude.{◌≡◌, ℕ, ◌+◌, ◌<◌, ◌↔◌, Bool, false, not, ◌==◌, ◌&&◌, ◌||◌}
use Rattle.std.specs.Prelude.{nat_lt, List, [], ◌∷◌, ◌++◌, length, map, filter}
use Rattle.std.specs.Prelude.{chars, encode_utf8, encode_utf8_all}
use Rattle.std.specs.List.{flat_map, list_any, Contains}
use Rattle.std.specs.List.Sorted.{IsStrictlyIncreasing}
use Rattle.textwrap_words.specs.Breaking.{units_text}
use Rattle.textwrap_text.specs.Units.{TextUnit, Visible, Sequence, units, visible_of, stripped}
use Rattle.textwrap_words.specs.Words.{WordText, word_of}
use Rattle.textwrap_words.specs.Cuts.{parts_between}
use Rattle.textwrap_words.specs.WordSplitters.{hyphen}

-- ---- where the line is cut

abbrev pub soft_hyphen : ℕ
soft_hyphen = 0xAD

-- a character after which a word splitter may split, and the line is never cut
abbrev pub is_any_hyphen : ℕ → Bool
is_any_hyphen c = (c == hyphen) || (c == soft_hyphen)

-- the bytes of the visible characters among units
abbrev pub shown_len : List TextUnit → ℕ
shown_len us = length (encode_utf8_all (flat_map visible_of us))

-- a cut stands directly after a visible character that is no hyphen, if the visible text up to
-- there is as long as one of the offsets says, and is not the whole
pub record IsCutAt (offsets line : List ℕ) (cut : ℕ) : Type 0 where
  pub before : List TextUnit
  pub character : ℕ
  pub after : List TextUnit
  pub divided : units (chars line) ≡ (before ++ Visible character ∷ []) ++ after
  pub place : cut ≡ length (units_text (before ++ Visible character ∷ []))
  pub unhyphened : is_any_hyphen character ≡ false
  pub given : Contains offsets (shown_len (before ++ Visible character ∷ []))
  pub inside : shown_len (before ++ Visible character ∷ []) < length (stripped line)

-- these are all the cuts of the line, in order
pub record AreCutsAt (offsets line cuts : List ℕ) : Type 0 where
  pub in_order : IsStrictlyIncreasing cuts
  pub all : (cut : ℕ) → Contains cuts cut ↔ IsCutAt offsets line cut

-- the words of a line are its parts between the cuts, each taken as a word
abbrev pub AreWordsAt : List ℕ → List ℕ → List WordText → Type 0
AreWordsAt offsets line words = (cuts : List ℕ) × AreCutsAt offsets line cuts
    × (words ≡ map word_of (parts_between cuts line))

-- ---- the same, computed

-- where a visible character ends: in the line, and in the visible text
pub record VisibleEnd : Type 0 where
  pub character : ℕ
  pub end : ℕ
  pub shown : ℕ

-- the ends of the visible characters among units, of which the first begins at these two places
abbrev pub ends_from : ℕ → ℕ → List TextUnit → List VisibleEnd
ends_from at shown [] = []
ends_from at shown (Visible c ∷ us) =
    let len = length (encode_utf8 c) in
    record { character = c; end = at + len; shown = shown + len }
    ∷ ends_from (at + len) (shown + len) us
ends_from at shown (Sequence cs ∷ us) = ends_from (at + length (encode_utf8_all cs)) shown us

-- the line is cut after this character, which ends after `shown` of `total` bytes of visible text
abbrev pub is_cut_after : List ℕ → ℕ → ℕ → ℕ → Bool
is_cut_after offsets total c shown =
    not (is_any_hyphen c) && nat_lt shown total && list_any (λ offset. offset == shown) offsets

-- the ends of those characters
abbrev pub cuts_among : List ℕ → ℕ → List VisibleEnd → List ℕ
cuts_among offsets total ends =
    map (λ e. e.end) (filter (λ e. is_cut_after offsets total e.character e.shown) ends)

abbrev pub cuts_at : List ℕ → List ℕ → List ℕ
cuts_at offsets line =
    cuts_among offsets (length (stripped line)) (ends_from 0 0 (units (chars line)))

abbrev pub words_at : List ℕ → List ℕ → List WordText
words_at offsets line = map word_of (parts_between (cuts_at offsets line) line)
