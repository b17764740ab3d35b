-- The pieces of a paragraph: its words, of which some keep together.
use Rattle.std.specs.Prelude.{◌≡◌, ℕ, ◌+◌, ◌-◌, ◌≤◌, ◌||◌, Bool, false, not, nat_eq, List, [], ◌∷◌, ◌++◌, length, ⊤}
use Rattle.std.specs.Prelude.{codes, map, string_bytes, if◌then◌else◌, Option, Some, None}
use Rattle.std.specs.Option.{option_map}
use Rattle.std.specs.List.{ends_with, flat_map}
use Rattle.textwrap_text.specs.Blanks.{blank, final_blanks, without_final_blanks}
use Rattle.textwrap_base.specs.Cost.{PricedSizes}
use Rattle.textwrap_words.specs.Words.{WordText, sizes_of}
use Rattle.textwrap_marked_lines.specs.Lines.{LineText}
use Rattle.textwrap_marks.specs.Signs.{may_go_on}
use Rattle.textwrap_marks.specs.declared.options.ReflowOptions.{ReflowOptions}
use Rattle.textwrap_marked.specs.declared.pieces.JoinedWords.{JoinedWords}
use Rattle.textwrap_marked.specs.declared.pieces.JoinedPiece.{JoinedPiece}

-- the words of lines
abbrev pub words_of_lines : List LineText → List (List ℕ)
words_of_lines lines = flat_map (λ l. map (λ w. w.word) l.words) lines

-- a word with the blank behind it
abbrev pub with_blank : List ℕ → List ℕ
with_blank word = word ++ blank ∷ []

abbrev pub onto_front : List ℕ → List (List ℕ) → List (List ℕ)
onto_front front [] = front ∷ []
onto_front front (part ∷ parts) = (front ++ part) ∷ parts

module _ (options : ReflowOptions) (starred : Bool) where
  -- no line ends between these words
  abbrev pub is_kept_together : List ℕ → List ℕ → Bool
  is_kept_together word next =
      ends_with nat_eq word (codes "\\") || not (may_go_on options starred next)

  -- a line may end behind a word, before these
  abbrev pub is_cut : List ℕ → List (List ℕ) → Bool
  is_cut word [] = false
  is_cut word (next ∷ words) = not (is_kept_together word next)

  -- each with the blank behind it: a word, or words that keep together
  abbrev pub pieces : List (List ℕ) → List (List ℕ)
  pieces [] = []
  pieces (word ∷ words) =
      if is_cut word words then with_blank word ∷ pieces words
      else onto_front (with_blank word) (pieces words)

  -- where the text of the words, each with a blank behind it, may be cut, if it begins at a place
  abbrev pub cuts_from : ℕ → List (List ℕ) → List ℕ
  cuts_from at [] = []
  cuts_from at (word ∷ words) =
      let end = at + length (with_blank word) in
      if is_cut word words then end ∷ cuts_from end words else cuts_from end words

-- ---- words that are joined

-- the text of words, where it may be cut, and the last of them
pub record Joined : Type 0 where
  pub text : List ℕ
  pub cuts : List ℕ
  pub last : Option (List ℕ)

abbrev pub joined_view : JoinedWords → Joined
joined_view joined = record {
  text = string_bytes joined.text;
  cuts = joined.cuts.items;
  last = option_map (λ w. w.now) joined.last;
}

-- a line may end here or not
abbrev pub with_cut : Bool → Joined → Joined
with_cut is joined =
    record joined { cuts = if is then joined.cuts ++ length joined.text ∷ [] else joined.cuts }

module _ (options : ReflowOptions) (starred : Bool) where
  -- a line may end behind a word, if there is one, before the next
  abbrev pub is_cut_behind : Option (List ℕ) → List ℕ → Bool
  is_cut_behind None next = false
  is_cut_behind (Some word) next = not (is_kept_together options starred word next)

  -- one word more
  abbrev pub with_next : Joined → List ℕ → Joined
  with_next joined word =
      let cut = with_cut (is_cut_behind joined.last word) joined in
      record { text = joined.text ++ with_blank word; cuts = cut.cuts; last = Some word }

  -- they are the words, joined
  pub record IsJoined (words : List (List ℕ)) (joined : Joined) : Type 0 where
    pub text : joined.text ≡ flat_map with_blank words
    pub cuts : joined.cuts ≡ cuts_from options starred 0 words

  -- where a text may be cut behind a word at a place, if there is one, before these
  abbrev pub cuts_behind : Option (List ℕ) → ℕ → List (List ℕ) → List ℕ
  cuts_behind None at words = cuts_from options starred at words
  cuts_behind (Some word) at words =
      (if is_cut options starred word words then at ∷ [] else []) ++ cuts_from options starred at words

  -- the text of joined words and of these, and where it may be cut
  abbrev pub with_words : Joined → List (List ℕ) → List ℕ × List ℕ
  with_words joined words = (
    joined.text ++ flat_map with_blank words,
    joined.cuts ++ cuts_behind joined.last (length joined.text) words,
  )

-- ---- pieces that are divided into lines

-- a piece by its bytes, and its columns
abbrev pub piece_view : JoinedPiece → WordText
piece_view p = record {
  word = without_final_blanks p.text.now;
  whitespace = final_blanks p.text.now;
  penalty = [];
  width = p.closes - p.opens;
}

-- a line costs no more for ending with it
abbrev pub piece_priced : JoinedPiece → PricedSizes
piece_priced p = record { sizes = sizes_of (piece_view p); break_penalty = 0 }

-- each opens behind the one before it, the first behind so many columns
abbrev pub AreInRow : ℕ → List JoinedPiece → Type 0
AreInRow opens [] = ⊤
AreInRow opens (p ∷ pieces) =
    (p.opens ≡ opens) × (opens ≤ p.closes)
    × AreInRow (p.closes + length (final_blanks p.text.now)) pieces
