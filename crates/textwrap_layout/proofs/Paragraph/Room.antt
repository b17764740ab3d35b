-- The pieces of words that are broken where their penalties are to have room, too.
use Rattle.textwrap_text.proofs.Common.{All-cons, All-head, All-nil, All-tail, append-nil}
use Rattle.textwrap_text.proofs.Common.{All, Bool, IsUtf8, List, arith, cond, false, length, refl}
use Rattle.textwrap_text.proofs.Common.{rules, ◌∙◌}
use Rattle.textwrap_text.proofs.Common.{subst, true, ltb, ℕ, ⊤, ◌+◌, ◌-◌, ◌++◌, ◌<◌, ◌∷◌, ◌≡◌}
use Rattle.textwrap_text.proofs.Common.{◌≢◌, ◌≤◌, [], ap}
use Rattle.textwrap_layout.proofs.Common.{HasNoPenalty, IsMeasured, Settings, WordText, broken_pieces}
use Rattle.textwrap_layout.proofs.Common.{broken_word, broken_words, empty_word, later_width, tile_of}
use Rattle.textwrap_layout.proofs.Common.{fitting_pieces, room_of, tiled, tiled-append}
use Rattle.textwrap_words.proofs.Common.{broken_texts, column_characters}
use Rattle.textwrap_words.proofs.Word.BrokenPieces.{IsTight, broken_words-measured, broken_words-tight}
use Rattle.textwrap_words.proofs.Word.BrokenPieces.{pieces_with-all, tiled-broken_words}
use Rattle.textwrap_words.proofs.Word.Words.{All-each, text_width-nil}

-- ---- the pieces of one word

one-measured : (limit : ℕ) (w : WordText) → IsMeasured w → All IsMeasured (broken_word limit w)
one-measured limit w measured =
    subst (All IsMeasured) (append-nil (broken_word limit w)) (broken_words-measured limit (w ∷ [])
    (All-cons IsMeasured w [] measured (All-nil IsMeasured)))

one-tight : (limit : ℕ) (w : WordText) → IsMeasured w → All (IsTight limit) (broken_word limit w)
one-tight limit w measured =
    subst (All (IsTight limit)) (append-nil (broken_word limit w)) (broken_words-tight limit (w ∷ [])
    (All-cons IsMeasured w [] measured (All-nil IsMeasured)))

pub wide-some : (limit : ℕ) (w : WordText) → IsMeasured w → limit < w.width → w.word ≢ []
wide-some limit w measured wide none = search (rules, text_width-nil)

one-tile : (limit : ℕ) (w : WordText) → IsMeasured w → tiled (broken_word limit w) ≡ tile_of w
one-tile limit w measured =
    rw (append-nil (broken_word limit w), append-nil (tile_of w)) at (tiled-broken_words limit (w ∷ [])
    (All-cons (λ v. IsUtf8 v.word) w [] measured.utf8 (All-nil (λ v. IsUtf8 v.word)))
    (All-cons (λ v. limit < v.width → v.word ≢ []) w [] (wide-some limit w measured)
    (All-nil (λ v. limit < v.width → v.word ≢ []))))

-- none has a longer penalty
one-penalty : (limit : ℕ) (w : WordText) (b : Bool) → All (λ v. length v.penalty ≤ length w.penalty)
    (cond b (broken_pieces limit w) (w ∷ []))
one-penalty limit w true =
    pieces_with-all (λ v. length v.penalty ≤ length w.penalty) (λ _. ⊤) w.whitespace w.penalty
    (λ _ _. omega arith) (λ _ _. omega arith) (broken_texts limit w.word) (λ k d lt. tt)
one-penalty limit w false =
    All-cons (λ v. length v.penalty ≤ length w.penalty) w [] (omega arith)
    (All-nil (λ v. length v.penalty ≤ length w.penalty))

-- ---- a piece that closes past a limit has one character that takes columns

abbrev pub ClosesIn : ℕ → WordText → Type 0
ClosesIn limit w = limit < w.width + length w.penalty → length (column_characters w.word) ≡ 1

pub front-closes : (limit : ℕ) (b : Bool) → All (ClosesIn limit) (cond b [] (empty_word ∷ []))
front-closes limit true = All-nil (ClosesIn limit)
front-closes limit false = grind (arith, All-cons, All-nil)

-- where the limit leaves room for its penalty
one-closes : (limit : ℕ) (w : WordText) → IsMeasured w → length w.penalty ≤ limit
    → All (ClosesIn limit) (broken_word (limit - length w.penalty) w)
one-closes limit w measured room =
    let less = limit - length w.penalty in
    let tight = one-tight less w measured in
    let short = one-penalty less w (ltb less w.width) in
    λ k d lt past. tight k d lt (omega (arith, past, room, short k d lt))

-- ---- the pieces of words

module _ (settings : Settings) where
  pub fitting-measured : (split : List WordText) → All IsMeasured split
      → All IsMeasured (fitting_pieces settings split)
  fitting-measured = All-each IsMeasured IsMeasured (λ w. broken_word (room_of settings w) w)
      (λ w. one-measured (room_of settings w) w)

  pub fitting-tile : (split : List WordText) → All IsMeasured split
      → tiled (fitting_pieces settings split) ≡ tiled split
  fitting-tile [] measured = refl
  fitting-tile (w ∷ words) measured =
      let room = room_of settings w in
      rw (
        tiled-append (broken_word room w) (fitting_pieces settings words),
        one-tile room w (All-head IsMeasured w words measured),
        fitting-tile words (All-tail IsMeasured w words measured),
      ) refl

  room-within : (w : WordText) → room_of settings w ≤ later_width settings
  room-within w =
      elim settings.room_for_hyphens as (λ b. cond b (later_width settings - length w.penalty)
      (later_width settings) ≤ later_width settings) [
        | true ↦ omega arith
        | false ↦ omega arith
      ]

  pub fitting-tight : (split : List WordText) → All IsMeasured split
      → All (IsTight (later_width settings)) (fitting_pieces settings split)
  fitting-tight = All-each IsMeasured (IsTight (later_width settings))
      (λ w. broken_word (room_of settings w) w)
      (λ w measured k d lt past. one-tight (room_of settings w) w measured k d lt
      (omega (arith, past, room-within w)))

  -- without penalties they are broken at the width of a later line
  room-plain : (w : WordText) → HasNoPenalty w → room_of settings w ≡ later_width settings
  room-plain w none =
      elim settings.room_for_hyphens as (λ b. cond b (later_width settings - length w.penalty)
      (later_width settings) ≡ later_width settings) [
        | true ↦ omega (arith, ap length none)
        | false ↦ refl
      ]

  pub fitting-plain : (split : List WordText) → All HasNoPenalty split
      → fitting_pieces settings split ≡ broken_words (later_width settings) split
  fitting-plain [] none = refl
  fitting-plain (w ∷ words) none =
      ap (λ limit. broken_word limit w ++ fitting_pieces settings words)
      (room-plain w (All-head HasNoPenalty w words none))
      ∙ ap (λ ws. broken_word (later_width settings) w ++ ws)
      (fitting-plain words (All-tail HasNoPenalty w words none))

  -- without penalties they close within the width of a later line
  pub fitting-closes_plain : (split : List WordText) → All IsMeasured split → All HasNoPenalty split
      → All (ClosesIn (later_width settings)) (fitting_pieces settings split)
  fitting-closes_plain split measured none =
      All-each (λ w. IsMeasured w × HasNoPenalty w) (ClosesIn (later_width settings))
      (λ w. broken_word (room_of settings w) w) each split (λ k d lt. (measured k d lt, none k d lt))
    where
      each : (w : WordText) → IsMeasured w × HasNoPenalty w
          → All (ClosesIn (later_width settings)) (broken_word (room_of settings w) w)
      each w (m, n) =
          let later = later_width settings in
          let none : length w.penalty ≡ 0 = ap length n in
          let same : later - length w.penalty ≡ room_of settings w =
          omega (arith, none, room-plain w n) in
          subst (λ room. All (ClosesIn later) (broken_word room w)) same
          (one-closes later w m (omega (arith, none)))

  -- and with them where these are to have room, if a later line has it
  pub fitting-closes : settings.room_for_hyphens ≡ true → (split : List WordText)
      → All IsMeasured split → All (λ w. length w.penalty ≤ later_width settings) split
      → All (ClosesIn (later_width settings)) (fitting_pieces settings split)
  fitting-closes asked split measured narrow =
      let later = later_width settings in
      rw asked (All-each (λ w. IsMeasured w × (length w.penalty ≤ later)) (ClosesIn later)
      (λ w. broken_word (later - length w.penalty) w) (λ w (m, n). one-closes later w m n) split
      (λ k d lt. (measured k d lt, narrow k d lt)))
