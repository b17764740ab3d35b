-- How many pieces and lines a paragraph and a text have at most.
use Rattle.std.{proofs.Common.chars, proofs.lemmas.Str.length-le-encodes, specs.List.slice_range}
use Rattle.textwrap.proofs.Common.{chars, ending_bytes-some}
use Rattle.textwrap_base.proofs.Division.Map.{IsDividedBy-whole}
use Rattle.textwrap_hyphens.specs.{Splitting.is_split_point, Table.held}
use Rattle.textwrap_layout.proofs.Common.{IsDivision, AreWordsCut, broken_pieces_of, covered_by}
use Rattle.textwrap_layout.proofs.Common.{empty_word, fitting_pieces, front_pieces, room_of}
use Rattle.textwrap_layout.proofs.Paragraph.Pieces.{AreWordsCut-texts}
use Rattle.textwrap_layout.proofs.Text.Paragraphs.{join-paragraphs_of}
use Rattle.textwrap_lines.proofs.Common.{None, Some, AreGroups, AreParagraphParts, AreTextLines, Line}
use Rattle.textwrap_lines.proofs.Common.{LineParts, Settings, is_whole, line_from, parts_from}
use Rattle.textwrap_lines.proofs.Common.{widths_of, laid_out-cases, pieces-tile, paragraphs_of-utf8}
use Rattle.textwrap_lines.proofs.Common.{All, All-cons, All-head, All-nil, All-tail, All-weaker, Bool}
use Rattle.textwrap_lines.proofs.Common.{IsUtf8, List, [], ap, arith, cases_Bool, cond, drop}
use Rattle.textwrap_lines.proofs.Common.{ending_bytes, false, flat_map, inl, inr, join_with, length}
use Rattle.textwrap_lines.proofs.Common.{length-append, length-drop, length-map, map, nat_lt}
use Rattle.textwrap_lines.proofs.Common.{paragraphs_of, refl, slice_range, subst, suc, sym, true}
use Rattle.textwrap_lines.proofs.Common.{zero, ℕ, ◌++◌, ◌+◌, ◌-◌, ◌<◌, ◌||◌, ◌∙◌, ◌∷◌, ◌≡◌, ◌≢◌, ◌≤◌}
use Rattle.textwrap_lines.proofs.Common.{flat, length-slice, Algorithm, ByFirstFit, ByOptimalFit}
use Rattle.textwrap_lines.proofs.Common.{IsDividedBy, WordText, broken_word, sizes_of, tile_of, tiled}
use Rattle.textwrap_lines.proofs.Common.{word_of, AreTexts, IsMeasured, AreCuts, piece}
use Rattle.textwrap_lines.proofs.Paragraph.KeepsTo.{parts_from-pieces}
use Rattle.textwrap_lines.proofs.Text.Groups.{groups-map, groups-tile}
use Rattle.textwrap_plain.proofs.Split.{AreAt, pieces-from, split-computed}
use Rattle.textwrap_plain.specs.Options.{DividesFrom, points_by, split_by_points}
use Rattle.textwrap_plain.specs.declared.options.PlainSplitter.{PlainSplitter}
use Rattle.textwrap_plain.specs.declared.options.PlainSplitter.TheVariants.{BuiltIn, Dictionary}
use Rattle.textwrap_plain.specs.declared.options.PlainSplitter.TheVariants.{OutsideSequences}
use Rattle.textwrap_hyphens.specs.Outside.{is_hyphen_outside}
use Rattle.textwrap_text.proofs.Common.{flat_map-append, All-map, chunks, encodes-chars, filter}
use Rattle.textwrap_text.proofs.Common.{lines, ne_eqb, range_with_len, units, taken_at, units_past}
use Rattle.textwrap_text.proofs.Units.Chunks.{AreChunks-chunks}
use Rattle.textwrap_words.proofs.Common.{some_from_nonempty, broken_texts, pieces_with, split_pieces}
use Rattle.textwrap_words.proofs.Common.{AreInnerCuts, AreNext, parts_between, parts_onward}
use Rattle.textwrap_words.proofs.Common.{cut_penalty, is_hyphen_point, split_from}
use Rattle.textwrap_words.proofs.Word.{Breaking.AreBroken-exists, Pieces.AreSplitWords}
use Rattle.textwrap_words.proofs.Word.{Pieces.split-measured, Pieces.split-tile, Words.All-each}
use Rattle.textwrap_words.{proofs.Word.Words.tile_of-word_of, specs.Cuts.AreLaterCuts}
use Rattle.textwrap_words.specs.declared.pieces.BuiltInSplitter.TheVariants.{HyphenSplitter}
use Rattle.textwrap_words.specs.declared.pieces.BuiltInSplitter.TheVariants.{NoHyphenation}

-- ---- how many pieces words are broken into at most: no more than they have bytes

module _ {X Z : Type 0} (P : X → Type 0) (g : X → List Z) where
  -- what each gives that keeps to this is something: then they are no more than it all
  count-some : ((x : X) → P x → 0 < length (g x)) → (xs : List X) → All P xs
      → length xs ≤ length (flat_map g xs)
  count-some some [] all = omega arith
  count-some some (x ∷ xs) all = omega (
    arith,
    some x (All-head P x xs all),
    count-some some xs (All-tail P x xs all),
    length-append (g x) (flat_map g xs),
  )

  -- it is as much as what another function gives: then so it is of all
  count-each : {Y : Type 0} (f : X → List Y) → ((x : X) → P x → length (f x) ≤ length (g x))
      → (xs : List X) → All P xs → length (flat_map f xs) ≤ length (flat_map g xs)
  count-each f each [] all = omega arith
  count-each f each (x ∷ xs) all = omega (
    arith,
    each x (All-head P x xs all),
    count-each f each xs (All-tail P x xs all),
    length-append (f x) (flat_map f xs),
    length-append (g x) (flat_map g xs),
  )

count-parts : {X : Type 0} (parts : List (List X)) → All (λ part. part ≢ []) parts
    → length parts ≤ length (flat parts)
count-parts = count-some (λ part. part ≢ []) (λ part. part) some_from_nonempty

-- ---- the pieces of a word

count-units : (n : ℕ) (cs : List ℕ) → length (units_past n cs) ≤ length cs
count-units n [] = omega arith
count-units zero (c ∷ cs) = omega (arith, count-units (taken_at c cs) cs)
count-units (suc n) (c ∷ cs) = omega (arith, count-units n cs)

pieces_with-length : (whitespace penalty : List ℕ) (texts : List (List ℕ))
    → length (pieces_with whitespace penalty texts) ≡ length texts
pieces_with-length whitespace penalty [] = refl
pieces_with-length whitespace penalty (text ∷ []) = refl
pieces_with-length whitespace penalty (text ∷ next ∷ texts) =
    ap suc (pieces_with-length whitespace penalty (next ∷ texts))

count-texts : (limit : ℕ) (text : List ℕ) → IsUtf8 text
    → length (broken_texts limit text) ≤ length text
count-texts limit text utf8 =
    let are = AreBroken-exists limit (units (chars text)) in
    grind (
      arith,
      length-map,
      count-parts,
      ap length are.tiles,
      count-units,
      length-le-encodes,
      ap length (encodes-chars text utf8),
    )

-- a piece that covers some bytes
abbrev CoversSome : WordText → Type 0
CoversSome w = 0 < length (tile_of w)

count-word : (limit : ℕ) (w : WordText) (is_wide : Bool) → IsMeasured w × CoversSome w
    → length (cond is_wide (pieces_with w.whitespace w.penalty (broken_texts limit w.word)) (w ∷ []))
    ≤ length (tile_of w)
count-word limit w true (measured, some) =
    grind (arith, pieces_with-length, count-texts, length-append)
count-word limit w false (measured, some) = omega (arith, some)

-- ---- words that cover some bytes are split into pieces that each cover some

-- at offsets that increase, inside the word
abbrev pub IsInside : List ℕ → ℕ → ℕ → Type 0
IsInside word last point = (last < point) × (point < length word)

split-cover : (w : WordText) (start : ℕ) (points : List ℕ) → start < length (tile_of w)
    → AreNext (IsInside w.word) points start → All CoversSome (split_from w start points)
split-cover w start [] within are =
    All-cons CoversSome (piece (drop start w.word) w.whitespace w.penalty) []
    (grind (arith, length-drop, length-append)) (All-nil CoversSome)
split-cover w start (point ∷ points) within ((after, inside), rest) =
    All-cons CoversSome (piece (slice_range w.word start point) [] (cut_penalty w.word point))
    (split_from w point points)
    (omega (arith, length-slice w.word start point (omega (arith, inside)), length-append {A = ℕ}))
    (split-cover w point points (omega (arith, inside, length-append w.word w.whitespace)) rest)

-- such are those of the offsets from one on that pass a test
points-inside : (test : ℕ → Bool) (word : List ℕ) (count at last : ℕ) → last < at
    → (0 < count → at + count ≤ length word)
    → AreNext (IsInside word) (filter test (range_with_len at count)) last
points-inside test word zero at last after inside = tt
points-inside test word (suc count) at last after inside =
    let end : at + suc count ≤ length word = inside (omega arith) in
    let rest = λ (before : ℕ) (less : before < at + 1).
    points-inside test word count (at + 1) before less (λ more. omega (arith, end)) in
    elim (cases_Bool (test at)) [
      | inl is ↦ rw is ((after, omega (arith, end)), rest at (omega arith))
      | inr not ↦ rw not (rest last (omega (arith, after)))
    ]

-- ---- the points of a word are inside it

pub points_by-inside : (splitter : PlainSplitter) (word : List ℕ)
    → AreNext (IsInside word) (points_by splitter word) 0
points_by-inside (BuiltIn NoHyphenation) word = tt
points_by-inside (BuiltIn HyphenSplitter) word =
    points-inside (is_hyphen_point word) word (length word - 1) 1 0 (omega arith)
    (λ more. omega (arith, more))
points_by-inside OutsideSequences word =
    points-inside (is_hyphen_outside word) word (length word - 1) 1 0 (omega arith)
    (λ more. omega (arith, more))
points_by-inside (Dictionary table) word =
    points-inside (is_split_point (held table) word) word (length word - 1) 1 0 (omega arith)
    (λ more. omega (arith, more))

-- ---- how many lines a paragraph has at most: one more than it has bytes

count-front : (b : Bool) → length (cond b [] (empty_word ∷ [])) ≤ 1
count-front true = omega arith
count-front false = omega arith

-- ---- no part is empty

parts_from-some : (start : ℕ) (cuts line : List ℕ) → start < length line
    → AreLaterCuts start line cuts → All (λ part. part ≢ []) (parts_onward start cuts line)
parts_from-some start [] line within are =
    All-cons (λ part. part ≢ []) (drop start line) []
    (λ none. omega (arith, within, ap length none, length-drop start line))
    (All-nil (λ part. part ≢ []))
parts_from-some start (cut ∷ cuts) line within ((after, inside, at), rest) =
    All-cons (λ part. part ≢ []) (slice_range line start cut) (parts_onward cut cuts line)
    (λ none. omega (arith, after, ap length none, length-slice line start cut (omega (arith, inside))))
    (parts_from-some cut cuts line inside rest)

parts_between-some : (cuts line : List ℕ) → AreInnerCuts line cuts
    → All (λ part. part ≢ []) (parts_between cuts line)
parts_between-some cuts [] inner = All-nil (λ part. part ≢ [])
parts_between-some cuts (c ∷ line) inner =
    rw (ne_eqb (length (c ∷ line)) 0 (λ none. omega (arith, none)))
    (parts_from-some 0 cuts (c ∷ line) (omega arith) inner)

-- words that are cut are parts of the line, none of which is empty
cut-parts : (line : List ℕ) (words : List WordText) → AreWordsCut line words
    → (parts : List (List ℕ)) × All (λ part. part ≢ []) parts × (words ≡ map word_of parts)
cut-parts line words (None, can, is) = (chunks line, (AreChunks-chunks line).nonempty, is)
cut-parts line words (Some cuts, can, is) =
    (parts_between cuts line, parts_between-some cuts line can, is)

-- ---- the lines of a division

count-division : {X : Type 0} (xs : List X) (lines : List (List X)) (most : ℕ) → 1 ≤ most
    → length xs ≤ most → IsDivision xs lines → length lines ≤ most
count-division [] lines most one within is = omega (arith, one, ap length is)
count-division (x ∷ xs) lines most one within (is, some) =
    omega (arith, within, ap length is, count-parts lines some)

count-divided : (algorithm : Algorithm) (widths : List ℕ) (pieces : List WordText)
    (division : List (List WordText)) (most : ℕ) → 1 ≤ most → length pieces ≤ most
    → IsDividedBy algorithm sizes_of widths pieces division → length division ≤ most
count-divided ByFirstFit widths pieces division most one within divided =
    count-division pieces division most one within divided.admissible.division
count-divided (ByOptimalFit penalties) widths pieces division most one within divided =
    count-division pieces division most one within divided.by_table.division

-- ---- how long texts are together and joined

module _ {X : Type 0} where
  pub flat-plus : (f g : X → List ℕ) (xs : List X)
      → length (flat_map (λ x. f x ++ g x) xs) ≡ length (flat_map f xs) + length (flat_map g xs)
  flat-plus f g [] = refl
  flat-plus f g (x ∷ xs) = omega (arith, flat-plus f g xs, length-append {A = ℕ})

-- by an ending, they are longer than texts that each end in a byte but for the last
joined-some : (ending : List ℕ) (xs : List (List ℕ)) → 0 < length ending
    → (length (flat xs) + length xs ≤ length (join_with ending xs) + 1)
    × (length (flat xs) ≤ length (join_with ending xs))
joined-some ending [] some = omega arith
joined-some ending (x ∷ []) some = omega (arith, length-append {A = ℕ})
joined-some ending (x ∷ y ∷ xs) some =
    omega (arith, some, joined-some ending (y ∷ xs) some, length-append {A = ℕ})

-- ---- how many lines groups have at most, and how long what they show is

abbrev pub slices : List LineParts → List ℕ
slices parts = flat_map (λ p. p.slice) parts

groups-size : (is_later : Bool) (groups : List (List LineParts))
    → AreGroups (λ is_later paragraph parts. length parts ≤ length paragraph + 1) is_later
    (map covered_by groups) groups
    → (length (flat groups) ≤ length (flat (map covered_by groups)) + length groups)
    × (length (slices (flat groups)) ≤ length (flat (map covered_by groups)))
groups-size is_later [] are = (omega arith, omega arith)
groups-size is_later (parts ∷ groups) are =
    let rest = groups-size (is_later || nat_lt 0 (length parts)) groups are.1 in (
      omega (arith, are.0, rest.0, length-append parts (flat groups), length-append {A = ℕ}),
      omega (
        arith,
        flat-plus (λ (p : LineParts). p.slice) (λ p. p.left_off) parts,
        ap length (flat_map-append (λ (p : LineParts). p.slice) parts (flat groups)),
        length-append {A = ℕ},
      ),
    )

-- ---- the pieces of a paragraph whose words are cut somewhere, or at its blanks, and split at points
-- inside them

module _ (words : List ℕ → List WordText)
    (cut : (line : List ℕ) → IsUtf8 line → AreWordsCut line (words line))
    (points : List ℕ → List ℕ)
    (cuts : (word ps : List ℕ) → IsUtf8 word → AreAt points word ps → AreCuts word ps)
    (inside : (word : List ℕ) → AreNext (IsInside word) (points word) 0) where
  texts : (line : List ℕ) (ws : List WordText) → IsUtf8 line → ws ≡ words line → AreTexts line ws
  texts line ws utf8 is =
      subst (AreTexts line) (sym is) (AreWordsCut-texts line (words line) utf8 (cut line utf8))

  -- no more than its bytes, and the empty one in front
  count-pieces : (settings : Settings) (paragraph : List ℕ) → IsUtf8 paragraph
      → length (broken_pieces_of settings (split_by_points points (words paragraph)))
      ≤ length paragraph + 1
  count-pieces settings paragraph utf8 =
      let split = split_by_points points (words paragraph) in
      let (parts, some, are) = cut-parts paragraph (words paragraph) (cut paragraph utf8) in
      let covers = All-map CoversSome word_of parts
      (All-weaker (λ part. part ≢ []) (λ part. CoversSome (word_of part))
      (λ part some. omega (arith, some_from_nonempty part some, ap length (tile_of-word_of part)))
      parts some) in
      let cover = All-each CoversSome CoversSome (λ w. split_pieces (points w.word) w)
      (λ w some. split-cover w 0 (points w.word) some (inside w.word)) (words paragraph)
      (subst (All CoversSome) (sym are) covers) in
      let Words : List ℕ → List WordText → Type 0 = λ line ws. ws ≡ words line in
      let made : AreSplitWords Words (AreAt points) texts cuts paragraph split =
      (words paragraph, refl, split-computed points (words paragraph)) in
      let measured = split-measured Words (AreAt points) texts cuts paragraph split utf8 made in
      let total = ap length (split-tile Words (AreAt points) texts cuts paragraph split utf8 made) in
      let room = room_of settings in
      let broken : length (fitting_pieces settings split) ≤ length (tiled split) =
      count-each (λ w. IsMeasured w × CoversSome w) tile_of (λ w. broken_word (room w) w)
      (λ w. count-word (room w) w (nat_lt (room w) w.width)) split
      (λ k d lt. (measured k d lt, cover k d lt)) in
      elim settings.break_words as (λ b. length
      (cond b (front_pieces settings ++ fitting_pieces settings split) split) ≤ length paragraph + 1) [
        | true ↦ grind (arith, length-append, count-front)
        | false ↦ omega (arith, count-some CoversSome tile_of (λ w some. some) split cover, total)
      ]

  pub count-lines : (algorithm : Algorithm) (settings : Settings) (is_later : Bool) (paragraph : List ℕ) (parts : List LineParts)
      → IsUtf8 paragraph
      → AreParagraphParts settings (DividesFrom words points algorithm settings)
      is_later paragraph parts
      → length parts ≤ length paragraph + 1
  count-lines algorithm settings is_later paragraph parts utf8
      (division, laid_out, is) =
      let most = length paragraph + 1 in
      let lines : length division ≤ most =
      laid_out-cases (λ d. length d ≤ most) paragraph _ division (omega arith)
      (λ (pieces, are, divided). count-divided algorithm (widths_of settings is_later) pieces
      division most (omega arith)
      (subst (λ ps. length ps ≤ most) (sym (pieces-from points (λ line ws. ws ≡ words line) words
      (λ line ws is. is) settings paragraph pieces are))
      (count-pieces settings paragraph utf8)) divided)
      (is_whole settings is_later paragraph) laid_out in
      let built = parts_from settings is_later division in
      let same = ap length (parts_from-pieces settings is_later division) in
      omega (arith, lines, ap length is, same, length-map built (λ p. p.pieces))

  -- ---- the lines of a text: at most one more than it has bytes, which are as many as they show

  pub text-size : (algorithm : Algorithm) (settings : Settings) (text : List ℕ) (groups : List (List LineParts)) → IsUtf8 text
      → AreGroups (AreParagraphParts settings
      (DividesFrom words points algorithm settings)) false
      (paragraphs_of settings.line_ending text) groups
      → map covered_by groups ≡ paragraphs_of settings.line_ending text
      → (length (flat groups) ≤ length text + 1) × (length (slices (flat groups)) ≤ length text)
  text-size algorithm settings text groups utf8 defined tile =
      let ending = settings.line_ending in
      let Counted : Bool → List ℕ → List LineParts → Type 0 =
      λ is_later paragraph parts. length parts ≤ length paragraph + 1 in
      let counted = groups-map IsUtf8 (AreParagraphParts settings
      (DividesFrom words points algorithm settings)) Counted
      (count-lines algorithm settings) false (paragraphs_of ending text) groups
      (paragraphs_of-utf8 ending text utf8) defined in
      let size = groups-size false groups
      (subst (λ ps. AreGroups Counted false ps groups) (sym tile) counted) in
      let joined = joined-some (ending_bytes ending) (paragraphs_of ending text)
      (ending_bytes-some ending) in
      let whole = ap length (join-paragraphs_of ending text) in
      let same = ap (λ ps. length (flat ps)) tile in
      let many = ap length tile in (
        omega (arith, size.0, joined, whole, same, many, length-map groups covered_by),
        omega (arith, size.1, joined, whole, same, many, length-map groups covered_by),
      )

  pub text-lines : (algorithm : Algorithm) (settings : Settings) (text : List ℕ) (lines : List Line) → IsUtf8 text
      → AreTextLines settings (DividesFrom words points algorithm settings) text lines
      → length lines ≤ length text + 1
  text-lines algorithm settings text lines utf8 are =
      let tile = groups-tile settings (DividesFrom words points algorithm settings)
      (λ is_later paragraph division utf8 (pieces, pieces_are, divided).
      ap tiled (IsDividedBy-whole sizes_of algorithm _ pieces division divided)
      ∙ pieces-tile settings (λ line ws. ws ≡ words line) (AreAt points) texts cuts paragraph pieces
      utf8 pieces_are) false (paragraphs_of settings.line_ending text) are.groups
      (paragraphs_of-utf8 settings.line_ending text utf8) are.defined in
      let size = text-size algorithm settings text are.groups utf8 are.defined tile in
      omega (arith, size.0, ap length are.given, length-map (flat are.groups) line_from)
