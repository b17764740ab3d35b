-- At a wider width first fit takes no more lines of a text, where all its pieces have room.
use Rattle.std.proofs.Math.Nat.{le-max_right}
use Rattle.textwrap_base.proofs.Division.Greedy.{greedy_fewest, line_width-later}
use Rattle.textwrap_layout.proofs.Common.{AllFit, IsGreedy, Sizes, line_width, IsDivision}
use Rattle.textwrap_layout.proofs.Common.{broken_pieces_of, fitting_pieces, front_pieces, room_of}
use Rattle.textwrap_layout.specs.Paragraph.{IsLaidOut}
use Rattle.textwrap_lines.proofs.Common.{closed_width, All, All-cons, All-head, All-nil, All-tail}
use Rattle.textwrap_lines.proofs.Common.{All-weaker, AreGroups, AreParagraphParts, Bool, ByFirstFit}
use Rattle.textwrap_lines.proofs.Common.{Line, LineParts, List, Settings, WordText, [], all-left}
use Rattle.textwrap_lines.proofs.Common.{all-right, and_parts, ap, arith, cases_Bool, cond, false}
use Rattle.textwrap_lines.proofs.Common.{first_width, flat, flat_map, indent_of, inl, inr, is_whole}
use Rattle.textwrap_lines.proofs.Common.{laid_out-cases, later_width, le-ltb, length, length-append}
use Rattle.textwrap_lines.proofs.Common.{length-map, line_from, lt-ltb, ltb-true, nat_lt}
use Rattle.textwrap_lines.proofs.Common.{paragraphs_of, parts_from, refl, sizes_of, subst, suc, true}
use Rattle.textwrap_lines.proofs.Common.{widths_of, word_of, zero, ℕ, ◌&&◌, ◌++◌, ◌+◌, ◌-◌, ◌<◌}
use Rattle.textwrap_lines.proofs.Common.{◌==◌, ◌||◌, ◌∙◌, ◌∷◌, ◌≡◌, ◌≤◌}
use Rattle.textwrap_lines.proofs.{Paragraph.KeepsTo.parts_from-pieces, Text.Groups.text_one}
use Rattle.textwrap_plain.proofs.{Split.pieces-from, Unique.division_one-from}
use Rattle.textwrap_plain.specs.Balance.{AreFirstFitAt, HasRoom, at_width, whole_pieces}
use Rattle.textwrap_plain.specs.{Balance.wider_indent, Options.{DividesFrom, split_by_points}}
use Rattle.textwrap_text.proofs.{Common.{add-one, and_from, text_width}, Numbers.some_later}

-- ---- lines that fit, fit wider ones

widths-wider : (first later other last number : ℕ) → first ≤ other → later ≤ last
    → line_width (first ∷ later ∷ []) number ≤ line_width (other ∷ last ∷ []) number
widths-wider first later other last zero one more = one
widths-wider first later other last (suc number) one more =
    rw (← add-one) (omega (
      arith,
      line_width-later first later number,
      line_width-later other last number,
    ))

module _ {X : Type 0} (sizes : X → Sizes) (widths others : List ℕ)
    (wider : (number : ℕ) → line_width widths number ≤ line_width others number) where
  AllFit-wider : (number : ℕ) (lines : List (List X)) → AllFit sizes widths number lines
      → AllFit sizes others number lines
  AllFit-wider number [] fit = tt
  AllFit-wider number (line ∷ lines) (fits, rest) = (
    λ k two within. omega (arith, fits k two within, wider number),
    AllFit-wider (number + 1) lines rest,
  )

-- ---- words that keep to a later line stay whole, with their penalties

abbrev ClosesWithin : ℕ → WordText → Type 0
ClosesWithin limit w = closed_width sizes_of (w ∷ []) ≤ limit

whole-words : (settings : Settings) (ws : List WordText)
    → All (ClosesWithin (later_width settings)) ws → fitting_pieces settings ws ≡ ws
whole-words settings [] all = refl
whole-words settings (w ∷ ws) all =
    let later = later_width settings in
    let closes = All-head (ClosesWithin later) w ws all in
    let room : w.width ≤ room_of settings w = elim settings.room_for_hyphens
    as (λ b. w.width ≤ cond b (later - length w.penalty) later) [
      | true ↦ omega (arith, closes)
      | false ↦ omega (arith, closes)
    ] in
    rw (le-ltb (room_of settings w) w.width room)
    (ap (λ l. w ∷ l) (whole-words settings ws (All-tail (ClosesWithin later) w ws all)))

division-some : {X : Type 0} (xs : List X) (lines : List (List X)) → IsDivision xs lines
    → 0 < length lines
division-some [] lines is = omega (arith, ap length is)
division-some (x ∷ xs) [] (is, some) = absurd (omega (arith, ap length is))
division-some (x ∷ xs) (line ∷ lines) is = omega arith

-- ---- the lines of a paragraph at two widths

module _ (settings : Settings) (words : List ℕ → List WordText) (points : List ℕ → List ℕ) where
  abbrev Divides : ℕ → Bool → List ℕ → List (List WordText) → Type 0
  Divides width = DividesFrom words points ByFirstFit (at_width settings width)

  abbrev AreParts : ℕ → Bool → List ℕ → List LineParts → Type 0
  AreParts width = AreParagraphParts (at_width settings width) (Divides width)

  -- the pieces of a paragraph keep to the width of the later lines
  abbrev AreNarrow : ℕ → List ℕ → Type 0
  AreNarrow width paragraph =
      All (ClosesWithin (later_width (at_width settings width)))
      (split_by_points points (words paragraph))

  -- its pieces, where none is broken
  abbrev whole : List ℕ → List WordText
  whole paragraph =
      let split = split_by_points points (words paragraph) in
      cond settings.break_words (front_pieces settings ++ split) split

  whole-pieces : (width : ℕ) (paragraph : List ℕ) → AreNarrow width paragraph
      → broken_pieces_of (at_width settings width) (split_by_points points (words paragraph))
      ≡ whole paragraph
  whole-pieces width paragraph narrow =
      let split = split_by_points points (words paragraph) in
      ap (λ ws. cond settings.break_words (front_pieces settings ++ ws) split)
      (whole-words (at_width settings width) split narrow)

  -- they are divided so, where the paragraph is no line as a whole
  divided-greedy : (width : ℕ) (is_later : Bool) (paragraph : List ℕ)
      (division : List (List WordText)) → AreNarrow width paragraph
      → Divides width is_later paragraph division
      → IsGreedy sizes_of (widths_of (at_width settings width) is_later) (whole paragraph) division
  divided-greedy width is_later paragraph division narrow (pieces, are, divided) =
      subst (λ ps. IsGreedy sizes_of (widths_of (at_width settings width) is_later) ps division)
      (pieces-from points (λ line ws. ws ≡ words line) words (λ line ws is. is)
      (at_width settings width) paragraph pieces are
      ∙ whole-pieces width paragraph narrow) divided

  module _ (v w : ℕ) (order : v ≤ w) where
    first-wider : (is_later : Bool)
        → first_width (at_width settings v) is_later ≤ first_width (at_width settings w) is_later
    first-wider is_later =
        let initial = text_width settings.initial_indent in
        let later = text_width settings.subsequent_indent in
        elim (settings.even_paragraphs && is_later) as (λ b.
        cond b (v - later) (v - initial) ≤ cond b (w - later) (w - initial)) [
          | true ↦ omega (arith, order)
          | false ↦ omega (arith, order)
        ]

    division-fewer : (is_later : Bool) (paragraph : List ℕ) (division others : List (List WordText))
        → AreNarrow v paragraph → Divides v is_later paragraph division
        → Divides w is_later paragraph others → length others ≤ length division
    division-fewer is_later paragraph division others narrow divided other =
        let greedy = divided-greedy v is_later paragraph division narrow divided in
        let wider : AreNarrow w paragraph = All-weaker
        (ClosesWithin (later_width (at_width settings v)))
        (ClosesWithin (later_width (at_width settings w))) (λ p keeps. omega (arith, keeps, order))
        (split_by_points points (words paragraph)) narrow in
        greedy_fewest sizes_of (widths_of (at_width settings w) is_later) (whole paragraph) others
        division (divided-greedy w is_later paragraph others wider other) (record {
          division = greedy.admissible.division;
          fit = AllFit-wider sizes_of (widths_of (at_width settings v) is_later)
              (widths_of (at_width settings w) is_later)
              (λ number. widths-wider _ _ _ _ number (first-wider is_later) (omega (arith, order))) 0
              division greedy.admissible.fit;
        })

    whole-wider : (is_later : Bool) (paragraph : List ℕ)
        → is_whole (at_width settings v) is_later paragraph ≡ true
        → is_whole (at_width settings w) is_later paragraph ≡ true
    whole-wider is_later paragraph is =
        let both = and_parts (length (indent_of settings is_later) == 0)
        (nat_lt (length paragraph) v) is in
        and_from (length (indent_of settings is_later) == 0) (nat_lt (length paragraph) w) both.0
        (lt-ltb (length paragraph) w (omega (arith, order, ltb-true (length paragraph) v both.1)))

    laid-some : (width : ℕ) (is_later : Bool) (paragraph : List ℕ)
        (division : List (List WordText))
        → IsLaidOut (at_width settings width) (Divides width) is_later paragraph division
        → 0 < length division
    laid-some width is_later paragraph division laid =
        laid_out-cases (λ d. 0 < length d) paragraph (Divides width is_later paragraph division)
        division (omega arith)
        (λ (pieces, are, divided). division-some pieces division divided.admissible.division)
        (is_whole (at_width settings width) is_later paragraph) laid

    laid-fewer : (is_later : Bool) (paragraph : List ℕ) (division others : List (List WordText))
        → AreNarrow v paragraph
        → IsLaidOut (at_width settings v) (Divides v) is_later paragraph division
        → IsLaidOut (at_width settings w) (Divides w) is_later paragraph others
        → length others ≤ length division
    laid-fewer is_later paragraph division others narrow laid other =
        elim (cases_Bool (is_whole (at_width settings w) is_later paragraph)) [
          | inl is ↦
              let one : others ≡ (word_of paragraph ∷ []) ∷ [] = rw is at other in
              omega (arith, ap length one, laid-some v is_later paragraph division laid)
          | inr not ↦
              elim (cases_Bool (is_whole (at_width settings v) is_later paragraph)) [
                | inl is ↦ absurd (cc (whole-wider is_later paragraph is, not))
                | inr narrower ↦ division-fewer is_later paragraph division others narrow
                    (rw narrower at laid) (rw not at other)
              ]
        ]

    parts-some : (width : ℕ) (is_later : Bool) (paragraph : List ℕ) (parts : List LineParts)
        → AreParts width is_later paragraph parts → 0 < length parts
    parts-some width is_later paragraph parts (division, laid, is) =
        let settings = at_width settings width in
        omega (
          arith,
          laid-some width is_later paragraph division laid,
          ap length is,
          ap length (parts_from-pieces settings is_later division),
          length-map (parts_from settings is_later division) (λ p. p.pieces),
        )

    parts-fewer : (is_later : Bool) (paragraph : List ℕ) (parts others : List LineParts)
        → AreNarrow v paragraph → AreParts v is_later paragraph parts
        → AreParts w is_later paragraph others → length others ≤ length parts
    parts-fewer is_later paragraph parts others narrow (division, laid, is)
        (other, other_laid, other_is) =
        omega (
          arith,
          laid-fewer is_later paragraph division other narrow laid other_laid,
          ap length is,
          ap length other_is,
          ap length (parts_from-pieces (at_width settings v) is_later division),
          ap length (parts_from-pieces (at_width settings w) is_later other),
          length-map (parts_from (at_width settings v) is_later division) (λ p. p.pieces),
          length-map (parts_from (at_width settings w) is_later other) (λ p. p.pieces),
        )

    later-some : (is_later : Bool) (n : ℕ) → 0 < n → is_later || nat_lt 0 n ≡ true
    later-some is_later zero some = absurd (omega (arith, some))
    later-some is_later (suc n) some = some_later is_later n

    -- ---- the lines of a text

    groups-fewer : (is_later : Bool) (paragraphs : List (List ℕ))
        (groups others : List (List LineParts)) → All (AreNarrow v) paragraphs
        → AreGroups (AreParts v) is_later paragraphs groups
        → AreGroups (AreParts w) is_later paragraphs others
        → length (flat others) ≤ length (flat groups)
    groups-fewer is_later [] groups others narrow are other =
        omega (arith, ap (λ gs. length (flat gs)) other)
    groups-fewer is_later (paragraph ∷ paragraphs) [] others narrow are other = absurd are
    groups-fewer is_later (paragraph ∷ paragraphs) (parts ∷ groups) [] narrow are other = absurd other
    groups-fewer is_later (paragraph ∷ paragraphs) (parts ∷ groups) (more ∷ others) narrow
        (here, rest) (other_here, other_rest) =
        let later = later-some is_later (length parts)
        (parts-some v is_later paragraph parts here) in
        let other_later = later-some is_later (length more)
        (parts-some w is_later paragraph more other_here) in
        omega (
          arith,
          parts-fewer is_later paragraph parts more
              (All-head (AreNarrow v) paragraph paragraphs narrow) here other_here,
          groups-fewer true paragraphs groups others
              (All-tail (AreNarrow v) paragraph paragraphs narrow)
              (subst (λ b. AreGroups (AreParts v) b paragraphs groups) later rest)
              (subst (λ b. AreGroups (AreParts w) b paragraphs others) other_later other_rest),
          length-append parts (flat groups),
          length-append more (flat others),
        )

-- what holds of all elements of what a function makes, holds of what it makes of each
all-each : {X Y : Type 0} (P : Y → Type 0) (f : X → List Y) (xs : List X)
    → All P (flat_map f xs) → All (λ x. All P (f x)) xs
all-each P f [] all = All-nil (λ x. All P (f x))
all-each P f (x ∷ xs) all =
    All-cons (λ x. All P (f x)) x xs (all-left P (f x) (flat_map f xs) all)
    (all-each P f xs (all-right P (f x) (flat_map f xs) all))

module _ (settings : Settings) (words : List ℕ → List WordText) (points : List ℕ → List ℕ)
    (text : List ℕ) where
  pub room-wider : (v w : ℕ) → v ≤ w → HasRoom settings words points text v
      → HasRoom settings words points text w
  room-wider v w order room = record {
    indent = omega (arith, order, room.indent);
    pieces = All-weaker (λ p. wider_indent settings + closed_width sizes_of (p ∷ []) ≤ v)
        (λ p. wider_indent settings + closed_width sizes_of (p ∷ []) ≤ w)
        (λ p keeps. omega (arith, keeps, order)) (whole_pieces settings words points text)
        room.pieces;
  }

  room-narrow : (v : ℕ) → HasRoom settings words points text v
      → All (AreNarrow settings words points v) (paragraphs_of settings.line_ending text)
  room-narrow v room =
      all-each (ClosesWithin (later_width (at_width settings v)))
      (λ paragraph. split_by_points points (words paragraph))
      (paragraphs_of settings.line_ending text)
      (All-weaker (λ p. wider_indent settings + closed_width sizes_of (p ∷ []) ≤ v)
      (ClosesWithin (later_width (at_width settings v)))
      (λ p keeps. omega (
        arith,
        le-max_right (text_width settings.initial_indent) (text_width settings.subsequent_indent),
      )) (whole_pieces settings words points text) room.pieces)

  pub lines-fewer : (v w : ℕ) (lines others : List Line) → v ≤ w
      → HasRoom settings words points text v
      → AreFirstFitAt settings words points text v lines
      → AreFirstFitAt settings words points text w others → length others ≤ length lines
  lines-fewer v w lines others order room are other =
      omega (
        arith,
        groups-fewer settings words points v w order false
            (paragraphs_of settings.line_ending text) are.groups other.groups (room-narrow v room)
            are.defined other.defined,
        ap length are.given,
        ap length other.given,
        length-map (flat are.groups) line_from,
        length-map (flat other.groups) line_from,
      )

  -- a text has one list of them
  pub lines-same : (width : ℕ) (lines others : List Line)
      → AreFirstFitAt settings words points text width lines
      → AreFirstFitAt settings words points text width others → lines ≡ others
  lines-same width =
      let here = at_width settings width in
      text_one here (DividesFrom words points ByFirstFit here)
      (division_one-from words points here ByFirstFit) text
