-- The lines of a text, paragraph by paragraph: there is one list of them, and only blanks are left
-- off.
use Rattle.textwrap_lines.proofs.Common.{AreEqualFromSecond, AreParagraphParts, paragraphs_of-utf8}
use Rattle.textwrap_lines.proofs.Common.{All-append, AreDividedParts, IsDividedInto, laid_out-cases}
use Rattle.textwrap_lines.proofs.Common.{AreTextLines, length-append, paragraphs_of, tiled-word_of}
use Rattle.textwrap_lines.proofs.Common.{All-cons, All-weaker, AreIndented, AreWordsOf, IsDividedBy}
use Rattle.textwrap_lines.proofs.Common.{[], Algorithm, AreGroups, ArePoints, DividesAs, StartsWith}
use Rattle.textwrap_lines.proofs.Common.{All, ByOptimalFit, LineParts, MatchBool}
use Rattle.textwrap_lines.proofs.Common.{All-head, All-tail, flat_map, Settings, Splitter, WordText}
use Rattle.textwrap_lines.proofs.Common.{All-nil, ap, ByFirstFit, is_whole, sizes_of, word_of, words_of}
use Rattle.textwrap_lines.proofs.Common.{arith, false, IsUtf8, length, nat_lt, rules, subst, tiled}
use Rattle.textwrap_lines.proofs.Common.{Bool, flat, Line, List, map, sym, true, ℕ, ◌++◌, ◌<◌, ◌||◌}
use Rattle.textwrap_lines.proofs.Common.{◌∙◌, ◌∷◌, ◌≡◌}
use Rattle.textwrap_text.proofs.Common.{starts_with_of_eq}
use Rattle.textwrap_base.proofs.Common.{Sizes}
use Rattle.textwrap_layout.proofs.Common.{covered_by, DividesAt, IsFilled}
use Rattle.textwrap_text.proofs.Numbers.{or_false, some_later}
use Rattle.textwrap_layout.proofs.Paragraph.Pieces.{ArePieces-by}
use Rattle.textwrap_words.proofs.Word.Words.{EndsInBlanks, words_unique}
use Rattle.textwrap_layout.specs.Text.{LosesOnlyBlanks}
use Rattle.textwrap_layout.proofs.Paragraph.LeftOff.{covered_by-parts_from, parts_from-blanks}
use Rattle.textwrap_layout.proofs.Paragraph.LeftOff.{LeavesBlanks, word_of-blanks}
use Rattle.textwrap_base.proofs.Division.Greedy.{greedy_unique}
use Rattle.textwrap_base.proofs.Cost.Results.{chosen_one}
use Rattle.textwrap_lines.proofs.PlacedPieces.{two-equal}

-- ---- what holds of the lines of each paragraph holds of the lines of the text

pub groups-map : (IsPart : List ℕ → Type 0) (Are Keep : Bool → List ℕ → List LineParts → Type 0)
    → ((is_later : Bool) (paragraph : List ℕ) (parts : List LineParts) → IsPart paragraph
    → Are is_later paragraph parts → Keep is_later paragraph parts)
    → (is_later : Bool) (paragraphs : List (List ℕ)) (groups : List (List LineParts))
    → All IsPart paragraphs → AreGroups Are is_later paragraphs groups
    → AreGroups Keep is_later paragraphs groups
groups-map IsPart Are Keep each is_later [] groups all are = are
groups-map IsPart Are Keep each is_later (paragraph ∷ paragraphs) [] all are = absurd are
groups-map IsPart Are Keep each is_later (paragraph ∷ paragraphs) (parts ∷ groups) all are = (
  each is_later paragraph parts (All-head IsPart paragraph paragraphs all) are.0,
  groups-map IsPart Are Keep each (is_later || nat_lt 0 (length parts)) paragraphs groups
      (All-tail IsPart paragraph paragraphs all) are.1,
)

pub groups-all : (Keeps : LineParts → Type 0) (is_later : Bool) (paragraphs : List (List ℕ))
    (groups : List (List LineParts))
    → AreGroups (λ is_later paragraph parts. All Keeps parts) is_later paragraphs groups
    → All Keeps (flat_map (λ ps. ps) groups)
groups-all Keeps is_later [] groups are = search (rules, arith, All-nil)
groups-all Keeps is_later (paragraph ∷ paragraphs) [] are = absurd are
groups-all Keeps is_later (paragraph ∷ paragraphs) (parts ∷ groups) are =
    All-append Keeps parts (flat_map (λ ps. ps) groups) are.0
    (groups-all Keeps (is_later || nat_lt 0 (length parts)) paragraphs groups are.1)

AreIndented-append : (settings : Settings) (is_later : Bool) (parts others : List LineParts)
    → AreIndented settings is_later parts
    → AreIndented settings (is_later || nat_lt 0 (length parts)) others
    → AreIndented settings is_later (parts ++ others)
AreIndented-append settings is_later [] others here after = search (rules, arith, or_false)
AreIndented-append settings is_later (p ∷ parts) others here after = (
  here.0,
  AreIndented-append settings true parts others here.1
      (subst (λ b. AreIndented settings b others) (some_later is_later (length parts)) after),
)

pub groups-indented : (settings : Settings) (is_later : Bool) (paragraphs : List (List ℕ))
    (groups : List (List LineParts))
    → AreGroups (λ is_later paragraph parts. AreIndented settings is_later parts) is_later
    paragraphs groups → AreIndented settings is_later (flat groups)
groups-indented settings is_later [] groups are = search (rules, arith)
groups-indented settings is_later (paragraph ∷ paragraphs) [] are = absurd are
groups-indented settings is_later (paragraph ∷ paragraphs) (parts ∷ groups) are =
    AreIndented-append settings is_later parts (flat groups) are.0
    (groups-indented settings (is_later || nat_lt 0 (length parts)) paragraphs groups are.1)

pub groups-some : (settings : Settings) (paragraphs : List (List ℕ)) (groups : List (List LineParts))
    → 0 < length paragraphs
    → AreGroups (λ is_later paragraph parts. 0 < length parts) false paragraphs groups
    → 0 < length (flat groups)
groups-some settings [] groups some are = absurd (omega arith)
groups-some settings (paragraph ∷ paragraphs) [] some are = absurd are
groups-some settings (paragraph ∷ paragraphs) (parts ∷ groups) some are =
    omega (arith, length-append parts (flat groups), are.0)

-- ---- the lines of a paragraph that is divided so

module _ (settings : Settings) (Divides : Bool → List ℕ → List (List WordText) → Type 0)
    (begin : (is_later : Bool) (paragraph : List ℕ) (division : List (List WordText))
    → IsUtf8 paragraph → Divides is_later paragraph division
    → StartsWith paragraph (tiled (flat division)))
    (blanks : (is_later : Bool) (paragraph : List ℕ) (division : List (List WordText))
    → IsUtf8 paragraph → Divides is_later paragraph division
    → All EndsInBlanks (flat division)) where
  parts-begin : (is_later : Bool) (paragraph : List ℕ) (parts : List LineParts)
      → IsUtf8 paragraph → AreParagraphParts settings Divides is_later paragraph parts
      → StartsWith paragraph (covered_by parts)
  parts-begin is_later paragraph parts utf8 (division, laid_out, is) = subst (StartsWith paragraph)
      (sym (ap covered_by is ∙ covered_by-parts_from settings is_later division))
      (laid_out-cases (λ d. StartsWith paragraph (tiled (flat d))) paragraph _ division
      (starts_with_of_eq paragraph _ (sym (tiled-word_of paragraph)))
      (begin is_later paragraph division utf8) (is_whole settings is_later paragraph) laid_out)

  parts-blanks : (is_later : Bool) (paragraph : List ℕ) (parts : List LineParts) → IsUtf8 paragraph
      → AreParagraphParts settings Divides is_later paragraph parts
      → All (LeavesBlanks settings) parts
  parts-blanks is_later paragraph parts utf8 (division, laid_out, is) =
      subst (All (LeavesBlanks settings)) (sym is) (parts_from-blanks settings is_later division
      (laid_out-cases (λ d. All EndsInBlanks (flat d)) paragraph _ division
      (All-cons EndsInBlanks (word_of paragraph) [] (word_of-blanks paragraph)
      (All-nil EndsInBlanks)) (blanks is_later paragraph division utf8)
      (is_whole settings is_later paragraph) laid_out))

  -- ---- the lines of a text

  -- the groups that the definition gives lose only blanks
  pub LosesOnlyBlanks-from : (text : List ℕ) (groups : List (List LineParts)) → IsUtf8 text
      → AreGroups (AreParagraphParts settings Divides) false
      (paragraphs_of settings.line_ending text) groups → LosesOnlyBlanks settings text groups
  LosesOnlyBlanks-from text groups utf8 defined =
      let paragraphs = paragraphs_of settings.line_ending text in
      let all = paragraphs_of-utf8 settings.line_ending text utf8 in
      let leaves = groups-all (LeavesBlanks settings) false paragraphs groups
      (search (rules, arith, groups-map, parts-blanks)) in
      record {
        begin = search (rules, arith, groups-map, parts-begin);
        blanks = search (rules, arith, All-weaker);
        kept = λ preserved. All-weaker (LeavesBlanks settings) (λ p. p.left_off ≡ [])
            (λ p left. left.kept preserved) (flat groups) leaves;
      }

-- ---- the lines of a text whose paragraphs are divided whole

module _ (settings : Settings) (Divides : Bool → List ℕ → List (List WordText) → Type 0)
    (tiles : (is_later : Bool) (paragraph : List ℕ) (division : List (List WordText))
    → IsUtf8 paragraph → Divides is_later paragraph division
    → tiled (flat division) ≡ paragraph) where
  parts-tile : (is_later : Bool) (paragraph : List ℕ) (parts : List LineParts) → IsUtf8 paragraph
      → AreParagraphParts settings Divides is_later paragraph parts → covered_by parts ≡ paragraph
  parts-tile is_later paragraph parts utf8 (division, laid_out, is) =
      grind (arith, covered_by-parts_from, laid_out-cases, tiled-word_of)

  pub groups-tile : (is_later : Bool) (paragraphs : List (List ℕ)) (groups : List (List LineParts))
      → All IsUtf8 paragraphs
      → AreGroups (AreParagraphParts settings Divides) is_later paragraphs groups
      → map covered_by groups ≡ paragraphs
  groups-tile is_later [] groups utf8 is = ap (map covered_by) is
  groups-tile is_later (paragraph ∷ paragraphs) [] utf8 defined = absurd defined
  groups-tile is_later (paragraph ∷ paragraphs) (parts ∷ groups) utf8 defined =
      ap (λ p. p ∷ map covered_by groups)
      (search (rules, arith, parts-tile, All-head)) ∙ ap (λ ps. paragraph ∷ ps)
      (groups-tile (is_later ||
      nat_lt 0 (length parts)) paragraphs groups (All-tail IsUtf8 paragraph paragraphs utf8)
      defined.1)

-- ---- lemmas on the lines of a text: the definitions leave one list of lines, and one filled
-- text

divided_one : {X : Type 0} (algorithm : Algorithm) (sizes : X → Sizes) (widths : List ℕ)
    (xs : List X) (lines others : List (List X)) → AreEqualFromSecond widths
    → IsDividedBy algorithm sizes widths xs lines → IsDividedBy algorithm sizes widths xs others
    → lines ≡ others
divided_one ByFirstFit sizes widths xs lines others equal one other = grind (arith, greedy_unique)
divided_one (ByOptimalFit penalties) sizes widths xs lines others equal one other =
    chosen_one _ lines others (one.chosen equal) (other.chosen equal)

-- where the words of a line are those that a function names
division_one-by : (Words : List ℕ → List WordText → Type 0) (words : List ℕ → List WordText)
    → ((line : List ℕ) (ws : List WordText) → Words line ws → ws ≡ words line)
    → (settings : Settings) (algorithm : Algorithm) (splitter : Splitter)
    (is_later : Bool) (paragraph : List ℕ) (division other : List (List WordText))
    → let Divides : Bool → List ℕ → List (List WordText) → Type 0 =
    IsDividedInto settings Words (ArePoints splitter) (IsDividedBy algorithm sizes_of) in
    Divides is_later paragraph division → Divides is_later paragraph other → division ≡ other
division_one-by Words words named settings algorithm splitter is_later paragraph division other
    (pieces, are, divided) (others, others_are, others_divided) =
    let same = ArePieces-by Words words named settings splitter paragraph others others_are
    ∙ sym (ArePieces-by Words words named settings splitter paragraph pieces are) in
    search (rules, arith, divided_one, two-equal)

pub division_one : (settings : Settings) (algorithm : Algorithm) (splitter : Splitter)
    (is_later : Bool) (paragraph : List ℕ) (division other : List (List WordText))
    → DividesAs splitter algorithm settings is_later paragraph division
    → DividesAs splitter algorithm settings is_later paragraph other → division ≡ other
division_one =
    division_one-by AreWordsOf words_of (λ line words are. (words_unique line words).0 are)

pub division_one-at : (words : List ℕ → List WordText) (settings : Settings)
    (algorithm : Algorithm) (splitter : Splitter)
    (is_later : Bool) (paragraph : List ℕ) (division other : List (List WordText))
    → DividesAt words splitter algorithm settings is_later paragraph division
    → DividesAt words splitter algorithm settings is_later paragraph other → division ≡ other
division_one-at words = division_one-by (λ line ws. ws ≡ words line) words (λ line ws is. is)

-- where a paragraph has one division
module _ (settings : Settings) (Divides : Bool → List ℕ → List (List WordText) → Type 0)
    (one : (is_later : Bool) (paragraph : List ℕ) (division other : List (List WordText))
    → Divides is_later paragraph division → Divides is_later paragraph other
    → division ≡ other) where
  pub divided_parts_one : (is_later : Bool) (paragraph : List ℕ) (parts others : List LineParts)
      → AreDividedParts settings Divides is_later paragraph parts
      → AreDividedParts settings Divides is_later paragraph others → parts ≡ others
  divided_parts_one is_later paragraph parts others (division, divided, is)
      (other, other_divided, other_is) = grind arith

  laid_out_one : (is_later : Bool) (paragraph : List ℕ) (division other : List (List WordText))
      (whole : Bool) → MatchBool whole (division ≡ (word_of paragraph ∷ []) ∷ [])
      (Divides is_later paragraph division)
      → MatchBool whole (other ≡ (word_of paragraph ∷ []) ∷ []) (Divides is_later paragraph other)
      → division ≡ other
  laid_out_one is_later paragraph division other true is other_is = is ∙ sym other_is
  laid_out_one is_later paragraph division other false divided other_divided = search (rules, arith)

  pub paragraph_one : (is_later : Bool) (paragraph : List ℕ) (parts others : List LineParts)
      → AreParagraphParts settings Divides is_later paragraph parts
      → AreParagraphParts settings Divides is_later paragraph others → parts ≡ others
  paragraph_one is_later paragraph parts others (division, laid_out, is)
      (other, other_laid_out, other_is) = grind (arith, laid_out_one)

  groups_one : (is_later : Bool) (paragraphs : List (List ℕ))
      (groups others : List (List LineParts))
      → AreGroups (AreParagraphParts settings Divides) is_later paragraphs groups
      → AreGroups (AreParagraphParts settings Divides) is_later paragraphs others → groups ≡ others
  groups_one is_later [] groups others is other = is ∙ sym other
  groups_one is_later (paragraph ∷ paragraphs) [] others is other = absurd is
  groups_one is_later (paragraph ∷ paragraphs) (parts ∷ groups) [] is other = absurd other
  groups_one is_later (paragraph ∷ paragraphs) (parts ∷ groups) (more ∷ others) is other =
      let same = paragraph_one is_later paragraph parts more is.0 other.0 in
      let rest = groups_one
      (is_later || nat_lt 0 (length parts)) paragraphs groups others is.1 (rw same other.1) in
      ap (λ ps. ps ∷ groups) same ∙ ap (λ gs. more ∷ gs) rest

  pub text_one : (text : List ℕ) (lines others : List Line)
      → AreTextLines settings Divides text lines → AreTextLines settings Divides text others
      → lines ≡ others
  text_one text lines others is other = grind (arith, groups_one)

  pub filled_one : (text filled other_filled : List ℕ) → IsFilled settings Divides text filled
      → IsFilled settings Divides text other_filled → filled ≡ other_filled
  filled_one text filled other_filled (lines, defined, joined)
      (others, others_defined, others_joined) =
      search (rules, arith, text_one text lines others defined others_defined)
