-- What is made by options as the library has them is made by the numbers that they were read from; and
-- what the points of words keep to.
use Rattle.textwrap_calls.proofs.Common.{Divides, Settings, options_settings, TextwrapOptions, WordText}
use Rattle.textwrap_calls.proofs.Common.{ap, arith, false, refl, subst, sym, true, ◌∙◌, ◌≡◌, ◌≤◌, says_yes}
use Rattle.textwrap_calls.{proofs.Common.{Bool, IsUtf8, List, ℕ, ◌==◌}, specs.Bounds.hyphens_of}
use Rattle.textwrap_calls.specs.{Dictionary.minimum_or, Options.{have_dictionary, options_points, AreRead}}
use Rattle.textwrap_calls.specs.declared.dictionary.TextwrapDictionary.{TextwrapDictionary}
use Rattle.textwrap_hyphens.specs.{Table.held_in, declared.table.PatternTable.PatternTable}
use Rattle.textwrap_lines.proofs.Common.{AreCuts}
use Rattle.textwrap_plain.proofs.{Balance.Counts.{IsInside, points_by-inside}, Named.named}
use Rattle.textwrap_plain.specs.CutSides.{points_by-cuts}
use Rattle.textwrap_plain.specs.Options.{DividesPlainly, is_dictionary, plain_settings, points_by}
use Rattle.textwrap_plain.specs.declared.options.{PlainOptions.PlainOptions, PlainSplitter.PlainSplitter}
use Rattle.textwrap_plain.specs.declared.options.PlainSplitter.TheVariants.{BuiltIn, Dictionary}
use Rattle.textwrap_plain.specs.declared.options.PlainSplitter.TheVariants.{OutsideSequences}
use Rattle.textwrap_words.proofs.Common.{AreNext}
use Rattle.textwrap_words.specs.declared.pieces.BuiltInSplitter.TheVariants.{HyphenSplitter, NoHyphenation}

module _ (o : TextwrapOptions) (read : PlainOptions) (are : AreRead o read) where
  pub as-read : (P : Settings → (Settings → Bool → List ℕ → List (List WordText) → Type 0) → Type 0)
      → P (plain_settings read) (DividesPlainly read) → P (options_settings o) (Divides o)
  as-read P given = named P are.settings are.separator are.points are.algorithm given

-- ---- the splitter that options name

-- the dictionary as the library has it
table_of : TextwrapDictionary → PatternTable
table_of d =
    let said = held_in d.numbers.now (says_yes d.in_parts) in
    record {
      words = d.numbers;
      in_parts = says_yes d.in_parts;
      left = minimum_or d.left said.left;
      right = minimum_or d.right said.right;
      soft_hyphens = says_yes d.soft_hyphens;
    }

-- only a dictionary adds hyphens
pub record IsNamed (o : TextwrapOptions) (splitter : PlainSplitter) : Type 0 where
  pub points : options_points o ≡ points_by splitter
  pub hyphens : is_dictionary splitter ≡ true → 1 ≤ hyphens_of o

pub splitter-named : (o : TextwrapOptions) → (splitter : PlainSplitter) × IsNamed o splitter
unfolding table_of
splitter-named o = by (have_dictionary o) refl (o.split_at_hyphens == 2) refl (o.split_at_hyphens == 0) refl
  where
    by : (dictionary : Bool) → have_dictionary o ≡ dictionary → (outside : Bool)
        → (o.split_at_hyphens == 2) ≡ outside → (whole : Bool) → (o.split_at_hyphens == 0) ≡ whole
        → (splitter : PlainSplitter) × IsNamed o splitter
    by true is outside outside_is whole whole_is = (
      Dictionary (table_of o.dictionary),
      record { points = rw is refl; hyphens = λ none. rw is (omega arith) },
    )
    by false is true outside_is whole whole_is = (
      OutsideSequences,
      record { points = rw (is, outside_is) refl; hyphens = λ some. cc },
    )
    by false is false outside_is true whole_is = (
      BuiltIn NoHyphenation,
      record { points = rw (is, outside_is, whole_is) refl; hyphens = λ none. cc },
    )
    by false is false outside_is false whole_is = (
      BuiltIn HyphenSplitter,
      record { points = rw (is, outside_is, whole_is) refl; hyphens = λ none. cc },
    )

-- ---- its points

pub options-cuts : (o : TextwrapOptions) (word points : List ℕ) → IsUtf8 word
    → points ≡ options_points o word → AreCuts word points
options-cuts o word points utf8 are =
    let (splitter, is) = splitter-named o in
    points_by-cuts splitter word points utf8 (are ∙ ap (λ f. f word) is.points)

pub options-inside : (o : TextwrapOptions) (word : List ℕ)
    → AreNext (IsInside word) (options_points o word) 0
options-inside o word =
    let (splitter, is) = splitter-named o in
    subst (λ f. AreNext (IsInside word) (f word) 0) (sym is.points) (points_by-inside splitter word)
