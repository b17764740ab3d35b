-- The lines of a text, each paragraph of which comes with what a caller found of it.
use Rattle.std.specs.Prelude.{◌≡◌, ℕ, Bool, false, ◌||◌, nat_lt, List, [], ◌∷◌, length, map}
use Rattle.std.specs.Prelude.{if◌then◌else◌}
use Rattle.textwrap_calls.specs.Options.{step_settings}
use Rattle.textwrap_calls.specs.declared.options.TextwrapOptions.{TextwrapOptions}
use Rattle.textwrap_layout.specs.Options.{Settings}
use Rattle.textwrap_layout.specs.Paragraph.{LineParts, is_whole, line_bytes, parts_from}
use Rattle.textwrap_layout.specs.Places.{CutLine, lines_of, text_cuts}
use Rattle.textwrap_lines.specs.Steps.{pieces_at}
use Rattle.textwrap_more_calls.specs.Steps.{AreLineSteps}
use Rattle.textwrap_more_calls.specs.declared.steps.TextwrapSteps.{TextwrapSteps}
use Rattle.textwrap_text.specs.LineEnding.{ending_bytes, join_with, paragraphs_of}
use Rattle.textwrap_words.specs.{LineEnds.lines_between, Words.WordText, Words.word_of}

module _ (settings : Settings) where
  -- a whole paragraph is a line of one piece, any other is divided at these steps, where `is_later`
  -- says that a line stands before it
  abbrev pub division_at : Bool → List ℕ → TextwrapSteps → List (List WordText)
  division_at is_later paragraph steps =
      if is_whole settings is_later paragraph then (word_of paragraph ∷ []) ∷ []
      else lines_between steps.ends.now
      (pieces_at settings steps.cuts.now steps.points.now paragraph)

  abbrev pub parts_at : Bool → List ℕ → TextwrapSteps → List LineParts
  parts_at is_later paragraph steps =
      parts_from settings is_later (division_at is_later paragraph steps)

  -- a group of lines for each paragraph
  abbrev pub groups_at : Bool → List (List ℕ) → List TextwrapSteps → List (List LineParts)
  groups_at is_later [] steps = []
  groups_at is_later (paragraph ∷ paragraphs) [] = []
  groups_at is_later (paragraph ∷ paragraphs) (one ∷ others) =
      let parts = parts_at is_later paragraph one in
      parts ∷ groups_at (is_later || nat_lt 0 (length parts)) paragraphs others

  -- there are steps for each paragraph, and those of one that is not whole are right
  abbrev pub AreTextSteps : Bool → List (List ℕ) → List TextwrapSteps → Type 0
  AreTextSteps is_later [] steps = steps ≡ []
  AreTextSteps is_later (paragraph ∷ paragraphs) [] = ⊥
  AreTextSteps is_later (paragraph ∷ paragraphs) (one ∷ others) =
      (is_whole settings is_later paragraph ≡ false → AreLineSteps settings one.cuts.now
      one.points.now one.ends.now paragraph)
      × AreTextSteps (is_later || nat_lt 0 (length (parts_at is_later paragraph one))) paragraphs
      others

  -- the lines of the text, each with the place that it was cut from
  abbrev pub text_step_cuts : List TextwrapSteps → List ℕ → List CutLine
  text_step_cuts steps text =
      let paragraphs = paragraphs_of settings.line_ending text in
      text_cuts (length (ending_bytes settings.line_ending)) 0 paragraphs
      (groups_at false paragraphs steps)

  -- and these lines, joined by the line ending
  abbrev pub filled_at : List TextwrapSteps → List ℕ → List ℕ
  filled_at steps text =
      join_with (ending_bytes settings.line_ending)
      (map line_bytes (lines_of (text_step_cuts steps text)))

-- the steps of a text by the options
abbrev pub AreStepsOf : TextwrapOptions → List ℕ → List TextwrapSteps → Type 0
AreStepsOf o text steps =
    let settings = step_settings o in
    AreTextSteps settings false (paragraphs_of settings.line_ending text) steps
