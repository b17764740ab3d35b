-- What the wrong bodies of must-fail/ answer on worked rows, and that no contract allows it: each
-- theorem bears the name of its edit.
use Rattle.std.specs.Str.{chars}
use Rattle.unicode_width.specs.Width.{char_width}
use Rattle.textwrap_base.proofs.Cost.Chosen.{by_table-chosen}
use Rattle.textwrap_base.specs.{Cost.problem_at, Penalties.default_penalties}
use Rattle.textwrap_base.specs.Table.{IsByTable, table}
use Rattle.textwrap_layout.proofs.Paragraph.Pieces.{ArePieces-computed}
use Rattle.textwrap_layout.specs.Options.{settings_at}
use Rattle.textwrap_layout.specs.Paragraph.{Built, empty_word, Slice}
use Rattle.textwrap_layout.specs.Text.{IsWrapped}
use Rattle.textwrap_lines.proofs.Common.{[], ◌∷◌, ◌≡◌, ◌≢◌, ◌<◌, ◌∙◌, ℕ, Algorithm, ap, AreDividedParts, arith}
use Rattle.textwrap_lines.proofs.Common.{AreTextLines, DividesAs, false, flat_map, ByFirstFit}
use Rattle.textwrap_lines.proofs.Common.{is_whole, IsDividedBy, ByOptimalFit, length, Line, line_from}
use Rattle.textwrap_lines.proofs.Common.{List, map, paragraphs_of, parts_from, pieces_of}
use Rattle.textwrap_lines.proofs.Common.{refl, rules, Settings, sizes_of, Some, widths_of}
use Rattle.textwrap_lines.proofs.Common.{word_of, WordText}
use Rattle.textwrap_lines.proofs.Text.Groups.{division_one, text_one}
use Rattle.textwrap_text.proofs.Common.{codes}
use Rattle.textwrap_text.specs.declared.line_ending.LineEnding.TheVariants.{CRLF}
use Rattle.textwrap_words.specs.WordSplitters.{Whole}

-- ---- the lines of a text of one paragraph, by words that stay whole

-- `wrap` may give these lines
abbrev MayBeLines : Settings → Algorithm → List ℕ → List Line → Type 0
MayBeLines settings algorithm =
    IsWrapped settings (Some Whole) (Some algorithm) (DividesAs Whole algorithm settings)

module _ (settings : Settings) (algorithm : Algorithm) (text : List ℕ)
    (division : List (List WordText)) where
  abbrev lines_given : List Line
  lines_given = map line_from (flat_map (λ parts. parts) (parts_from settings false division ∷ []))

  -- by this division of its pieces it has no other lines than these
  refute : paragraphs_of settings.line_ending text ≡ text ∷ [] → is_whole settings false text ≡ false
      → IsDividedBy algorithm sizes_of (widths_of settings false) (pieces_of settings Whole text)
      division → (wrong : List Line) → wrong ≢ lines_given → MayBeLines settings algorithm text wrong → ⊥
  refute one short divided wrong other wrapped =
      let right : AreTextLines settings (DividesAs Whole algorithm settings) text lines_given =
      record {
        groups = parts_from settings false division ∷ [];
        defined = rw one (
          (
            division,
            rw short (
              pieces_of settings Whole text,
              ArePieces-computed settings Whole text,
              divided,
            ),
            refl,
          ),
          refl,
        );
        given = refl;
      } in
      other (text_one settings (DividesAs Whole algorithm settings)
      (division_one settings algorithm Whole) text wrong lines_given wrapped.are right)

-- ---- lines of "foo bar"

abbrev foo : WordText
foo = word_of (codes "foo ")

abbrev bar : WordText
bar = word_of (codes "bar")

-- a line for each of its words
abbrev each_alone : List (List WordText)
each_alone = (foo ∷ []) ∷ (bar ∷ []) ∷ []

-- At 5 columns it has two lines.
pub each_paragraph_as_one_line :
    MayBeLines (settings_at 5) ByFirstFit (codes "foo bar") (Slice (codes "foo bar") ∷ []) → ⊥
unfolding chars char_width lib.Utf8.encode
each_paragraph_as_one_line = refute (settings_at 5) ByFirstFit (codes "foo bar") each_alone refl refl
    (search (rules, arith)) (Slice (codes "foo bar") ∷ []) (λ is. cc)

-- At 10 columns "bar" has one line, with its indent.
abbrev quoted : Settings
quoted = record (settings_at 10) { initial_indent = codes "> " }

pub each_paragraph_as_one_line-indented :
    MayBeLines quoted ByFirstFit (codes "bar") (Slice (codes "bar") ∷ []) → ⊥
unfolding chars char_width lib.Utf8.encode
each_paragraph_as_one_line-indented = refute quoted ByFirstFit (codes "bar")
    ((empty_word ∷ bar ∷ []) ∷ []) refl refl (search (rules, arith)) (Slice (codes "bar") ∷ [])
    (λ is. cc)

-- By a built-in algorithm there is a line.
pub no_lines : MayBeLines (settings_at 5) ByFirstFit (codes "foo bar") [] → ⊥
no_lines wrapped = let some : 0 < 0 = wrapped.some (λ is. cc) in absurd (omega (arith, some))

-- The second line begins behind the blank after the first word.
pub lines_cut_where_a_word_ends : MayBeLines (settings_at 3) ByFirstFit (codes "foo bar")
    (Slice (codes "foo") ∷ Slice (codes " ba") ∷ []) → ⊥
unfolding chars char_width lib.Utf8.encode
lines_cut_where_a_word_ends = refute (settings_at 3) ByFirstFit (codes "foo bar") each_alone refl refl
    (search (rules, arith)) (Slice (codes "foo") ∷ Slice (codes " ba") ∷ []) (λ is. cc)

-- So it does at the least cost.
by_least_cost : IsByTable (problem_at default_penalties sizes_of (3 ∷ 3 ∷ []) (foo ∷ bar ∷ []))
    each_alone
unfolding chars char_width lib.Utf8.encode table
by_least_cost = record { division = search rules; starts = search rules }

pub lines_of_least_cost_cut_where_a_word_ends : MayBeLines (settings_at 3)
    (ByOptimalFit default_penalties) (codes "foo bar")
    (Slice (codes "foo") ∷ Slice (codes " bar") ∷ []) → ⊥
unfolding chars char_width lib.Utf8.encode
lines_of_least_cost_cut_where_a_word_ends = refute (settings_at 3) (ByOptimalFit default_penalties)
    (codes "foo bar") each_alone refl refl (record {
      by_table = by_least_cost;
      chosen = λ equal. by_table-chosen _ _ _ _ _ equal by_least_cost;
    }) (Slice (codes "foo") ∷ Slice (codes " bar") ∷ []) (λ is. cc)

-- Only the first line has the initial indent.
abbrev listed : Settings
listed = record (settings_at 5) { initial_indent = codes "- " }

pub initial_indent_at_each_line : MayBeLines listed ByFirstFit (codes "foo bar")
    (Built (codes "- foo") ∷ Built (codes "- bar") ∷ []) → ⊥
unfolding chars char_width lib.Utf8.encode
initial_indent_at_each_line = refute listed ByFirstFit (codes "foo bar")
    ((empty_word ∷ foo ∷ []) ∷ (bar ∷ []) ∷ []) refl refl (search (rules, arith))
    (Built (codes "- foo") ∷ Built (codes "- bar") ∷ []) (λ is. cc)

-- By a caller who ends a line after each word, the slow path gives two lines, however wide they may
-- be.
pub slow_path_takes_the_shortcut : AreDividedParts (settings_at 10)
    (λ is_later paragraph division. division ≡ each_alone) false (codes "foo bar")
    (parts_from (settings_at 10) false ((word_of (codes "foo bar") ∷ []) ∷ [])) → ⊥
slow_path_takes_the_shortcut (division, divided, is) =
    let one : 1 ≡ 2 =
    ap length (is ∙ ap (parts_from (settings_at 10) false) divided) in
    absurd (omega (arith, one))

-- ---- other texts

-- A word that is too wide, and is not broken, has a line of its own.
abbrev unbroken : Settings
unbroken = record (settings_at 3) { break_words = false }

pub too_wide_pieces_dropped_piece_by_piece :
    MayBeLines unbroken ByFirstFit (codes "foo barbaz") (Slice (codes "foo") ∷ Slice [] ∷ []) → ⊥
unfolding chars char_width lib.Utf8.encode
too_wide_pieces_dropped_piece_by_piece = refute unbroken ByFirstFit (codes "foo barbaz")
    ((foo ∷ []) ∷ (word_of (codes "barbaz") ∷ []) ∷ []) refl refl (search (rules, arith))
    (Slice (codes "foo") ∷ Slice [] ∷ []) (λ is. cc)

-- By CR LF a line feed alone ends no paragraph.
pub paragraphs_cut_at_line_feeds :
    codes "a\r" ∷ codes "b" ∷ codes "c" ∷ [] ≡ paragraphs_of CRLF (codes "a\r\nb\nc") → ⊥
paragraphs_cut_at_line_feeds is = let three : 3 ≡ 2 = ap length is in absurd (omega (arith, three))
