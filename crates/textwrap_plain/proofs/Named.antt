-- What holds by the options that hold no function holds by what they name.
use Rattle.textwrap.proofs.Common.{Settings, Bool, List, [], map, refl, ℕ, ◌∷◌, ◌≡◌}
use Rattle.textwrap.proofs.Common.{Algorithm, WordText}
use Rattle.textwrap_display.proofs.TableGroups.{MakeThose, table-map}
use Rattle.textwrap_display.specs.Tables.{ColumnMakes, IsTableBy, RowGaps, shape_of}
use Rattle.textwrap_layout.specs.{Direct.as_algorithm, Paragraph.Relations}
use Rattle.textwrap_plain.specs.Options.{DividesFrom, points_by, words_by}
use Rattle.textwrap_plain.specs.Tables.{IsPlainTable, PlainColumn, PlainMakes, plain_parts, plain_shape}
use Rattle.textwrap_plain.specs.declared.parts.PlainParts.{PlainParts}
use Rattle.textwrap_plain.specs.declared.printable.PlainWords.{PlainWords}
use Rattle.textwrap_words.specs.{Words.sizes_of, WrapAlgorithms.IsDividedBy}
use Rattle.textwrap_plain.specs.declared.options.PlainSeparator.{PlainSeparator}

pub named : (P : Settings → (Settings → Bool → List ℕ → List (List WordText) → Type 0) → Type 0)
    {s t : Settings} {w v : PlainSeparator} {p q : List ℕ → List ℕ} {a b : Algorithm} → s ≡ t → w ≡ v
    → p ≡ q → a ≡ b → P s (DividesFrom (words_by w) p a) → P t (DividesFrom (words_by v) q b)
named P settings words points algorithm is = rw (settings, words, points, algorithm) at is

-- ---- what a table of columns without functions shows

-- what the parts of such a column may find
abbrev may_find : PlainParts PlainWords → Relations
may_find parts = record {
  Words = λ line words. words ≡ words_by parts.words.separator line;
  Points = λ word points. points ≡ points_by parts.splitter word;
  Lines = IsDividedBy (as_algorithm parts.algorithm) sizes_of;
}

-- each column makes what its parts make
columns-make : (columns : List PlainColumn)
    → MakeThose (ColumnMakes may_find) PlainMakes shape_of plain_shape columns (map plain_parts columns)
columns-make [] = tt
columns-make (column ∷ columns) =
    (record { makes = λ text lines are. are; shape_is = refl }, columns-make columns)

-- and so does the table
pub plain-table : (columns : List PlainColumn) (gaps : RowGaps) (texts rows : List (List ℕ))
    → IsTableBy (ColumnMakes may_find) shape_of columns gaps texts rows
    → IsPlainTable (map plain_parts columns) gaps texts rows
plain-table columns =
    table-map (ColumnMakes may_find) PlainMakes shape_of plain_shape columns (map plain_parts columns)
    (columns-make columns)
