-- Where a printable text is cut into words at its Unicode line breaks, told from its bytes.
use Rattle.std.specs.Prelude.{◌≡◌, ℕ, zero, suc, ◌-◌, ◌<◌, Bool, false, not, ◌==◌, ◌&&◌, ◌||◌}
use Rattle.std.specs.Prelude.{List, length, slice_index, if◌then◌else◌}
use Rattle.std.specs.List.{list_any}
use Rattle.unicode.specs.declared.properties.LineBreak.{LineBreak}
use Rattle.unicode.specs.declared.properties.LineBreak.TheVariants.{Unknown}
use Rattle.textwrap_text.specs.Units.{IsPrintable}
use Rattle.textwrap_words.specs.WordOffsets.{is_any_hyphen}
use Rattle.textwrap_words.specs.Words.{is_cut}
use Rattle.textwrap_unicode.specs.declared.before.Before.{Before}
use Rattle.textwrap_text.specs.ClassSets.{is_after_text, is_opening, is_quotation, is_space}
use Rattle.textwrap_text.specs.Classes.{class_of, unit_of}
use Rattle.textwrap_unicode.specs.Cuts.{may_end, unicode_cuts}
use Rattle.textwrap_unicode.specs.Rules.{decide}

-- the text is cut there
abbrev pub at_breaks : List ℕ → ℕ → Bool
at_breaks text place = list_any (λ cut. cut == place) (unicode_cuts text)

-- ---- the same, told from the bytes of a printable text

-- the class of the last byte before a place that is no blank, XX where there is none
abbrev pub class_past_blanks : List ℕ → ℕ → LineBreak
class_past_blanks text zero = Unknown
class_past_blanks text (suc n) =
    let class = class_of (slice_index text n) in
    if is_space class then class_past_blanks text n else class

-- what the rules ask behind printable bytes, by the class of the last that is no blank, and that of
-- the last
abbrev pub behind_classes : LineBreak → LineBreak → Before
behind_classes past class = record {
  is_start = false;
  class = class;
  past_spaces = past;
  follows_hebrew = false;
  is_half_flag = false;
  is_wide = false;
  is_unassigned_pictograph = false;
  is_joined = false;
  is_in_number = false;
  is_past_number = false;
}

-- a text is cut between two bytes if a line may end there, but not directly after a hyphen
abbrev pub is_cut_behind : LineBreak → ℕ → ℕ → Bool
is_cut_behind past before after =
    not (is_any_hyphen before)
    && may_end (decide (behind_classes past (class_of before)) (unit_of after))

-- at a place: numbers by pairs, so no digit farther back matters
abbrev pub printable_cut : List ℕ → ℕ → Bool
printable_cut text place =
    is_cut_behind (class_past_blanks text place) (slice_index text (place - 1))
    (slice_index text place)

-- ---- texts that are cut at their blanks

-- the text is printable, and cut where words between blanks begin, and nowhere else
pub record IsCutAtBlanks (text : List ℕ) : Type 0 where
  pub printable : IsPrintable text
  pub cuts : (place : ℕ) → 0 < place → place < length text → at_breaks text place
      ≡ is_cut (slice_index text (place - 1)) (slice_index text place)

-- LB13 to LB15: nothing keeps a byte with what stands before the blanks
abbrev pub may_follow_blanks : LineBreak → LineBreak → Bool
may_follow_blanks past class =
    not (is_after_text class) && not (is_opening past || (is_quotation past && is_opening class))

-- a byte is unusual behind another: behind a blank if it may be kept with what stands before that, a
-- blank if that is kept with what comes behind it, and else if the text is cut between the two
abbrev pub is_unusual : ℕ → ℕ → Bool
is_unusual before after =
    let first = class_of before in
    let next = class_of after in
    if is_space first then is_after_text next || is_opening next
    else (is_opening first && is_space next) || is_cut_behind first before after

-- the text is cut there if a word between blanks begins, and no bracket opens before a blank
pub record IsUsual (text : List ℕ) (place : ℕ) : Type 0 where
  pub cut : at_breaks text place ≡ is_cut (slice_index text (place - 1)) (slice_index text place)
  pub unopened : is_opening (class_of (slice_index text (place - 1)))
      && is_space (class_of (slice_index text place)) ≡ false
