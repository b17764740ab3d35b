-- The words of a line, by the separator.
use Rattle.std.specs.Prelude.{◌≡◌, ℕ, Bool, true, false, List, Ok, map}
use Rattle.textwrap_words.specs.Words.{WordText, AreWordsOf, word_of}
use Rattle.textwrap_words.specs.Cuts.{parts_between}
use Rattle.textwrap_words.specs.declared.word_separators.WordSeparator.{WordSeparator}
use Rattle.textwrap_words.specs.declared.word_separators.WordSeparator.TheVariants.{AsciiSpace, Custom}
use Rattle.textwrap_words.specs.declared.word_separators.line_cuts.LineCuts.{LineCuts}

-- the caller's function may give these cuts for this line
abbrev pub MayCut : {F : Type 0} {f : _} → LineCuts F f → List ℕ → List ℕ → Type 0
MayCut {f = f} given line cuts =
    (alloc : _) × (asked : _) × (answer : _) × (asked.now ≡ line) × (answer.items ≡ cuts)
    × f.post given.function (alloc, (asked, tt)) (Ok answer)

-- the separator may give these words for this line: at the cuts of a caller, each part is a word
abbrev pub MaySeparate : {F : Type 0} {f : _} → WordSeparator F f → List ℕ → List WordText → Type 0
MaySeparate AsciiSpace line words = AreWordsOf line words
MaySeparate (Custom given) line words =
    (cuts : List ℕ) × MayCut given line cuts × (words ≡ map word_of (parts_between cuts line))

-- equal are only blanks to blanks: a function of a caller is known to be equal to none
abbrev pub are_equal : {F : Type 0} {f : _} → WordSeparator F f → WordSeparator F f → Bool
are_equal AsciiSpace AsciiSpace = true
are_equal AsciiSpace (Custom others) = false
are_equal (Custom given) other = false
