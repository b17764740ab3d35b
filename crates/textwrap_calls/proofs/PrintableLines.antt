-- Texts of printable ASCII, block by block, and texts that are one line.
use Rattle.textwrap.proofs.Common.{indented, joined_text, keeps_ending, line_prefix}
use Rattle.textwrap.proofs.Common.{unfilled_initial, unfilled_subsequent, with_indents_of}
use Rattle.textwrap.{specs.Indentation.HasNoLineFeed}
use Rattle.textwrap_calls.proofs.Common.{All-from_get_or, Divides, IsPrintableByte, TextwrapOptions}
use Rattle.textwrap_calls.proofs.Common.{IsRefilled, options_settings, slice_range, word_of, []}
use Rattle.textwrap_calls.proofs.Common.{All-head, append-nil, nat_tests, ShowLines}
use Rattle.textwrap_calls.proofs.Common.{is_blank_line, length-slice, ℕ, arith, cond, false, get_or}
use Rattle.textwrap_calls.proofs.Common.{length, List, lt-ltb, subst, cases_lt, is_whole, IsFilled}
use Rattle.textwrap_calls.proofs.Common.{IsUtf8, place_of, says_yes, drop, inl, inr, refl, sym}
use Rattle.textwrap_calls.proofs.Common.{true, ◌++◌, ◌+◌, ◌-◌, ◌<◌, ArePlacedLines, Bool}
use Rattle.textwrap_calls.proofs.{Common.Settings, Common.WordText, PlaceLemmas.placed-shown}
use Rattle.textwrap_layout.proofs.Paragraph.LeftOff.{AreParagraphParts-whole, line_from-whole}
use Rattle.textwrap_layout.proofs.Text.Paragraphs.{one-paragraph}
use Rattle.textwrap_text.proofs.Common.{get_or-drop, get_or-take, IsPrintable, without_final_blanks}
use Rattle.textwrap_text.proofs.TextLines.{ended_lines-whole, ended_parts-whole, lines-whole}
use Rattle.textwrap_text.proofs.Units.Reading.{printable-ascii}
use Rattle.std.{proofs.lemmas.Str.{chars-IsAscii, IsUtf8-from_ascii}, specs.Char.is_whitespace}
use Rattle.textwrap_calls.{proofs.Common.{ap, ◌∙◌, ◌∷◌, ◌≡◌, ◌≢◌, ◌≤◌}, specs.Printable.IsOnlyLine}
use Rattle.textwrap_layout.proofs.{Common.{parts_of, Slice}, Text.Paragraphs.printable-free}
use Rattle.textwrap_text.proofs.Common.{All-drop, All-take}

-- ---- texts of printable ASCII, block by block, and texts that are one line

-- a byte of a printable block
pub byte-in : (text : List ℕ) (from to k : ℕ) → to ≤ length text → from ≤ k → k < to
    → IsPrintable (slice_range text from to) → IsPrintableByte (get_or text k 0)
byte-in text from to k within after below printable =
    let byte = printable (k - from) 0 (omega (arith, below, after, length-slice text from to within)) in
    let place : from + (k - from) ≡ k = omega (arith, after) in
    let same : get_or (slice_range text from to) (k - from) 0 ≡ get_or text k 0 =
    get_or-take (to - from) (drop from text) (k - from) 0 (omega (arith, below, after))
    ∙ get_or-drop from text (k - from) 0 ∙ ap (λ n. get_or text n 0) place in
    subst IsPrintableByte same byte

pub printable-slice : (text : List ℕ) (from to : ℕ) → IsPrintable text
    → IsPrintable (slice_range text from to)
printable-slice text from to all =
    All-take IsPrintableByte (to - from) (drop from text) (All-drop IsPrintableByte from text all)

-- two blocks that cover the text
pub printable-both : (text : List ℕ) (n : ℕ) → n ≤ length text → length text ≤ n + n
    → IsPrintable (slice_range text 0 n)
    → IsPrintable (slice_range text (length text - n) (length text))
    → IsPrintable text
printable-both text n some covered front back =
    All-from_get_or IsPrintableByte text 0 (λ k within. elim (cases_lt k n) [
      | inl before ↦ byte-in text 0 n k some (omega arith) before front
      | inr from ↦ byte-in text (length text - n) (length text) k (omega arith)
          (omega (arith, from, covered)) within back
    ])

pub printable-utf8 : (text : List ℕ) → IsPrintable text → IsUtf8 text
printable-utf8 text printable = IsUtf8-from_ascii text (printable-ascii text printable)

-- ---- a line

printable-dark : (c : ℕ) → IsPrintableByte c → c ≢ 32 → is_whitespace c ≡ false
printable-dark c (low, high) other = grind (arith, nat_tests, low, high, other)

-- one that does not begin with a blank is indented by the whole prefix
pub indented-line : (prefix text : List ℕ) → IsPrintable text → length text ≢ 0
    → get_or text 0 0 ≢ 32 → indented prefix text ≡ prefix ++ text
indented-line prefix [] printable some dark = absurd (some refl)
indented-line prefix (c ∷ cs) printable some dark =
    let whole = ended_parts-whole (c ∷ cs) (printable-free (c ∷ cs) printable)
    (λ none. cc) in
    let full : is_blank_line (c ∷ cs) ≡ false =
    rw (
      chars-IsAscii (c ∷ cs) (printable-ascii (c ∷ cs) printable),
      printable-dark c (All-head IsPrintableByte c cs printable) dark,
    ) in
    rw (whole, full) (append-nil (prefix ++ c ∷ cs))

-- one without an indent that is shorter than the width is the line as it is, but for its last blanks
free-line : (settings : Settings) (Divides : Bool → List ℕ → List (List WordText) → Type 0)
    (text line : List ℕ) → settings.initial_indent ≡ [] → length text < settings.width
    → HasNoLineFeed text
    → line ≡ cond settings.preserve_trailing_space text (without_final_blanks text)
    → ArePlacedLines settings Divides text (Slice line ∷ []) (place_of 0 0 (Slice line) ∷ [])
free-line settings Divides text line none short free is =
    let whole : is_whole settings false text ≡ true =
    rw none (lt-ltb (length text) settings.width short) in
    let one = one-paragraph settings.line_ending text free in
    let parts = parts_of settings false (word_of text ∷ []) ∷ [] in
    let same = ap Slice is ∙ sym (line_from-whole settings false text whole) in
    record {
      are = record {
        groups = parts ∷ [];
        defined = rw one (AreParagraphParts-whole settings Divides false text whole, refl);
        given = ap (λ l. l ∷ []) same;
      };
      places_are = rw one (ap (λ l. place_of 0 0 l ∷ []) same);
    }

pub only-line : (o : TextwrapOptions) (text line : List ℕ) → o.initial_indent.now ≡ []
    → length text < o.width → HasNoLineFeed text
    → line ≡ cond (says_yes o.preserve_trailing_space) text (without_final_blanks text)
    → IsOnlyLine o text line
only-line o = free-line (options_settings o) (Divides o (options_settings o))

-- and that is the filled text
pub only-line-filled : (o : TextwrapOptions) (text line : List ℕ) → IsOnlyLine o text line
    → IsFilled (options_settings o) (Divides o (options_settings o)) text line
only-line-filled o text line only = (Slice line ∷ [], only.are, refl)

-- and its one line is reported where it begins
pub only-line-shown : (o : TextwrapOptions) (text line : List ℕ) → IsUtf8 text
    → IsOnlyLine o text line → (rest : List ℕ)
    → ShowLines text rest 0 0 (Slice line ∷ []) (place_of 0 0 (Slice line) ∷ [])
only-line-shown o text line =
    placed-shown o text
    (Slice line ∷ []) (place_of 0 0 (Slice line) ∷ [])

-- ---- A text that is one line and begins with no indent is refilled as it is filled

-- what is got back from such a text: no indents, the text itself, and no ending
record IsUnfilledAsItIs (text : List ℕ) : Type 0 where
  initial : unfilled_initial text ≡ []
  subsequent : unfilled_subsequent text ≡ []
  joined : joined_text text ≡ text
  bare : keeps_ending text ≡ false

unfilled-as-it-is : (text : List ℕ) → HasNoLineFeed text → line_prefix text ≡ []
    → IsUnfilledAsItIs text
unfilled-as-it-is [] free none = record { initial = refl; subsequent = refl; joined = refl; bare = refl }
unfilled-as-it-is (c ∷ cs) free none =
    let text = c ∷ cs in
    let line = lines-whole text free (λ is. cc) in
    let ended = ended_lines-whole text free (λ is. cc) in
    let full = lt-ltb 0 (length text) (omega arith) in
    record {
      initial = rw line none;
      subsequent = rw line refl;
      joined = rw (ended, full, line, none) refl;
      bare = rw (ended, full) refl;
    }

pub line-refilled : (o : TextwrapOptions) (text line : List ℕ) → length text < o.width
    → HasNoLineFeed text → line_prefix text ≡ []
    → line ≡ cond (says_yes o.preserve_trailing_space) text (without_final_blanks text)
    → IsRefilled (options_settings o) (Divides o) text line
line-refilled o text line short free none is =
    let settings = with_indents_of text (options_settings o) in
    let got = unfilled-as-it-is text free none in
    let only = free-line settings (Divides o settings) text line got.initial short free is in
    let filled : IsFilled settings (Divides o settings) text line = (Slice line ∷ [], only.are, refl) in (
      line,
      rw got.joined filled,
      rw got.bare (sym (append-nil line)),
    )
