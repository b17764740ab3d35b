-- What texts begin with together, the layout of a text and what unfilling gives; a text that is filled
-- with the indents of another.
use Rattle.textwrap.proofs.Common.{is_prefix_character, unfilled_subsequent, starts_with_length, LF}
use Rattle.textwrap.proofs.Common.{IsUtf8-from_ascii, common_prefix_len, ended_lines-texts, All-nil}
use Rattle.textwrap.proofs.Common.{starts_with_of_eq, starts_with_trans, take-append-drop, All-cons}
use Rattle.textwrap.proofs.Common.{unfilled_initial, detected_ending, with_indents_of, DividesUnder}
use Rattle.textwrap.proofs.Common.{IsCharBoundary, detected_among, nonempty_lines, text_width-nil}
use Rattle.textwrap.proofs.Common.{common_prefix, settings_view, IsAscii-cons, IsAscii-take, IfSome}
use Rattle.textwrap.proofs.Common.{added_ending, append_assoc, common_start, common_steps, All-head}
use Rattle.textwrap.proofs.Common.{ending_bytes, keeps_ending, IsInColumns, joined_text, All-filter}
use Rattle.textwrap.proofs.Common.{line_prefix, IsRefilled, LineEnding, StartsWith, append-nil, All}
use Rattle.textwrap.proofs.Common.{prefix_len, text_width, Algorithm, DividesAs, EndedLine, IsAscii}
use Rattle.textwrap.proofs.Common.{ends_with, join_with, row_layout, nat_tests, unwrap_or, All-tail}
use Rattle.textwrap.proofs.Common.{IsFilled, Settings, Splitter, WordText, flat_map, has_text, Bool}
use Rattle.textwrap.proofs.Common.{texts_of, Options, IsUtf8, Option, eq-eqb, filter, get_or, arith}
use Rattle.textwrap.proofs.Common.{length, nat_eq, blank, false, lines, rules, subst, CRLF, List, ℕ}
use Rattle.textwrap.proofs.Common.{None, Some, cond, drop, fold, refl, take, true, ◌++◌, Bor, inl}
use Rattle.textwrap.proofs.Common.{inr, map, max, sym, ◌+◌, ◌↔◌, ◌∷◌, ◌≡◌, ◌≤◌, [], ap}
use Rattle.textwrap.specs.Refilling.{unfilled_settings, layout_settings, IsCommonPrefix}
use Rattle.textwrap.specs.declared.refilling.TextLayout.{TextLayout}
use Rattle.textwrap_text.proofs.Common.{IsCharBoundary-from_take, starts_with_of_append, cases_Bool}
use Rattle.textwrap_text.proofs.Common.{nil_from_length, take-take}
use Rattle.std.{proofs.lemmas.List.Sums.prefix_len-le-length, specs.Prelude.option_to_list}
use Rattle.textwrap_layout.proofs.Common.{AreTextLines, HasParts}
use Rattle.textwrap_layout.proofs.Paragraph.Pieces.{divides-under}

-- ---- what two texts begin with, and what all texts do

abbrev common_len : List ℕ → List ℕ → ℕ
common_len xs ys = common_prefix_len nat_eq xs ys

take_common-cut : (x y : ℕ) (xs ys : List ℕ) (b : Bool) → nat_eq x y ≡ b
    → take (common_len xs ys) xs ≡ take (common_len xs ys) ys
    → take (cond b (1 + common_len xs ys) 0) (x ∷ xs)
    ≡ take (cond b (1 + common_len xs ys) 0) (y ∷ ys)
take_common-cut x y xs ys true is same = search (rules, nat_tests)
take_common-cut x y xs ys false is same = refl

take_common : (xs ys : List ℕ) → take (common_len xs ys) xs ≡ take (common_len xs ys) ys
take_common [] ys = refl
take_common (x ∷ xs) [] = refl
take_common (x ∷ xs) (y ∷ ys) = search (rules, take_common-cut, nat_eq, take_common xs ys)

common_start-right : (xs ys : List ℕ) → StartsWith ys (common_start xs ys)
common_start-right xs ys = grind (arith, common_steps, take_common xs ys)

pub common_len-longest : (other xs ys : List ℕ) → StartsWith xs other → StartsWith ys other
    → length other ≤ common_len xs ys
common_len-longest [] xs ys left right = omega arith
common_len-longest (o ∷ os) [] ys left right = cc
common_len-longest (o ∷ os) (x ∷ xs) [] left right = cc
common_len-longest (o ∷ os) (x ∷ xs) (y ∷ ys) left right =
    search (rules, eq-eqb, common_len-longest os xs ys (ap (drop 1) left) (ap (drop 1) right))

common_start-longest : (other xs ys : List ℕ) → StartsWith xs other → StartsWith ys other
    → StartsWith (common_start xs ys) other
common_start-longest other xs ys left right = search (rules, take-take, common_len-longest)

fold-begins : (text : List ℕ) (texts : List (List ℕ))
    → StartsWith text (fold common_start text texts)
    × All (λ t. StartsWith t (fold common_start text texts)) texts
fold-begins text [] = search (rules, starts_with_of_eq, All-nil)
fold-begins text (next ∷ texts) =
    let n = common_len text next in
    let start = common_start text next in
    let whole = fold common_start start texts in
    let (first, others) = fold-begins start texts in (
      starts_with_trans text start whole
          (starts_with_of_append text (take n text) (drop n text) (sym (take-append-drop n text)))
          first,
      All-cons (λ t. StartsWith t whole) next texts
          (starts_with_trans next start whole (common_start-right text next) first) others,
    )

pub common_prefix-begins : (texts : List (List ℕ))
    → All (λ t. StartsWith t (common_prefix texts)) texts
common_prefix-begins [] = All-nil (λ t. StartsWith t [])
common_prefix-begins (text ∷ texts) = grind (arith, common_steps, fold-begins text texts)

fold-longest : (other text : List ℕ) (texts : List (List ℕ)) → StartsWith text other
    → All (λ t. StartsWith t other) texts → length other ≤ length (fold common_start text texts)
fold-longest other text [] first others = starts_with_length text other first
fold-longest other text (next ∷ texts) first others =
    fold-longest other (common_start text next) texts
    (search (rules, common_start-longest, All-head))
    (All-tail (λ t. StartsWith t other) next texts others)

common_prefix-is : (texts : List (List ℕ)) → IsCommonPrefix texts (common_prefix texts)
common_prefix-is [] = search (rules, common_prefix-begins)
common_prefix-is (text ∷ texts) = record {
  begins = common_prefix-begins (text ∷ texts);
  longest = λ some other begins. fold-longest other text texts
      (All-head (λ t. StartsWith t other) text texts begins)
      (All-tail (λ t. StartsWith t other) text texts begins);
  none = λ is. cc;
}

pub common_prefixes_one : (texts : List (List ℕ)) (prefix : List ℕ)
    → IsCommonPrefix texts prefix ↔ (prefix ≡ common_prefix texts)
common_prefixes_one texts prefix = grind (arith, common_prefix-is)

-- ---- a line's own prefix

ascii-cut : (c : ℕ) (cs : List ℕ) (b : Bool) → is_prefix_character c ≡ b
    → IsAscii (take (prefix_len is_prefix_character cs) cs)
    → IsAscii (take (cond b (1 + prefix_len is_prefix_character cs) 0) (c ∷ cs))
ascii-cut c cs true is ascii = search (rules, IsAscii-cons)
ascii-cut c cs false is ascii = λ i. omega arith

pub line_prefix-ascii : (line : List ℕ) → IsAscii (line_prefix line)
line_prefix-ascii [] = λ i. omega arith
line_prefix-ascii (c ∷ cs) = search (rules, ascii-cut, line_prefix-ascii cs)

pub line_prefix-boundary : (line : List ℕ) → IsUtf8 line
    → IsCharBoundary line (prefix_len is_prefix_character line)
line_prefix-boundary line utf8 =
    IsCharBoundary-from_take line (prefix_len is_prefix_character line) utf8
    (prefix_len-le-length is_prefix_character line)
    (IsUtf8-from_ascii (line_prefix line) (line_prefix-ascii line))

-- ---- what a text begins with

pub line_prefix-begins : (line : List ℕ) → StartsWith line (line_prefix line)
line_prefix-begins line = grind (arith, common_steps)

-- ---- lemmas on the layout of a text, as its lines show it one after another

abbrev pub texts_in : Option (Bor (List ℕ)) → List (List ℕ)
texts_in texts = map (λ text. text.now) (option_to_list texts)

-- ---- the first line

pub width-first : (es : List EndedLine)
    → fold max (text_width (get_or (texts_of es) 0 [])) (map text_width (texts_of (drop 1 es)))
    ≡ fold max 0 (map text_width (texts_of es))
width-first [] = text_width-nil
width-first (e ∷ es) = search rules

-- ---- one more line

pub narrowed : (common : Option (Bor (List ℕ))) (prefix : List ℕ) (rest : List (List ℕ))
    → common_prefix (common_prefix (texts_in common ++ prefix ∷ []) ∷ rest)
    ≡ common_prefix (texts_in common ++ prefix ∷ rest)
narrowed None prefix rest = refl
narrowed (Some common) prefix rest = refl

pub narrowed-ascii : (common : Option (Bor (List ℕ))) (text : List ℕ)
    → IfSome common (λ c. IsAscii c.now)
    → IsAscii (common_prefix (texts_in common ++ line_prefix text ∷ []))
narrowed-ascii None text ascii = line_prefix-ascii text
narrowed-ascii (Some common) text ascii = search (rules, IsAscii-take)

-- ---- no more lines

pub common-end : (common : Option (Bor (List ℕ))) (none : Bor (List ℕ)) → none.now ≡ []
    → (unwrap_or common none).now ≡ common_prefix (texts_in common)
common-end None none empty = empty
common-end (Some common) none empty = refl

-- ---- the lines that are not empty begin with their indents

begins-each : (indent : List ℕ) (es : List EndedLine)
    → All (λ t. StartsWith t indent) (map line_prefix (texts_of es))
    → All (λ e. StartsWith e.line indent) es
begins-each indent [] all = All-nil (λ e. StartsWith e.line indent)
begins-each indent (e ∷ es) all = All-cons (λ l. StartsWith l.line indent) e es
    (search (rules, starts_with_trans, line_prefix-begins, All-head))
    (begins-each indent es
    (All-tail (λ t. StartsWith t indent) (line_prefix e.line) (map line_prefix (texts_of es)) all))

-- the first line begins with the first indent, all others with the second
abbrev BeginWith : List ℕ → List ℕ → List EndedLine → Type 0
BeginWith initial subsequent es = (e : EndedLine) (rest : List EndedLine) → es ≡ e ∷ rest
    → StartsWith e.line initial × All (λ l. StartsWith l.line subsequent) rest

begin-lines : (es : List EndedLine)
    → BeginWith (line_prefix (get_or (texts_of es) 0 []))
    (common_prefix (map line_prefix (drop 1 (texts_of es)))) (filter has_text es)
begin-lines [] = λ e rest is. cc
begin-lines (first ∷ es) = λ e rest is.
    let subsequent = common_prefix (map line_prefix (texts_of es)) in
    let each = All-filter has_text (λ l. StartsWith l.line subsequent) es
    (begins-each subsequent es (common_prefix-begins (map line_prefix (texts_of es)))) in
    elim (cases_Bool (has_text first)) [
      | inl some ↦ let here = rw some at is in search (rules, line_prefix-begins)
      | inr none ↦
          let here : filter has_text es ≡ e ∷ rest = rw none at is in
          let empty : length first.line ≡ 0 = grind (arith, nat_tests) in (
            rw (nil_from_length first.line empty),
            All-tail (λ l. StartsWith l.line subsequent) e rest (rw here at each),
          )
    ]

pub lines-begin : (text : List ℕ) (e : EndedLine) (rest : List EndedLine)
    → nonempty_lines text ≡ e ∷ rest
    → StartsWith e.line (unfilled_initial text)
    × All (λ l. StartsWith l.line (unfilled_subsequent text)) rest
lines-begin text = search (rules, ended_lines-texts, begin-lines)

-- ---- joined lines

-- what the later lines add, each after a blank and less so many bytes
abbrev pub added_lines : ℕ → List EndedLine → List ℕ
added_lines n es = flat_map (λ e. blank ∷ drop n e.line) es

join-added : (first : List ℕ) (n : ℕ) (es : List EndedLine)
    → join_with (blank ∷ []) (first ∷ map (drop n) (texts_of es)) ≡ first ++ added_lines n es
join-added first n [] = sym (append-nil first)
join-added first n (e ∷ es) = search (rules, append_assoc, join-added (drop n e.line) n es)

pub joined_text-some : (text initial subsequent : List ℕ) (e : EndedLine) (rest : List EndedLine)
    → initial ≡ unfilled_initial text → subsequent ≡ unfilled_subsequent text
    → nonempty_lines text ≡ e ∷ rest
    → drop (length initial) e.line ++ added_lines (length subsequent) rest ≡ joined_text text
joined_text-some text initial subsequent e rest first later some = search (rules, join-added)

-- ---- the detected ending

-- two endings count as the one that is detected among them
pub detected_among-two : (first second : Option LineEnding) (others : List (Option LineEnding))
    → detected_among (detected_among (first ∷ second ∷ []) ∷ others)
    ≡ detected_among (first ∷ second ∷ others)
detected_among-two None None others = refl
detected_among-two None (Some CRLF) others = refl
detected_among-two None (Some LF) others = refl
detected_among-two (Some CRLF) None others = refl
detected_among-two (Some CRLF) (Some CRLF) others = refl
detected_among-two (Some CRLF) (Some LF) others = refl
detected_among-two (Some LF) None others = refl
detected_among-two (Some LF) (Some CRLF) others = refl
detected_among-two (Some LF) (Some LF) others = refl

pub detected_among-one : (detected : Option LineEnding) → detected_among (detected ∷ []) ≡ detected
detected_among-one None = refl
detected_among-one (Some LF) = refl
detected_among-one (Some CRLF) = refl

pub keeps_ending-some : (text : List ℕ) (ending : LineEnding) → detected_ending text ≡ Some ending
    → keeps_ending text ≡ ends_with nat_eq text (ending_bytes ending)
keeps_ending-some text ending is = search (rules, nat_eq)

-- ---- a text that is filled with the indents of another

pub refilled-from : (settings : Settings)
    (Divides : Settings → Bool → List ℕ → List (List WordText) → Type 0) (text refilled : List ℕ)
    (layout : TextLayout) → layout_settings layout ≡ unfilled_settings text
    → (joined : List ℕ) → joined ≡ joined_text text → (keeps : Bool) → keeps ≡ keeps_ending text
    → let indented : Settings = record settings {
      initial_indent = layout.initial_indent.now;
      subsequent_indent = layout.subsequent_indent.now;
    } in (filled : List ℕ) × IsFilled indented (Divides indented) joined filled
    × (refilled ≡ filled ++ added_ending keeps settings.line_ending)
    → IsRefilled settings Divides text refilled
refilled-from settings Divides text refilled layout found joined joined_is keeps keeps_is is =
    search (rules, arith)

-- ---- refilled texts and texts in columns under options with built-in parts: what they divide
-- is what the parts do as values

module _ {E C : Type 0} {e : _} {c : _} (options : Options E C e c) (settings : Settings)
    (splitter : Splitter) (algorithm : Algorithm)
    (parts : HasParts options settings splitter algorithm) where
  pub refilled-as : (text refilled : List ℕ)
      → IsRefilled (settings_view options) (DividesUnder options) text refilled
      → IsRefilled settings (DividesAs splitter algorithm) text refilled
  refilled-as text refilled (filled, is, ends) =
      let indented = with_indents_of text (settings_view options) in
      subst (λ s. IsRefilled s (DividesAs splitter algorithm) text refilled) parts.settings_are (
        filled,
        rw (← divides-under options settings splitter algorithm parts indented) is,
        ends,
      )

  pub columns-as : (columns : ℕ) (text left middle right : List ℕ) (rows : List (List ℕ))
      → IsInColumns (settings_view options) (DividesUnder options) columns text left middle right
      rows
      → IsInColumns settings (DividesAs splitter algorithm) columns text left middle right rows
  columns-as columns text left middle right rows (lines, are, is) =
      let layout = row_layout options.width columns left middle right in
      let narrow = record (settings_view options) { width = layout.column_width } in
      rw (← parts.settings_are) (
        lines,
        subst (λ Divides. AreTextLines narrow Divides text lines)
            (divides-under options settings splitter algorithm parts narrow) are,
        is,
      )
