-- Lines whose styles are carried: their bytes, what they show, and whole lines under indents.
use Rattle.std.{proofs.lemmas.List.Folds.{concat-append, flat_map-map}, specs.Cow.cow_str_bytes}
use Rattle.std.specs.declared.borrow.CowStr.{CowStr}
use Rattle.textwrap_layout.proofs.Text.Lines.{line_bytes-line_view}
use Rattle.textwrap_layout.specs.Paragraph.{Line, line_bytes, line_view, Slice}
use Rattle.textwrap_styles.proofs.Common.{carried_lines, chars, closing, concat, fold-append, IsWhole}
use Rattle.textwrap_styles.proofs.Common.{link_end, open_styles, penned_lines, penned_text, plain_rendition}
use Rattle.textwrap_styles.proofs.Common.{Rendition, rendition_of, sequence_of, sequences, style_end}
use Rattle.textwrap_styles.proofs.{Common.with_sequence, LinkIds.reopened-sequences}
use Rattle.textwrap_styles.proofs.{PenStyles.{ended, styles-pen}, WrittenSettings.styles-sequences}
use Rattle.textwrap_styles.proofs.SequenceTexts.{closing-is, closing-sequences, closing_sequences, IsSequence}
use Rattle.textwrap_styles.proofs.SequenceTexts.{nil-whole, parts-penned, parts-sequences, parts-visible}
use Rattle.textwrap_styles.proofs.SequenceTexts.{penned-append, text-sequences, text_units-append}
use Rattle.textwrap_styles.specs.{Indents.{after_indent, before_text, indent_end}, Penned.penned_units}
use Rattle.textwrap_styles.specs.Styled.{EachWithIndent, EndsPlain, IsWholeText, MayCarry}
use Rattle.textwrap_styles.specs.Styles.{carried_line, opening, reopened_link, texts_of}
use Rattle.textwrap_text.proofs.Common.{◌+◌, ◌++◌, ◌<◌, [], All, All-append, All-cons, All-head}
use Rattle.textwrap_text.proofs.Common.{All-nil, All-tail, All-weaker, ap, append-nil, append_assoc, arith}
use Rattle.textwrap_text.proofs.Common.{cases_Bool, chars-nil, drop, drop_at, drop_more, flat_map, fold}
use Rattle.textwrap_text.proofs.Common.{get_or, inl, inr, IsUtf8-drop, length, length-append, List}
use Rattle.textwrap_text.proofs.Common.{map, map-append, nat_eq, nat_tests, nil_from_length, refl, rules}
use Rattle.textwrap_text.proofs.Common.{starts_with, subst, sym, take, take-append-drop, take_at, text_width}
use Rattle.textwrap_text.proofs.{Common.{units, ℕ, ◌∙◌, ◌∷◌, ◌≡◌, ◌≤◌}, Texts.StartsWith-boundary}
use Rattle.textwrap_text.proofs.Lists.Parts.{all-right, starts_with-rest}

-- ---- one line more that sets anew what is open, and ends plain

-- one more of the lines
pub carries-more : {Z : Type 0} (lines : List (CowStr Z)) (n : ℕ) (line added : CowStr Z)
    (indent later bytes text : List ℕ) (before : List (List ℕ)) (old new : List (CowStr Z))
    (all : List Line) → n < length lines → line ≡ get_or lines n line
    → bytes ≡ cow_str_bytes line → text ≡ after_indent indent bytes → new ≡ old ++ added ∷ []
    → line_view added ≡ carried_line indent before bytes → map line_view old
    ++ carried_lines indent later before (texts_of (drop n lines)) ≡ all
    → map line_view new ++ carried_lines later later (before ++ sequences text)
    (texts_of (drop (n + 1) lines)) ≡ all
carries-more lines n line added indent later bytes text before old new all within is same after
    push view whole =
    grind (arith, append_assoc, line_bytes-line_view, map-append, drop_more lines n line within)

-- ---- the bytes of a line whose styles are carried

carried-parts : (indent : List ℕ) (before : List (List ℕ)) (line : List ℕ)
    → line_bytes (carried_line indent before line)
    ≡ before_text indent line ++ opening before ++ after_indent indent line
    ++ closing (before ++ sequences (after_indent indent line))
carried-parts indent before line =
    let own = take-append-drop (indent_end indent line) line in
    grind (arith, nat_tests, append-nil, nil_from_length, length-append, own)

-- it is longer by what sets anew what is open, and what ends that, at most
pub carried-len : (indent : List ℕ) (before : List (List ℕ)) (line : List ℕ)
    → length (line_bytes (carried_line indent before line))
    ≤ length line + length (opening before) + length style_end + length link_end
carried-len indent before line =
    let own = take-append-drop (indent_end indent line) line in
    let ends : length (closing (before ++ sequences (after_indent indent line)))
    ≤ length style_end + length link_end = search (rules, arith) in
    grind (arith, length-append, carried-parts indent before line, own, ends)

pub carried-bytes : (indent : List ℕ) (before : List (List ℕ)) (line : List ℕ)
    → line_bytes (carried_line indent before line)
    ≡ before_text indent line ++ concat (reopened_link before ++ open_styles before)
    ++ after_indent indent line ++ concat (closing_sequences (before ++ sequences (after_indent indent line)))
carried-bytes indent before line = grind (arith, carried-parts, concat-append, closing-is)

-- ---- one line whose styles are carried: what it shows, what it leaves open and how wide it is

module _ (indent : List ℕ) (before : List (List ℕ)) (line : List ℕ) (are : All IsSequence before)
    (may : MayCarry indent line) where
  abbrev front : List ℕ
  front = before_text indent line

  abbrev text : List ℕ
  text = after_indent indent line

  abbrev starts : List (List ℕ)
  starts = reopened_link before ++ open_styles before

  abbrev ends : List (List ℕ)
  ends = closing_sequences (before ++ sequences text)

  all-starts : All IsSequence starts
  all-starts = search (rules, arith, All-append, reopened-sequences, styles-sequences)

  begun : rendition_of (sequences front ++ starts) ≡ rendition_of before
  begun = search (rules, arith, fold-append, styles-pen)

  pub carried-penned : penned_text plain_rendition (line_bytes (carried_line indent before line))
      ≡ penned_text plain_rendition front ++ penned_text (rendition_of before) text
  carried-penned = search (rules, arith, carried-bytes, parts-penned, all-starts, closing-sequences, begun)

  pub carried-plain : EndsPlain (line_bytes (carried_line indent before line))
  carried-plain =
      let closed = closing-sequences (before ++ sequences text) in
      let all = parts-sequences front text starts ends may.front may.text all-starts closed in
      grind (arith, carried-bytes, all, fold-append, begun, ended (before ++ sequences text))

  pub carried-wide : text_width (line_bytes (carried_line indent before line)) ≡ text_width line
  carried-wide =
      search (rules, arith, carried-bytes, parts-visible, all-starts, closing-sequences, take-append-drop)

-- ---- lines whose styles are carried, one after another

-- where all have the later indent
indented-later : (Is : List ℕ → List ℕ → Type 0) (later : List ℕ) (lines : List (List ℕ))
    → All (Is later) lines → EachWithIndent Is later later lines
indented-later Is later [] all = tt
indented-later Is later (line ∷ lines) all = (all 0 line (omega arith), All-tail (Is later) line lines all)

-- what the lines show, that they end plain, and how wide they are
pub record AreCarried (indent later : List ℕ) (before lines : List (List ℕ)) : Type 0 where
  pub shown : map (λ l. penned_text plain_rendition (line_bytes l)) (carried_lines indent later before lines)
      ≡ penned_lines indent later (rendition_of before) lines
  pub plain : All (λ l. EndsPlain (line_bytes l)) (carried_lines indent later before lines)
  pub wide : map (λ l. text_width (line_bytes l)) (carried_lines indent later before lines)
      ≡ map text_width lines

are_carried : (lines : List (List ℕ)) (indent later : List ℕ) (before : List (List ℕ))
    → All IsSequence before → EachWithIndent MayCarry indent later lines
    → AreCarried indent later before lines
are_carried [] indent later before are all =
    record { shown = refl; plain = All-nil (λ l. EndsPlain (line_bytes l)); wide = refl }
are_carried (line ∷ lines) indent later before are (may, rest) =
    let text = after_indent indent line in
    let now = before ++ sequences text in
    let others = are_carried lines later later now
    (All-append IsSequence before (sequences text) are (text-sequences text may.text))
    (indented-later MayCarry later lines rest) in
    let one = carried-penned indent before line are may in
    let next = fold-append with_sequence plain_rendition before (sequences text) in
    record {
      shown = search (rules, arith);
      plain = All-cons (λ l. EndsPlain (line_bytes l)) (carried_line indent before line)
          (carried_lines later later now lines) (carried-plain indent before line are may)
          others.plain;
      wide = grind (arith, carried-wide indent before line are may, others.wide);
    }

pub carried : (indent later : List ℕ) (lines : List (List ℕ))
    → EachWithIndent MayCarry indent later lines → AreCarried indent later [] lines
carried indent later lines = are_carried lines indent later [] (All-nil IsSequence)

-- the text has no sequence
abbrev IsPlainLine : List ℕ → List ℕ → Type 0
IsPlainLine indent line = sequences (after_indent indent line) ≡ []

-- ---- where no sequence is, and whole lines under indents that leave nothing open

pub plain-stay : (indent later : List ℕ) (lines : List (List ℕ))
    → EachWithIndent IsPlainLine indent later lines → carried_lines indent later [] lines ≡ map Slice lines
plain-stay indent later [] all = refl
plain-stay indent later (line ∷ lines) (none, rest) =
    grind (arith, none, plain-stay later later lines (indented-later IsPlainLine later lines rest))

nil-plain : EndsPlain []
nil-plain = ap (λ cs. rendition_of (flat_map sequence_of (units cs))) chars-nil

-- what follows a whole text in one
whole_text-rest : (xs ys : List ℕ) → IsWholeText xs → IsWholeText (xs ++ ys) → IsWholeText ys
whole_text-rest xs ys front whole =
    let starts = StartsWith-boundary (xs ++ ys) xs whole.0 front.0 (take_at xs ys (length xs) refl) in
    let utf8 = IsUtf8-drop (xs ++ ys) (length xs) whole.0 starts in
    let all = rw (text_units-append xs ys front) at whole.1 in
    (rw (drop_at xs ys (length xs) refl) at utf8, all-right IsWhole (units (chars xs)) (units (chars ys)) all)

may-carry : (indent line : List ℕ) → IsWholeText indent → EndsPlain indent
    → IsWholeText line → MayCarry indent line
may-carry indent line own plain whole = elim (cases_Bool (starts_with nat_eq line indent)) [
  | inl starts ↦
      let rest = drop (length indent) line in
      let shape : line ≡ indent ++ rest = starts_with-rest indent line starts in
      let front : take (length indent) line ≡ indent =
      ap (take (length indent)) shape ∙ take_at indent rest _ refl in
      record {
        front = rw (starts, front) own;
        plain = rw (starts, front) plain;
        text = rw starts (whole_text-rest indent rest own (subst IsWholeText shape whole));
      }
  | inr other ↦ record { front = rw other nil-whole; plain = rw other nil-plain; text = rw other whole }
]

pub all-may_carry : (indent later : List ℕ) (lines : List (List ℕ)) → IsWholeText indent
    → EndsPlain indent → IsWholeText later → EndsPlain later
    → All IsWholeText lines → EachWithIndent MayCarry indent later lines
all-may_carry indent later [] own plain more closed whole = tt
all-may_carry indent later (line ∷ lines) own plain more closed whole = (
  may-carry indent line own plain (All-head IsWholeText line lines whole),
  All-weaker IsWholeText (MayCarry later) (λ l. may-carry later l more closed) lines
      (All-tail IsWholeText line lines whole),
)

bare-shown : (lines : List (List ℕ)) (now : Rendition) → All IsWholeText lines
    → flat_map (λ shown. shown) (penned_lines [] [] now lines) ≡ penned_text now (concat lines)
bare-shown [] now whole = ap (λ cs. penned_units now (units cs)) (sym chars-nil)
bare-shown (line ∷ lines) now whole =
    let apart = text_units-append line (concat lines) (All-head IsWholeText line lines whole) in
    let rest = All-tail IsWholeText line lines whole in
    let others = bare-shown lines (fold with_sequence now (sequences line)) rest in
    grind (arith, chars-nil, apart, penned-append, others)

-- the lines, each by itself, show what the text shows that they join to
pub bare-carried : (lines : List (List ℕ)) → All IsWholeText lines
    → flat_map (λ l. penned_text plain_rendition (line_bytes l)) (carried_lines [] [] [] lines)
    ≡ penned_text plain_rendition (concat lines)
bare-carried lines whole =
    let all = carried [] [] lines (all-may_carry [] [] lines nil-whole nil-plain nil-whole nil-plain whole) in
    grind (arith, flat_map-map, all.shown, bare-shown lines plain_rendition whole)
