-- The lines of a text that is filled in place are lines of the wrapped text; and a part that is filled
-- in place word by word: the line so far, and the blanks that become line feeds.
use Rattle.textwrap.proofs.Common.{some_from_nonempty, AreParagraphParts, IsBroken-greedy, All-cons}
use Rattle.textwrap.proofs.Common.{IsFilledInPlace, parts_past-some, line_width-one, text_width-nil}
use Rattle.textwrap.proofs.Common.{tiled-words_of, AreLinesApart, greedy_unique, length-append, All}
use Rattle.textwrap.proofs.Common.{paragraphs_of, append_assoc, broken_lines, common_steps, All-nil}
use Rattle.textwrap.proofs.Common.{ending_bytes, grown-greedy, tiled-append, words_unique, All-head}
use Rattle.textwrap.proofs.Common.{FitsOneLine, length_push, split-whole, AreWordsOf, append-nil, ℕ}
use Rattle.textwrap.proofs.Common.{map-append, parts_from, AreGroups, DividesAs, LineParts, covered}
use Rattle.textwrap.proofs.Common.{and_parts, breaks_of, indent_of, join_with, line_from, shortened}
use Rattle.textwrap.proofs.Common.{widths_of, All-tail, IsGreedy, WordText, flat_map, is_whole, map}
use Rattle.textwrap.proofs.Common.{parts_of, sizes_of, words_of, tile_of, word_of, ByFirstFit, IsUtf8}
use Rattle.textwrap.proofs.Common.{chunks, length, Slice, Whole, arith, blank, false, grown, rules}
use Rattle.textwrap.proofs.Common.{subst, tiled, Bool, Line, List, flat, refl, true, ◌++◌, suc, sym}
use Rattle.textwrap.proofs.Common.{◌+◌, ◌-◌, ◌<◌, ◌∙◌, ◌∷◌, ◌≡◌, ◌≢◌, ◌≤◌, LF, [], ap}
use Rattle.textwrap.specs.Laws.{unbroken_at}
use Rattle.textwrap.proofs.Text.InPlace.{greedy_lines, lines-broken, lines-greedy, join-broken}
use Rattle.textwrap.proofs.Text.InPlace.{lines-some, part_lines, filled-is}
use Rattle.textwrap_text.proofs.Common.{without_final_blanks, reverse-append, take-append-le, ◌||◌}
use Rattle.textwrap_text.proofs.Common.{All-append, ltb-true, All-map, nat_lt}
use Rattle.textwrap_text.specs.LineEnding.{Lacks}
use Rattle.textwrap_base.proofs.Common.{closed_width, line_width, open_width, Fits}
use Rattle.textwrap_base.proofs.Division.Greedy.{closed_width-push, open_width-append}
use Rattle.textwrap_base.proofs.Division.Greedy.{line_width-two, IsGreedy-same}
use Rattle.textwrap_base.proofs.{Cost.Chosen.IsDividedBy-one_line, Division.Map.IsDivision-whole}
use Rattle.textwrap_base.proofs.Division.Grown.{prefix-closes, grown-begins, grown-full}
use Rattle.textwrap_layout.proofs.Common.{AreTextLines, pieces_of}
use Rattle.textwrap_layout.proofs.Text.Paragraphs.{paragraphs_of-utf8, paragraphs_one}
use Rattle.textwrap_layout.proofs.Paragraph.LeftOff.{AreParagraphParts-divided, closed-pieces_of}
use Rattle.textwrap_layout.proofs.Paragraph.LeftOff.{AreParagraphParts-whole, covered-words_of}
use Rattle.textwrap_layout.proofs.Paragraph.LeftOff.{line_from-pieces, line_from-whole}
use Rattle.textwrap_layout.proofs.Paragraph.{Pieces.ArePieces-computed, LeftOff.tiled-word_of}
use Rattle.textwrap_words.proofs.Word.Words.{HasNoPenalty, tiled-push}

-- ---- there is one text filled in place, and it has its lines between its line feeds

pub filled_one : (width : ℕ) (text filled other : List ℕ) → IsFilledInPlace width text filled
    → IsFilledInPlace width text other → filled ≡ other
filled_one width text filled other is other_is =
    filled-is width text filled is ∙ sym (filled-is width text other other_is)

lacks-joined : (ending separator : List ℕ) (texts : List (List ℕ))
    → Lacks ending (join_with separator texts) → All (Lacks ending) texts
lacks-joined ending separator [] lacks = All-nil (Lacks ending)
lacks-joined ending separator (text ∷ []) lacks = search (rules, All-cons, All-nil)
lacks-joined ending separator (text ∷ next ∷ texts) lacks =
    let rest = join_with separator (next ∷ texts) in
    All-cons (Lacks ending) text (next ∷ texts)
    (λ before after is. lacks before (after ++ (separator ++ rest)) (rw is (simp append_assoc)))
    (lacks-joined ending separator (next ∷ texts)
    (λ before after is. lacks ((text ++ separator) ++ before) after (rw is (simp append_assoc))))

lacks-lines : (ending : List ℕ) (width : ℕ) (parts : List (List ℕ)) → All (Lacks ending) parts
    → All (Lacks ending) (flat_map (part_lines width) parts)
lacks-lines ending width [] all = All-nil (Lacks ending)
lacks-lines ending width (part ∷ parts) all =
    All-append (Lacks ending) (part_lines width part) (flat_map (part_lines width) parts)
    (lacks-joined ending (blank ∷ []) (part_lines width part) (subst (Lacks ending)
    (join-broken part (greedy_lines width part) (lines-broken width part))
    (All-head (Lacks ending) part parts all)))
    (lacks-lines ending width parts (All-tail (Lacks ending) part parts all))

lines-least : (width : ℕ) (parts : List (List ℕ))
    → length parts ≤ length (flat_map (part_lines width) parts)
lines-least width [] = omega arith
lines-least width (part ∷ parts) =
    let size = length-append (part_lines width part) (flat_map (part_lines width) parts) in
    omega (arith, lines-least width parts, lines-some width part, size)

filled-paragraphs : (width : ℕ) (text filled : List ℕ) → IsFilledInPlace width text filled
    → paragraphs_of LF filled ≡ flat_map (part_lines width) (paragraphs_of LF text)
filled-paragraphs width text filled is =
    let parts = paragraphs_of LF text in
    let any = parts_past-some (ending_bytes LF) 0 text in
    sym ((paragraphs_one LF filled (flat_map (part_lines width) parts)).0 (record {
      some = λ none. omega (arith, lines-least width parts, any, ap length none);
      joined = sym (filled-is width text filled is);
      lacking = lacks-lines (ending_bytes LF) width parts
          ((paragraphs_one LF text parts).1 refl).lacking;
    }))

-- ---- the lines of a part, with the blanks at their ends left off

-- a blank at the end of a text is one of its final blanks
pub without_final_blanks-push : (text : List ℕ)
    → without_final_blanks (text ++ blank ∷ []) ≡ without_final_blanks text
without_final_blanks-push text = search (rules, reverse-append, length_push, take-append-le)

pub covered-words : (line : List WordText) → AreWordsOf (tiled line) line
    → covered line ≡ without_final_blanks (tiled line)
covered-words line words =
    ap covered ((words_unique (tiled line) line).0 words) ∙ covered-words_of (tiled line)

pub words-no_penalty : (line : List WordText) → AreWordsOf (tiled line) line → All HasNoPenalty line
words-no_penalty line (chunks, are, is) =
    subst (All HasNoPenalty) (sym is) (All-map HasNoPenalty word_of chunks (λ k d lt. refl))

-- a line of the new text as a line of the wrapped one
abbrev pub trimmed_line : List ℕ → Line
trimmed_line line = Slice (without_final_blanks line)

unindented : (width : ℕ) (is_later : Bool) → indent_of (unbroken_at width) is_later ≡ []
unindented width true = refl
unindented width false = refl

line_from-words : (width : ℕ) (is_later : Bool) (line : List WordText)
    → AreWordsOf (tiled line) line
    → line_from (parts_of (unbroken_at width) is_later line) ≡ trimmed_line (tiled line)
line_from-words width is_later line words =
    simp (line_from-pieces, unindented, words-no_penalty, covered-words)

pub lines_from-broken : (width : ℕ) (is_later : Bool) (lines : List (List WordText))
    → AreLinesApart lines
    → map line_from (parts_from (unbroken_at width) is_later lines)
    ≡ map trimmed_line (broken_lines lines)
lines_from-broken width is_later [] apart = refl
lines_from-broken width is_later (line ∷ []) words = simp line_from-words
lines_from-broken width is_later (line ∷ next ∷ lines) (words, ending, apart) =
    ap (λ l. l ∷ map line_from (parts_from (unbroken_at width) true (next ∷ lines)))
    (search (rules, line_from-words, without_final_blanks-push, shortened))
    ∙ ap (λ ls. trimmed_line (shortened (tiled line)) ∷ ls)
    (lines_from-broken width true (next ∷ lines) apart)

-- ---- line widths that are equal line by line

widths_of-unbroken : (width : ℕ) (is_later : Bool)
    → widths_of (unbroken_at width) is_later ≡ width ∷ width ∷ []
widths_of-unbroken width is_later = search (rules, text_width-nil)

-- ---- whole words are pieces

abbrev pub pieces_in : ℕ → List ℕ → List WordText
pieces_in width part = pieces_of (unbroken_at width) Whole part

pub pieces_of-unbroken : (width : ℕ) (part : List ℕ) → pieces_in width part ≡ words_of part
pieces_of-unbroken width part = split-whole (chunks part)

-- ---- the lines of a part are those of a paragraph

abbrev pub Divides : ℕ → Bool → List ℕ → List (List WordText) → Type 0
Divides width =
    DividesAs Whole ByFirstFit (unbroken_at width)

module _ (width : ℕ) (is_later : Bool) (part : List ℕ) (utf8 : IsUtf8 part) where
  abbrev own : List (List WordText)
  own = greedy_lines width part

  -- a part with fewer bytes than the width has columns is one line
  one_line : is_whole (unbroken_at width) is_later part ≡ true → own ≡ words_of part ∷ []
  one_line whole =
      let shorter : length part < width = search (rules, ltb-true, and_parts, nat_lt) in
      let closed : closed_width sizes_of (words_of part) ≤ length part =
      rw (pieces_of-unbroken width part)
      at (closed-pieces_of (unbroken_at width) Whole part utf8) in
      let none : All (λ w. (sizes_of w).penalty ≡ 0) (words_of part) = search (rules, All-map) in
      let room : closed_width sizes_of (words_of part) ≤ line_width (width ∷ []) 0 =
      omega (arith, shorter, closed) in
      greedy_unique sizes_of (width ∷ []) (words_of part) own (words_of part ∷ [])
      (lines-greedy width part)
      (IsDividedBy-one_line ByFirstFit sizes_of (width ∷ []) (words_of part) none room)

  divides : Divides width is_later part own
  divides = let greedy = lines-greedy width part in (
    words_of part,
    rw (pieces_of-unbroken width part) at (ArePieces-computed (unbroken_at width) Whole part),
    rw (widths_of-unbroken width is_later)
        (search (rules, IsGreedy-same, line_width-one, line_width-two)),
  )

  -- the lines of the part, by their parts
  record HasLines : Type 0 where
    parts : List LineParts
    are : AreParagraphParts (unbroken_at width) (Divides width) is_later part parts
    lines_are : map line_from parts ≡ map trimmed_line (part_lines width part)

  has_lines : (whole : Bool) → is_whole (unbroken_at width) is_later part ≡ whole → HasLines
  has_lines true whole = record {
    parts = parts_of (unbroken_at width) is_later (word_of part ∷ []) ∷ [];
    are = AreParagraphParts-whole (unbroken_at width) (Divides width) is_later part whole;
    lines_are = search (rules, one_line, tiled-words_of, line_from-whole);
  }
  has_lines false longer = record {
    parts = parts_from (unbroken_at width) is_later own;
    are = search (rules, AreParagraphParts-divided, divides);
    lines_are = lines_from-broken width is_later own (lines-broken width part).apart;
  }

-- ---- the lines of a text

record HasGroupsOf (width : ℕ) (is_later : Bool) (parts lines : List (List ℕ)) : Type 0 where
  groups : List (List LineParts)
  are : AreGroups (AreParagraphParts (unbroken_at width) (Divides width)) is_later parts groups
  lines_are : map line_from (flat groups) ≡ map trimmed_line lines

groups_of : (width : ℕ) (is_later : Bool) (parts : List (List ℕ)) → All IsUtf8 parts
    → HasGroupsOf width is_later parts (flat_map (part_lines width) parts)
groups_of width is_later [] utf8 = search (rules, trimmed_line)
groups_of width is_later (part ∷ parts) utf8 =
    let first = has_lines width is_later part (All-head IsUtf8 part parts utf8)
    (is_whole (unbroken_at width) is_later part) refl in
    let rest = groups_of width (is_later || nat_lt 0 (length first.parts)) parts
    (All-tail IsUtf8 part parts utf8) in
    record {
      groups = first.parts ∷ rest.groups;
      are = (first.are, rest.are);
      lines_are = simp (map-append, first.lines_are, rest.lines_are);
    }

pub filled-wrapped : (width : ℕ) (text filled : List ℕ) → IsUtf8 text
    → IsFilledInPlace width text filled → AreTextLines (unbroken_at width) (Divides width) text
    (map trimmed_line (paragraphs_of LF filled))
filled-wrapped width text filled utf8 is =
    let found = groups_of width false (paragraphs_of LF text) (paragraphs_of-utf8 LF text utf8) in
    search (rules, trimmed_line, filled-paragraphs)

-- ---- where a text stays as it is, the words of each part fit one line

length-broken : (lines : List (List WordText)) → length (broken_lines lines) ≡ length lines
length-broken [] = refl
length-broken (line ∷ []) = refl
length-broken (line ∷ next ∷ lines) = ap (λ n. suc n) (length-broken (next ∷ lines))

one_line-fits : (width : ℕ) (part : List ℕ) (lines : List (List WordText))
    → IsGreedy sizes_of (width ∷ []) (words_of part) lines → length lines ≤ 1
    → FitsOneLine width part
one_line-fits width part [] greedy one = search (rules, IsBroken-greedy)
one_line-fits width part (line ∷ []) greedy one =
    search (rules, append-nil, line_width-one, flat, IsDivision-whole)
one_line-fits width part (line ∷ next ∷ lines) greedy one = absurd (omega (arith, one))

all_fit : (width : ℕ) (parts : List (List ℕ))
    → length (flat_map (part_lines width) parts) ≤ length parts → All (FitsOneLine width) parts
all_fit width [] few = All-nil (FitsOneLine width)
all_fit width (part ∷ parts) few =
    let least = lines-least width parts in
    let some = lines-some width part in
    let len = length-append (part_lines width part) (flat_map (part_lines width) parts) in
    All-cons (FitsOneLine width) part parts
    (one_line-fits width part (greedy_lines width part) (lines-greedy width part)
    (omega (arith, few, least, len, length-broken (greedy_lines width part))))
    (all_fit width parts (omega (arith, few, some, len)))

pub unchanged-fits : (width : ℕ) (text : List ℕ) → IsFilledInPlace width text text
    → All (FitsOneLine width) (paragraphs_of LF text)
unchanged-fits width text is = search (rules, arith, all_fit, filled-paragraphs)

-- ---- the line so far of a part that is filled in place

pub record IsPlain (word : WordText) : Type 0 where
  pub penalty : HasNoPenalty word
  pub some : 0 < length (tile_of word)

plain-chunks : (parts : List (List ℕ)) → All (λ part. part ≢ []) parts
    → All IsPlain (map word_of parts)
plain-chunks [] some = All-nil IsPlain
plain-chunks (part ∷ parts) some = All-cons IsPlain (word_of part) (map word_of parts)
    (grind (arith, common_steps, tiled-word_of, append-nil, some_from_nonempty, All-head))
    (plain-chunks parts (All-tail (λ p. p ≢ []) part parts some))

plain-words : (part : List ℕ) → All IsPlain (words_of part)
plain-words part = search (rules, arith, words_unique part (words_of part), plain-chunks)

pub record HasLine (width start : ℕ) (part old breaks : List ℕ) (begin end taken : ℕ)
    (left line : List WordText) : Type 0 where
  pub after : start ≤ begin
  pub end_is : end ≡ begin + length (tiled line)
  pub taken_is : taken ≡ open_width sizes_of line
  pub some : line ≢ [] → begin < end
  pub plain : All IsPlain left
  pub room : end + length (tiled left) ≡ start + length part
  pub places : breaks ++ breaks_of begin (grown sizes_of width width left line)
      ≡ old ++ breaks_of start (grown sizes_of width width (words_of part) [])
  pub whole : FitsOneLine width part → line ++ left ≡ words_of part

pub HasLine-begin : (width start : ℕ) (part old : List ℕ) (left : List WordText)
    → left ≡ words_of part → HasLine width start part old old start start 0 left []
HasLine-begin width start part old left is = search (rules, plain-words, tiled-words_of, grown)

pub line_some : (ws : List WordText) → 0 < length (tiled ws) → 0 < length ws
line_some [] some = some
line_some (w ∷ ws) some = omega arith

module _ {width start : ℕ} {part old breaks : List ℕ} {begin end taken : ℕ} {x : WordText}
    {left line : List WordText}
    (has : HasLine width start part old breaks begin end taken (x ∷ left) line) where
  pub first : IsPlain x
  first = All-head IsPlain x left has.plain

  pub closes : closed_width sizes_of (line ++ x ∷ []) ≡ taken + x.width
  closes = search (rules, closed_width-push)

  pub passed : (len : ℕ) → len ≡ length (tile_of x)
      → end + len + length (tiled left) ≡ start + length part
  passed len is = search (rules, tiled-append, length-append, append-nil)

  -- the line has no room for the word, so the blank before it is a place
  pub HasLine-break : (from len more : ℕ) (pushed : List ℕ) → begin < end
      → width < taken + x.width → from ≡ end → len ≡ length (tile_of x)
      → more ≡ x.width + length x.whitespace → pushed ≡ breaks ++ (end - 1) ∷ []
      → HasLine width start part old pushed from (end + len) more left (x ∷ [])
  HasLine-break from len more pushed began over from_is len_is more_is pushed_is =
      let some : 0 < length line = line_some line (omega (arith, began, has.end_is)) in
      let full : width < closed_width sizes_of (line ++ x ∷ []) = omega (arith, closes, over) in
      let (others, rest, is) = grown-begins sizes_of width width left (x ∷ []) in
      let next = grown sizes_of width width left (x ∷ []) in
      let after : breaks_of begin (line ∷ next) ≡ (end - 1) ∷ breaks_of end next = cc in
      record {
        after = omega (arith, from_is, has.after, has.end_is);
        end_is = omega (arith, from_is, len_is, ap length (append-nil (tile_of x)));
        taken_is = omega (arith, more_is);
        some = λ any. omega (arith, from_is, len_is, first.some);
        plain = All-tail IsPlain x left has.plain;
        room = passed len len_is;
        places = search (rules, append_assoc, grown-full);
        whole = λ fits.
            let all = subst (λ ws. Fits sizes_of width ws) (sym (has.whole fits)) fits in
            absurd (omega (arith, full, prefix-closes sizes_of width line x left all some));
      }

  -- the line takes the word
  pub HasLine-join : (from len more : ℕ) (kept : List ℕ)
      → (begin < end → taken + x.width ≤ width) → from ≡ begin → len ≡ length (tile_of x)
      → more ≡ taken + (x.width + length x.whitespace) → kept ≡ breaks
      → HasLine width start part old kept from (end + len) more left (line ++ x ∷ [])
  HasLine-join from len more kept within from_is len_is more_is kept_is =
      let size = length-append (tiled line) (tile_of x) in
      let width_is = open_width-append sizes_of line (x ∷ []) in
      let plain = All-tail IsPlain x left has.plain in
      let room = passed len len_is in
      grind (arith, common_steps, closes, tiled-push line x, size, width_is, plain, room)

  -- a line without bytes has no columns
  pub HasLine-none : end ≤ begin → taken ≡ 0
  HasLine-none none = search rules

  -- the word is within the part
  pub HasLine-within : length x.whitespace ≤ length part
  HasLine-within = search (rules, passed, length-append)

  -- where all words fit one line, this one does
  pub HasLine-fits : FitsOneLine width part → begin < end → taken + x.width ≤ width
  HasLine-fits fits began =
      let some = line_some line (omega (arith, began, has.end_is)) in
      omega (arith, closes, prefix-closes sizes_of width line x left (search (rules, arith)) some)

pub HasLine-end : {width start : ℕ} {part old breaks : List ℕ} {begin end taken : ℕ}
    {left line : List WordText} → HasLine width start part old breaks begin end taken left line
    → left ≡ []
    → (division : List (List WordText))
    × IsGreedy sizes_of (width ∷ []) (words_of part) division
    × (breaks ≡ old ++ breaks_of start division)
HasLine-end {width} {start} {part} {old} {breaks} {begin} {end} {taken} {left} {line} has none = (
  grown sizes_of width width (words_of part) [],
  grown-greedy sizes_of width (width ∷ []) (λ n. line_width-one width (n + 1)) width
      (line_width-one width 0) (words_of part),
  search (rules, arith, append-nil),
)
