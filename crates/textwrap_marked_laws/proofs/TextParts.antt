-- A text is its parts, one after another, and what blocks keep to, also those in the place of others.
use Rattle.std.proofs.lemmas.List.Splits.{join_with_byte-slice_split}
use Rattle.textwrap_marked_laws.specs.Laws.{source}
use Rattle.textwrap_marked_laws.proofs as own
use own.Common.{AreSameParts, append_assoc, line_as_read, slice_split, with_titles, LineEnding, append-nil, ℕ}
use own.Common.{IsSameBy, LineText, bytes_eq, flat_map, entered, goes_on, Option, blocks, length, lt-ltb, sym}
use own.Common.{cases_Bool, read_lines, text_parts, StateText, ending_if, is_beside, kept_line, with_line, []}
use own.Common.{flat_map-append, parts_of_blocks, without_returns, join_with_byte, ReflowOptions, first_state}
use own.Common.{nat_lt, passed, arith, codes, false, stays, Bool, List, None, Part, cond, flat, refl, true, ⊤}
use own.ParagraphLines.{IsHeadAlike}
use own.{Common.{◌&&◌, ◌++◌, ◌==◌, ◌||◌, ◌∙◌, ◌∷◌, ◌≡◌, ap}, TextBlocks.{AreOneBlock, last_line, title_of}}

pub join-more : (raw : List ℕ) (raws : List (List ℕ)) → join_with_byte 10 (raw ∷ raws)
    ≡ (raw ++ ending_if (nat_lt 0 (length raws)) (codes "\n")) ++ join_with_byte 10 raws
join-more raw [] = sym (append-nil (raw ++ []) ∙ append-nil raw)
join-more raw (next ∷ raws) = grind (arith, cases_Bool, append_assoc, lt-ltb)

abbrev lines-text : List LineText → List ℕ
lines-text lines = flat_map (kept_line None) lines

read-text : (options : ReflowOptions) (state : StateText) (raws : List (List ℕ))
    → lines-text (read_lines options state raws) ≡ join_with_byte 10 raws
read-text options state [] = refl
read-text options state (raw ∷ raws) =
    let at = entered state (without_returns raw) in
    let fed = nat_lt 0 (length raws) in
    ap (λ t. (raw ++ ending_if fed (codes "\n")) ++ t)
    (read-text options (passed at (line_as_read options at raw fed)) raws) ∙ sym (join-more raw raws)

titles-text : (lines : List LineText) → lines-text (with_titles lines) ≡ lines-text lines
titles-text [] = refl
titles-text (line ∷ []) = refl
titles-text (line ∷ next ∷ lines) = ap (λ l. kept_line None line ++ l) (titles-text (next ∷ lines))

with_line-flat : (line : LineText) (bs : List (List LineText)) → flat (with_line line bs) ≡ line ∷ flat bs
with_line-flat line [] = refl
with_line-flat line ([] ∷ bs) = refl
with_line-flat line ((next ∷ lines) ∷ bs) = grind (arith, cases_Bool)

-- the lines of all blocks are the lines
pub blocks-flat : (lines : List LineText) → flat (blocks lines) ≡ lines
blocks-flat [] = refl
blocks-flat (line ∷ lines) =
    with_line-flat line (blocks lines) ∙ ap (λ l. line ∷ l) (blocks-flat lines)

parts-text : (beside : Bool) (bs : List (List LineText))
    → flat_map source (parts_of_blocks beside bs) ≡ lines-text (flat bs)
parts-text beside [] = refl
parts-text beside ([] ∷ bs) = parts-text beside bs
parts-text beside ((first ∷ lines) ∷ bs) =
    ap (λ l. lines-text (first ∷ lines) ++ l) (parts-text (is_beside first bs) bs)
    ∙ sym (flat_map-append (kept_line None) (first ∷ lines) (flat bs))

pub text-parts : (options : ReflowOptions) (text : List ℕ) → text ≡ flat_map source (text_parts options text)
text-parts options text =
    let raws = slice_split (λ c. c == 10) text in
    let lines = read_lines options first_state raws in
    sym (parts-text false (blocks (with_titles lines))
    ∙ ap lines-text (blocks-flat (with_titles lines))
    ∙ titles-text lines ∙ read-text options first_state raws ∙ join_with_byte-slice_split 10 text)

-- ---- what a list of blocks keeps to, if it is that of some lines

-- the first of the blocks does not go on with a line
abbrev pub StopsAt : LineText → List (List LineText) → Type 0
StopsAt line [] = ⊤
StopsAt line ([] ∷ bs) = ⊤
StopsAt line ((next ∷ lines) ∷ bs) = goes_on line next ≡ false

abbrev pub AreBlocks : List (List LineText) → Type 0
AreBlocks [] = ⊤
AreBlocks ([] ∷ bs) = ⊥
AreBlocks ((line ∷ lines) ∷ bs) =
    AreOneBlock line lines × StopsAt (last_line line lines) bs × AreBlocks bs

with-line : (line : LineText) (bs : List (List LineText)) → AreBlocks bs → AreBlocks (with_line line bs)
with-line line [] are = (tt, tt, tt)
with-line line ([] ∷ bs) are = absurd are
with-line line ((next ∷ lines) ∷ bs) (one, stops, are) = joins (goes_on line next) refl
  where
    joins : (b : Bool) → goes_on line next ≡ b
        → AreBlocks (cond b ((line ∷ next ∷ lines) ∷ bs) ((line ∷ []) ∷ (next ∷ lines) ∷ bs))
    joins true goes = ((goes, one), stops, are)
    joins false ends = (tt, ends, (one, stops, are))

pub blocks-are : (lines : List LineText) → AreBlocks (blocks lines)
blocks-are [] = tt
blocks-are (line ∷ lines) = with-line line (blocks lines) (blocks-are lines)

block-back : (lines : List LineText) (line : LineText) (bs : List (List LineText))
    → AreOneBlock line lines → StopsAt (last_line line lines) bs → AreBlocks bs
    → blocks (flat bs) ≡ bs → blocks (line ∷ (lines ++ flat bs)) ≡ (line ∷ lines) ∷ bs
block-back [] line [] one stops are is = ap (with_line line) is
block-back [] line ([] ∷ bs) one stops are is = absurd are
block-back [] line ((next ∷ lines) ∷ bs) one stops are is =
    ap (with_line line) is
    ∙ ap (λ b. cond b ((line ∷ next ∷ lines) ∷ bs) ((line ∷ []) ∷ (next ∷ lines) ∷ bs)) stops
block-back (next ∷ lines) line bs (goes, one) stops are is =
    ap (with_line line) (block-back lines next bs one stops are is)
    ∙ ap (λ b. cond b ((line ∷ next ∷ lines) ∷ bs) ((line ∷ []) ∷ (next ∷ lines) ∷ bs)) goes

-- blocks in their order are those of their own lines
pub blocks-back : (bs : List (List LineText)) → AreBlocks bs → blocks (flat bs) ≡ bs
blocks-back [] are = refl
blocks-back ([] ∷ bs) are = absurd are
blocks-back ((line ∷ lines) ∷ bs) (one, stops, are) =
    block-back lines line bs one stops are (blocks-back bs are)

-- ---- heads

-- all that the lines before it ask of a line is the same, whatever its bytes are
pub head-same : (line : LineText) (raw : List ℕ) → IsHeadAlike line (record line { raw = raw })
head-same line raw = grind (arith, cases_Bool)

abbrev pub AreHeads : List LineText → List LineText → Type 0
AreHeads [] [] = ⊤
AreHeads [] (other ∷ others) = ⊥
AreHeads (line ∷ lines) [] = ⊥
AreHeads (line ∷ lines) (other ∷ others) = IsHeadAlike line other

pub title-heads : (line other : LineText) (lines others : List LineText) → AreHeads lines others
    → other.hanging ≡ line.hanging → title_of other others ≡ title_of line lines
title-heads line other [] [] heads hangs = refl
title-heads line other [] (two ∷ others) heads hangs = absurd heads
title-heads line other (one ∷ lines) [] heads hangs = absurd heads
title-heads line other (one ∷ lines) (two ∷ others) heads hangs =
    λ i. heads.rule i && bytes_eq (heads.prefix i) (hangs i)

-- ---- blocks

-- all that the lines behind it ask of a line
pub record IsBackAlike (line other : LineText) : Type 0 where
  pub hangs : other.hanging ≡ line.hanging
  pub ended : other.ended ≡ line.ended
  pub apart : other.apart ≡ line.apart

goes-same : (line other next one : LineText) → IsBackAlike line other → IsHeadAlike next one
    → goes_on other one ≡ goes_on line next
goes-same line other next one back head =
    rw (back.apart, head.apart, back.ended, head.prefix, back.hangs, head.opens) refl

pub stops-same : (line other : LineText) (bs cs : List (List LineText)) → AreBlocks bs → AreBlocks cs
    → AreHeads (flat bs) (flat cs) → IsBackAlike line other → StopsAt line bs → StopsAt other cs
stops-same line other bs [] are be heads back stops = tt
stops-same line other bs ([] ∷ cs) are be heads back stops = absurd be
stops-same line other [] ((one ∷ ones) ∷ cs) are be heads back stops = absurd heads
stops-same line other ([] ∷ bs) ((one ∷ ones) ∷ cs) are be heads back stops = absurd are
stops-same line other ((next ∷ lines) ∷ bs) ((one ∷ ones) ∷ cs) are be heads back stops =
    goes-same line other next one back heads ∙ stops

beside-same : (line other : LineText) (bs cs : List (List LineText)) → AreBlocks bs → AreBlocks cs
    → AreHeads (flat bs) (flat cs) → IsHeadAlike line other → is_beside other cs ≡ is_beside line bs
beside-same line other [] [] are be heads same = refl
beside-same line other ([] ∷ bs) cs are be heads same = absurd are
beside-same line other bs ([] ∷ cs) are be heads same = absurd be
beside-same line other [] ((one ∷ ones) ∷ cs) are be heads same = absurd heads
beside-same line other ((next ∷ lines) ∷ bs) [] are be heads same = absurd heads
beside-same line other ((next ∷ lines) ∷ bs) ((one ∷ ones) ∷ cs) are be heads same =
    rw (same.field, heads.field, same.hangs, heads.hangs) refl

abbrev pub part_of : Bool → LineText → List LineText → Part
part_of is_kept first lines = record { stays = is_kept; first = first; lines = first ∷ lines }

pub part-cons : (e : Option LineEnding) (beside : Bool) (first other : LineText) (lines others : List LineText)
    (bs cs : List (List LineText)) → IsHeadAlike first other → AreBlocks bs → AreBlocks cs
    → AreHeads (flat bs) (flat cs)
    → AreSameParts e (parts_of_blocks (is_beside first bs) bs) (parts_of_blocks (is_beside first bs) cs)
    → IsSameBy e (stays (beside || is_beside first bs) first)
    (part_of (stays (beside || is_beside first bs) first) first lines)
    (part_of (stays (beside || is_beside first bs) first) other others)
    → AreSameParts e (parts_of_blocks beside ((first ∷ lines) ∷ bs)) (parts_of_blocks beside ((other ∷ others) ∷ cs))
part-cons e beside first other lines others bs cs same are be heads later here =
    grind (arith, cases_Bool, beside-same)
