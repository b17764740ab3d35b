-- Texts that are filled in place: only blanks change, to line feeds in their places.
use Rattle.textwrap.proofs.Common.{IsUtf8-from_ascii, IsBroken-greedy, IsFilledInPlace, breaks_from}
use Rattle.textwrap.proofs.Common.{parts_past-some, with_line_feeds, length_all_zip, line_width-one}
use Rattle.textwrap.proofs.Common.{AllZip-get_or, AreLinesApart, greedy_unique, length-append, List}
use Rattle.textwrap.proofs.Common.{paragraphs_of, IsAscii-cons, append_assoc, broken_lines, All-nil}
use Rattle.textwrap.proofs.Common.{flat_map-map, grown-greedy, tiled-append, length_push, breaks_of}
use Rattle.textwrap.proofs.Common.{All-weaker, append-nil, join_with, line_feed, shortened, IsUtf8}
use Rattle.textwrap.proofs.Common.{All-cons, IsBroken, IsGreedy, WordText, flat_map, sizes_of, None}
use Rattle.textwrap.proofs.Common.{words_of, Option, length, set_at, arith, blank, grown, rules, LF}
use Rattle.textwrap.proofs.Common.{subst, tiled, Some, flat, refl, ◌++◌, All, Bor, inl, inr, map, ℕ}
use Rattle.textwrap.proofs.Common.{sym, ◌+◌, ◌-◌, ◌<◌, ◌∙◌, ◌∷◌, ◌≡◌, ◌⊎◌, [], ap}
use Rattle.textwrap_text.proofs.Common.{IsUtf8-append, All-append, zero-add}
use Rattle.std.specs.List.{AllZip}
use Rattle.textwrap.specs.InPlace.{OnlyBlanksChange, AreDividedAt}
use Rattle.textwrap_layout.proofs.Text.Paragraphs.{join-paragraphs_of, join_with-cons}
use Rattle.textwrap_layout.proofs.Text.Lines.{paragraphs_left, bytes_left}
use Rattle.textwrap_text.proofs.Texts.{ascii_seam}

-- ---- the lines of a part in a row, joined by blanks and by line feeds

abbrev pub blank_joined : List (List ℕ) → List ℕ
blank_joined texts = join_with (blank ∷ []) texts

abbrev pub feed_joined : List (List ℕ) → List ℕ
feed_joined texts = join_with (line_feed ∷ []) texts

pub broken-some : (lines : List (List WordText)) → 0 < length lines
    → 0 < length (broken_lines lines)
broken-some [] some = absurd (omega arith)
broken-some (line ∷ []) some = omega arith
broken-some (line ∷ next ∷ lines) some = omega arith

-- before the lines are broken, blanks stand between them
pub tiled-broken : (lines : List (List WordText)) → 0 < length lines → AreLinesApart lines
    → tiled (flat lines) ≡ blank_joined (broken_lines lines)
tiled-broken [] some apart = absurd (omega arith)
tiled-broken (line ∷ []) some apart = ap tiled (append-nil line)
tiled-broken (line ∷ next ∷ lines) some (words, ending, apart) =
    tiled-append line (flat (next ∷ lines))
    ∙ ap (λ l. l ++ tiled (flat (next ∷ lines))) ending
    ∙ ap (λ l. (shortened (tiled line) ++ blank ∷ []) ++ l)
    (tiled-broken (next ∷ lines) (omega arith) apart)
    ∙ sym (search (rules, join_with-cons, shortened, broken-some))

pub join-broken : (part : List ℕ) (lines : List (List WordText)) → IsBroken part lines
    → part ≡ blank_joined (broken_lines lines)
join-broken part lines broken = sym broken.tiles ∙ tiled-broken lines broken.some broken.apart

-- ---- each part is divided in one way

pub greedy_lines : ℕ → List ℕ → List (List WordText)
greedy_lines width part = grown sizes_of width width (words_of part) []

pub lines-greedy : (width : ℕ) (part : List ℕ)
    → IsGreedy sizes_of (width ∷ []) (words_of part) (greedy_lines width part)
unfolding greedy_lines
lines-greedy width part = search (rules, arith, grown-greedy, line_width-one)

pub lines-broken : (width : ℕ) (part : List ℕ) → IsBroken part (greedy_lines width part)
lines-broken width part =
    IsBroken-greedy (width ∷ []) part (greedy_lines width part) (lines-greedy width part)

pub are_divided : (width : ℕ) (parts : List (List ℕ))
    → AreDividedAt width parts (map (greedy_lines width) parts)
are_divided width [] = refl
are_divided width (part ∷ parts) = (lines-greedy width part, are_divided width parts)

pub divided_one : (width : ℕ) (parts : List (List ℕ)) (divisions : List (List (List WordText)))
    → AreDividedAt width parts divisions → divisions ≡ map (greedy_lines width) parts
divided_one width [] divisions none = none
divided_one width (part ∷ parts) [] divided = absurd divided
divided_one width (part ∷ parts) (lines ∷ divisions) (greedy, divided) =
    search (rules, greedy_unique, lines-greedy, divided_one width parts divisions divided)

-- the lines of a part, and the offsets at which those of parts are broken
abbrev pub part_lines : ℕ → List ℕ → List (List ℕ)
part_lines width part = broken_lines (greedy_lines width part)

pub lines-some : (width : ℕ) (part : List ℕ) → 0 < length (part_lines width part)
lines-some width part = broken-some (greedy_lines width part) (lines-broken width part).some

abbrev pub places_of : ℕ → ℕ → List (List ℕ) → List ℕ
places_of width start parts = breaks_from start (map (greedy_lines width) parts)

-- the filled text, by its parts
pub filled-is : (width : ℕ) (text filled : List ℕ) → IsFilledInPlace width text filled
    → filled ≡ feed_joined (flat_map (part_lines width) (paragraphs_of LF text))
filled-is width text filled (divisions, divided, is) =
    search (rules, arith, divided_one, flat_map-map, greedy_lines)

join-append : (separator : List ℕ) (xs ys : List (List ℕ)) → 0 < length xs → 0 < length ys
    → join_with separator (xs ++ ys)
    ≡ (join_with separator xs ++ separator) ++ join_with separator ys
join-append separator [] ys some more = absurd (omega arith)
join-append separator (x ∷ []) ys some more = join_with-cons separator x ys more
join-append separator (x ∷ y ∷ xs) ys some more =
    rw (join-append separator (y ∷ xs) ys (omega arith) more) (simp append_assoc)

-- ---- one part after the other

-- the places so far are those of the parts so far: with the places of the parts left they are the
-- places of the text
abbrev pub HasBreaks : ℕ → List ℕ → List ℕ → ℕ → List (List ℕ) → Type 0
HasBreaks width text breaks start left =
    breaks ++ places_of width start left ≡ places_of width 0 (paragraphs_of LF text)

pub HasBreaks-more : (width : ℕ) (text breaks more : List ℕ) (start : ℕ) (part : List ℕ)
    (left after : List (List ℕ)) (lines : List (List WordText))
    → HasBreaks width text breaks start left → left ≡ part ∷ after
    → IsGreedy sizes_of (width ∷ []) (words_of part) lines
    → more ≡ breaks ++ breaks_of start lines
    → HasBreaks width text more (start + (length part + 1)) after
HasBreaks-more width text breaks more start part left after lines so_far left_is greedy more_is =
    let own = lines-greedy width part in
    let same = greedy_unique sizes_of (width ∷ []) (words_of part) lines
    (greedy_lines width part) greedy own in
    let past : start + length (tiled (flat (greedy_lines width part))) + 1
    ≡ start + (length part + 1) = omega (arith, ap length (lines-broken width part).tiles) in
    rw (more_is, same, append_assoc, ← past) (rw left_is at so_far)

pub HasBreaks-end : (width : ℕ) (text breaks : List ℕ) (start : ℕ)
    → HasBreaks width text breaks start []
    → (all : List (List (List WordText))) × AreDividedAt width (paragraphs_of LF text) all
    × (breaks ≡ breaks_from 0 all)
HasBreaks-end width text breaks start so_far =
    search (rules, arith, greedy_lines, are_divided, append-nil)

-- the bytes of a part and of what follows its line feed
pub bytes_left-split : (rest part : List ℕ) (after : Option (Bor (List ℕ)))
    → paragraphs_of LF rest ≡ part ∷ paragraphs_left LF after
    → length rest + 1 ≡ length part + 1 + bytes_left after
bytes_left-split rest part None is =
    omega (arith, ap length (sym (join-paragraphs_of LF rest) ∙ ap feed_joined is))
bytes_left-split rest part (Some more) is =
    let whole : rest ≡ (part ++ line_feed ∷ []) ++ more.now =
    sym (join-paragraphs_of LF rest) ∙ ap feed_joined is
    ∙ join_with-cons (line_feed ∷ []) part (paragraphs_of LF more.now)
    (parts_past-some (line_feed ∷ []) 0 more.now)
    ∙ ap (λ l. (part ++ line_feed ∷ []) ++ l) (join-paragraphs_of LF more.now) in
    let size = length-append (part ++ line_feed ∷ []) more.now in
    omega (arith, ap length whole, size, length_push part line_feed)

-- ---- blanks become line feeds in their places

abbrev IsChange : ℕ → ℕ → Type 0
IsChange c d = (d ≡ c) ⊎ ((c ≡ blank) × (d ≡ line_feed))

-- of bytes from an offset on, with line feeds in these places
record Feeds (start : ℕ) (old places new : List ℕ) : Type 0 where
  changes : AllZip IsChange old new
  within : All (λ place. place < start + length old) places
  puts : (before after more : List ℕ) → length before ≡ start
      → with_line_feeds (places ++ more) (before ++ (old ++ after))
      ≡ with_line_feeds more (before ++ (new ++ after))

feeds-none : (start : ℕ) (text : List ℕ) → Feeds start text [] text
feeds-none start text = record {
  changes = same text;
  within = All-nil (λ place. place < start + length text);
  puts = λ before after more len. refl;
}
  where
    same : (bytes : List ℕ) → AllZip IsChange bytes bytes
    same [] = tt
    same (c ∷ bytes) = (inl refl, same bytes)

feeds-one : (start place : ℕ) → start ≡ place
    → Feeds start (blank ∷ []) (place ∷ []) (line_feed ∷ [])
feeds-one start place is = search (rules, arith, All-cons, All-nil, set_at)

changes-append : (old new others more : List ℕ) → AllZip IsChange old new
    → AllZip IsChange others more → AllZip IsChange (old ++ others) (new ++ more)
changes-append [] [] others more none after = after
changes-append [] (d ∷ new) others more before after = absurd before
changes-append (c ∷ old) [] others more before after = absurd before
changes-append (c ∷ old) (d ∷ new) others more (one, before) after =
    (one, changes-append old new others more before after)

module _ {start next : ℕ} {old places new others further more : List ℕ}
    (first : Feeds start old places new) (second : Feeds next others further more)
    (at : next ≡ start + length old) where
  feeds-append : Feeds start (old ++ others) (places ++ further) (new ++ more)
  feeds-append =
      let len = length-append old others in
      record {
        changes = changes-append old new others more first.changes second.changes;
        within = All-append (λ p. p < start + length (old ++ others)) places further
            (All-weaker (λ p. p < start + length old) (λ p. p < start + length (old ++ others))
            (λ p less. omega (arith, less, len)) places first.within)
            (All-weaker (λ p. p < next + length others) (λ p. p < start + length (old ++ others))
            (λ p less. omega (arith, less, len, at)) further second.within);
        puts = λ before after rest begin.
            let here = first.puts before (others ++ after) (further ++ rest) begin in
            let same = length_all_zip IsChange old new first.changes in
            let past : length (before ++ new) ≡ next =
            omega (arith, length-append before new, same, begin, at) in
            let there = second.puts (before ++ new) after rest past in
            simp append_assoc (here ∙ (simp append_assoc at there));
      }

-- the lines of a part
feeds-part : (start : ℕ) (lines : List (List WordText)) → AreLinesApart lines
    → Feeds start (tiled (flat lines)) (breaks_of start lines) (feed_joined (broken_lines lines))
feeds-part start [] apart = feeds-none start []
feeds-part start (line ∷ []) words = search (rules, arith, append-nil, feeds-none)
feeds-part start (line ∷ next ∷ lines) (words, ending, apart) =
    let text = shortened (tiled line) in
    let end = start + length (tiled line) in
    let rest = tiled (flat (next ∷ lines)) in
    let others = broken_lines (next ∷ lines) in
    let long : length (tiled line) ≡ length text + 1 = ap length ending ∙ length_push text blank in
    let first = feeds-append (feeds-none start text)
    (feeds-one (start + length text) (end - 1) (omega (arith, long))) refl in
    let all = feeds-append first (feeds-part end (next ∷ lines) apart)
    (omega (arith, long, length_push text blank)) in
    subst (λ l. Feeds start l (breaks_of start (line ∷ next ∷ lines)) (feed_joined (text ∷ others)))
    (ap (λ l. l ++ rest) (sym ending) ∙ sym (tiled-append line (flat (next ∷ lines))))
    (subst (Feeds start ((text ++ blank ∷ []) ++ rest) (breaks_of start (line ∷ next ∷ lines)))
    (sym (join_with-cons (line_feed ∷ []) text others (broken-some (next ∷ lines) (omega arith)))) all)

feeds-lines : (width start : ℕ) (part : List ℕ) → Feeds start part
    (breaks_of start (greedy_lines width part)) (feed_joined (part_lines width part))
feeds-lines width start part =
    let lines = greedy_lines width part in
    let broken = lines-broken width part in
    subst (λ p. Feeds start p (breaks_of start lines) (feed_joined (broken_lines lines)))
    broken.tiles (feeds-part start lines broken.apart)

-- the lines of the parts in a row: a line feed stood between each two parts
feeds-parts : (width start : ℕ) (parts : List (List ℕ)) → Feeds start (feed_joined parts)
    (places_of width start parts) (feed_joined (flat_map (part_lines width) parts))
feeds-parts width start [] = feeds-none start []
feeds-parts width start (part ∷ []) = simp append-nil (feeds-lines width start part)
feeds-parts width start (part ∷ next ∷ parts) =
    let lines = greedy_lines width part in
    let row = feed_joined (part_lines width part) in
    let rows = flat_map (part_lines width) (next ∷ parts) in
    let past = start + length (tiled (flat lines)) + 1 in
    let size = length-append (part_lines width next) (flat_map (part_lines width) parts) in
    let more : 0 < length rows = omega (arith, lines-some width next, size) in
    let first = feeds-append (feeds-lines width start part)
    (feeds-none (start + length part) (line_feed ∷ [])) refl in
    let all = feeds-append (rw append-nil at first) (feeds-parts width past (next ∷ parts))
    (omega (arith, ap length (lines-broken width part).tiles, length_push part line_feed)) in
    subst (Feeds start (feed_joined (part ∷ next ∷ parts)) (places_of width start (part ∷ next ∷ parts)))
    (sym (join-append (line_feed ∷ []) (part_lines width part) rows (lines-some width part) more)) all

feeds-text : (width : ℕ) (text : List ℕ) → Feeds 0 text (places_of width 0 (paragraphs_of LF text))
    (feed_joined (flat_map (part_lines width) (paragraphs_of LF text)))
feeds-text width text =
    let parts = paragraphs_of LF text in
    subst (λ t. Feeds 0 t (places_of width 0 parts) (feed_joined (flat_map (part_lines width) parts)))
    (join-paragraphs_of LF text) (feeds-parts width 0 parts)

pub feeds-within : (width : ℕ) (text : List ℕ) (divisions : List (List (List WordText)))
    → AreDividedAt width (paragraphs_of LF text) divisions
    → All (λ place. place < length text) (breaks_from 0 divisions)
feeds-within width text divisions divided =
    rw (divided_one width (paragraphs_of LF text) divisions divided)
    (rw zero-add at (feeds-text width text).within)

-- the line feeds, put in their places among the bytes of the text
pub filled-by_feeds : (width : ℕ) (text searched bytes breaks places new : List ℕ)
    (divisions : List (List (List WordText)))
    → AreDividedAt width (paragraphs_of LF searched) divisions → breaks ≡ breaks_from 0 divisions
    → searched ≡ text → bytes ≡ text → places ≡ breaks → new ≡ with_line_feeds places bytes
    → IsFilledInPlace width text new
filled-by_feeds width text searched bytes breaks places new divisions divided breaks_are same whole
    places_are new_is =
    let parts = paragraphs_of LF text in
    let one = divided_one width parts divisions (rw same at divided) in
    let puts = (feeds-text width text).puts [] [] [] refl in (
      map (greedy_lines width) parts,
      are_divided width parts,
      rw (new_is, places_are, breaks_are, one, whole) (simp append-nil at puts)
          ∙ ap feed_joined (sym (flat_map-map broken_lines (greedy_lines width) parts)),
    )

-- ---- what is so of a text that is filled in place

-- a text of UTF-8 stays one, where the bytes in front are of it
changes-utf8 : (before old new : List ℕ) → AllZip IsChange old new → IsUtf8 (before ++ old)
    → IsUtf8 (before ++ new)
changes-utf8 before [] [] none utf8 = utf8
changes-utf8 before [] (d ∷ new) changes utf8 = absurd changes
changes-utf8 before (c ∷ old) [] changes utf8 = absurd changes
changes-utf8 before (c ∷ old) (d ∷ new) (inl same, changes) utf8 =
    subst IsUtf8 (append_assoc before (d ∷ []) new)
    (changes-utf8 (before ++ d ∷ []) old new changes (search (rules, append_assoc)))
changes-utf8 before (c ∷ old) (d ∷ new) (inr (was, is), changes) utf8 =
    let seam = ascii_seam before old c utf8 (omega (arith, was)) in
    let ascii = IsAscii-cons d [] (omega (arith, is)) (λ i. omega arith) in
    IsUtf8-append before (d ∷ new) seam.front (IsUtf8-append (d ∷ []) new
    (IsUtf8-from_ascii (d ∷ []) ascii) (changes-utf8 [] old new changes seam.back))

pub record KeepsText (old new : List ℕ) : Type 0 where
  pub len : length new ≡ length old
  pub only_blanks : OnlyBlanksChange old new
  pub utf8 : IsUtf8 old → IsUtf8 new

pub filled-keeps : (width : ℕ) (text filled : List ℕ) → IsFilledInPlace width text filled
    → KeepsText text filled
filled-keeps width text filled is =
    let changes : AllZip IsChange text filled =
    rw (filled-is width text filled is) (feeds-text width text).changes in
    record {
      len = sym (length_all_zip IsChange text filled changes);
      only_blanks = λ i within. AllZip-get_or IsChange text filled i 0 0 changes within;
      utf8 = changes-utf8 [] text filled changes;
    }
