-- Plain lines: their parts between blanks, their endings, and their text, unfilled.
use Rattle.textwrap.proofs.Common.{is_prefix_character, some_from_nonempty, ended_lines-texts, CRLF}
use Rattle.textwrap.proofs.Common.{ending_bytes-some, take-append-drop, nonempty_lines, IsPlainByte}
use Rattle.textwrap.proofs.Common.{length-append, append_assoc, ending_bytes, keeps_ending, All-nil}
use Rattle.textwrap.proofs.Common.{IsPlainLine, IsPlainWord, ended_lines, line_prefix, trimmed_len}
use Rattle.textwrap.proofs.Common.{All-get_or, All-weaker, LineEnding, map-append, prefix_len, List}
use Rattle.textwrap.proofs.Common.{EndedLine, all-right, ends_with, line_feed, map_fixed, All-cons}
use Rattle.textwrap.proofs.Common.{All-head, All-tail, has_text, take_all, texts_of, blanked, arith}
use Rattle.textwrap.proofs.Common.{filter, get_or, length, nat_eq, ne_eqb, blank, false, lines, All}
use Rattle.textwrap.proofs.Common.{rules, subst, cond, drop, refl, take, true, ◌++◌, ap₂, sym, ◌+◌}
use Rattle.textwrap.proofs.Common.{◌-◌, ◌<◌, ◌∙◌, ◌∷◌, ◌≡◌, ◌≢◌, LF, [], ap, ℕ}
use Rattle.textwrap.proofs.Text.InPlace.{blank_joined, feed_joined}
use Rattle.textwrap_text.proofs.Common.{without_final_blanks, length-take, All-append, lt-ltb, last}
use Rattle.textwrap_text.proofs.Lists.Parts.{last-append}
use Rattle.textwrap_text.proofs.TextLines.{ended_lines-front, ended_lines-whole}
use Rattle.textwrap_words.proofs.Word.Texts.{trimmed-past}
use Rattle.std.proofs.lemmas.Slice.Eq.{bytes_eq-Decides}

-- ---- what plain lines begin and end with

-- a text without prefix characters in front, with more behind it
pub prefix-append : (text more : List ℕ) → text ≢ [] → line_prefix text ≡ []
    → line_prefix (text ++ more) ≡ []
prefix-append [] more some none = absurd (some refl)
prefix-append (c ∷ text) more some none =
    search (rules, arith, length-take (1 + prefix_len is_prefix_character text) (c ∷ text))

-- a line without line feeds that ends in a byte of a plain word, whatever it begins with
pub record IsRow (line : List ℕ) : Type 0 where
  pub some : 0 < length line
  pub no_feed : All (λ c. c ≢ line_feed) line
  pub ends : IsPlainByte (last line)

-- what is so of a plain line, whatever its words
pub record IsSolid (line : List ℕ) : Type 0 where
  pub row : IsRow line
  pub begins : line_prefix line ≡ []

solid_word : (word : List ℕ) → IsPlainWord word → IsSolid word
solid_word word plain = grind (arith, some_from_nonempty, All-weaker, All-get_or)

-- more in front of a row
pub row-append : (front line : List ℕ) → All (λ c. c ≢ line_feed) front → IsRow line
    → IsRow (front ++ line)
row-append front line none row = record {
  some = omega (arith, row.some, length-append front line);
  no_feed = All-append (λ c. c ≢ line_feed) front line none row.no_feed;
  ends = subst IsPlainByte (sym (last-append front line row.some)) row.ends;
}

solid_words : (word : List ℕ) (words : List (List ℕ)) → All IsPlainWord (word ∷ words)
    → IsSolid (blank_joined (word ∷ words))
solid_words word [] plain = solid_word word (All-head IsPlainWord word [] plain)
solid_words word (next ∷ words) plain =
    let first = All-head IsPlainWord word (next ∷ words) plain in
    let here = solid_word word first in
    let front = word ++ blank ∷ [] in
    let more = blank_joined (next ∷ words) in
    let rest = solid_words next words (All-tail IsPlainWord word (next ∷ words) plain) in
    record {
      row = row-append front more
          (All-append (λ c. c ≢ line_feed) word (blank ∷ []) here.row.no_feed
          (All-cons (λ c. c ≢ line_feed) blank [] (λ e. omega (arith, e))
          (All-nil (λ c. c ≢ line_feed))))
          rest.row;
      begins = ap line_prefix (append_assoc word (blank ∷ []) more)
          ∙ prefix-append word (blank ∷ [] ++ more) first.some first.begins;
    }

pub solid : (line : List ℕ) → IsPlainLine line → IsSolid line
solid line ([], some, plain, is) = absurd (some refl)
solid line (word ∷ words, some, plain, is) = subst IsSolid (sym is) (solid_words word words plain)

-- no blanks are at the end of such a line
pub unblank-row : (line : List ℕ) → IsRow line → without_final_blanks line ≡ line
unblank-row line is =
    let past = trimmed-past line (length line - 1) (omega (arith, is.some))
    (ne_eqb (last line) 32 is.ends.0) in
    take_all (trimmed_len line) line (omega (arith, past, is.some))

-- ---- blanks in the place of line feeds

blanked-same : (text : List ℕ) → All (λ c. c ≢ line_feed) text → blanked text ≡ text
blanked-same text none = search (rules, arith, map_fixed, All-weaker)

pub blanked-joined : (lines : List (List ℕ)) → All IsPlainLine lines
    → blanked (feed_joined lines) ≡ blank_joined lines
blanked-joined [] plain = refl
blanked-joined (line ∷ []) plain =
    blanked-same line (solid line (All-head IsPlainLine line [] plain)).row.no_feed
blanked-joined (line ∷ next ∷ lines) plain =
    let here = solid line (All-head IsPlainLine line (next ∷ lines) plain) in
    let rest = blanked-joined (next ∷ lines) (All-tail IsPlainLine line (next ∷ lines) plain) in
    simp (map-append, blanked-same line here.row.no_feed, rest)

-- ---- the parts of plain lines between blanks

-- where a word and a blank begin a text that is cut at a blank: it is cut behind the word, or later
data Meets (word rest before after : List ℕ) : Type 0 where
  Here : word ≡ before → rest ≡ after → Meets word rest before after
  Later : (between : List ℕ) → before ≡ word ++ blank ∷ between
      → rest ≡ between ++ blank ∷ after → Meets word rest before after

meets : (word rest before after : List ℕ) → All (λ c. c ≢ blank) word
    → word ++ blank ∷ rest ≡ before ++ blank ∷ after → Meets word rest before after
meets [] rest [] after none same = Here refl (ap (drop 1) same)
meets [] rest (b ∷ before) after none same =
    Later before (ap (λ c. c ∷ before) (sym (ap (λ l. get_or l 0 0) same))) (ap (drop 1) same)
meets (c ∷ word) rest [] after none same = search (rules, All-head)
meets (c ∷ word) rest (b ∷ before) after none same =
    let first : c ≡ b = ap (λ l. get_or l 0 0) same in
    elim (meets word rest before after (All-tail (λ d. d ≢ blank) c word none)
    (ap (drop 1) same)) [
      | Here is rest_is ↦ Here (ap (λ d. d ∷ word) first ∙ ap (λ l. b ∷ l) is) rest_is
      | Later between is rest_is ↦
          Later between (ap (λ d. d ∷ before) (sym first) ∙ ap (λ l. c ∷ l) is) rest_is
    ]

no_blank : (word : List ℕ) → IsPlainWord word → All (λ c. c ≢ blank) word
no_blank word plain = All-weaker IsPlainByte (λ c. c ≢ blank) (λ c is. is.0) word plain.bytes

one_word : (word : List ℕ) → IsPlainWord word → IsPlainLine word
one_word word plain =
    (word ∷ [], λ none. cc, All-cons IsPlainWord word [] plain (All-nil IsPlainWord), refl)

onto_line : (word line : List ℕ) → IsPlainWord word → IsPlainLine line
    → IsPlainLine (word ++ blank ∷ line)
onto_line word line plain ([], some, all, is) = absurd (some refl)
onto_line word line plain (next ∷ words, some, all, is) = (
  word ∷ next ∷ words,
  λ none. cc,
  All-cons IsPlainWord word (next ∷ words) plain all,
  search (rules, arith, append_assoc),
)

-- plain words are cut at a blank
cut_words : (word : List ℕ) (words : List (List ℕ)) (before after : List ℕ)
    → All IsPlainWord (word ∷ words) → blank_joined (word ∷ words) ≡ before ++ blank ∷ after
    → IsPlainLine before × IsPlainLine after
cut_words word [] before after plain is =
    absurd (All-head (λ c. c ≢ blank) blank after
    (all-right (λ c. c ≢ blank) before (blank ∷ after)
    (search (rules, no_blank, All-head))) refl)
cut_words word (next ∷ words) before after plain is =
    let first = All-head IsPlainWord word (next ∷ words) plain in
    let others = All-tail IsPlainWord word (next ∷ words) plain in
    let more = blank_joined (next ∷ words) in
    elim (meets word more before after (no_blank word first)
    (sym (append_assoc word (blank ∷ []) more) ∙ is)) [
      | Here same rest ↦ (
        subst IsPlainLine same (one_word word first),
        (next ∷ words, λ none. cc, others, sym rest),
      )
      | Later between same rest ↦
          let parts = cut_words next words between after others rest in (
            subst IsPlainLine (sym same) (onto_line word between first parts.0),
            parts.1,
          )
    ]

cut_line : (line before after : List ℕ) → IsPlainLine line → line ≡ before ++ blank ∷ after
    → IsPlainLine before × IsPlainLine after
cut_line line before after ([], some, plain, is) at = absurd (some refl)
cut_line line before after (word ∷ words, some, plain, is) at = search (rules, cut_words)

pub plain_parts : (parts : List (List ℕ)) → IsPlainLine (blank_joined parts)
    → All IsPlainLine parts
plain_parts [] plain = All-nil IsPlainLine
plain_parts (part ∷ []) plain = All-cons IsPlainLine part [] plain (All-nil IsPlainLine)
plain_parts (part ∷ next ∷ parts) plain =
    let more = blank_joined (next ∷ parts) in
    let cut = cut_line (blank_joined (part ∷ next ∷ parts)) part more plain
    (append_assoc part (blank ∷ []) more) in
    All-cons IsPlainLine part (next ∷ parts) cut.0 (plain_parts (next ∷ parts) cut.1)

-- ---- the lines of a text of rows, unfilled

ended-rows : (rows : List (List ℕ)) → All IsRow rows
    → texts_of (ended_lines (feed_joined rows)) ≡ rows
ended-rows [] are = refl
ended-rows (row ∷ []) are =
    let here = All-head IsRow row [] are in
    ap texts_of (ended_lines-whole row here.no_feed (λ is. omega (arith, here.some, ap length is)))
ended-rows (row ∷ next ∷ rows) are =
    let here = All-head IsRow row (next ∷ rows) are in
    let more = feed_joined (next ∷ rows) in
    ap (λ t. texts_of (ended_lines t)) (append_assoc row (line_feed ∷ []) more)
    ∙ ap texts_of (ended_lines-front row more here.no_feed)
    ∙ ap₂ (λ l ls. l ∷ ls) (ap (λ b. cond b (take (length row - 1) row) row) (ne_eqb (last row) 13 here.ends.1))
    (ended-rows (next ∷ rows) (All-tail IsRow row (next ∷ rows) are))

pub lines-rows : (rows : List (List ℕ)) → All IsRow rows → lines (feed_joined rows) ≡ rows
lines-rows rows are = sym (ended_lines-texts (feed_joined rows)) ∙ ended-rows rows are

all-text : (es : List EndedLine) → All IsRow (texts_of es)
    → texts_of (filter has_text es) ≡ texts_of es
all-text [] rows = refl
all-text (e ∷ es) rows =
    let rest = all-text es (All-tail IsRow e.line (texts_of es) rows) in
    rw (lt-ltb 0 (length e.line) (All-head IsRow e.line (texts_of es) rows).some, rest)

pub texts-rows : (rows : List (List ℕ)) → All IsRow rows
    → texts_of (nonempty_lines (feed_joined rows)) ≡ rows
texts-rows rows are = search (rules, arith, ended-rows, all-text)

-- ---- lines that end in no line feed: joined by line feeds, they keep no ending

feeds-some : (row : List ℕ) (rows : List (List ℕ)) → All IsRow (row ∷ rows)
    → 0 < length (feed_joined (row ∷ rows))
feeds-some row [] are = (All-head IsRow row [] are).some
feeds-some row (next ∷ rows) are = simp length-append (omega arith)

feeds-last : (row : List ℕ) (rows : List (List ℕ)) → All IsRow (row ∷ rows)
    → last (feed_joined (row ∷ rows)) ≢ line_feed
feeds-last row [] are = (All-head IsRow row [] are).ends.2
feeds-last row (next ∷ rows) are =
    let rest = All-tail IsRow row (next ∷ rows) are in
    λ is. feeds-last next rows rest
    (search (rules, arith, last-append, feeds-some))

last-ending : (ending : LineEnding) → last (ending_bytes ending) ≡ line_feed
last-ending CRLF = refl
last-ending LF = refl

-- a text that ends in an ending ends in a line feed
pub ends_with-last : (text : List ℕ) (ending : LineEnding)
    → ends_with nat_eq text (ending_bytes ending) ≡ true → last text ≡ line_feed
ends_with-last text ending ends =
    let bytes = ending_bytes ending in
    let place = length text - length bytes in
    ap last (sym (take-append-drop place text)
    ∙ ap (λ l. take place text ++ l) (sym ((bytes_eq-Decides bytes (drop place text)).0 ends)))
    ∙ last-append (take place text) bytes (ending_bytes-some ending) ∙ last-ending ending

pub keeps-rows : (rows : List (List ℕ)) → All IsRow rows → keeps_ending (feed_joined rows) ≡ false
keeps-rows [] are = refl
keeps-rows (row ∷ rows) are = grind (arith, feeds-last, ends_with-last)
