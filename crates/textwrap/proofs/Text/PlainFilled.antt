-- Plain texts: their lines under indents, what unfilling finds, and plain texts that are filled with
-- whole words, unfilled and filled again.
use Rattle.textwrap.proofs.Common.{is_prefix_character, unfilled_subsequent, AreParagraphParts, All}
use Rattle.textwrap.proofs.Common.{starts_with_of_eq, unfilled_initial, with_indents_of, All-weaker}
use Rattle.textwrap.proofs.Common.{tiled-words_of, AreLinesApart, common_prefix, added_ending, Bool}
use Rattle.textwrap.proofs.Common.{append_assoc, broken_lines, common_start, keeps_ending, All-cons}
use Rattle.textwrap.proofs.Common.{words_unique, IsDividedBy, IsPlainLine, joined_text, line_prefix}
use Rattle.textwrap.proofs.Common.{split-whole, AreWordsOf, IsRefilled, apart_from, append-nil, map}
use Rattle.textwrap.proofs.Common.{line_bytes, parts_from, Algorithm, AreGroups, DividesAs, All-nil}
use Rattle.textwrap.proofs.Common.{ByOptimalFit, LineParts, all-right, indent_of, line_feed, line_from}
use Rattle.textwrap.proofs.Common.{map_fixed, shortened, widths_of, All-head, All-tail, IsFilled, ℕ}
use Rattle.textwrap.proofs.Common.{Settings, Splitter, WordText, is_whole, parts_of, sizes_of, List}
use Rattle.textwrap.proofs.Common.{take_all, words_of, IsPlain, blanked, covered, drop_at, word_of}
use Rattle.textwrap.proofs.Common.{ByFirstFit, chunks, length, Whole, arith, false, lines, rules, subst}
use Rattle.textwrap.proofs.Common.{tiled, cond, drop, flat, fold, refl, true, ◌++◌, suc, sym, ◌↔◌}
use Rattle.textwrap.proofs.Common.{◌∙◌, ◌∷◌, ◌≡◌, ◌≢◌, ◌≤◌, [], ap}
use Rattle.textwrap.specs.Laws.{with_indents_as, IsIndentedFill, IsFilledWhole, IsUnindented}
use Rattle.textwrap.specs.Laws.{KeepsWords, IsIndent}
use Rattle.textwrap.proofs.Text.Plain.{blanked-joined, plain_parts, unblank-row, keeps-rows, IsRow}
use Rattle.textwrap.proofs.Text.Plain.{lines-rows, row-append, texts-rows, solid}
use Rattle.textwrap.proofs.Text.InPlace.{blank_joined, tiled-broken, feed_joined}
use Rattle.textwrap.proofs.Text.InPlaceLines.{without_final_blanks-push, words-no_penalty}
use Rattle.textwrap.proofs.Text.{Unfilling.common_len-longest, InPlaceLines.covered-words}
use Rattle.textwrap_text.proofs.Common.{without_final_blanks, MatchBool}
use Rattle.textwrap_base.proofs.Common.{IsDivision, Sizes}
use Rattle.std.proofs.lemmas.List.Sums.{take_while-cons}
use Rattle.textwrap_layout.proofs.Paragraph.LeftOff.{whole_unindented, assembled-parts}
use Rattle.textwrap_layout.proofs.Paragraph.LeftOff.{bytes-assembled, line_from-whole}
use Rattle.textwrap_layout.proofs.{Text.Paragraphs.one-paragraph, Paragraph.Pieces.ArePieces-is}

-- ---- a line and its indent

prefix-indented : (indent line : List ℕ) → IsIndent indent → line_prefix line ≡ []
    → line_prefix (indent ++ line) ≡ indent
prefix-indented [] line is none = none
prefix-indented (c ∷ indent) line is none = rw (
  take_while-cons is_prefix_character c (indent ++ line),
  All-head (λ c. is_prefix_character c ≡ true) c indent is,
  prefix-indented indent line (All-tail (λ c. is_prefix_character c ≡ true) c indent is) none,
) refl

-- the first line with one indent, each other with the other
abbrev pub indented_rows : List ℕ → List ℕ → List (List ℕ) → List (List ℕ)
indented_rows initial subsequent [] = []
indented_rows initial subsequent (line ∷ parts) =
    (initial ++ line) ∷ indented_rows subsequent subsequent parts

are_rows : (initial subsequent : List ℕ) (parts : List (List ℕ)) → IsIndent initial
    → IsIndent subsequent → All IsPlainLine parts
    → All IsRow (indented_rows initial subsequent parts)
are_rows initial subsequent [] first later plain = All-nil IsRow
are_rows initial subsequent (line ∷ parts) first later plain =
    All-cons IsRow (initial ++ line) (indented_rows subsequent subsequent parts)
    (row-append initial line (grind (arith, All-weaker))
    (solid line (All-head IsPlainLine line parts plain)).row)
    (are_rows subsequent subsequent parts later later (All-tail IsPlainLine line parts plain))

module _ (indent : List ℕ) (is : IsIndent indent) where
  line-indent : (line : List ℕ) → IsPlainLine line → line_prefix (indent ++ line) ≡ indent
  line-indent line plain = prefix-indented indent line is (solid line plain).begins

  common-indented : (parts : List (List ℕ)) → All IsPlainLine parts
      → fold common_start indent (map line_prefix (indented_rows indent indent parts)) ≡ indent
  common-indented [] plain = refl
  common-indented (line ∷ parts) plain =
      let same : common_start indent indent ≡ indent =
      search (rules, take_all, common_len-longest, starts_with_of_eq) in
      rw (line-indent line (All-head IsPlainLine line parts plain), same)
      (common-indented parts (All-tail IsPlainLine line parts plain))

  -- what lines have in common that all have this indent
  common-rows : (parts : List (List ℕ)) → All IsPlainLine parts
      → (length parts ≡ 0 → indent ≡ [])
      → common_prefix (map line_prefix (indented_rows indent indent parts)) ≡ indent
  common-rows [] plain none = sym (none refl)
  common-rows (line ∷ parts) plain none =
      rw (line-indent line (All-head IsPlainLine line parts plain))
      (common-indented parts (All-tail IsPlainLine line parts plain))

  bare-rows : (parts : List (List ℕ))
      → map (drop (length indent)) (indented_rows indent indent parts) ≡ parts
  bare-rows [] = refl
  bare-rows (line ∷ parts) = rw (drop_at indent line (length indent) refl, bare-rows parts) refl

-- ---- what unfilling finds

-- the indents that it finds, and the joined text
pub record IsUnfilledAs (initial subsequent joined text : List ℕ) : Type 0 where
  pub initial_is : unfilled_initial text ≡ initial
  pub subsequent_is : unfilled_subsequent text ≡ subsequent
  pub joined_is : joined_text text ≡ joined
  pub keeps : keeps_ending text ≡ false

-- the indents of plain lines, if there are lines that show them
unfilled-rows : (initial subsequent joined text : List ℕ) (parts : List (List ℕ))
    → IsIndent initial → IsIndent subsequent → All IsPlainLine parts
    → joined ≡ blank_joined parts → text ≡ feed_joined (indented_rows initial subsequent parts)
    → (length parts ≡ 0 → initial ≡ []) → (length parts ≤ 1 → subsequent ≡ [])
    → IsUnfilledAs initial subsequent joined text
unfilled-rows initial subsequent joined text [] first later plain is given some more =
    search (rules, arith)
unfilled-rows initial subsequent joined text (line ∷ parts) first later plain is given some more =
    let rows = indented_rows initial subsequent (line ∷ parts) in
    let are = are_rows initial subsequent (line ∷ parts) first later plain in
    let begins : unfilled_initial (feed_joined rows) ≡ initial =
    rw (lines-rows rows are)
    (line-indent initial first line (All-head IsPlainLine line parts plain)) in
    let goes_on : unfilled_subsequent (feed_joined rows) ≡ subsequent =
    rw (lines-rows rows are)
    (common-rows subsequent later parts (All-tail IsPlainLine line parts plain)
    (λ none. more (omega (arith, none)))) in
    rw (is, given) (record {
      initial_is = begins;
      subsequent_is = goes_on;
      joined_is = rw (begins, goes_on, texts-rows rows are) (rw (
        drop_at initial line (length initial) refl,
        bare-rows subsequent later parts,
      ) refl);
      keeps = keeps-rows rows are;
    })

unindented_rows : (lines : List (List ℕ)) → indented_rows [] [] lines ≡ lines
unindented_rows [] = refl
unindented_rows (line ∷ lines) = ap (λ ls. line ∷ ls) (unindented_rows lines)

pub unfilled-plain : (text : List ℕ) → IsPlain text → IsUnfilledAs [] [] (blanked text) text
unfilled-plain text (lines, plain, is) =
    let none : IsIndent [] = All-nil (λ c. is_prefix_character c ≡ true) in
    unfilled-rows [] [] (blanked text) text lines none none plain
    (ap blanked is ∙ blanked-joined lines plain) (is ∙ ap feed_joined (sym (unindented_rows lines)))
    (λ _. refl) (λ _. refl)

-- ---- a plain text that is filled with whole words is plain lines under the indents

-- the text is these plain lines with a blank between each two, and filled it is the same lines
-- under indents, with a line feed between each two
pub record IsPlainCut (initial subsequent text filled : List ℕ) : Type 0 where
  pub parts : List (List ℕ)
  pub plain : All IsPlainLine parts
  pub text_is : text ≡ blank_joined parts
  pub filled_is : filled ≡ feed_joined (indented_rows initial subsequent parts)

division-by : {X : Type 0} (algorithm : Algorithm) (sizes : X → Sizes) (widths : List ℕ)
    (xs : List X) (lines : List (List X)) → IsDividedBy algorithm sizes widths xs lines
    → IsDivision xs lines
division-by ByFirstFit sizes widths xs lines divided = divided.admissible.division
division-by (ByOptimalFit penalties) sizes widths xs lines divided = divided.by_table.division

-- the bytes of lines with these parts
abbrev pub bytes_of : List LineParts → List (List ℕ)
bytes_of parts = map line_bytes (map line_from parts)

module _ (settings : Settings) (keeps : KeepsWords settings) where
  -- the bytes of the lines of a division
  abbrev bytes_from : Bool → List (List WordText) → List (List ℕ)
  bytes_from is_later lines = bytes_of (parts_from settings is_later lines)

  bytes-line : (is_later : Bool) (line : List WordText) → AreWordsOf (tiled line) line
      → line ≢ [] → line_bytes (line_from (parts_of settings is_later line))
      ≡ indent_of settings is_later ++ without_final_blanks (tiled line)
  bytes-line is_later [] words some = absurd (some refl)
  bytes-line is_later (w ∷ ws) words some =
      let indent = indent_of settings is_later in
      ap line_bytes (sym (assembled-parts settings is_later w ws (words-no_penalty (w ∷ ws) words)))
      ∙ bytes-assembled indent _
      ∙ ap (λ l. indent ++ l) (ap (λ b. cond b (tiled (w ∷ ws)) (covered (w ∷ ws))) keeps.trimmed
      ∙ covered-words (w ∷ ws) words)

  bytes-broken : (is_later : Bool) (lines : List (List WordText)) → All (λ l. l ≢ []) lines
      → AreLinesApart lines → bytes_from is_later lines
      ≡ indented_rows (indent_of settings is_later) settings.subsequent_indent
      (map without_final_blanks (broken_lines lines))
  bytes-broken is_later [] some apart = refl
  bytes-broken is_later (line ∷ []) some words = search (rules, arith, bytes-line, All-head)
  bytes-broken is_later (line ∷ next ∷ lines) some (words, ending, apart) =
      let here = bytes-line is_later line words (All-head (λ l. l ≢ []) line (next ∷ lines) some) in
      let rest = bytes-broken true (next ∷ lines) (All-tail (λ l. l ≢ []) line (next ∷ lines) some)
      apart in
      let bare = without_final_blanks-push (shortened (tiled line)) in
      grind (arith, here, rest, ending, bare)

  -- the text of the lines of a division
  abbrev filled_of : List (List WordText) → List ℕ
  filled_of division = feed_joined (bytes_from false division)

  cut-words : (words : List WordText) (lines : List (List WordText)) → IsDivision words lines
      → AreWordsOf (tiled words) words → IsPlainLine (tiled words)
      → IsPlainCut settings.initial_indent settings.subsequent_indent (tiled words)
      (filled_of lines)
  cut-words [] lines division are plain = absurd (omega (arith, (solid [] plain).row.some))
  cut-words (w ∷ ws) [] division are plain = absurd (omega (arith, ap length division.0))
  cut-words (w ∷ ws) (line ∷ lines) division are plain =
      let apart = apart_from (w ∷ ws) (line ∷ lines) division are in
      let parts = broken_lines (line ∷ lines) in
      let text_is : tiled (w ∷ ws) ≡ blank_joined parts = ap tiled (sym division.0)
      ∙ tiled-broken (line ∷ lines) (omega arith) apart in
      let all = plain_parts parts (subst IsPlainLine text_is plain) in
      record {
        parts = parts;
        plain = all;
        text_is = text_is;
        filled_is = ap feed_joined (bytes-broken false (line ∷ lines) division.1 apart
            ∙ ap (indented_rows settings.initial_indent settings.subsequent_indent)
            (map_fixed without_final_blanks parts
            (search (rules, arith, All-weaker, unblank-row, solid))));
      }

  module _ (algorithm : Algorithm) (text : List ℕ) (none : All (λ c. c ≢ line_feed) text) where
    abbrev Divides : Bool → List ℕ → List (List WordText) → Type 0
    Divides = DividesAs Whole algorithm settings

    abbrev Cut : List ℕ → Type 0
    Cut = IsPlainCut settings.initial_indent settings.subsequent_indent text

    -- what holds of a whole paragraph without its final blanks, if there is no initial indent, and
    -- of the words of the text, divided, holds of the filled text
    cut-cases : (settings.initial_indent ≡ [] → Cut (without_final_blanks text))
        → ((division : List (List WordText)) → IsDivision (words_of text) division
        → Cut (filled_of division))
        → (filled : List ℕ) → IsFilledWhole settings algorithm text filled → Cut filled
    cut-cases whole divided filled (lines, are, is) =
        rw (is, keeps.feeds, are.given)
        (by_groups are.groups (rw (one-paragraph settings.line_ending text none) at are.defined))
      where
        by_case : (division : List (List WordText)) (b : Bool)
            → is_whole settings false text ≡ b
            → MatchBool b (division ≡ (word_of text ∷ []) ∷ []) (Divides false text division)
            → Cut (filled_of division)
        by_case division true is_one is =
            subst Cut (sym (ap filled_of is ∙ ap line_bytes (line_from-whole settings false text is_one)
            ∙ ap (λ b. cond b text (without_final_blanks text)) keeps.trimmed))
            (whole (whole_unindented settings false text is_one))
        by_case division false longer (pieces, are, lines) =
            divided division
            (subst (λ ws. IsDivision ws division)
            (ArePieces-is settings Whole text pieces are ∙ rw keeps.unbroken (split-whole (chunks text)))
            (division-by algorithm sizes_of (widths_of settings false) pieces division lines))

        by_groups : (groups : List (List LineParts))
            → AreGroups (AreParagraphParts settings Divides) false (text ∷ []) groups
            → Cut (feed_joined (bytes_of (flat groups)))
        by_groups [] are = absurd are
        by_groups (parts ∷ groups) ((division, laid_out, is), none) =
            rw (none, append-nil, is)
            (by_case division (is_whole settings false text) refl laid_out)

    pub filled-plain : (filled : List ℕ) → IsFilledWhole settings algorithm text filled
        → IsPlain text → Cut filled
    filled-plain filled given ([], plain, is) =
        cut-cases (λ _. nothing (ap without_final_blanks is))
        (λ division divided. nothing (ap filled_of (rw is at divided))) filled given
      where
        nothing : {new : List ℕ} → new ≡ [] → Cut new
        nothing new_is =
            record { parts = []; plain = All-nil IsPlainLine; text_is = is; filled_is = new_is }
    filled-plain filled given (line ∷ [], plain, is) =
        let here = subst IsPlainLine (sym is) (All-head IsPlainLine line [] plain) in
        let own = tiled-words_of text in
        cut-cases (λ unindented. record {
          parts = text ∷ [];
          plain = All-cons IsPlainLine text [] here (All-nil IsPlainLine);
          text_is = refl;
          filled_is = rw (unindented, unblank-row text (solid text here).row) refl;
        }) (λ division divided. subst (λ t. Cut (filled_of division)) own
        (rw own at (cut-words (words_of text) division divided
        (rw own ((words_unique text (words_of text)).1 refl)) (rw own here)))) filled given
    filled-plain filled given (line ∷ next ∷ lines, plain, is) =
        let more = feed_joined (next ∷ lines) in
        let rest : All (λ c. c ≢ line_feed) (line_feed ∷ more) =
        all-right (λ c. c ≢ line_feed) line (line_feed ∷ more)
        (subst (All (λ c. c ≢ line_feed)) (is ∙ append_assoc line (line_feed ∷ []) more) none) in
        absurd (All-head (λ c. c ≢ line_feed) line_feed more rest refl)

-- ---- the text, refilled

module _ (Divides : Settings → Bool → List ℕ → List (List WordText) → Type 0) where
  abbrev FilledBy : Settings → List ℕ → List ℕ → Type 0
  FilledBy settings = IsFilled settings (Divides settings)

  -- it is the joined text, filled under the indents that are found
  pub refilled-as_joined : (settings indented : Settings) (initial subsequent joined text : List ℕ)
      → IsUnfilledAs initial subsequent joined text
      → record settings { initial_indent = initial; subsequent_indent = subsequent } ≡ indented
      → (refilled : List ℕ) → IsRefilled settings Divides text refilled
      ↔ FilledBy indented joined refilled
  refilled-as_joined settings indented initial subsequent joined text found is refilled =
      let same : with_indents_of text settings ≡ indented =
      rw (found.initial_is, found.subsequent_is) is in
      let nothing : (filled : List ℕ)
      → filled ++ added_ending (keeps_ending text) settings.line_ending ≡ filled =
      λ filled. ap (λ b. filled ++ added_ending b settings.line_ending) found.keeps
      ∙ append-nil filled in (
        λ (filled, is, with_ending).
            subst (FilledBy indented joined) (sym (with_ending ∙ nothing filled))
            (search (rules, arith)),
        λ is. (refilled, search (rules, arith), sym (nothing refilled)),
      )

  pub refilled-filled : (settings : Settings) (text refilled : List ℕ) → IsUnindented settings
      → IsPlain text → IsRefilled settings Divides text refilled
      ↔ FilledBy settings (blanked text) refilled
  refilled-filled settings text refilled unindented plain =
      refilled-as_joined settings settings [] [] (blanked text) text (unfilled-plain text plain)
      (rw (unindented.initial, unindented.subsequent)) refilled

-- ---- a text that was filled, refilled

pub filled-is_plain : (settings : Settings) (algorithm : Algorithm) (text filled : List ℕ)
    → KeepsWords settings → IsUnindented settings → IsPlain text → All (λ c. c ≢ line_feed) text
    → IsFilledWhole settings algorithm text filled → IsPlain filled × (blanked filled ≡ text)
filled-is_plain settings algorithm text filled keeps unindented plain none given =
    let cut = filled-plain settings keeps algorithm text none filled given plain in
    let is : filled ≡ feed_joined cut.parts = search (rules, arith, unindented_rows) in
    search (rules, arith, blanked-joined)

pub refilled-twice : (first second : Settings) (one other : Algorithm) (splitter : Splitter)
    (text filled refilled : List ℕ) → KeepsWords first → IsUnindented first
    → IsUnindented second → IsPlain text → All (λ c. c ≢ line_feed) text
    → IsFilledWhole first one text filled
    → IsRefilled second (DividesAs splitter other) filled refilled
    ↔ IsFilled second (DividesAs splitter other second) text refilled
refilled-twice first second one other splitter text filled refilled keeps unindented second_is plain
    none given =
    let cut = filled-is_plain first one text filled keeps unindented plain none given in
    rw cut.1 at (refilled-filled (DividesAs splitter other) second filled refilled second_is cut.0)

-- ---- a plain text, filled under indents and refilled

rows-length : (initial subsequent : List ℕ) (parts : List (List ℕ))
    → length (indented_rows initial subsequent parts) ≡ length parts
rows-length initial subsequent [] = refl
rows-length initial subsequent (line ∷ parts) = ap suc (rows-length subsequent subsequent parts)

pub refilled-indented : (first second : Settings) (one other : Algorithm) (splitter : Splitter)
    (text filled refilled : List ℕ) → IsIndentedFill first one text filled
    → IsRefilled second (DividesAs splitter other) filled refilled
    ↔ IsFilled (with_indents_as first second)
    (DividesAs splitter other (with_indents_as first second)) text refilled
refilled-indented first second one other splitter text filled refilled fill =
    let cut = filled-plain first fill.keeps one text fill.no_feed filled fill.is_filled fill.plain in
    let initial = first.initial_indent in
    let subsequent = first.subsequent_indent in
    let rows = lines-rows (indented_rows initial subsequent cut.parts)
    (are_rows initial subsequent cut.parts fill.initial fill.subsequent cut.plain) in
    let count : length (lines filled) ≡ length cut.parts = ap (λ t. length (lines t)) cut.filled_is
    ∙ ap length rows ∙ rows-length initial subsequent cut.parts in
    refilled-as_joined (DividesAs splitter other) second (with_indents_as first second) initial
    subsequent text filled (unfilled-rows initial subsequent text filled cut.parts fill.initial
    fill.subsequent cut.plain cut.text_is cut.filled_is
    (λ none. absurd (omega (arith, none, count, fill.more)))
    (λ few. absurd (omega (arith, few, count, fill.more)))) refl refilled

pub refilled-once : (first second third : Settings) (one other last : Algorithm)
    (splitter : Splitter) (text filled refilled again : List ℕ)
    → IsIndentedFill first one text filled
    → KeepsWords second → IsRefilled second (DividesAs Whole other) filled refilled
    → 2 ≤ length (lines refilled)
    → IsRefilled third (DividesAs splitter last) refilled again
    ↔ IsRefilled third (DividesAs splitter last) filled again
refilled-once first second third one other last splitter text filled refilled again fill keeps is
    more =
    let indented = with_indents_as first second in
    let refill : IsIndentedFill indented other text refilled = record {
      keeps = record { unbroken = keeps.unbroken; trimmed = keeps.trimmed; feeds = keeps.feeds };
      initial = fill.initial;
      subsequent = fill.subsequent;
      plain = fill.plain;
      no_feed = fill.no_feed;
      is_filled = (refilled-indented first second one other Whole text filled refilled fill).0 is;
      more = more;
    } in
    let after = refilled-indented indented third other last splitter text refilled again refill in
    let before = refilled-indented first third one last splitter text filled again fill in
    (λ is. before.1 (after.0 is), λ is. after.1 (before.0 is))
