-- Words that are split are the parts of the text wherever a test of places cuts it.
use Rattle.textwrap_text.proofs.{Common.length-append, Common.trimmed_len, Units.Chunks.join-chunks}
use Rattle.textwrap_text.proofs.Common.{[], is_blank, IsUtf8-append, not, without_final_blanks, ◌≢◌}
use Rattle.textwrap_text.proofs.Common.{All-head, append_assoc, arith, last, range_with_len, ℕ, ◌∙◌}
use Rattle.textwrap_text.proofs.Common.{drop_all, final_blanks, refl, take_all, take_more, ◌+◌, ◌<◌}
use Rattle.textwrap_text.proofs.Common.{AreCutApart, Bool, drop, inl, inr, sym, true, ◌-◌, ◌∷◌, ◌≤◌}
use Rattle.textwrap_text.proofs.Common.{flat_map-append, get_or_append_left, List, take-append-drop}
use Rattle.textwrap_text.proofs.Common.{All-tail, get_or-take, get_or_push, length_push, map-append}
use Rattle.textwrap_text.proofs.Common.{and_parts, append-nil, IsUtf8-nil, slice_index, slice_range}
use Rattle.textwrap_text.proofs.Common.{and_right, ap, cases_lt, drop_at, eqb-true, IsUtf8, take_at}
use Rattle.textwrap_text.proofs.Common.{chunks, cond, false, filter, get_or, length, rules, subst}
use Rattle.textwrap_text.proofs.Common.{All, length-take-le, map, take, take-append-add, ◌++◌, ◌≡◌}
use Rattle.textwrap_text.proofs.Units.Chunks.{AreChunks-chunks, AreCutApart-tail, chunks-utf8}
use Rattle.textwrap_words.{proofs.Word.Texts.final_blanks-blank, specs.declared.pieces.Piece.Piece}
use Rattle.textwrap_words.proofs.Common.{flat, get_or-append-add, IsPart, length-slice, not-true}
use Rattle.textwrap_words.proofs.Common.{AtHyphens, last-push, not-false, some_from_nonempty, Whole}
use Rattle.textwrap_words.proofs.Common.{is_hyphen_point, onto_front-nil, pieces_from_place}
use Rattle.textwrap_words.proofs.Common.{IsFirstWithin, onto_front-onto_first, pieces_within}
use Rattle.textwrap_words.proofs.Common.{AreFinalBlanks, broken_words, is_piece_cut, split_words}
use Rattle.textwrap_words.proofs.Common.{IsPartWord, onto_front, split_from, split_word, stand_from}
use Rattle.textwrap_words.proofs.Common.{is_point, parts_by, Splitter, word_of, words_of, WordText}
use Rattle.textwrap_words.proofs.Word.{Parts.end-from, Parts.parts_by-whole, Texts.AreBlanks}
use Rattle.textwrap_words.proofs.Word.Parts.{next_by, parts_by-chunks, parts_by-some, parts_within}
use Rattle.textwrap_words.proofs.Word.Splitting.{hyphen-before-point, point-blank, points-apart}
use Rattle.textwrap_words.proofs.Word.Splitting.{ends-blank, ends-none, EndsPlain}
use Rattle.textwrap_words.proofs.Word.Texts.{trimmed-other, without_final_blanks-utf8, word_of-seam}

-- ---- a word with its blanks, split at one point after another, is cut wherever a test of
-- places says so

module _ (w : WordText) (at : ℕ) (point : ℕ → Bool) (none : w.penalty ≡ [])
    (blanks : AreBlanks w.whitespace)
    (ends : (front : List ℕ) (b : ℕ) → w.word ≡ front ++ b ∷ [] → is_blank b ≡ false)
    (same : (p : ℕ) → 0 < p → p < length w.word → point (at + p) ≡ is_hyphen_point w.word p)
    (past : (p : ℕ) → length w.word ≤ p → p < length w.word + length w.whitespace
    → point (at + p) ≡ false) where
  abbrev pub test : ℕ → Bool
  test = is_hyphen_point w.word

  -- what comes after b, which `before` and x stand before, is split at its points as it is cut into
  -- parts; of the piece that goes on, x has been read
  abbrev pub Splits : List ℕ → Type 0
  Splits rest = (before x : List ℕ) (b : ℕ) → w.word ≡ before ++ (x ++ b ∷ rest)
      → split_from w (length before)
      (filter test (range_with_len (length before + length x + 1) (length rest))) ≡ map word_of
      (onto_front x (parts_by point (at + (length before + length x)) (b ∷ rest ++ w.whitespace)))

  split-at : (rest before x : List ℕ) (b c place : ℕ) (t : Bool) → Splits rest
      → w.word ≡ before ++ (x ++ b ∷ c ∷ rest) → place ≡ length before + length x + 1
      → test place ≡ t
      → split_from w (length before)
      (cond t (place ∷ filter test (range_with_len (place + 1) (length rest)))
      (filter test (range_with_len (place + 1) (length rest))))
      ≡ map word_of (onto_front x
      (next_by point t (at + (length before + length x)) b (c ∷ rest ++ w.whitespace)))
  split-at rest before x b c place true splits is here cut =
      let part = x ++ b ∷ [] in
      let front = before ++ part in
      let part_len = length_push x b in
      let front_len : length front ≡ place =
      omega (arith, length-append before part, part_len, here) in
      let seen : w.word ≡ front ++ c ∷ rest =
      is ∙ ap (λ l. before ++ l) (sym (append_assoc x (b ∷ []) (c ∷ rest)))
      ∙ sym (append_assoc before part (c ∷ rest)) in
      let many : place - length before ≡ length x + 1 = omega (arith, here) in
      let slice : slice_range w.word (length before) place ≡ part =
      grind (arith, drop_at, take-append-add) in
      let hyphened = hyphen-before-point w.word place cut in
      let byte : b ≡ 45 = cc (
        last-push (before ++ x) b,
        append_assoc before x (b ∷ []),
        take_at front (c ∷ rest) place front_len,
        eqb-true (last (take place w.word)) 45 hyphened,
      ) in
      let other : is_blank b ≡ false = ap is_blank byte in
      let start : length front + 0 + 1 ≡ place + 1 = omega (arith, front_len) in
      let on : at + (length front + 0) ≡ at + (length before + length x) + 1 =
      omega (arith, front_len, here) in
      let next = splits front [] c seen in
      grind (arith, onto_front-nil, parts_by-some, word_of-seam)
  split-at rest before x b c place false splits is here cut =
      let part = x ++ b ∷ [] in
      let part_len = length_push x b in
      let seen : w.word ≡ before ++ (part ++ c ∷ rest) =
      is ∙ ap (λ l. before ++ l) (sym (append_assoc x (b ∷ []) (c ∷ rest))) in
      search (rules, onto_front-onto_first)

  pub split-from : (rest : List ℕ) → Splits rest
  split-from [] = λ before x b is.
      let here = at + (length before + length x) in
      let other = ends (before ++ x) b (is ∙ sym (append_assoc before x (b ∷ []))) in
      let word : drop (length before) w.word ≡ x ++ b ∷ [] =
      ap (drop (length before)) is ∙ drop_at before (x ++ b ∷ []) (length before) refl in
      let len : length w.word ≡ length before + length x + 1 =
      ap length is ∙ (omega (arith, length-append before (x ++ b ∷ []), length_push x b)) in
      let whole : parts_by point here (b ∷ w.whitespace) ≡ (b ∷ w.whitespace) ∷ [] =
      parts_by-whole point (b ∷ w.whitespace) here (omega arith) (λ k some inside.
      let place : here + k ≡ at + (length before + length x + k) = omega arith in
      ap point place ∙ past (length before + length x + k) (omega (arith, len, some))
      (omega (arith, len, inside))) in
      cc (word_of-seam x w.whitespace b other blanks)
  split-from (c ∷ rest) = λ before x b is.
      let place = length before + length x + 1 in
      let next : (at + (length before + length x)) + 1 ≡ at + place = omega arith in
      grind (arith, length-append, split-at, split-from rest)

-- ---- a word and its blanks

-- the word of a chunk ends in no blank
pub ends-other : (q front : List ℕ) (b : ℕ) → without_final_blanks q ≡ front ++ b ∷ []
    → is_blank b ≡ false
ends-other q front b is =
    let n = trimmed_len q in
    let len : length front + 1 ≡ n =
    sym (length_push front b) ∙ ap length (sym is) ∙ length-take-le n q (omega arith) in
    let some : 0 < n = omega (arith, len) in
    let at : get_or q (n - 1) 0 ≡ b = grind (arith, get_or-take, get_or_push) in
    ap is_blank (sym at) ∙ trimmed-other q some

-- a chunk that stands in a text
module _ (before q after : List ℕ) (utf8 : IsUtf8 before) (plain : EndsPlain before)
    (q_utf8 : IsUtf8 q) (some : 0 < length q) where
  abbrev text : List ℕ
  text = before ++ (q ++ after)

  abbrev at : ℕ
  at = length before

  abbrev w : WordText
  w = word_of q

  whole : without_final_blanks q ++ final_blanks q ≡ q
  whole = take-append-drop (trimmed_len q) q

  whole_len : length w.word + length w.whitespace ≡ length q
  whole_len = sym (length-append w.word w.whitespace) ∙ ap length whole

  same : (p : ℕ) → 0 < p → p < length w.word
      → is_hyphen_point text (at + p) ≡ is_hyphen_point w.word p
  same p start inside = grind (arith, whole, append_assoc, points-apart, without_final_blanks-utf8)

  -- no point stands before a blank of the chunk
  past : (p : ℕ) → length w.word ≤ p → p < length w.word + length w.whitespace
      → is_hyphen_point text (at + p) ≡ false
  past p from inside =
      let k = p - length w.word in
      let place : length w.word + k ≡ p = omega (arith, from) in
      let within : p < length q = omega (arith, inside, whole_len) in
      let byte : get_or text (at + p) 0 ≡ get_or w.whitespace k 0 =
      grind (arith, get_or-append-add, get_or_append_left, whole) in
      search (rules, arith, point-blank, length-append, final_blanks-blank)

  split-at_hyphens : split_word AtHyphens w ≡ map word_of (parts_by (is_hyphen_point text) at q)
  split-at_hyphens = by w.word refl
    where
      by : (word : List ℕ) → w.word ≡ word
          → split_word AtHyphens w ≡ map word_of (parts_by (is_hyphen_point text) at q)
      by [] is =
          grind (arith, parts_by-whole, past, whole_len)
      by (b ∷ rest) is =
          let len : length w.word - 1 ≡ length rest =
          (let all = ap length is in omega (arith, all)) in
          let start : at + (0 + 0) ≡ at = omega arith in
          let seen : (b ∷ rest) ++ w.whitespace ≡ q = ap (λ l. l ++ w.whitespace) (sym is) ∙ whole in
          let some = parts_by-some (is_hyphen_point text) (at + (0 + 0)) b (rest ++ w.whitespace) in
          rw len (rw (onto_front-nil _ some, start) at (split-from w at (is_hyphen_point text) refl
          (final_blanks-blank q) (ends-other q) same past rest [] [] b is)
          ∙ ap (λ l. map word_of (parts_by (is_hyphen_point text) at l)) seen)

  pub split-word : (splitter : Splitter)
      → split_word splitter w ≡ map word_of (parts_by (is_point splitter text) at q)
  split-word Whole = grind (arith, parts_by-whole)
  split-word AtHyphens = split-at_hyphens

-- ---- the pieces of words that end at cuts, word by word

module _ (splitter : Splitter) (limit : ℕ) where
  -- no pieces are left at the end of a word
  pub within-none : (text : List ℕ) (at : ℕ) → length text ≤ at
      → pieces_within splitter limit text at ≡ []
  within-none text at past = grind (arith, drop_all)

  -- those of the first word, and those of the words after it
  pub words-first : (q : List ℕ) (qs : List (List ℕ)) → IsUtf8 q → 0 < length q
      → broken_words limit (split_words splitter (map word_of (q ∷ qs)))
      ≡ pieces_within splitter limit q 0
      ++ broken_words limit (split_words splitter (map word_of qs))
  words-first q qs utf8 some =
      let one = rw (append-nil q)
      at (split-word [] q [] IsUtf8-nil (ends-none [] refl) utf8 some splitter) in
      search (rules, arith, flat_map-append)

  -- where the first piece stands, if the word begins at the start
  pub within-stands : (text : List ℕ) (start at : ℕ) (piece : Piece) (others : List WordText)
      → start ≤ at
      → IsFirstWithin splitter limit text (at - start) piece
      → stand_from at (pieces_within splitter limit text (at - start) ++ others)
      ≡ record { word_end = start + piece.word_end; end = start + piece.end; width = piece.width }
      ∷ stand_from (start + piece.end) (pieces_within splitter limit text piece.end ++ others)
  within-stands text start at piece others from first =
      let k = at - start in
      let n = length (slice_range text k piece.word_end) in
      let within = first.boundary.0 in
      let one : at + n ≡ start + piece.word_end = grind (arith, length-slice) in
      let both : at + n + (length (slice_range text piece.word_end piece.end)) ≡ start + piece.end =
      omega (arith, one, first.up_to, length-slice text piece.word_end piece.end within) in
      ap (λ ws. stand_from at (ws ++ others)) first.first ∙ grind arith

-- ---- the words of a text, split by a built-in splitter, are the parts of the text as it is cut
-- at places that a test tells

-- a text that ends in a blank
ends-plain : (before q : List ℕ) → IsUtf8 (before ++ q) → 0 < length q → is_blank (last q) ≡ true
    → EndsPlain (before ++ q)
ends-plain before q utf8 some blank =
    let n = length q - 1 in
    let byte : last q ≡ 32 = eqb-true (last q) 32 blank in
    let shape : q ≡ take n q ++ 32 ∷ [] = grind (arith, take_all, take_more) in
    let whole : before ++ q ≡ (before ++ take n q) ++ 32 ∷ [] = grind (arith, append_assoc) in
    subst EndsPlain (sym whole) (ends-blank (before ++ take n q) (subst IsUtf8 whole utf8))

-- a chunk with another after it ends in a blank
chunk-blank : (q : List ℕ) (qs : List (List ℕ)) → AreCutApart (q ∷ qs) → 0 < length qs
    → is_blank (last q) ≡ true
chunk-blank q [] apart more = absurd (omega (arith, more))
chunk-blank q (next ∷ qs) apart more =
    (and_parts (is_blank (last q)) (not (is_blank (slice_index next 0)))
    (apart [] qs q next refl)).0

module _ (splitter : Splitter) (text : List ℕ) where
  split-all : (qs : List (List ℕ)) (before : List ℕ) → text ≡ before ++ flat qs → IsUtf8 before
      → (0 < length qs → EndsPlain before) → All IsUtf8 qs → All (λ q. q ≢ []) qs → AreCutApart qs
      → split_words splitter (map word_of qs)
      ≡ map word_of (parts_within (is_point splitter text) (length before) qs)
  split-all [] before is utf8 plain all some apart = refl
  split-all (q ∷ qs) before is utf8 plain all some apart =
      let q_utf8 = All-head IsUtf8 q qs all in
      let q_some = some_from_nonempty q (All-head (λ q. q ≢ []) q qs some) in
      let both = IsUtf8-append before q utf8 q_utf8 in
      let others = split-all qs (before ++ q) (is ∙ sym (append_assoc before q (flat qs))) both
      (λ more. ends-plain before q both q_some (chunk-blank q qs apart more))
      (All-tail IsUtf8 q qs all) (All-tail (λ q. q ≢ []) q qs some) (AreCutApart-tail q qs apart) in
      grind (arith, split-word, length-append, map-append)

  pub split_words-parts : IsUtf8 text
      → split_words splitter (words_of text)
      ≡ map word_of (parts_by (is_piece_cut splitter text) 0 text)
  split_words-parts utf8 =
      let are = AreChunks-chunks text in
      split-all (chunks text) [] (sym (join-chunks text)) IsUtf8-nil (λ more. ends-none [] refl)
      (chunks-utf8 text utf8) are.nonempty are.cut
      ∙ ap (map word_of) (sym (parts_by-chunks text (is_piece_cut splitter text)
      (is_point splitter text) (λ k start inside. refl) text 0 refl))

-- ---- no cut stands before a blank, and one does after the last of them

pub point-none : (splitter : Splitter) (text : List ℕ) (place : ℕ) → place < length text
    → is_blank (get_or text place 0) ≡ true → is_point splitter text place ≡ false
point-none Whole text place inside blank = refl
point-none AtHyphens text place inside blank = point-blank text place inside blank

module _ (splitter : Splitter) (text : List ℕ) where
  pub uncut-blank : (place : ℕ) → place < length text → is_blank (get_or text place 0) ≡ true
      → is_piece_cut splitter text place ≡ false
  uncut-blank place inside blank = grind (arith, and_right, point-none)

  pub cut-after_blank : (place : ℕ) → is_blank (get_or text (place - 1) 0) ≡ true
      → is_blank (get_or text place 0) ≡ false → is_piece_cut splitter text place ≡ true
  cut-after_blank place blank other = grind arith

  -- a word and the blanks after it are a part
  pub word-part : (at word_end end : ℕ) → IsPartWord splitter text at word_end → word_end ≤ end
      → end ≤ length text → ((k : ℕ) → word_end ≤ k → k < end → is_blank (get_or text k 0) ≡ true)
      → (end < length text → is_blank (get_or text end 0) ≡ false)
      → IsPart (is_piece_cut splitter text) text at end × AreFinalBlanks text at word_end end
  word-part at word_end end word up_to within blanks other = (
    record {
      some = omega (arith, word.some, up_to);
      within = within;
      uncut = λ k past below. elim (cases_lt k word_end) [
        | inl inside ↦ word.uncut k past inside
        | inr after ↦ uncut-blank k (omega (arith, below, within)) (blanks k after below)
      ];
      ends = λ inside. elim (cases_lt word_end end) [
        | inl some ↦
            cut-after_blank end (blanks (end - 1) (omega (arith, some)) (omega (arith, some)))
            (other inside)
        | inr none ↦
            let same : word_end ≡ end = omega (arith, none, up_to) in
            grind arith
      ];
    },
    grind arith,
  )

  -- blanks with no word before them are a part
  pub blanks-part : (at end : ℕ) → at < end → end ≤ length text
      → ((k : ℕ) → at ≤ k → k < end → is_blank (get_or text k 0) ≡ true)
      → (end < length text → is_blank (get_or text end 0) ≡ false)
      → IsPart (is_piece_cut splitter text) text at end × AreFinalBlanks text at at end
  blanks-part at end some within blanks other = grind (arith, uncut-blank, cut-after_blank)

  -- a word has a part
  pub part-of_word : (at word_end : ℕ) → IsPartWord splitter text at word_end
      → (end : ℕ) × IsPart (is_piece_cut splitter text) text at end
      × AreFinalBlanks text at word_end end
  part-of_word at word_end word =
      let other = λ (k : ℕ). not (is_blank (get_or text k 0)) in
      let found = end-from other (length text) word_end word.within in
      let part = word-part at word_end found.end word found.from found.within
      (λ k from below. not-false (is_blank (get_or text k 0)) (found.uncut k from below))
      (λ inside. not-true (is_blank (get_or text found.end 0)) (found.ends inside)) in
      (found.end, part.0, part.1)

  module _ (limit : ℕ) where
    -- all pieces of a text
    pub pieces-start : IsUtf8 text
        → pieces_from_place splitter limit text 0
        ≡ broken_words limit (split_words splitter (words_of text))
    pieces-start utf8 = ap (broken_words limit) (sym (split_words-parts splitter text utf8))
