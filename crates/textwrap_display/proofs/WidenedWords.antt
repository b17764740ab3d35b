-- The words of a line whose gaps are widened.
use Rattle.std.proofs.{Math.Nat.zero-div, Math.Nat.zero-mod, lemmas.List.drop-append-le}
use Rattle.std.proofs.lemmas.List.{drop_at, replicate-append-replicate, Sums.prefix_len-drop_all}
use Rattle.std.proofs.lemmas.List.Sums.{prefix_len-drop_no, prefix_len_is, prefix_len_stops}
use Rattle.textwrap_display.proofs.Common.{BlanksBetween, IsCharBoundary-start, JustifiedLineKeepsWords}
use Rattle.textwrap_display.proofs.Common.{WordText, blank, blanks, chunks, chunks-from, final_blanks}
use Rattle.textwrap_display.proofs.Common.{flat, gaps, indent_len, is_blank, is_cut, justified}
use Rattle.textwrap_display.proofs.Common.{length-prefix_len, line_bytes, line_words, or_cases}
use Rattle.textwrap_display.proofs.Common.{slice_index, text_width, tiled, widened_words, word_of, ◌%◌}
use Rattle.textwrap_display.proofs.{KeptWords.trimmed_len-blanks, Widths.blanks-are}
use Rattle.textwrap_text.proofs.Common.{IsCharBoundary, IsUtf8, List, [], and_parts, ap, append_assoc, arith}
use Rattle.textwrap_text.proofs.Common.{cases_Bool, cases_lt, drop, eqb-true, false, get_or, inl, inr}
use Rattle.textwrap_text.proofs.Common.{length, map, min, nat_tests, ne_eqb, not, onto_first, prefix_len}
use Rattle.textwrap_text.proofs.Common.{refl, rules, suc, sym, take, take-append-le, take_at, true, zero}
use Rattle.textwrap_text.proofs.Common.{ℕ, ◌++◌, ◌+◌, ◌-◌, ◌/◌, ◌<◌, ◌==◌, ◌||◌, ◌∙◌, ◌∷◌, ◌≡◌, ◌≢◌, ◌≤◌}
use Rattle.textwrap_text.proofs.Lists.Parts.{flat-onto_first, onto_first-length}
use Rattle.{textwrap_text.proofs.Texts.IsCharBoundary-after_blank, textwrap_words.proofs.Word.Words.tiled-map}

-- ---- the chunks of a line whose gaps are widened: the same chunks, each but the last with more blanks

-- chunks with as many blanks more
abbrev pub widened_chunks : ℕ → ℕ → List (List ℕ) → List (List ℕ)
widened_chunks each extra [] = []
widened_chunks each extra (c ∷ []) = c ∷ []
widened_chunks each extra (c ∷ d ∷ cs) =
    (c ++ blanks (each + min extra 1)) ∷ widened_chunks each (extra - 1) (d ∷ cs)

-- ---- their text, as it is written

-- the first chunk is written
pub first-written : (each left : ℕ) (chunk : List ℕ) (others : List (List ℕ))
    → flat (widened_chunks each left (chunk ∷ others))
    ≡ chunk ++ flat (widened_chunks each left ([] ∷ others))
first-written each left chunk others = search (rules, arith, append_assoc)

-- the gap is written that comes next, and the chunk after it
pub gap-written : (each left less more : ℕ) (chunk text first second new : List ℕ) (others : List (List ℕ))
    → more ≡ min left 1 → less ≡ left - 1 → first ≡ text ++ blanks each → second ≡ first ++ blanks more
    → new ≡ second ++ chunk → new ++ flat (widened_chunks each less ([] ∷ others))
    ≡ text ++ flat (widened_chunks each left ([] ∷ chunk ∷ others))
gap-written each left less more chunk text first second new others most last one two three =
    grind (arith, append_assoc, first-written, replicate-append-replicate)

-- ---- their chunks

onto-widened : (each extra b : ℕ) (c : List ℕ) (cs : List (List ℕ))
    → widened_chunks each extra (onto_first b (c ∷ cs)) ≡ onto_first b (widened_chunks each extra (c ∷ cs))
onto-widened each extra b c [] = refl
onto-widened each extra b c (d ∷ cs) = refl

-- after a blank, more blanks belong to the same chunk
blanks-chunk : (k b d : ℕ) (rest : List ℕ) → is_blank b ≡ true → is_blank d ≡ false
    → chunks (b ∷ (blanks k ++ d ∷ rest)) ≡ (b ∷ blanks k) ∷ chunks (d ∷ rest)
blanks-chunk zero b d rest blank other = rw (blank, other) refl
blanks-chunk (suc k) b d rest here other =
    rw here (ap (onto_first b) (blanks-chunk k blank d rest refl other))

-- the widened chunks begin as the chunks do
begins : (each extra d : ℕ) (part : List ℕ) (parts : List (List ℕ))
    → let text = flat (widened_chunks each extra ((d ∷ part) ∷ parts)) in text ≡ d ∷ drop 1 text
begins each extra d part [] = refl
begins each extra d part (next ∷ parts) = refl

pub widened-chunks : (each extra : ℕ) (line : List ℕ)
    → chunks (flat (widened_chunks each extra (chunks line))) ≡ widened_chunks each extra (chunks line)
widened-chunks each extra [] = refl
widened-chunks each extra (c ∷ []) = refl
widened-chunks each extra (c ∷ d ∷ cs) =
    let h = chunks-from d cs in
    elim (cases_Bool (is_cut c d)) [
      | inl cut ↦
          let both = and_parts (is_blank c) (not (is_blank d)) cut in
          let other : is_blank d ≡ false = grind (arith, cases_Bool) in
          let same = rw h.shape at (widened-chunks each (extra - 1) (d ∷ cs)) in
          rw (cut, h.shape) (search (rules, arith, begins, blanks-chunk, both.0, same))
      | inr uncut ↦
          let same = rw h.shape at (widened-chunks each extra (d ∷ cs)) in
          rw (uncut, h.shape) (search (rules, arith, begins, flat-onto_first, onto-widened, same))
    ]

-- a text that begins with no blank begins with none where its gaps are widened
pub widened-plain : (each extra : ℕ) (text : List ℕ) → prefix_len is_blank text ≡ 0
    → prefix_len is_blank (flat (widened_chunks each extra (chunks text))) ≡ 0
widened-plain each extra [] none = refl
widened-plain each extra (d ∷ ds) none = search (rules, arith, chunks-from, begins, cases_Bool)

-- ---- the words of a line whose gaps are widened: the same words, each but the last with more blanks

-- blanks after a chunk follow its word
word_of-more : (chunk : List ℕ) (k : ℕ) → word_of (chunk ++ blanks k)
    ≡ record (word_of chunk) { whitespace = final_blanks chunk ++ blanks k }
word_of-more chunk k =
    search (rules, arith, trimmed_len-blanks, blanks, blanks-are, take-append-le, drop-append-le)

pub widened-words : (each extra : ℕ) (cs : List (List ℕ))
    → map word_of (widened_chunks each extra cs) ≡ widened_words each extra (map word_of cs)
widened-words each extra [] = refl
widened-words each extra (c ∷ []) = refl
widened-words each extra (c ∷ d ∷ cs) = grind (arith, word_of-more, widened-words each (extra - 1) (d ∷ cs))

-- their text is that of the chunks
pub widened-text : (each extra : ℕ) (cs : List (List ℕ))
    → tiled (widened_words each extra (map word_of cs)) ≡ flat (widened_chunks each extra cs)
widened-text each extra cs =
    ap tiled (sym (widened-words each extra cs)) ∙ tiled-map (widened_chunks each extra cs)

-- the texts of the words stay
pub same-texts : (each extra : ℕ) (ws : List WordText)
    → map (λ w. w.word) (widened_words each extra ws) ≡ map (λ w. w.word) ws
same-texts each extra [] = refl
same-texts each extra (w ∷ ws) = search (rules, arith, same-texts each (extra - 1) ws)

-- without more blanks, and without a gap, the words are the same
pub widened-none : (ws : List WordText) → widened_words 0 0 ws ≡ ws
widened-none [] = refl
widened-none (w ∷ []) = refl
widened-none (w ∷ v ∷ ws) = search (rules, arith, widened-none (v ∷ ws))

pub widened-one : (each extra : ℕ) (ws : List WordText) → length ws - 1 ≡ 0 → widened_words each extra ws ≡ ws
widened-one each extra [] one = refl
widened-one each extra (w ∷ []) one = refl
widened-one each extra (w ∷ v ∷ ws) one = absurd (omega (arith, one))

-- ---- how many words a line has at most, and where its first word begins

pub chunks-few : (line : List ℕ) → length (chunks line) ≤ length line
chunks-few [] = omega arith
chunks-few (c ∷ []) = omega arith
chunks-few (c ∷ d ∷ cs) = grind (arith, cases_Bool, onto_first-length, chunks-few (d ∷ cs))

-- blanks up to a place where none stands are all that the text begins with
pub indent-is : (text : List ℕ) (n : ℕ) → n ≤ length text → BlanksBetween text 0 n
    → (n < length text → slice_index text n ≢ blank) → n ≡ prefix_len is_blank text
indent-is text n within blanks stops =
    sym (prefix_len_is is_blank text n 0 within (λ k below. blanks k (omega arith) below)
    (λ inside. ne_eqb (get_or text n 0) blank (stops inside)))

-- after blanks a text may be cut
pub indent-boundary : (text : List ℕ) (n : ℕ) → IsUtf8 text → n ≤ length text
    → BlanksBetween text 0 n → IsCharBoundary text n
indent-boundary text zero utf8 within blanks = IsCharBoundary-start text utf8
indent-boundary text (suc n) utf8 within blanks =
    search (rules, arith, IsCharBoundary-after_blank, eqb-true, blank)

-- ---- what follows the blanks before the first word

-- blanks that a line begins with, before a text that begins with none
pub indent-kept : (line text : List ℕ) → prefix_len is_blank text ≡ 0
    → indent_len (take (indent_len line) line ++ text) ≡ indent_len line
indent-kept [] text none = none
indent-kept (c ∷ cs) text none = elim (cases_Bool (is_blank c)) [
  | inl is ↦
      let up : 1 + prefix_len is_blank cs ≡ suc (prefix_len is_blank cs) = omega arith in
      rw (is, up, is) (omega (arith, indent-kept cs text none))
  | inr is ↦ rw is none
]

-- what follows them begins with no blank
pub after-plain : (line : List ℕ) → prefix_len is_blank (drop (indent_len line) line) ≡ 0
after-plain line = elim (cases_lt (indent_len line) (length line)) [
  | inl less ↦ prefix_len-drop_no is_blank line _ 0 less (prefix_len_stops is_blank line 0 less)
  | inr past ↦ prefix_len-drop_all is_blank line _ past
]

-- ---- a justified line begins with the same blanks, and has the same words with more blanks after them

-- the line begins with the same blanks, and its words are those with more blanks after them
widened-line : (each extra : ℕ) (line new : List ℕ)
    → new ≡ take (indent_len line) line ++ tiled (widened_words each extra (line_words line))
    → (take (indent_len new) new ≡ take (indent_len line) line)
    × (line_words new ≡ widened_words each extra (line_words line))
widened-line each extra line new is =
    let rest = drop (indent_len line) line in
    let text = flat (widened_chunks each extra (chunks rest)) in
    let kept = indent-kept line text (widened-plain each extra rest (after-plain line)) in
    let written = widened-text each extra (chunks rest) in
    grind (arith, take_at, drop_at, length-prefix_len is_blank line, widened-chunks, widened-words)

-- the words of a line that stays
widened-stays : (spare : ℕ) (line : List ℕ) → (spare == 0) || (gaps line == 0) ≡ true
    → widened_words (spare / gaps line) (spare % gaps line) (line_words line) ≡ line_words line
widened-stays spare line stays =
    grind (arith, nat_tests, or_cases, zero-div, zero-mod, widened-none, widened-one)

pub justified-words : (width : ℕ) (line : List ℕ)
    → JustifiedLineKeepsWords width line (line_bytes (justified width line))
justified-words width line =
    let spare = width - text_width line in
    let each = spare / gaps line in
    let extra = spare % gaps line in
    let is = widened-line each extra line _ refl in
    search (rules, arith, is, widened-stays, same-texts each extra (line_words line))
