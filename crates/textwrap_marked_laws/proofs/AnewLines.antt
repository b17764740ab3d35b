-- Lines that stay, with the ending that is asked for, and carriage returns at the end of any line.
use Rattle.std.proofs.lemmas.List.Elements.{All-get_or}
use Rattle.std.proofs.lemmas.List.Sums.{suffix_len-take_no, prefix_len_stops}
use Rattle.textwrap_marked_lines.specs.Prefixes.{prefix_ends}
use Rattle.textwrap_text.proofs.Common.{reverse-append, take_more, All-take, rules}
use Rattle.textwrap_text.proofs.Lists.Parts.{ends_with-front, ends_with-true}
use Rattle.textwrap_words.proofs.Common.{get_or-reverse, length-reverse}
use Rattle.textwrap_marked_laws.proofs as own
use own.Common.{All-append, LineEnding, append-nil, cases_Bool, prefix_len, suffix_len, FenceText, StateText}
use own.Common.{ReflowOptions, length-append, append_assoc, ending_bytes, line_as_read, spaced_words, All-nil}
use own.Common.{any-none, flat_map, take_all, reverse, take_at, Option, get_or, length, nat_eq, passed, arith}
use own.Common.{codes, false, Bool, CRLF, List, None, Some, cond, refl, take, true, zero, ◌&&◌, ◌++◌, All, LF}
use own.Common.{ending_if, ends_with, is_return, kept_line, new_fence, All-cons, All-head, All-tail, LineText}
use own.Common.{suffix_len-le-length, false_from_ne_true, line_from_words, without_returns, is_column_word, ℕ}
use own.{Common.{ap₂, map, suc, sym, ◌+◌, ◌-◌, ◌<◌, ◌∙◌, ◌∷◌, ◌≡◌, [], ap, ⊤}, Feedless.{IsFeedless, NoFeed}}
use own.{LineWords.{shown, gap}, OpenBehind.no-return}
use own.{SpacedBack.{white-other, IsPlain, IsWhite}, TextBlocks.{AreOneBlock, last_line}}

-- a text whose last byte is no carriage return
abbrev pub EndsWell : List ℕ → Type 0
EndsWell text = (front : List ℕ) × (c : ℕ) × (text ≡ front ++ c ∷ []) × (is_return c ≡ false)

pub ends-behind : (before text : List ℕ) → EndsWell text → EndsWell (before ++ text)
ends-behind before text (front, c, is, other) =
    (before ++ front, c, ap (λ l. before ++ l) is ∙ sym (append_assoc before front (c ∷ [])), other)

all-end : (text : List ℕ) → 0 < length text → All (λ c. is_return c ≡ false) text → EndsWell text
all-end text some all =
    let n = length text - 1 in
    let within : n < length text = omega (arith, some) in (
      take n text,
      get_or text n 0,
      sym (take_all (n + 1) text (omega (arith, some))) ∙ take_more text n 0 within,
      All-get_or (λ c. is_return c ≡ false) text n 0 within all,
    )

word-end : (word : List ℕ) → IsPlain word → is_column_word word ≡ false → EndsWell word
word-end word plain none = all-end word plain.some (any-none is_return word (no-return word none))

-- the text of a line, and white behind it
pub shown-end : (justify : Bool) (gaps : ℕ → ℕ) (word : List ℕ) (words : List (List ℕ))
    → All IsPlain (word ∷ words) → All (λ w. is_column_word w ≡ false) (word ∷ words)
    → EndsWell (shown justify gaps (word ∷ words))
shown-end justify gaps word [] plain none = search (rules, arith, word-end, All-head, append-nil)
shown-end justify gaps word (next ∷ words) plain none =
    ends-behind (word ++ gap justify gaps (length words)) (shown justify gaps (next ∷ words))
    (shown-end justify gaps next words (All-tail IsPlain word (next ∷ words) plain)
    (All-tail (λ w. is_column_word w ≡ false) word (next ∷ words) none))

pub white-end : (text end : List ℕ) → EndsWell text → All IsWhite end → EndsWell (text ++ end)
white-end text [] (front, c, is, other) white = (front, c, append-nil text ∙ is, other)
white-end text (e ∷ end) ends white = grind (arith, cases_Bool, ends-behind, all-end, white-other)

-- ---- returns behind it

pub returns-none : (text : List ℕ) → EndsWell text → suffix_len is_return text ≡ 0
returns-none text (front, c, is, other) = grind (arith, cases_Bool, reverse-append)

pub returns-more : (text : List ℕ) → suffix_len is_return (text ++ 13 ∷ []) ≡ 1 + suffix_len is_return text
returns-more text = ap (prefix_len is_return) (reverse-append text (13 ∷ []))

-- what ends a line before its line feed
abbrev pub return_if : Bool → List ℕ
return_if b = cond b (13 ∷ []) []

pub returns-off : (text : List ℕ) (b : Bool) → suffix_len is_return text ≡ 0
    → without_returns (text ++ return_if b) ≡ text
returns-off text false none =
    ap without_returns (append-nil text)
    ∙ take_all (length text - suffix_len is_return text) text (omega (arith, none))
returns-off text true none =
    let whole = text ++ 13 ∷ [] in
    take_at text (13 ∷ []) (length whole - suffix_len is_return whole)
    (omega (arith, length-append text (13 ∷ []), returns-more text, none))

-- the ending of a line
pub return-ends : (text : List ℕ) (b : Bool) → suffix_len is_return text ≡ 0
    → ends_with nat_eq (text ++ return_if b) (codes "\r") ≡ b
return-ends text true none = ends_with-true (13 ∷ []) (text ++ 13 ∷ []) text refl
return-ends text false none =
    ap (λ t. ends_with nat_eq t (codes "\r")) (append-nil text)
    ∙ false_from_ne_true (ends_with nat_eq text (codes "\r")) (λ ends. omega (
      arith,
      ap (suffix_len is_return) (ends_with-front (codes "\r") text ends),
      returns-more (take (length text - 1) text),
    ))

-- ---- lines that stay

abbrev pub returns_by : LineEnding → Bool
returns_by LF = false
returns_by CRLF = true

pub bytes-by : (e : LineEnding) → ending_bytes e ≡ return_if (returns_by e) ++ 10 ∷ []
bytes-by LF = refl
bytes-by CRLF = refl

-- whether filled lines end in a carriage return before the line feed, as the ending that is asked for says
abbrev pub IsTold : Option LineEnding → Bool → Type 0
IsTold None returns = ⊤
IsTold (Some e) returns = returns_by e ≡ returns

-- a line between line feeds, with the ending that is asked for
abbrev pub anew_raw : Option LineEnding → Bool → Bool → List ℕ → List ℕ
anew_raw None returns fed raw = raw
anew_raw (Some e) returns fed raw = without_returns raw ++ return_if (returns && fed)

abbrev pub anew : Option LineEnding → Bool → LineText → LineText
anew e returns line = record line { raw = anew_raw e returns line.fed line.raw }

-- ---- its content

content-none : (raw : List ℕ) → suffix_len is_return (without_returns raw) ≡ 0
content-none raw = cut (length raw - suffix_len is_return raw) refl
  where
    cut : (n : ℕ) → length raw - suffix_len is_return raw ≡ n → suffix_len is_return (without_returns raw) ≡ 0
    cut zero is = ap (λ k. suffix_len is_return (take k raw)) is
    cut (suc m) is =
        let le = suffix_len-le-length is_return raw in
        let place : length raw - 1 - suffix_len is_return raw ≡ suc m - 1 = omega (arith, is) in
        ap (λ k. suffix_len is_return (take k raw)) is
        ∙ suffix_len-take_no is_return raw (suc m) 0 (omega arith) (omega (arith, is))
        (sym (ap is_return (get_or-reverse raw (suffix_len is_return raw) 0 (omega (arith, is))
        ∙ ap (λ k. get_or raw k 0) place))
        ∙ prefix_len_stops is_return (reverse raw) 0 (omega (arith, is, length-reverse raw)))

content-same : (raw : List ℕ) (b : Bool)
    → without_returns (without_returns raw ++ return_if b) ≡ without_returns raw
content-same raw b = returns-off (without_returns raw) b (content-none raw)

pub content-return : (raw : List ℕ) (b : Bool)
    → ends_with nat_eq (without_returns raw ++ return_if b) (codes "\r") ≡ b
content-return raw b = return-ends (without_returns raw) b (content-none raw)

pub anew-content : (e : Option LineEnding) (returns fed : Bool) (raw : List ℕ)
    → without_returns (anew_raw e returns fed raw) ≡ without_returns raw
anew-content None returns fed raw = refl
anew-content (Some e) returns fed raw = content-same raw (returns && fed)

-- all else that is read of it stays
pub anew-line : (options : ReflowOptions) (state : StateText) (e : Option LineEnding) (returns : Bool)
    (raw : List ℕ) (fed : Bool)
    → line_as_read options state (anew_raw e returns fed raw) fed ≡ anew e returns (line_as_read options state raw fed)
anew-line options state e returns raw fed =
    ap (λ c. line_from_words options state (anew_raw e returns fed raw) fed (spaced_words c)
    (prefix_ends options state.in_block (spaced_words c))) (anew-content e returns fed raw)

-- nor does it change what is open behind it
fence-anew : (fence : Option FenceText) (e : Option LineEnding) (returns : Bool) (line : LineText)
    → new_fence fence (anew e returns line) ≡ new_fence fence line
fence-anew None e returns line = refl
fence-anew (Some fence) e returns line = refl

pub passed-anew : (state : StateText) (e : Option LineEnding) (returns : Bool) (line : LineText)
    → passed state (anew e returns line) ≡ passed state line
passed-anew state e returns line =
    λ i. record (passed state line) { fence = fence-anew state.fence e returns line i }

-- ---- its text

-- how lines stay by the ending that is asked for says how they stay by another one
abbrev pub Tells : Option LineEnding → Option LineEnding → Type 0
Tells asked None = asked ≡ None
Tells asked (Some e) = ⊤

pub tells-own : (e : Option LineEnding) → Tells e e
tells-own None = refl
tells-own (Some e) = tt

module _ (asked : Option LineEnding) (returns : Bool) where
  anew-kept : (e : Option LineEnding) → Tells asked e → (line : LineText)
      → kept_line e (anew asked returns line) ≡ kept_line e line
  anew-kept None none line = ap (λ a. kept_line None (anew a returns line)) none
  anew-kept (Some e) tells line =
      ap (λ c. c ++ ending_if line.fed (ending_bytes e)) (anew-content asked returns line.fed line.raw)

  pub kept-anew : (e : Option LineEnding) → Tells asked e → (lines : List LineText)
      → flat_map (kept_line e) (map (anew asked returns) lines) ≡ flat_map (kept_line e) lines
  kept-anew e tells [] = refl
  kept-anew e tells (line ∷ lines) = ap₂ (λ a b. a ++ b) (anew-kept e tells line) (kept-anew e tells lines)

-- an ending is a carriage return, if it has one, and a line feed
pub end-parts : (returns fed : Bool)
    → ending_if fed (return_if returns ++ 10 ∷ []) ≡ return_if (returns && fed) ++ ending_if fed (10 ∷ [])
end-parts true true = refl
end-parts true false = refl
end-parts false true = refl
end-parts false false = refl

pub anew-text : (e : Option LineEnding) (returns : Bool) → IsTold e returns → (raw : List ℕ) (fed : Bool)
    (line : LineText) → line.raw ≡ raw → line.fed ≡ fed
    → kept_line e line ≡ anew_raw e returns fed raw ++ ending_if fed (10 ∷ [])
anew-text None returns told raw fed line r f = ap₂ (λ a b. a ++ ending_if b (10 ∷ [])) r f
anew-text (Some e) returns told raw fed line r f =
    grind (arith, cases_Bool, bytes-by, end-parts, append_assoc)

-- ---- several of them

pub one-anew : (e : Option LineEnding) (returns : Bool) (line : LineText) (lines : List LineText)
    → AreOneBlock line lines → AreOneBlock (anew e returns line) (map (anew e returns) lines)
one-anew e returns line [] one = tt
one-anew e returns line (next ∷ lines) (goes, one) = (goes, one-anew e returns next lines one)

pub last-anew : (e : Option LineEnding) (returns : Bool) (line : LineText) (lines : List LineText)
    → last_line (anew e returns line) (map (anew e returns) lines) ≡ anew e returns (last_line line lines)
last-anew e returns line [] = refl
last-anew e returns line (next ∷ lines) = last-anew e returns next lines

pub return-feedless : (b : Bool) → IsFeedless (return_if b)
return-feedless true = All-cons NoFeed 13 [] refl (All-nil NoFeed)
return-feedless false = All-nil NoFeed

pub anew-feedless : (e : Option LineEnding) (returns fed : Bool) (raw : List ℕ) → IsFeedless raw
    → IsFeedless (anew_raw e returns fed raw)
anew-feedless None returns fed raw free = free
anew-feedless (Some e) returns fed raw free =
    All-append NoFeed (without_returns raw) (return_if (returns && fed))
    (All-take NoFeed (length raw - suffix_len is_return raw) raw free) (return-feedless (returns && fed))
