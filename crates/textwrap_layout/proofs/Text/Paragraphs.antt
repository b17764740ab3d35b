-- A text has its paragraphs in exactly one way; they are UTF-8, and end in no sequence where it
-- does not.
use Rattle.textwrap_text.proofs.Common.{get_or_append_left, IsUtf8-from_ascii, take-append-drop, []}
use Rattle.textwrap_text.proofs.Common.{flat_map-append, length-append, paragraphs_of, append_assoc}
use Rattle.textwrap_text.proofs.Common.{sum_by-append, chars-append, ending_bytes, IsPrintable, All}
use Rattle.textwrap_text.proofs.Common.{get_or-drop, length-drop, starts_with, All-weaker, All-cons}
use Rattle.textwrap_text.proofs.Common.{append-nil, onto_first, parts_past, text_width, cond_both}
use Rattle.textwrap_text.proofs.Common.{drop_more, eqb-false, join_with, All-drop, All-head, IsUtf8}
use Rattle.textwrap_text.proofs.Common.{All-tail, add-zero, eqb-true, All-nil, drop_at, take_at, ap}
use Rattle.textwrap_text.proofs.Common.{get_or, length, nat_eq, arith, false, rules, subst, Bool, ℕ}
use Rattle.textwrap_text.proofs.Common.{List, drop, refl, take, zero, ◌++◌, ◌==◌, inl, suc, sym}
use Rattle.textwrap_text.proofs.Common.{◌+◌, ◌-◌, ◌<◌, ◌↔◌, ◌∙◌, ◌∷◌, ◌≡◌, ◌≢◌, ◌≤◌}
use Rattle.std.proofs.lemmas.List.Sums.{fails_before_first, passes_at_first}
use Rattle.std.specs.List.{position_or_len, before_first, after_first}
use Rattle.textwrap_text.specs.LineEnding.{AreParagraphs, line_feed, Lacks}
use Rattle.textwrap_layout.proofs.Common.{HasWholeSequences, drop-append-le, LineEnding}
use Rattle.textwrap_text.specs.declared.line_ending.LineEnding.TheVariants.{CRLF, LF}
use Rattle.textwrap_text.proofs.Lists.Parts.{onto_front-onto_first, starts_with-false, drop-ending}
use Rattle.textwrap_text.proofs.Lists.Parts.{starts_with-rest, starts_with-true, onto_first-some}
use Rattle.textwrap_text.proofs.Lists.Parts.{onto_front, all-right, all-left}
use Rattle.textwrap_text.proofs.Texts.{after_ascii, ascii_seam}
use Rattle.textwrap_text.proofs.Units.Chunks.{all_utf8-front}
use Rattle.std.specs.Prelude.{chars}
use Rattle.std.proofs.lemmas.Str.Ascii.{IsAscii-from_all}
use Rattle.textwrap_text.specs.Units.{AreUnits, TextUnit, IsWhole, escape, units}
use Rattle.textwrap_text.proofs.Units.Texts.{IsInUnits-units, units_unique, units-tile}

-- ---- lemmas on the parts of a text between line endings

pub ending_bytes-some : (ending : LineEnding) → 0 < length (ending_bytes ending)
ending_bytes-some CRLF = omega arith
ending_bytes-some LF = omega arith

parts_past-skip : (ending : List ℕ) (n : ℕ) (cs : List ℕ)
    → parts_past ending n cs ≡ parts_past ending 0 (drop n cs)
parts_past-skip ending zero cs = refl
parts_past-skip ending (suc n) [] = refl
parts_past-skip ending (suc n) (c ∷ cs) = parts_past-skip ending n cs

-- the first part goes up to the first ending
pub parts_past-first : (ending s rest : List ℕ) (i : ℕ) → 0 < length ending
    → ((k : ℕ) → k < i → (others : List ℕ) → drop k s ≢ ending ++ others) → i ≤ length s
    → drop i s ≡ ending ++ rest
    → parts_past ending 0 s ≡ take i s ∷ parts_past ending 0 rest
parts_past-first ending [] rest i some before within here =
    absurd (omega (arith, ap length here, length-append ending rest, length-drop {A = ℕ} i []))
parts_past-first ending (c ∷ cs) rest zero some before within here =
    rw (starts_with-true ending (c ∷ cs) rest here)
    (ap (λ ps. [] ∷ ps) (parts_past-skip ending (length ending - 1) cs
    ∙ ap (parts_past ending 0) (sym (drop-ending ending c cs some) ∙ ap (drop (length ending)) here
    ∙ drop_at ending rest (length ending) refl)))
parts_past-first ending (c ∷ cs) rest (suc i) some before within here =
    rw (starts_with-false ending (c ∷ cs) (before 0 (omega arith)))
    (ap (onto_first c) (parts_past-first ending cs rest i some
    (λ k below. before (suc k) (omega arith)) (omega arith) here))

-- without an ending there is one part
pub parts_past-none : (ending s : List ℕ)
    → ((k : ℕ) → k ≤ length s → (others : List ℕ) → drop k s ≢ ending ++ others)
    → parts_past ending 0 s ≡ s ∷ []
parts_past-none ending [] lacks = refl
parts_past-none ending (c ∷ cs) lacks =
    rw (starts_with-false ending (c ∷ cs) (lacks 0 (omega arith)))
    (ap (onto_first c) (parts_past-none ending cs (λ k within. lacks (suc k) (omega arith))))

-- each ending has a line feed, so a text without one is one paragraph
pub one-paragraph : (ending : LineEnding) (text : List ℕ) → All (λ c. c ≢ line_feed) text
    → paragraphs_of ending text ≡ text ∷ []
one-paragraph ending text none =
    parts_past-none (ending_bytes ending) text (λ k within others is.
    lacks ending others
    (subst (All (λ c. c ≢ line_feed)) is (All-drop (λ c. c ≢ line_feed) k text none)))
  where
    lacks : (ending : LineEnding) (others : List ℕ)
        → All (λ c. c ≢ line_feed) (ending_bytes ending ++ others) → ⊥
    lacks LF others all = All-head (λ c. c ≢ line_feed) line_feed others all refl
    lacks CRLF others all =
        All-head (λ c. c ≢ line_feed) line_feed others
        (All-tail (λ c. c ≢ line_feed) 13 (line_feed ∷ others) all) refl

pub printable-free : (text : List ℕ) → IsPrintable text → All (λ c. c ≢ line_feed) text
printable-free text printable = search (rules, arith, All-weaker)

-- ---- at a line feed

abbrev pub is_feed : ℕ → Bool
is_feed b = b == line_feed

module _ (s : List ℕ) where
  no_feed_at : (k : ℕ) → is_feed (get_or s k 0) ≡ false → (others : List ℕ)
      → drop k s ≢ line_feed ∷ others
  no_feed_at k other others here =
      eqb-false (get_or s k 0) line_feed other (sym (rw (here, add-zero k) at (get_or-drop k s 0 0)))

  -- the first part goes up to the first line feed
  pub parts_past-feed : position_or_len is_feed s < length s
      → parts_past (ending_bytes LF) 0 s
      ≡ before_first is_feed s ∷ parts_past (ending_bytes LF) 0 (after_first is_feed s)
  parts_past-feed some =
      let i = position_or_len is_feed s in
      let here : drop i s ≡ line_feed ∷ after_first is_feed s = drop_more s i 0 some
      ∙ ap (λ c. c ∷ drop (i + 1) s)
      (eqb-true (get_or s i 0) line_feed (passes_at_first is_feed s 0 some)) in
      parts_past-first (ending_bytes LF) s (after_first is_feed s) i (omega arith)
      (λ k before. no_feed_at k (fails_before_first is_feed s k 0 before)) (omega (arith, some)) here

  -- without one there is one part
  pub parts_past-no_feed : position_or_len is_feed s ≡ length s
      → parts_past (ending_bytes LF) 0 s ≡ s ∷ []
  parts_past-no_feed none =
      parts_past-none (ending_bytes LF) s (λ k within others here.
      no_feed_at k (fails_before_first is_feed s k 0
      (omega (arith, none, ap length here, length-drop k s))) others here)

-- ---- the parts, joined by the ending, are the text

pub parts_past-some : (ending : List ℕ) (n : ℕ) (cs : List ℕ) → 0 < length (parts_past ending n cs)
parts_past-some ending n [] = omega arith
parts_past-some ending zero (c ∷ cs) = grind (arith, onto_first-some)
parts_past-some ending (suc n) (c ∷ cs) = parts_past-some ending n cs

pub join_with-cons : (separator x : List ℕ) (xs : List (List ℕ)) → 0 < length xs
    → join_with separator (x ∷ xs) ≡ x ++ separator ++ join_with separator xs
join_with-cons separator x [] some = absurd (omega arith)
join_with-cons separator x (y ∷ xs) some = refl

-- where the texts after the first stand
pub rest-within : (separator x : List ℕ) (xs : List (List ℕ)) (start total : ℕ)
    → start + length (join_with separator (x ∷ xs)) ≤ total → 0 < length xs
    → start + (length x + length separator) + length (join_with separator xs) ≤ total
rest-within separator x xs start total within some = grind (arith, join_with-cons, length-append)

join_with-onto_first : (separator : List ℕ) (c : ℕ) (parts : List (List ℕ))
    → join_with separator (onto_first c parts) ≡ c ∷ join_with separator parts
join_with-onto_first separator c [] = refl
join_with-onto_first separator c (part ∷ []) = refl
join_with-onto_first separator c (part ∷ next ∷ parts) = refl

pub join-parts_past : (ending : List ℕ) → 0 < length ending → (n : ℕ) (cs : List ℕ)
    → join_with ending (parts_past ending n cs) ≡ drop n cs
join-parts_past ending some zero [] = refl
join-parts_past ending some (suc n) [] = refl
join-parts_past ending some zero (c ∷ cs) =
    cond_both (starts_with nat_eq (c ∷ cs) ending) ([] ∷ parts_past ending (length ending - 1) cs)
    (onto_first c (parts_past ending 0 cs)) (λ ps. join_with ending ps ≡ c ∷ cs)
    (λ starts. join_with-cons ending [] (parts_past ending (length ending - 1) cs)
    (parts_past-some ending (length ending - 1) cs)
    ∙ ap (λ l. ending ++ l) (join-parts_past ending some (length ending - 1) cs
    ∙ sym (drop-ending ending c cs some)) ∙ sym (starts_with-rest ending (c ∷ cs) starts))
    (λ _. join_with-onto_first ending c (parts_past ending 0 cs)
    ∙ ap (λ l. c ∷ l) (join-parts_past ending some 0 cs))
join-parts_past ending some (suc n) (c ∷ cs) = join-parts_past ending some n cs

-- ---- the paragraphs of a text of UTF-8 are UTF-8

parts_past-utf8 : (ending : List ℕ) → 0 < length ending → All (λ c. c < 128) ending
    → (n : ℕ) (before cs : List ℕ) → IsUtf8 (before ++ drop n cs)
    → All IsUtf8 (onto_front before (parts_past ending n cs))
parts_past-utf8 ending some ascii zero before [] utf8 = search (rules, arith, All-cons, All-nil)
parts_past-utf8 ending some ascii (suc n) before [] utf8 = search (rules, arith, All-cons, All-nil)
parts_past-utf8 ending some ascii zero before (c ∷ cs) utf8 =
    cond_both (starts_with nat_eq (c ∷ cs) ending) ([] ∷ parts_past ending (length ending - 1) cs)
    (onto_first c (parts_past ending 0 cs)) (λ ps. All IsUtf8 (onto_front before ps))
    (λ starts.
    let rest = drop (length ending) (c ∷ cs) in
    let is : c ∷ cs ≡ ending ++ rest = starts_with-rest ending (c ∷ cs) starts in
    let first : c ≡ get_or ending 0 0 = ap (λ l. get_or l 0 0) is
    ∙ get_or_append_left ending rest 0 0 some in
    let low : get_or ending 0 0 < 128 = ascii 0 0 some in
    let seam = ascii_seam before cs c utf8 (omega arith) in
    let back : IsUtf8 (drop (length ending - 1) cs) = subst IsUtf8 (drop-ending ending c cs some)
    (after_ascii ending rest ascii (subst IsUtf8 is seam.from)) in
    All-cons IsUtf8 (before ++ []) (parts_past ending (length ending - 1) cs)
    (subst IsUtf8 (sym (append-nil before)) seam.front)
    (all_utf8-front (parts_past ending (length ending - 1) cs)
    (parts_past-utf8 ending some ascii (length ending - 1) [] cs back)))
    (λ _. subst (All IsUtf8) (sym (onto_front-onto_first before c (parts_past ending 0 cs)))
    (parts_past-utf8 ending some ascii 0 (before ++ c ∷ []) cs
    (subst IsUtf8 (sym (append_assoc before (c ∷ []) cs)) utf8)))
parts_past-utf8 ending some ascii (suc n) before (c ∷ cs) utf8 =
    parts_past-utf8 ending some ascii n before cs utf8

pub ending_bytes-ascii : (ending : LineEnding) → All (λ c. c < 128) (ending_bytes ending)
ending_bytes-ascii CRLF = search (rules, arith, All-cons, All-nil)
ending_bytes-ascii LF = All-cons (λ c. c < 128) 10 [] (omega arith) (All-nil (λ c. c < 128))

pub paragraphs_of-utf8 : (ending : LineEnding) (text : List ℕ) → IsUtf8 text
    → All IsUtf8 (paragraphs_of ending text)
paragraphs_of-utf8 ending text utf8 =
    grind (arith, all_utf8-front, parts_past-utf8, ending_bytes-some, ending_bytes-ascii)

pub join-paragraphs_of : (ending : LineEnding) (text : List ℕ)
    → join_with (ending_bytes ending) (paragraphs_of ending text) ≡ text
join-paragraphs_of ending text = search (rules, arith, join-parts_past, ending_bytes-some)

-- ---- no part has an ending in it

lacks-nil : (ending : List ℕ) → 0 < length ending → Lacks ending []
lacks-nil ending some before after is =
    absurd (omega (arith, some, ap length is, length-append {A = ℕ}))

-- the text that the parts make begins with the first
begins : (ending part : List ℕ) (parts : List (List ℕ)) (text : List ℕ)
    → join_with ending (part ∷ parts) ≡ text → (more : List ℕ) × (text ≡ part ++ more)
begins ending part [] text is = ([], sym is ∙ sym (append-nil part))
begins ending part (next ∷ parts) text is = grind (arith, append_assoc)

-- a byte in front of a text that has no ending, where none begins
lacks-cons : (ending : List ℕ) (c : ℕ) (part more : List ℕ)
    → starts_with nat_eq (c ∷ (part ++ more)) ending ≡ false → Lacks ending part
    → Lacks ending (c ∷ part)
lacks-cons ending c part more not_here lacks [] after is =
    search (rules, arith, append_assoc ending after more, starts_with-true)
lacks-cons ending c part more not_here lacks (b ∷ before) after is = search (rules, arith)

lacks-onto_first : (ending : List ℕ) → 0 < length ending
    → (c : ℕ) (cs : List ℕ) (parts : List (List ℕ)) → starts_with nat_eq (c ∷ cs) ending ≡ false
    → 0 < length parts → join_with ending parts ≡ cs
    → All (Lacks ending) parts → All (Lacks ending) (onto_first c parts)
lacks-onto_first ending some c cs [] not_here any is all = absurd (omega arith)
lacks-onto_first ending some c cs (part ∷ parts) not_here any is all =
    let (more, whole) = begins ending part parts cs is in
    All-cons (Lacks ending) (c ∷ part) parts
    (lacks-cons ending c part more (cc (whole, not_here)) (All-head (Lacks ending) part parts all))
    (All-tail (Lacks ending) part parts all)

parts_past-lacks : (ending : List ℕ) → 0 < length ending → (n : ℕ) (cs : List ℕ)
    → All (Lacks ending) (parts_past ending n cs)
parts_past-lacks ending some n [] = search (rules, arith, All-cons, lacks-nil, All-nil)
parts_past-lacks ending some zero (c ∷ cs) =
    cond_both (starts_with nat_eq (c ∷ cs) ending) ([] ∷ parts_past ending (length ending - 1) cs)
    (onto_first c (parts_past ending 0 cs)) (All (Lacks ending))
    (λ _. All-cons (Lacks ending) [] (parts_past ending (length ending - 1) cs)
    (lacks-nil ending some) (parts_past-lacks ending some (length ending - 1) cs))
    (λ none. lacks-onto_first ending some c cs (parts_past ending 0 cs) none
    (parts_past-some ending 0 cs) (join-parts_past ending some 0 cs)
    (parts_past-lacks ending some 0 cs))
parts_past-lacks ending some (suc n) (c ∷ cs) = parts_past-lacks ending some n cs

-- ---- there are no others

-- an ending that follows a text does not begin before its end, unless the text has one in it
no_straddle : (ending : LineEnding) (text front tail rest others : List ℕ)
    → Lacks (ending_bytes ending) text → text ≡ front ++ tail → 0 < length tail
    → tail ++ (ending_bytes ending ++ rest) ≢ ending_bytes ending ++ others
no_straddle ending text front [] rest others lacks is some here = absurd (omega arith)
no_straddle LF text front (c ∷ tail) rest others lacks is some here = grind arith
no_straddle CRLF text front (c ∷ []) rest others lacks is some here = search (rules, arith)
no_straddle CRLF text front (c ∷ d ∷ tail) rest others lacks is some here = grind arith

parts_one : (ending : LineEnding) (parts : List (List ℕ)) → parts ≢ []
    → All (Lacks (ending_bytes ending)) parts
    → parts_past (ending_bytes ending) 0 (join_with (ending_bytes ending) parts) ≡ parts
parts_one ending [] some all = absurd (some refl)
parts_one ending (part ∷ []) some all =
    parts_past-none (ending_bytes ending) part
    (λ k within others is. All-head (Lacks (ending_bytes ending)) part [] all (take k part) others
    (sym (take-append-drop k part) ∙ ap (λ l. take k part ++ l) is))
parts_one ending (part ∷ next ∷ parts) some all =
    let bytes = ending_bytes ending in
    let rest = join_with bytes (next ∷ parts) in
    let lacks = All-head (Lacks bytes) part (next ∷ parts) all in
    let before : (k : ℕ) → k < length part → (others : List ℕ)
    → drop k (part ++ (bytes ++ rest)) ≢ bytes ++ others =
    λ k below others is.
    no_straddle ending part (take k part) (drop k part) rest others lacks
    (sym (take-append-drop k part)) (omega (arith, below, length-drop k part))
    (sym (drop-append-le k part (bytes ++ rest) (omega (arith, below))) ∙ is) in
    ap (parts_past bytes 0) (append_assoc part bytes rest)
    ∙ parts_past-first bytes (part ++ (bytes ++ rest)) rest (length part)
    (ending_bytes-some ending) before (omega (arith, length-append part (bytes ++ rest)))
    (drop_at part (bytes ++ rest) (length part) refl)
    ∙ ap (λ p. p ∷ parts_past bytes 0 rest) (take_at part (bytes ++ rest) (length part) refl)
    ∙ ap (λ ps. part ∷ ps) (parts_one ending (next ∷ parts)
    (λ none. absurd (omega (arith, ap length none)))
    (All-tail (Lacks bytes) part (next ∷ parts) all))

pub paragraphs_one : (ending : LineEnding) (text : List ℕ) (paragraphs : List (List ℕ))
    → AreParagraphs ending text paragraphs ↔ (paragraphs ≡ paragraphs_of ending text)
paragraphs_one ending text paragraphs =
    search (
      rules,
      arith,
      parts_one,
      parts_past-some (ending_bytes ending) 0 text,
      join-paragraphs_of ending text,
      parts_past-lacks (ending_bytes ending) (ending_bytes-some ending) 0 text,
    )

-- ---- lemmas on texts of which something holds of each character, as that it is no ESC

module _ (Holds : ℕ → Type 0) where
  -- it holds of each character of the text
  abbrev pub Each : List ℕ → Type 0
  Each bytes = All Holds (chars bytes)

  pub each_part : (front rest : List ℕ) → IsUtf8 front → Each (front ++ rest)
      → Each front × Each rest
  each_part front rest utf8 each =
      let all = subst (All Holds) (chars-append front rest utf8) each in
      search (rules, arith, all-left, all-right)

  joined-each : (separator : List ℕ) → IsUtf8 separator → (parts : List (List ℕ))
      → All IsUtf8 parts → Each (join_with separator parts) → All Each parts
  joined-each separator between [] utf8 each = All-nil Each
  joined-each separator between (part ∷ []) utf8 each = search (rules, arith, All-cons, All-nil)
  joined-each separator between (part ∷ next ∷ parts) utf8 each =
      let others = join_with separator (next ∷ parts) in
      let (here, after) = each_part part (separator ++ others)
      (All-head IsUtf8 part (next ∷ parts) utf8)
      (subst Each (append_assoc part separator others) each) in
      All-cons Each part (next ∷ parts) here
      (joined-each separator between (next ∷ parts) (All-tail IsUtf8 part (next ∷ parts) utf8)
      (each_part separator others between after).1)

  pub paragraphs_of-each : (ending : LineEnding) (text : List ℕ) → IsUtf8 text → Each text
      → All Each (paragraphs_of ending text)
  paragraphs_of-each ending text utf8 each =
      joined-each (ending_bytes ending) (IsUtf8-from_ascii (ending_bytes ending)
      (IsAscii-from_all (ending_bytes ending) (ending_bytes-ascii ending)))
      (paragraphs_of ending text)
      (paragraphs_of-utf8 ending text utf8)
      (subst Each (sym (join-paragraphs_of ending text)) each)

-- ---- the units of two texts, of which the first ends in no sequence

whole-append : (us vs : List TextUnit) → All IsWhole us → AreUnits vs → AreUnits (us ++ vs)
whole-append [] vs whole are = are
whole-append (u ∷ []) [] whole are = inl (All-head IsWhole u [] whole)
whole-append (u ∷ []) (v ∷ vs) whole are = (All-head IsWhole u [] whole, are)
whole-append (u ∷ w ∷ us) vs whole are = (
  All-head IsWhole u (w ∷ us) whole,
  whole-append (w ∷ us) vs (All-tail IsWhole u (w ∷ us) whole) are,
)

pub units-append : (cs ds : List ℕ) → All IsWhole (units cs) → units (cs ++ ds) ≡ units cs ++ units ds
units-append cs ds whole =
    grind (arith, units_unique, flat_map-append, units-tile, whole-append, IsInUnits-units)

pub units-plain : (cs : List ℕ) → All (λ c. c ≢ escape) cs → All IsWhole (units cs)
units-plain [] none = All-nil IsWhole
units-plain (c ∷ cs) none =
    let other = All-head (λ c. c ≢ escape) c cs none in
    search (rules, arith, units-plain cs (All-tail (λ c. c ≢ escape) c cs none), All-cons, All-tail)

pub text_width-append : (xs ys : List ℕ) → IsUtf8 xs → HasWholeSequences xs
    → text_width (xs ++ ys) ≡ text_width xs + text_width ys
text_width-append xs ys utf8 whole =
    grind (arith, chars-append, units-append, flat_map-append, sum_by-append)
