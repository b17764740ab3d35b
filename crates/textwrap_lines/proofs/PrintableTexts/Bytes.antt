-- Texts of printable ASCII: each byte is one column, and bytes tell where words are split and
-- broken.
use Rattle.textwrap_lines.proofs.Common.{without_final_blanks, take-append-drop, IsPrintableByte, ℕ}
use Rattle.textwrap_lines.proofs.Common.{printable-width, length-take-le, chars-IsAscii, All-append}
use Rattle.textwrap_lines.proofs.Common.{length-append, broken_words, closed_width, HasNoPenalty}
use Rattle.textwrap_lines.proofs.Common.{broken_word, IsPrintable, length-drop, split_words, IsUtf8}
use Rattle.textwrap_lines.proofs.Common.{trimmed_len, All-weaker, IsMeasured, open_width, all-right}
use Rattle.textwrap_lines.proofs.Common.{cond_both, drop_more, ltb-false, All-cons, All-drop, rules}
use Rattle.textwrap_lines.proofs.Common.{All-head, all-left, All-tail, All-take, cases_lt, WordText}
use Rattle.textwrap_lines.proofs.Common.{ltb-true, sizes_of, All-nil, covered, drop_at, take_at, []}
use Rattle.textwrap_lines.proofs.Common.{tile_of, word_of, get_or, le-ltb, length, lt-ltb, nat_lt}
use Rattle.textwrap_lines.proofs.Common.{arith, piece, subst, tiled, drop, Fits, flat, List, refl}
use Rattle.textwrap_lines.proofs.Common.{take, true, zero, ◌&&◌, ◌++◌, ◌==◌, All, inl, inr, map, ap}
use Rattle.textwrap_lines.proofs.Common.{suc, sym, ◌+◌, ◌-◌, ◌<◌, ◌∙◌, ◌∷◌, ◌≡◌, ◌≢◌, ◌≤◌}
use Rattle.textwrap_words.proofs.Common.{is_hyphen_point, broken_pieces, broken_texts, broken_units}
use Rattle.textwrap_words.proofs.Common.{pieces_with, units_text, Whole}
use Rattle.textwrap_text.proofs.Common.{is_ascii_alphanumeric, IsUtf8-from_ascii, take-append-add}
use Rattle.textwrap_text.proofs.Common.{reverse-append, TextUnit, columns, Visible, reverse, units}
use Rattle.std.specs.Prelude.{chars}
use Rattle.textwrap_text.proofs.Units.Reading.{units-printable}
pub use Rattle.textwrap_text.proofs.Units.Reading.{columns-printable, printable-ascii}
pub use Rattle.textwrap_text.proofs.Units.Reading.{printable-width}
use Rattle.textwrap_base.proofs.Division.Greedy.{closed-take, open_width-cons}
use Rattle.textwrap_words.proofs.Word.Breaking.{due-true, is_due-first, parts_after-is, taken_units}
use Rattle.textwrap_words.proofs.Word.Breaking.{due-false, left_units}
use Rattle.textwrap_words.proofs.Word.BrokenPieces.{broken_texts-some, broken_word-front}
use Rattle.textwrap_words.proofs.Word.BrokenPieces.{pieces_with-more, units_text-chars}
use Rattle.std.proofs.Common.{ltb}
use Rattle.textwrap_words.proofs.Word.Texts.{trimmed-front}
use Rattle.textwrap_words.specs.WordSplitters.{begins_alphanumeric, is_alphanumeric}
use Rattle.std.proofs.Math.Seq.{take-suc}
use Rattle.std.proofs.lemmas.Bool.{agree_below, agree_below_at}
use Rattle.unicode.proofs.CategoryComputing.{ucd_category}
use Rattle.unicode.proofs.DerivedComputing.{ucd_derived}
use Rattle.textwrap_words.proofs.Word.Splitting.{ends-none, point-is}

-- ---- lemmas on printable texts: each byte is a visible character of one column

pub printable-utf8 : (text : List ℕ) → IsPrintable text → IsUtf8 text
printable-utf8 text printable = IsUtf8-from_ascii text (printable-ascii text printable)

abbrev pub units_of : List ℕ → List TextUnit
units_of text = units (chars text)

pub units_of-printable : (text : List ℕ) → IsPrintable text → units_of text ≡ map Visible text
units_of-printable text printable = grind (arith, chars-IsAscii, printable-ascii, units-printable)

-- ---- the parts of a printable text

pub flat-printable : (ps : List (List ℕ)) → IsPrintable (flat ps) → All IsPrintable ps
flat-printable [] printable = All-nil IsPrintable
flat-printable (p ∷ ps) printable =
    All-cons IsPrintable p ps (all-left IsPrintableByte p (flat ps) printable)
    (flat-printable ps (all-right IsPrintableByte p (flat ps) printable))

-- ---- words that are not split are themselves

pub split-whole : (ps : List (List ℕ)) → split_words Whole (map word_of ps) ≡ map word_of ps
split-whole [] = refl
split-whole (p ∷ ps) = ap (λ ws. word_of p ∷ ws) (split-whole ps)

-- ---- pieces that take as many columns as bytes

-- a word with as many columns as bytes, and without a penalty
pub record IsExact (w : WordText) : Type 0 where
  pub width : w.width ≡ length w.word
  pub penalty : HasNoPenalty w

pub exact-words : (ws : List WordText) → All IsMeasured ws → All HasNoPenalty ws
    → IsPrintable (tiled ws) → All IsExact ws
exact-words [] measured none printable = All-nil IsExact
exact-words (w ∷ ws) measured none printable =
    let word = all-left IsPrintableByte w.word w.whitespace (all-left IsPrintableByte (tile_of w)
    (tiled ws) printable) in
    All-cons IsExact w ws
    (record {
      width = (All-head IsMeasured w ws measured).width ∙ printable-width w.word word;
      penalty = All-head HasNoPenalty w ws none;
    }) (exact-words ws (All-tail IsMeasured w ws measured) (All-tail HasNoPenalty w ws none)
    (all-right IsPrintableByte (tile_of w) (tiled ws) printable))

pub closed-exact : (ws : List WordText) → All IsExact ws
    → closed_width sizes_of ws ≡ length (covered ws)
closed-exact [] all = refl
closed-exact (w ∷ []) all =
    let here = All-head IsExact w [] all in
    let none : length w.penalty ≡ 0 = ap length here.penalty in omega (arith, here.width, none)
closed-exact (w ∷ v ∷ ws) all =
    let rest = closed-exact (v ∷ ws) (All-tail IsExact w (v ∷ ws) all) in
    let tile = length-append w.word w.whitespace in
    let whole = length-append (tile_of w) (covered (v ∷ ws)) in
    omega (arith, (All-head IsExact w (v ∷ ws) all).width, rest, tile, whole)

pub open-exact : (ws : List WordText) → All IsExact ws → open_width sizes_of ws ≡ length (tiled ws)
open-exact [] all = refl
open-exact (w ∷ ws) all =
    let here = All-head IsExact w ws all in
    let rest = open-exact ws (All-tail IsExact w ws all) in
    let tile = length-append w.word w.whitespace in
    let whole = length-append (tile_of w) (tiled ws) in
    let more = open_width-cons sizes_of w ws in omega (arith, here.width, rest, tile, whole, more)

pub Fits-exact : (limit : ℕ) (ws : List WordText) → All IsExact ws → length (covered ws) ≤ limit
    → Fits sizes_of limit ws
Fits-exact limit ws all room = λ k two within.
    let none = All-weaker IsExact (λ w. length w.penalty ≡ 0) (λ w exact. ap length exact.penalty)
    ws all in
    let whole = closed-exact ws all in omega (arith, closed-take sizes_of ws k none, whole, room)

-- ---- a printable text is broken after as many bytes as the limit has columns

-- a part with some columns takes bytes up to the limit, and leaves the others
part-printable : (limit width : ℕ) (cs : List ℕ) → IsPrintable cs → 0 < width
    → (room : ℕ) → width + room ≡ limit
    → (taken_units limit width (map Visible cs) ≡ map Visible (take room cs))
    × (left_units limit width (map Visible cs) ≡ map Visible (drop room cs))
part-printable limit width [] printable some zero is = (refl, refl)
part-printable limit width [] printable some (suc room) is = (refl, refl)
part-printable limit width (c ∷ cs) printable some zero is =
    search (rules, arith, columns-printable, All-head, due-true)
part-printable limit width (c ∷ cs) printable some (suc room) is =
    let one = columns-printable c (All-head IsPrintableByte c cs printable) in
    let next : width + columns c ≡ suc width = omega (arith, one) in
    let rest = part-printable limit (suc width) cs (All-tail IsPrintableByte c cs printable)
    (omega arith) room (omega (arith, is)) in search (rules, arith, due-false, width)

units_text-printable : (text : List ℕ) → IsPrintable text → units_text (map Visible text) ≡ text
units_text-printable text printable = ap units_text (sym (units_of-printable text printable))
    ∙ units_text-chars text (printable-utf8 text printable)

-- a text is broken after as many bytes as the limit has columns
pub broken_texts-printable : (limit : ℕ) (text : List ℕ) → IsPrintable text → 0 < limit
    → 0 < length text
    → broken_texts limit text ≡ take limit text ∷ broken_texts limit (drop limit text)
broken_texts-printable limit [] printable room some = absurd (omega arith)
broken_texts-printable zero (c ∷ cs) printable room some = absurd (omega arith)
broken_texts-printable (suc n) (c ∷ cs) printable room some =
    let limit = suc n in
    let text = c ∷ cs in
    let one = columns-printable c (All-head IsPrintableByte c cs printable) in
    let first : 0 + columns c ≡ 1 = omega (arith, one) in
    let rest = part-printable limit 1 cs (All-tail IsPrintableByte c cs printable) (omega arith) n
    (omega arith) in
    let front = All-take IsPrintableByte limit text printable in
    let taken : taken_units limit 0 (map Visible text) ≡ map Visible (take limit text) =
    rw (is_due-first limit (Visible c), first) (ap (λ us. Visible c ∷ us) rest.0) in
    let left : left_units limit 0 (map Visible text) ≡ map Visible (drop limit text) =
    rw (is_due-first limit (Visible c), first) rest.1 in
    let parts : broken_units limit (map Visible text)
    ≡ map Visible (take limit text) ∷ broken_units limit (map Visible (drop limit text)) =
    parts_after-is limit 0 (map Visible text) ∙ cc in
    let first_part = units_text-printable (take limit text) front in
    let others =
    units_of-printable (drop limit text) (All-drop IsPrintableByte limit text printable) in
    ap (map units_text) (ap (broken_units limit) (units_of-printable text printable) ∙ parts) ∙ cc

-- ---- how wide the first piece of a printable text is, and a word that is broken

-- the first of these pieces has so many columns at least, and no more than the limit
pub record BeginsWide (limit n : ℕ) (pieces : List WordText) : Type 0 where
  pub first : WordText
  pub others : List WordText
  pub are : pieces ≡ first ∷ others
  pub wide : n ≤ first.width
  pub narrow : first.width ≤ limit

pub begins_wide-step : (limit n : ℕ) (w : WordText) (ws : List WordText) → 0 < limit → n ≤ limit
    → IsPrintable w.word → w.width ≡ length w.word → n ≤ length w.word
    → BeginsWide limit n (broken_words limit (w ∷ ws))
begins_wide-step limit n w ws room within printable width long =
    cond_both (ltb limit w.width) (broken_pieces limit w) (w ∷ [])
    (λ ps. BeginsWide limit n (ps ++ broken_words limit ws)) (λ is.
    let wider = ltb-true limit w.width is in
    let front = take limit w.word in
    let back = drop limit w.word in
    let texts = broken_texts-printable limit w.word printable room (omega (arith, wider, width)) in
    let some = broken_texts-some limit back (printable-utf8 back
    (All-drop IsPrintableByte limit w.word printable))
    (λ e. let none = ap length e in omega (arith, none, length-drop limit w.word, wider, width)) in
    let front_len = length-take-le limit w.word (omega (arith, wider, width)) in
    let front_width = printable-width front (All-take IsPrintableByte limit w.word printable) in
    record {
      first = piece front [] [];
      others = pieces_with w.whitespace w.penalty (broken_texts limit back)
          ++ broken_words limit ws;
      are = ap (λ ts. pieces_with w.whitespace w.penalty ts ++ broken_words limit ws) texts
          ∙ ap (λ vs. vs ++ broken_words limit ws)
          (pieces_with-more w.whitespace w.penalty front (broken_texts limit back) some);
      wide = omega (arith, within, front_len, front_width);
      narrow = omega (arith, front_len, front_width);
    })
    (λ is. record {
      first = w;
      others = broken_words limit ws;
      are = refl;
      wide = omega (arith, width, long);
      narrow = ltb-false limit w.width is;
    })

-- the first word is wider than the limit: a piece of it, and the pieces of the rest
pub broken-front : (limit : ℕ) (front p : List ℕ) → IsPrintable (front ++ p) → 0 < limit
    → length front ≡ limit → 0 < trimmed_len p
    → broken_word limit (word_of (front ++ p)) ≡ piece front [] [] ∷ broken_word limit (word_of p)
broken-front limit front p printable room len some =
    let both = trimmed-front front p some in
    let rest = without_final_blanks p in
    let whole = front ++ p in
    let p_printable = all-right IsPrintableByte front p printable in
    let rest_printable = All-take IsPrintableByte (trimmed_len p) p p_printable in
    let rest_len : length rest ≡ trimmed_len p = length-take-le (trimmed_len p) p (omega arith) in
    let word : without_final_blanks whole ≡ front ++ rest =
    ap (λ n. take n whole) both.0 ∙ take-append-add front p (trimmed_len p) in
    let word_printable =
    All-append IsPrintableByte front rest (all-left IsPrintableByte front p printable)
    rest_printable in
    let word_len = length-append front rest in
    let width = printable-width (front ++ rest) word_printable in
    let nonempty : rest ≢ [] = λ e. (let none = ap length e in
    omega (arith, none, rest_len, some)) in
    let texts : broken_texts limit (front ++ rest) ≡ front ∷ broken_texts limit rest =
    broken_texts-printable limit (front ++ rest) word_printable room
    (omega (arith, word_len, rest_len, some))
    ∙ ap (λ t. t ∷ broken_texts limit (drop limit (front ++ rest))) (take_at front rest limit len)
    ∙ ap (λ t. front ∷ broken_texts limit t) (drop_at front rest limit len) in
    search (rules, arith, broken_word-front, printable-utf8, width)

-- ---- the points of a splitter in a printable text, told by three bytes

ascii-same : agree_below is_alphanumeric is_ascii_alphanumeric 128 ≡ true
unfolding ucd_derived ucd_category
ascii-same = refl

alphanumeric-printable : (c : ℕ) → IsPrintableByte c → is_alphanumeric c ≡ is_ascii_alphanumeric c
alphanumeric-printable c printable =
    agree_below_at is_alphanumeric is_ascii_alphanumeric 128 c ascii-same
    (omega (arith, printable.1))

begins-printable : (c : ℕ) (cs : List ℕ) → IsPrintable (c ∷ cs)
    → begins_alphanumeric (chars (c ∷ cs)) ≡ is_ascii_alphanumeric c
begins-printable c cs printable =
    search (rules, arith, chars-IsAscii, printable-ascii, alphanumeric-printable, All-head)

-- whether a text ends so, by the last of its first bytes
pub ends-printable : (text : List ℕ) (n : ℕ) → IsPrintable text → n < length text
    → begins_alphanumeric (reverse (chars (take n text)))
    ≡ (nat_lt 0 n && is_ascii_alphanumeric (get_or text (n - 1) 0))
ends-printable text zero printable inside = ends-none [] refl
ends-printable text (suc m) printable inside =
    let here = get_or text m 0 in
    let place : suc m - 1 ≡ m = omega arith in
    let front : take (suc m) text ≡ take m text ++ here ∷ [] =
    take-suc text m 0 (omega (arith, inside)) in
    let front_printable = subst IsPrintable front (All-take IsPrintableByte (suc m) text printable) in
    rw (
      front,
      chars-IsAscii (take m text ++ here ∷ []) (printable-ascii _ front_printable),
      reverse-append,
      place,
      lt-ltb 0 (suc m) (omega arith),
    ) (alphanumeric-printable here (All-head IsPrintableByte here []
    (all-right IsPrintableByte (take m text) (here ∷ []) front_printable)))

-- a point stands after a hyphen between two letters or digits
pub point_printable : (text : List ℕ) (place : ℕ) → IsPrintable text → 0 < place
    → place < length text → is_hyphen_point text place ≡ ((get_or text (place - 1) 0 == 45)
    && (nat_lt 1 place && is_ascii_alphanumeric (get_or text (place - 2) 0))
    && is_ascii_alphanumeric (get_or text place 0))
point_printable text place printable some inside =
    let m = place - 1 in
    let next : m + 1 ≡ place = omega (arith, some) in
    let b = get_or text m 0 in
    let front = take m text in
    let after = get_or text place 0 in
    let rest = drop place text in
    let rest_is : rest ≡ after ∷ drop (place + 1) text = drop_more text place 0 inside in
    let shape : front ++ b ∷ rest ≡ text = ap (λ n. front ++ b ∷ drop n text) (sym next)
    ∙ ap (λ l. front ++ l) (sym (drop_more text m 0 (omega (arith, some, inside))))
    ∙ take-append-drop m text in
    let point = point-is front rest b place
    (omega (arith, length-take-le m text (omega (arith, inside)), next)) in
    let two : place - 1 - 1 ≡ place - 2 = omega arith in
    let ends : begins_alphanumeric (reverse (chars front))
    ≡ (nat_lt 1 place && is_ascii_alphanumeric (get_or text (place - 2) 0)) =
    ends-printable text m printable (omega (arith, inside))
    ∙ ap (λ k. nat_lt 0 m && is_ascii_alphanumeric (get_or text k 0)) two
    ∙ ap (λ t. t && is_ascii_alphanumeric (get_or text (place - 2) 0)) first in
    let later : begins_alphanumeric (chars rest) ≡ is_ascii_alphanumeric after =
    ap (λ l. begins_alphanumeric (chars l)) rest_is ∙ begins-printable after (drop (place + 1) text)
    (subst IsPrintable rest_is (All-drop IsPrintableByte place text printable)) in
    let same = ap (λ t. is_hyphen_point t place) (sym shape) in
    cc (same, point, ends, later)
  where
    first : nat_lt 0 (place - 1) ≡ nat_lt 1 place
    first = elim (cases_lt 1 place) [
      | inl more ↦ lt-ltb 0 (place - 1) (omega (arith, more)) ∙ sym (lt-ltb 1 place more)
      | inr one ↦ le-ltb 0 (place - 1) (omega (arith, one)) ∙ sym (le-ltb 1 place one)
    ]
