-- Lemmas for a caller whose function finds cuts, points or ends one after another: the empty list
-- is right, and a right one grows, also at the characters of a loop over `char_indices`. What is right
-- by index, `next-by_index` says.
pub use Rattle.textwrap_words.proofs.Word.Cuts.{next-by_index, inner-cuts}
use Rattle.textwrap.proofs.Common.{len_utf8_bounds, IsCharBoundary, AreInnerCuts, length_push, List}
use Rattle.textwrap.proofs.Common.{len_utf8, IsUtf8, get_or, length, arith, rules, Some, ◌++◌, ◌+◌}
use Rattle.textwrap.proofs.Common.{◌-◌, ◌<◌, ◌∷◌, ◌≡◌, ◌≤◌, [], ℕ}
use Rattle.textwrap_words.{proofs.Word.Cuts.next-push, specs.LineEnds.AreEnds}
use Rattle.textwrap_text.proofs.Common.{char_indices_offset, length-encode, get_or_push}
use Rattle.textwrap_text.proofs.Texts.{some-bytes}
use Rattle.textwrap_text.proofs.Units.Reading.{read-start, read-next, read-room, IsRead}
use Rattle.std.specs.Str.Iter.{char_indices_steps, char_indices_rest}
use Rattle.std.specs.declared.str.CharIndices.{CharIndices}

-- the last of the numbers, if there are any, is this one
abbrev pub EndWith : List ℕ → ℕ → Type 0
EndWith ns last = 0 < length ns → get_or ns (length ns - 1) 0 ≡ last

pub EndWith-push : (ns : List ℕ) (n : ℕ) → EndWith (ns ++ n ∷ []) n
EndWith-push ns n some = search (rules, length_push, get_or_push)

-- which is 0 where there are none
last-or_zero : (ns : List ℕ) (last : ℕ) → EndWith ns last → get_or (0 ∷ ns) (length ns) 0 ≤ last
last-or_zero [] last ends = omega arith
last-or_zero (n ∷ ns) last ends = search (rules, arith)

pub inner-none : (text : List ℕ) → AreInnerCuts text []
inner-none text = tt

pub inner-push : (text cuts : List ℕ) (cut last : ℕ) → AreInnerCuts text cuts → EndWith cuts last
    → last < cut → cut < length text → IsCharBoundary text cut → AreInnerCuts text (cuts ++ cut ∷ [])
inner-push text cuts cut last are ends above inside boundary =
    search (rules, arith, next-push, last-or_zero)

-- where a reader by `char_indices` stands in a text: before a character, or at the end
abbrev pub HasReadTo : List ℕ → CharIndices → Type 0
HasReadTo text reader = IsRead text (char_indices_offset reader) (char_indices_rest reader)

pub HasReadTo-start : (text : List ℕ) (reader : CharIndices) → IsUtf8 text
    → char_indices_rest reader ≡ text → char_indices_offset reader ≡ 0 → HasReadTo text reader
HasReadTo-start text reader utf8 all start = rw (all, start) (read-start text utf8)

-- it stands so after each character too
pub HasReadTo-next : (text : List ℕ) (here next : CharIndices) (at c : ℕ) → IsUtf8 text
    → HasReadTo text here → char_indices_steps here (Some (at, c)) next → HasReadTo text next
HasReadTo-next text here next at c utf8 read step = search (rules, arith, read-next, step.1, step.2)

-- a cut before a character that is not the first
pub inner-push-before : (text cuts : List ℕ) (here next : CharIndices) (at c last : ℕ)
    → HasReadTo text here → char_indices_steps here (Some (at, c)) next → AreInnerCuts text cuts
    → EndWith cuts last → last < at → AreInnerCuts text (cuts ++ at ∷ [])
inner-push-before text cuts here next at c last read step are ends above =
    let room = read-room read c (char_indices_rest next) step.1 in
    let inside : at < length text = omega (arith, room, step.0, some-bytes c) in
    inner-push text cuts at last are ends above inside (rw step.0 read.boundary)

-- a cut after a character that is not the last
pub inner-push-after : (text cuts : List ℕ) (here next : CharIndices) (at c last : ℕ)
    → IsUtf8 text → HasReadTo text here → char_indices_steps here (Some (at, c)) next
    → AreInnerCuts text cuts → EndWith cuts last → last ≤ at → at + len_utf8 c < length text
    → AreInnerCuts text (cuts ++ (at + len_utf8 c) ∷ [])
inner-push-after text cuts here next at c last utf8 read step are ends above inside =
    let place : char_indices_offset next ≡ at + len_utf8 c =
    omega (arith, step.0, step.2, length-encode c) in
    inner-push text cuts (at + len_utf8 c) last are ends
    (omega (arith, above, (len_utf8_bounds c).0)) inside
    (rw place at (HasReadTo-next text here next at c utf8 read step).boundary)

pub ends-none : {X : Type 0} (xs : List X) → AreEnds xs []
ends-none xs = tt

pub ends-push : {X : Type 0} (xs : List X) (ends : List ℕ) (end last : ℕ) → AreEnds xs ends
    → EndWith ends last → last ≤ end → end ≤ length xs → AreEnds xs (ends ++ end ∷ [])
ends-push xs ends end last are ends_with above inside =
    search (rules, arith, next-push, last-or_zero)
