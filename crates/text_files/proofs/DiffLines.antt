-- The lines of a text, lines with signs, those that either text has, and where they change.
use Rattle.std.proofs.{Common.IsTrue, Common.count_by, Math.Bool.beq}
use Rattle.std.proofs.lemmas.List.{drop-map, take_more_same, take_rest}
use Rattle.std.proofs.lemmas.List.Sums.{count_by-le-length, length-filter}
use Rattle.std.{proofs.lemmas.Slice.Eq.bytes_eq-Decides, specs.Str.bytes_eq}
use Rattle.textwrap_text.proofs.Common.{◌≡◌, ◌≢◌, ◌∙◌, ap, refl, sym, ℕ, zero, suc, ◌+◌, ◌-◌, ◌<◌}
use Rattle.textwrap_text.proofs.Common.{◌≤◌, arith, Bool, true, false, List, [], ◌∷◌, ◌++◌, length}
use Rattle.textwrap_text.proofs.Common.{take, drop, map, get_or, Bor, not, get_or-map, append-nil}
use Rattle.textwrap_text.proofs.Common.{append_assoc, length-map, map-append, take-map, take-add}
use Rattle.textwrap_text.proofs.Common.{filter-append, filter, All, length-take, take-append-drop}
use Rattle.textwrap_text.proofs.Common.{get_or-take, take_more, All-from_get_or}
use Rattle.textwrap_text.proofs.TextLines.{ended_parts-front, ended_parts-whole}
use Rattle.text_files.specs.Differences.{AreSameAt, IsNearIf, SignedText, is_change, is_new}
use Rattle.text_files.specs.Differences.{is_old, news, olds, sign_at, signed_text, signed_view}
use Rattle.text_files.specs.{Differences.text_lines, declared.differences.Sign.Sign}
use Rattle.text_files.specs.declared.differences.Sign.TheVariants.{Kept, Removed, Added}
use Rattle.text_files.specs.declared.differences.SignedLine.{SignedLine}

-- ---- the first line of a text

pub text_lines-first : (text : List ℕ) (n : ℕ) → n < length text
    → ((k : ℕ) → k < n → get_or text k 0 ≢ 10) → get_or text n 0 ≡ 10
    → text_lines text ≡ take (n + 1) text ∷ text_lines (drop (n + 1) text)
text_lines-first text n within before here =
    let line : take (n + 1) text ≡ take n text ++ 10 ∷ [] =
    take_more text n 0 within ∙ ap (λ b. take n text ++ b ∷ []) here in
    let rest = drop (n + 1) text in
    let whole = sym (take-append-drop (n + 1) text) ∙ ap (λ l. l ++ rest) line
    ∙ append_assoc (take n text) (10 ∷ []) rest in
    let free : All (λ c. c ≢ 10) (take n text) = All-from_get_or (λ c. c ≢ 10) (take n text) 0
    (λ k below.
    let under : k < n = omega (arith, below, length-take n text) in
    rw (get_or-take n text k 0 under) (before k under)) in
    ap text_lines whole ∙ ended_parts-front (take n text) rest free
    ∙ ap (λ l. l ∷ text_lines rest) (sym line)

pub text_lines-one : (text : List ℕ) → 0 < length text
    → ((k : ℕ) → k < length text → get_or text k 0 ≢ 10) → text_lines text ≡ text ∷ []
text_lines-one text some lacks =
    ended_parts-whole text (All-from_get_or (λ c. c ≢ 10) text 0 lacks)
    (λ none. omega (arith, some, ap length none))

-- ---- signs

pub sign_at-view : (lines : List SignedLine) (k : ℕ) (d : SignedLine) → k < length lines
    → sign_at (map signed_view lines) k ≡ (get_or lines k d).sign
sign_at-view [] k d within = absurd (omega arith)
sign_at-view (line ∷ lines) zero d within = refl
sign_at-view (line ∷ lines) (suc k) d within = sign_at-view lines k d (omega arith)

pub change-within : (lines : List SignedText) (k : ℕ) → IsTrue (is_change (sign_at lines k))
    → k < length lines
change-within [] k is = absurd (cc is)
change-within (line ∷ lines) zero is = omega arith
change-within (line ∷ lines) (suc k) is = let rest = change-within lines k is in omega arith

-- ---- the lines of either text

pub olds-append : (xs ys : List SignedText) → olds (xs ++ ys) ≡ olds xs ++ olds ys
olds-append xs ys = grind (arith, filter-append, map-append)

pub news-append : (xs ys : List SignedText) → news (xs ++ ys) ≡ news xs ++ news ys
news-append xs ys = grind (arith, filter-append, map-append)

-- lines with a sign that a text has are all in it, and of those with another sign none
signed-all : (p : Sign → Bool) (sign : Sign) → p sign ≡ true → (lines : List (List ℕ))
    → map (λ s. s.line) (filter (λ s. p s.sign) (map (signed_text sign) lines)) ≡ lines
signed-all p sign is [] = refl
signed-all p sign is (line ∷ lines) = rw is (ap (λ ls. line ∷ ls) (signed-all p sign is lines))

signed-none : (p : Sign → Bool) (sign : Sign) → p sign ≡ false → (lines : List (List ℕ))
    → map (λ s. s.line) (filter (λ s. p s.sign) (map (signed_text sign) lines)) ≡ []
signed-none p sign not [] = refl
signed-none p sign not (line ∷ lines) = rw not (signed-none p sign not lines)

-- ---- how many they are

filter-view : (p : Sign → Bool) (lines : List SignedLine)
    → filter (λ s. p s.sign) (map signed_view lines)
    ≡ map signed_view (filter (λ line. p line.sign) lines)
filter-view p [] = refl
filter-view p (line ∷ lines) = grind (arith, filter-view p lines)

count_signs : (p : Sign → Bool) (lines : List SignedLine)
    → count_by (λ line. p line.sign) lines
    ≡ length (map (λ s. s.line) (filter (λ s. p s.sign) (map signed_view lines)))
count_signs p lines = grind (arith, length-filter, length-map, filter-view)

pub count_olds : (lines : List SignedLine)
    → count_by (λ line. is_old line.sign) lines ≡ length (olds (map signed_view lines))
count_olds lines = count_signs is_old lines

pub count_news : (lines : List SignedLine)
    → count_by (λ line. is_new line.sign) lines ≡ length (news (map signed_view lines))
count_news lines = count_signs is_new lines

-- both have at most all of them
signs-le : (p : Sign → Bool) (lines : List SignedText)
    → length (map (λ s. s.line) (filter (λ s. p s.sign) lines)) ≤ length lines
signs-le p lines = grind (arith, length-map, length-filter, count_by-le-length)

pub olds-le : (lines : List SignedText) → length (olds lines) ≤ length lines
olds-le lines = signs-le is_old lines

pub news-le : (lines : List SignedText) → length (news lines) ≤ length lines
news-le lines = signs-le is_new lines

-- ---- lines that are kept, and a change behind them

pub olds-grown : (old after removed_too all : List SignedText) (kept removed added : List (List ℕ))
    → after ≡ old ++ map (signed_text Kept) kept
    → removed_too ≡ after ++ map (signed_text Removed) removed
    → all ≡ removed_too ++ map (signed_text Added) added
    → olds all ≡ olds old ++ (kept ++ removed)
olds-grown old after removed_too all kept removed added a b c =
    let here = signed-all is_old Kept refl kept in
    let gone = signed-all is_old Removed refl removed in
    let none = signed-none is_old Added refl added in
    grind (arith, olds-append, append-nil, append_assoc)

pub news-grown : (old after removed_too all : List SignedText) (kept removed added : List (List ℕ))
    → after ≡ old ++ map (signed_text Kept) kept
    → removed_too ≡ after ++ map (signed_text Removed) removed
    → all ≡ removed_too ++ map (signed_text Added) added
    → news all ≡ news old ++ (kept ++ added)
news-grown old after removed_too all kept removed added a b c =
    let here = signed-all is_new Kept refl kept in
    let none = signed-none is_new Removed refl removed in
    let come = signed-all is_new Added refl added in
    grind (arith, news-append, append-nil, append_assoc)

-- the first lines of two lists, read one after the other
pub taken-lines : (lines : List (Bor (List ℕ))) (kept changed : ℕ)
    → map (λ line. line.now) (take kept lines)
    ++ map (λ line. line.now) (take changed (drop kept lines))
    ≡ take (kept + changed) (map (λ line. line.now) lines)
taken-lines lines kept changed = grind (arith, map-append, take-add, take-map)

-- ---- lines near a change

pub IsNearIf-other : (lines : List SignedText) (at : ℕ) (found near : Bool)
    → beq found near ≡ false → IsNearIf found lines at → IsNearIf (not near) lines at
IsNearIf-other lines at true true differ is = cc
IsNearIf-other lines at true false differ is = is
IsNearIf-other lines at false true differ is = is
IsNearIf-other lines at false false differ is = cc

-- ---- lines that are the same

pub same-more : (old new : List (Bor (List ℕ))) (n : ℕ) (none : Bor (List ℕ))
    → n < length old → n < length new
    → take n (map (λ line. line.now) old) ≡ take n (map (λ line. line.now) new)
    → bytes_eq (get_or old n none).now (get_or new n none).now ≡ true
    → take (n + 1) (map (λ line. line.now) old) ≡ take (n + 1) (map (λ line. line.now) new)
same-more old new n none in_old in_new before here =
    let olds : List (List ℕ) = map (λ line. line.now) old in
    let news : List (List ℕ) = map (λ line. line.now) new in
    let same : get_or olds n [] ≡ get_or news n [] =
    get_or-map (λ line. line.now) old n none [] in_old
    ∙ (bytes_eq-Decides (get_or old n none).now (get_or new n none).now).0 here
    ∙ sym (get_or-map (λ line. line.now) new n none [] in_new) in
    take_more_same olds news n [] (rw length-map in_old) (rw length-map in_new) before same

-- lines of one list, where another one has the same, and those behind them
pub taken-same : (old new : List (Bor (List ℕ))) (kept changed : ℕ)
    → take kept (map (λ line. line.now) old) ≡ take kept (map (λ line. line.now) new)
    → map (λ line. line.now) (take kept old)
    ++ map (λ line. line.now) (take changed (drop kept new))
    ≡ take (kept + changed) (map (λ line. line.now) new)
taken-same old new kept changed same = grind (arith, take-map, taken-lines)

-- lines that were taken, and those behind them
pub taken-further : (lines : List (Bor (List ℕ))) (at more : ℕ) (before after : List (List ℕ))
    → before ≡ take at (map (λ line. line.now) lines)
    → after ≡ before
    ++ take more (map (λ line. line.now) (take (length lines - at) (drop at lines)))
    → after ≡ take (at + more) (map (λ line. line.now) lines)
taken-further lines at more before after was is = grind (arith, take_rest, drop-map, take-add)

-- ---- lines at places

pub other-at : (old new : List (Bor (List ℕ))) (n : ℕ) (none : Bor (List ℕ))
    → n < length old → n < length new
    → bytes_eq (get_or old n none).now (get_or new n none).now ≡ false
    → ¬ AreSameAt (map (λ l. l.now) old) n (map (λ l. l.now) new) n
other-at old new n none in_old in_new differ same = grind (arith, bytes_eq-Decides, get_or-map)
