-- What changes from one text to another, line by line, and how a unified diff writes it.
use Rattle.std.specs.{HashMap.HashMap, HashMap.get_by, List.ends_with, List.flat_map, List.list_any}
use Rattle.std.specs.Prelude.{◌≡◌, ◌⊎◌, ℕ, ◌+◌, ◌/◌, ◌%◌, ◌<◌, ◌≤◌, ◌==◌, ◌||◌, Bool, true, false}
use Rattle.std.specs.Prelude.{List, [], ◌∷◌, ◌++◌, nat_lt, All, IsTrue, codes, decimal, filter}
use Rattle.std.specs.Prelude.{length, map, slice_index_or, if◌then◌else◌, nat_eq, ⊤, Option, None}
use Rattle.std.specs.Prelude.{IfSome, IsSomeAnd, bytes_eq}
use Rattle.textwrap_text.specs.{LineEnding.line_feed, TextLines.ended_parts}
use Rattle.text_files.specs.declared.differences.Sign.{Sign}
use Rattle.text_files.specs.declared.differences.Sign.TheVariants.{Kept, Removed, Added}
use Rattle.text_files.specs.declared.differences.SignedLine.{SignedLine}
use denote.Ref.{Bor}

-- ---- lines

-- the lines of a text, each with its line feed, which only the last may lack
abbrev pub text_lines : List ℕ → List (List ℕ)
text_lines text = ended_parts text

-- this line stands at a place
abbrev pub IsLineAt : List (List ℕ) → ℕ → List ℕ → Type 0
IsLineAt lines at line = (at < length lines) × (slice_index_or lines at [] ≡ line)

-- the line at the one place is that at the other
abbrev pub AreSameAt : List (List ℕ) → ℕ → List (List ℕ) → ℕ → Type 0
AreSameAt old old_at new new_at =
    (old_at < length old) × IsLineAt new new_at (slice_index_or old old_at [])

-- the line at the one place is that at the other, or all lines stand before both
abbrev pub AreSameOrAll : List (List ℕ) → ℕ → List (List ℕ) → ℕ → Type 0
AreSameOrAll old old_at new new_at =
    AreSameAt old old_at new new_at ⊎ ((old_at ≡ length old) × (new_at ≡ length new))

-- so many lines stand before a line that both have, or all, and none of both before this place is nearer
pub record IsNearestBefore (at : ℕ) (old new : List (List ℕ)) (removed added : ℕ) : Type 0 where
  pub same : AreSameOrAll old removed new added
  pub first : (old_at new_at : ℕ) → old_at < at → new_at < at → AreSameAt old old_at new new_at
      → removed + added ≤ old_at + new_at

-- none is nearer
pub record IsNearest (old new : List (List ℕ)) (removed added : ℕ) : Type 0 where
  pub same : AreSameOrAll old removed new added
  pub first : (old_at new_at : ℕ) → AreSameAt old old_at new new_at
      → removed + added ≤ old_at + new_at

-- of the lines before a place, where each stands first
pub record HasFirstPlaces (lines : List (List ℕ)) (at : ℕ) (place : List ℕ → Option ℕ) : Type 0 where
  pub found : (line : List ℕ) → IfSome (place line) (λ k. (k < at) × IsLineAt lines k line)
  pub first : (line : List ℕ) (k : ℕ) → k < at → IsLineAt lines k line
      → IsSomeAnd (place line) (λ found. found ≤ k)

-- what a map has at a line
abbrev pub place_in : {S : Type 0} → HashMap (Bor (List ℕ)) ℕ S → List ℕ → Option ℕ
place_in places line = get_by (λ k. bytes_eq line k.now) places

-- what a map has at the line at a place, if there is one
abbrev pub place_of : (List ℕ → Option ℕ) → List (List ℕ) → ℕ → Option ℕ
place_of place lines at =
    if nat_lt at (length lines) then place (slice_index_or lines at []) else None

-- a line, and what becomes of it
pub record SignedText : Type 0 where
  pub sign : Sign
  pub line : List ℕ

abbrev pub signed_text : Sign → List ℕ → SignedText
signed_text sign line = record { sign = sign; line = line }

abbrev pub signed_view : SignedLine → SignedText
signed_view signed = signed_text signed.sign signed.line.now

-- the old text has a line of this sign; the new text has it; only one has it
abbrev pub is_old : Sign → Bool
is_old Added = false
is_old _ = true

abbrev pub is_new : Sign → Bool
is_new Removed = false
is_new _ = true

abbrev pub is_change : Sign → Bool
is_change Kept = false
is_change _ = true

-- the lines that the old text has of these, and those that the new one has
abbrev pub olds : List SignedText → List (List ℕ)
olds signed = map (λ s. s.line) (filter (λ s. is_old s.sign) signed)

abbrev pub news : List SignedText → List (List ℕ)
news signed = map (λ s. s.line) (filter (λ s. is_new s.sign) signed)

-- ---- hunks

-- lines that follow one another, and how many lines of both texts stand before them
pub record HunkText : Type 0 where
  pub old_start : ℕ
  pub new_start : ℕ
  pub lines : List SignedText

abbrev pub old_end : HunkText → ℕ
old_end hunk = hunk.old_start + length (olds hunk.lines)

abbrev pub new_end : HunkText → ℕ
new_end hunk = hunk.new_start + length (news hunk.lines)

-- the hunks lead from the old lines to the new ones, and back: before and behind each the same
-- lines stand in both, and at its places its own. So many lines of both texts came before
abbrev pub Patches : ℕ → ℕ → List (List ℕ) → List (List ℕ) → List HunkText → Type 0
Patches old_at new_at old new [] = new ≡ old
Patches old_at new_at old new (hunk ∷ hunks) =
    (kept : List (List ℕ)) × (old_left : List (List ℕ)) × (new_left : List (List ℕ))
    × (old ≡ kept ++ (olds hunk.lines ++ old_left)) × (new ≡ kept ++ (news hunk.lines ++ new_left))
    × (hunk.old_start ≡ old_at + length kept) × (hunk.new_start ≡ new_at + length kept)
    × Patches (old_end hunk) (new_end hunk) old_left new_left hunks

-- what becomes of the line at a place; past the last one, nothing changes
abbrev pub sign_at : List SignedText → ℕ → Sign
sign_at lines at = slice_index_or (map (λ s. s.sign) lines) at Kept

abbrev pub line_at : List SignedText → ℕ → List ℕ
line_at lines at = slice_index_or (map (λ s. s.line) lines) at []

-- no run of changed lines has a line that is both removed and added: between two such, one is kept
abbrev pub AreLean : List SignedText → Type 0
AreLean lines =
    (removed added : ℕ) → sign_at lines removed ≡ Removed → sign_at lines added ≡ Added
    → line_at lines removed ≡ line_at lines added
    → (kept : ℕ) × (sign_at lines kept ≡ Kept)
    × (((removed ≤ kept) × (kept ≤ added)) ⊎ ((added ≤ kept) × (kept ≤ removed)))

-- the line at a place is changed, or at most three lines away from one that is
abbrev pub IsNear : List SignedText → ℕ → Type 0
IsNear lines at =
    (change : ℕ) × IsTrue (is_change (sign_at lines change)) × (change ≤ at + 3)
    × (at ≤ change + 3)

abbrev pub IsNearIf : Bool → List SignedText → ℕ → Type 0
IsNearIf true lines at = IsNear lines at
IsNearIf false lines at = ¬ IsNear lines at

-- there is a line, and each is near a change
abbrev pub IsTight : List SignedText → Type 0
IsTight lines = (0 < length lines) × ((at : ℕ) → at < length lines → IsNear lines at)

-- a changed line has three lines before it in its hunk, or the hunk begins with the old text; and three
-- behind it, or the hunk ends with the old text, which has so many lines
abbrev pub HasContext : ℕ → HunkText → Type 0
HasContext len hunk =
    (change : ℕ) → IsTrue (is_change (sign_at hunk.lines change))
    → (hunk.old_start ≡ 0 ⊎ 3 ≤ change) × (old_end hunk ≡ len ⊎ change + 3 < length hunk.lines)

-- between two hunks a line stands that belongs to none
abbrev pub AreApart : List HunkText → Type 0
AreApart [] = ⊤
AreApart (hunk ∷ []) = ⊤
AreApart (hunk ∷ next ∷ hunks) = (old_end hunk < next.old_start) × AreApart (next ∷ hunks)

-- the hunks of a diff of two texts, by their lines
pub record IsDiff (old new : List (List ℕ)) (hunks : List HunkText) : Type 0 where
  pub patches : Patches 0 0 old new hunks
  pub tight : All (λ hunk. IsTight hunk.lines) hunks
  pub lean : All (λ hunk. AreLean hunk.lines) hunks
  pub context : All (HasContext (length old)) hunks
  pub apart : AreApart hunks

-- ---- how they are written

abbrev pub sign_byte : Sign → ℕ
sign_byte Kept = 32
sign_byte Removed = 45
sign_byte Added = 43

-- what stands behind a line that has no line feed: one, and a line that says so
abbrev pub missing_feed : List ℕ → List ℕ
missing_feed line =
    if ends_with nat_eq line (line_feed ∷ []) then []
    else codes "\n\\ No newline at end of file\n"

abbrev pub line_text : SignedText → List ℕ
line_text signed = sign_byte signed.sign ∷ (signed.line ++ missing_feed signed.line)

-- how many lines; of one that is not said
abbrev pub count_text : ℕ → List ℕ
count_text len = if len == 1 then [] else codes "," ++ decimal len

-- the number of the first line, and how many they are; of none, the number of the line before
abbrev pub range_text : ℕ → ℕ → List ℕ
range_text start len = decimal (if len == 0 then start else start + 1) ++ count_text len

-- the line that a hunk begins with, by its ranges in both texts
abbrev pub head_text : List ℕ → List ℕ → List ℕ
head_text old new = codes "@@ -" ++ (old ++ (codes " +" ++ (new ++ codes " @@\n")))

abbrev pub hunk_text : HunkText → List ℕ
hunk_text hunk =
    head_text (range_text hunk.old_start (length (olds hunk.lines)))
    (range_text hunk.new_start (length (news hunk.lines)))
    ++ flat_map line_text hunk.lines

-- a quote, a backslash and what is not shown stand in a quoted name by a backslash and three octal
-- digits, as in C
abbrev pub is_escaped : ℕ → Bool
is_escaped c = c == 34 || c == 92 || c == 127 || nat_lt c 32

abbrev pub quoted_byte : ℕ → List ℕ
quoted_byte c =
    if is_escaped c then 92 ∷ (48 + c / 64) ∷ (48 + c / 8 % 8) ∷ (48 + c % 8) ∷ [] else c ∷ []

-- a name with such a byte is quoted; behind another one with a blank a tab says where it ends
abbrev pub name_text : List ℕ → List ℕ
name_text name =
    if list_any is_escaped name then codes "\"" ++ (flat_map quoted_byte name ++ codes "\"\n")
    else name ++ (if list_any (λ c. c == 32) name then codes "\t\n" else codes "\n")

abbrev pub names_text : List ℕ → List ℕ
names_text name = codes "--- " ++ (name_text name ++ (codes "+++ " ++ name_text name))

-- a text is that of a diff of two texts, under this name
abbrev pub IsDiffText : List ℕ → List ℕ → List ℕ → List ℕ → Type 0
IsDiffText name old new text =
    (hunks : List HunkText) × IsDiff (text_lines old) (text_lines new) hunks
    × (text ≡ names_text name ++ flat_map hunk_text hunks)

-- the hunks of these lines were added to a text
abbrev pub ArePushed : List SignedText → List ℕ → List ℕ → Type 0
ArePushed lines old new =
    (hunks : List HunkText) × IsDiff (olds lines) (news lines) hunks
    × (new ≡ old ++ flat_map hunk_text hunks)
