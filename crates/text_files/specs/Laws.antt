-- Laws of the definitions on diffs.
use Rattle.std.specs.List.{flat_map}
use Rattle.std.specs.Prelude.{◌≡◌, ℕ, ◌-◌, ◌<◌, ◌^◌, List, [], ◌∷◌, ◌++◌, drop, length, map, take}
use Rattle.text_files.specs.Differences.{HunkText, IsDiff, SignedText, hunk_text, news, old_end}
use Rattle.text_files.specs.{Differences.text_lines, Reading.hunks_of}
use Rattle.text_files.specs.declared.differences.Sign.{Sign}
use Rattle.text_files.specs.declared.differences.Sign.TheVariants.{Kept, Removed, Added}

-- what hunks make of lines of which so many came before: at its place, each puts its new lines for
-- its old ones
abbrev pub patched : List HunkText → ℕ → List (List ℕ) → List (List ℕ)
patched [] at old = old
patched (hunk ∷ hunks) at old =
    take (hunk.old_start - at) old
    ++ (news hunk.lines ++ patched hunks (old_end hunk) (drop (old_end hunk - at) old))

abbrev pub turned_sign : Sign → Sign
turned_sign Kept = Kept
turned_sign Removed = Added
turned_sign Added = Removed

abbrev pub turned_line : SignedText → SignedText
turned_line signed = record signed { sign = turned_sign signed.sign }

-- the same from the new text to the old one
abbrev pub turned : HunkText → HunkText
turned hunk = record {
  old_start = hunk.new_start;
  new_start = hunk.old_start;
  lines = map turned_line hunk.lines;
}

abbrev pub DiffsLeadOn : Type 0
DiffsLeadOn =
    (old new : List (List ℕ)) (hunks : List HunkText) → IsDiff old new hunks
    → patched hunks 0 old ≡ new

abbrev pub DiffsLeadBack : Type 0
DiffsLeadBack =
    (old new : List (List ℕ)) (hunks : List HunkText) → IsDiff old new hunks
    → patched (map turned hunks) 0 new ≡ old

abbrev pub TextsAreTheirLines : Type 0
TextsAreTheirLines = (text : List ℕ) → flat_map (λ line. line) (text_lines text) ≡ text

-- of texts whose lines 64 bits count
abbrev pub HunksAreRead : Type 0
HunksAreRead =
    (old new : List ℕ) (hunks : List HunkText) → length (text_lines old) < 2 ^ 64 - 1
    → length (text_lines new) < 2 ^ 64 - 1 → IsDiff (text_lines old) (text_lines new) hunks
    → hunks_of (flat_map hunk_text hunks) ≡ hunks
