-- A line cut into its words, each with the blanks behind it.
use Rattle.std.specs.Prelude.{◌≡◌, ◌≢◌, ℕ, Bool, true, false, not, ◌&&◌, List, [], ◌∷◌, ◌++◌}
use Rattle.std.specs.Prelude.{slice_index, All, if◌then◌else◌}
use Rattle.std.specs.List.{flat_map, onto_first}
use Rattle.textwrap_text.specs.Blanks.{is_blank}
use Rattle.textwrap_text.specs.Lists.{last}

-- a line is cut between a blank and a following byte that is none
abbrev pub is_cut : ℕ → ℕ → Bool
is_cut before after = is_blank before && not (is_blank after)

-- no place inside the chunk is a cut
abbrev pub IsUncut : List ℕ → Type 0
IsUncut chunk = (before after : List ℕ) (c d : ℕ)
    → chunk ≡ before ++ c ∷ d ∷ after → is_cut c d ≡ false

-- between each chunk and the next there is a cut
abbrev pub AreCutApart : List (List ℕ) → Type 0
AreCutApart chunks = (before after : List (List ℕ)) (chunk next : List ℕ)
    → chunks ≡ before ++ chunk ∷ next ∷ after → is_cut (last chunk) (slice_index next 0) ≡ true

-- the line is cut into chunks at each of its cuts, and nowhere else
pub record AreChunks (line : List ℕ) (chunks : List (List ℕ)) : Type 0 where
  pub tiles : flat_map (λ chunk. chunk) chunks ≡ line
  pub nonempty : All (λ chunk. chunk ≢ []) chunks
  pub uncut : All IsUncut chunks
  pub cut : AreCutApart chunks

-- ---- the same, computed

-- the chunks of a line, none of an empty line
abbrev pub chunks : List ℕ → List (List ℕ)
chunks [] = []
chunks (c ∷ []) = (c ∷ []) ∷ []
chunks (c ∷ d ∷ cs) =
    if is_cut c d then (c ∷ []) ∷ chunks (d ∷ cs)
    else onto_first c (chunks (d ∷ cs))
