-- What is written into lent room.
use Rattle.std.specs.Prelude.{◌≡◌, ◌≢◌, ℕ, ◌<◌, ◌⊎◌, ◌↔◌, List, length}
use Rattle.textwrap_text.specs.LentText.{as_len, written_over}
use Rattle.textwrap_calls.specs.Status.{done, too_small}

-- as much of an answer of this kind as has room stands at the front of the room, and what follows it
-- is as it was; its length is reported as `reported` says; and the status says whether the room is too
-- short for it; else nothing is written
pub record WritesAs {X : Type 0} (reported : ℕ → ℕ) (IsAnswer : List X → Type 0) (status : ℕ)
    (room_before room_after : List X) (len_before len_after : ℕ) : Type 0 where
  pub written : (status ≡ done) ⊎ (status ≡ too_small) → (answer : List X) × IsAnswer answer
      × (len_after ≡ reported (length answer)) × (room_after ≡ written_over room_before answer)
      × (status ≡ too_small ↔ length room_before < length answer)
  pub kept : status ≢ done → status ≢ too_small → room_after ≡ room_before
  pub kept_len : status ≢ done → status ≢ too_small → len_after ≡ len_before

-- with its length
abbrev pub WritesText : {X : Type 0} → (List X → Type 0) → ℕ → List X → List X → ℕ → ℕ → Type 0
WritesText = WritesAs (λ n. n)

-- with its length, or the greatest number where it is more
abbrev pub WritesLong : {X : Type 0} → (List X → Type 0) → ℕ → List X → List X → ℕ → ℕ → Type 0
WritesLong = WritesAs as_len
