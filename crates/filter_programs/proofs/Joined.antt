-- The parts of a word, joined by hyphens: the first of them, and those that follow it.
use Rattle.std.specs.List.{join_with_byte}
use Rattle.textwrap_text.proofs.Common.{List, [], append_assoc, refl, ℕ, ◌++◌, ◌∷◌, ◌≡◌}
use Rattle.textwrap_words.specs.{Cuts.parts_onward, WordSplitters.hyphen}

joined-first : (part : List ℕ) (cut : ℕ) (cuts word : List ℕ)
    → join_with_byte hyphen (part ∷ parts_onward cut cuts word)
    ≡ part ++ hyphen ∷ join_with_byte hyphen (parts_onward cut cuts word)
joined-first part cut [] word = refl
joined-first part cut (next ∷ cuts) word = refl

-- behind what is made, a part and a hyphen are added
pub joined-more : (made with_part with_hyphen part : List ℕ) (cut : ℕ) (cuts word all : List ℕ)
    → with_part ≡ made ++ part → with_hyphen ≡ with_part ++ hyphen ∷ []
    → made ++ join_with_byte hyphen (part ∷ parts_onward cut cuts word) ≡ all
    → with_hyphen ++ join_with_byte hyphen (parts_onward cut cuts word) ≡ all
joined-more made with_part with_hyphen part cut cuts word all added ended is =
    rw (ended, added, append_assoc, append_assoc) (rw (joined-first part cut cuts word) at is)
