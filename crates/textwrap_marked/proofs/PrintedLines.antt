-- The texts of the lines of a division, of which all but the last may be justified.
use Rattle.textwrap_marked.proofs.Common.{false, Bool, List, refl, true, ◌&&◌, sym, ◌∷◌, ◌≡◌, [], ap, ℕ}
use Rattle.textwrap_marked.proofs.Common.{line_texts, line_text, WordText, length, lt-ltb, nat_lt, arith}

-- the first of them is, if lines follow; those are the texts of a division of their own
pub texts_more : (justify : Bool) (room later : ℕ) (line : List WordText) (lines : List (List WordText))
    → line_texts justify room later (line ∷ lines)
    ≡ line_text (justify && nat_lt 0 (length lines)) room line ∷ line_texts justify later later lines
texts_more true room later line [] = refl
texts_more false room later line [] = refl
texts_more true room later line (next ∷ lines) =
    ap (λ b. line_text b room line ∷ line_texts true later later (next ∷ lines))
    (sym (lt-ltb 0 (length (next ∷ lines)) (omega arith)))
texts_more false room later line (next ∷ lines) = refl
