-- Line endings, and the paragraphs between them.
use Rattle.std.specs.Prelude.{◌≡◌, ◌≢◌, ℕ, zero, suc, ◌-◌, nat_eq, List, [], ◌∷◌, ◌++◌, length, All}
use Rattle.std.specs.Prelude.{if◌then◌else◌}
use Rattle.std.specs.List.{onto_first, starts_with}
use Rattle.textwrap_text.specs.declared.line_ending.LineEnding.{LineEnding}
use Rattle.textwrap_text.specs.declared.line_ending.LineEnding.TheVariants.{CRLF, LF}

abbrev pub carriage_return : ℕ
carriage_return = 13

abbrev pub line_feed : ℕ
line_feed = 10

abbrev pub ending_bytes : LineEnding → List ℕ
ending_bytes CRLF = carriage_return ∷ line_feed ∷ []
ending_bytes LF = line_feed ∷ []

-- the parts of a text round each place where the ending stands, after n bytes of an ending
abbrev pub parts_past : List ℕ → ℕ → List ℕ → List (List ℕ)
parts_past ending n [] = [] ∷ []
parts_past ending zero (c ∷ cs) =
    if starts_with nat_eq (c ∷ cs) ending then [] ∷ parts_past ending (length ending - 1) cs
    else onto_first c (parts_past ending 0 cs)
parts_past ending (suc n) (c ∷ cs) = parts_past ending n cs

-- k endings give k + 1 paragraphs
abbrev pub paragraphs_of : LineEnding → List ℕ → List (List ℕ)
paragraphs_of ending text = parts_past (ending_bytes ending) 0 text

-- the texts in a row, with the separator between each two
abbrev pub join_with : List ℕ → List (List ℕ) → List ℕ
join_with separator [] = []
join_with separator (x ∷ []) = x
join_with separator (x ∷ y ∷ xs) = x ++ separator ++ join_with separator (y ∷ xs)

-- the ending is nowhere in the text
abbrev pub Lacks : List ℕ → List ℕ → Type 0
Lacks ending text = (before after : List ℕ) → text ≢ before ++ (ending ++ after)

-- with the ending between each two paragraphs are the text, and none has an ending in it
pub record AreParagraphs (ending : LineEnding) (text : List ℕ) (paragraphs : List (List ℕ))
    : Type 0 where
  pub some : paragraphs ≢ []
  pub joined : join_with (ending_bytes ending) paragraphs ≡ text
  pub lacking : All (Lacks (ending_bytes ending)) paragraphs
