-- Lists of texts, as C has them.
use Rattle.std.specs.Prelude.{ℕ, List, map, IsUtf8}
use Rattle.textwrap_calls.specs.declared.texts.TextwrapText.{TextwrapText}

-- the bytes of the texts
abbrev pub bytes_of : List TextwrapText → List (List ℕ)
bytes_of texts = map (λ text. text.bytes.now) texts

-- its bytes are UTF-8
abbrev pub IsText : TextwrapText → Type 0
IsText text = IsUtf8 text.bytes.now
