use Rattle.textwrap_words.proofs.laws.broken_pieces_are_unique.Goals as goal
use Rattle.textwrap_text.proofs.Common.{units, map, ◌∙◌, ap}
use Rattle.textwrap_words.proofs.Common.{broken_units, pieces_with, units_text}
use Rattle.std.specs.Prelude.{chars}
use Rattle.textwrap_words.proofs.Word.Breaking.{AreBroken-exists, AreBroken-unique}

pub returns : goal.returns
returns c = λ limit w pieces. (
  λ (parts, broken, is). is ∙ ap (λ ps. pieces_with w.whitespace w.penalty (map units_text ps))
      (AreBroken-unique limit (units (chars w.word)) parts broken),
  λ is. (
    broken_units limit (units (chars w.word)),
    AreBroken-exists limit (units (chars w.word)),
    is,
  ),
)
