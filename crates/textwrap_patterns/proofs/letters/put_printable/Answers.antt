use Rattle.std.{proofs.lemmas.List.take_more_set, specs.Char.to_ascii_lowercase}
use Rattle.textwrap_patterns.{proofs.Ascii.lowered-ascii, specs.Letters.letters_among}
use Rattle.textwrap_text.proofs.Common.{chars-IsAscii, drop_all, encode_ascii, ne_eqb, IsPrintableByte}
use Rattle.textwrap_text.proofs.Common.{List, append-nil, append_assoc, arith, drop, drop_more, get_or}
use Rattle.textwrap_text.proofs.Common.{length, refl, ℕ, ◌+◌, ◌∷◌, ◌≡◌}
use Rattle.textwrap_text.proofs.Units.Reading.{printable-ascii, printable-no_escape}
use Rattle.textwrap_text.specs.{Characters.characters_from, declared.escapes.State.TheVariants.Text}
use Rattle.textwrap_patterns.proofs.letters.put_printable.Goals as goal

printable-next : (at c : ℕ) (cs : List ℕ) → IsPrintableByte c
    → letters_among (characters_from Text at (c ∷ cs))
    ≡ record { at = at; ch = to_ascii_lowercase c } ∷ letters_among (characters_from Text (at + 1) cs)
printable-next at c cs (low, high) =
    rw (
      printable-no_escape c (low, high),
      ne_eqb c 0xAD (omega (arith, high)),
      ne_eqb c 0x2019 (omega (arith, high)),
      encode_ascii c (omega (arith, high)),
      lowered-ascii c (omega (arith, high)),
    )
    refl

pub loop-at-preserved : goal.loop-at-preserved
loop-at-preserved c =
    let word = c.args.word.now in
    let at = c.loop-at.at in
    let next = printable-next at (get_or word at 0) (drop (at + 1) word)
    (c.requires.printable at 0 (omega (arith, c.loop-at-test.true))) in
    grind (arith, take_more_set, append_assoc, drop_more, next)

pub returns : goal.returns
returns c =
    let is : c.loop-at.at ≡ length c.args.word.now = omega
    (arith, c.loop-at-test.false, c.loop-at.auto.at-end) in
    grind (arith, drop_all, append-nil, chars-IsAscii, printable-ascii)
