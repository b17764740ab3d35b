use Rattle.std.{proofs.Common.ap, proofs.Common.sym, proofs.Common.◌∙◌, specs.Str.all_ascii_digits}
use Rattle.textwrap_program.proofs.ArgumentLemmas.{width_of-parsed}
use Rattle.textwrap_program.proofs.arguments.parse_width.Goals as goal

pub returns : goal.returns
returns c = c.ok.ensures.value ∙ width_of-parsed c.args.word.now c.parse.result
    (ap all_ascii_digits (sym c.as_bytes.ensures.value) ∙ sym c.is_all_digits.ensures
    ∙ c.if-not-is_all_digits.false) c.parse.ensures.value.0
