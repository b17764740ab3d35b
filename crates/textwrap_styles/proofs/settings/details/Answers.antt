use Rattle.textwrap_styles.proofs.settings.details.Goals as goal
use Rattle.std.proofs.lemmas.List.Sums.{prefix_len-le-length}
use Rattle.textwrap_styles.proofs.Common.{is_ascii_digit}
use Rattle.textwrap_text.proofs.Common.{arith}

pub split_at-requires : goal.split_at-requires
split_at-requires c =
    omega (arith, c.digits_len.ensures, prefix_len-le-length is_ascii_digit c.args.parameters.now)
