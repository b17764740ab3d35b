use Rattle.textwrap_text.proofs.Common.{append_assoc, arith, rules, take_more}
use Rattle.textwrap_text.proofs.lent_text.LentText.push_bytes.Goals as goal

pub loop-byte-preserved : goal.loop-byte-preserved
loop-byte-preserved c = search (rules, arith, append_assoc, take_more)
