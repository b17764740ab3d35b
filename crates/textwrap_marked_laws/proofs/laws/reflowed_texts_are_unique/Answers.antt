use Rattle.textwrap_marked_laws.proofs.laws.reflowed_texts_are_unique.Goals as goal
use Rattle.textwrap_marked_laws.proofs.Common.{byte_order_mark, starts_with, nat_eq}
use Rattle.textwrap_marked_laws.proofs.NewTexts.{behind-one}

pub returns : goal.returns
returns c = λ options text. behind-one (starts_with nat_eq text byte_order_mark) options text
