use Rattle.textwrap_dictionaries.proofs.WrittenTexts.{lists-read, named-read, tex-read}
use Rattle.textwrap_dictionaries.proofs.laws.written_texts_are_read.Goals as goal

pub returns : goal.returns
returns c = record { lists = lists-read; named = named-read; tex = tex-read }
