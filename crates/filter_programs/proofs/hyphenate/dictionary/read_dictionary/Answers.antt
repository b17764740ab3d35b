use Rattle.filter_programs.proofs.ReadDictionaries.{reads}
use Rattle.filter_programs.proofs.hyphenate.dictionary.read_dictionary.Goals as goal

pub returns-clause-read : goal.returns-clause-read
returns-clause-read g c =
    reads _ _ _ c.in-Ok-read_whole.bytes.items c.dictionary_of.result
    (rw c.in-Ok.ensures.input at c.in-Ok-read_whole.ensures.ok)
    (rw c.deref.ensures.value at c.dictionary_of.ensures)
