use Rattle.textwrap_hyphens.proofs.dictionary.Patterns.parse_bytes.Goals as goal

pub returns-clause-text : goal.returns-clause-text
returns-clause-text g c = λ utf8.
    rw (c.in_ok-reading.ensures.text utf8) c.in_ok-listed.ensures
