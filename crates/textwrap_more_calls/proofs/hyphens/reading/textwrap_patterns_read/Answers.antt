use Rattle.std.proofs.Common.{◌≡◌, ◌∙◌, ap, subst, sym, false, List, ℕ, Ok, Err}
use Rattle.textwrap_dictionaries.specs.Parsing.{Outcome, parsed}
use Rattle.textwrap_hyphens.specs.{Hyphenation.Hyphenation, Parsed.Holds}
use Rattle.textwrap_hyphens.specs.Table.{held_in, patterns_view}
use Rattle.textwrap_more_calls.specs.Dictionaries.{AreNumbersOf}
use Rattle.textwrap_more_calls.proofs.hyphens.reading.textwrap_patterns_read.Goals as goal

-- what is listed says nothing of parts of words, so numbers that hold it need not either
Holds-numbers : (outcome : Outcome) (h : Hyphenation) (words : List ℕ) → Holds outcome h
    → h ≡ held_in words h.in_parts → Holds outcome (held_in words false)
Holds-numbers (Ok d) h words same held =
    sym (held ∙ ap (held_in words) (ap (λ h. h.in_parts) same)) ∙ same
Holds-numbers (Err error) h words none held = absurd none

pub returns-in-Ok-parse-clause-read : goal.returns-in-Ok-parse-clause-read
returns-in-Ok-parse-clause-read c =
    let words = c.words.result.now in
    let says = subst (λ text. Holds (parsed text) (held_in words false)) c.in-Ok.ensures.0
    (Holds-numbers (parsed c.in-Ok.text.now) (patterns_view c.in-Ok-parse.patterns) words
    c.in-Ok-parse.ensures c.words.ensures.held) in
    let put = c.put.ensures.text in
    record {
      written = λ status. let (answer, is, len, room, small) = put.written status in (
        answer,
        subst (AreNumbersOf c.args.text.now) (sym is)
            (record { sealed = c.words.ensures.sealed; says = says }),
        len,
        room,
        small,
      );
      kept = put.kept;
      kept_len = put.kept_len;
    }
