use Rattle.textwrap_marks.proofs.words.split_at.Goals as goal
use Rattle.std.proofs.lemmas.Str.Pattern.{split_once_first}
use Rattle.textwrap_marks.proofs.{Common.◌==◌, ListLemmas.split-first, ListLemmas.split-one}
use Rattle.textwrap_text.proofs.Common.{None, Some}

pub returns-in-Some-clause-parts : goal.returns-in-Some-clause-parts
returns-in-Some-clause-parts c =
    split-first (λ b. b == c.args.mark) c.args.text.now c.in-Some.part.now c.in-Some.rest.now
    (split_once_first c.args.mark c.args.text.now (Some (c.in-Some.part, c.in-Some.rest))
    c.in-Some.ensures.cases c.requires)

pub returns-in-None-clause-parts : goal.returns-in-None-clause-parts
returns-in-None-clause-parts c =
    split-one (λ b. b == c.args.mark) c.args.text.now
    (split_once_first c.args.mark c.args.text.now None c.in-None.ensures.cases c.requires)
