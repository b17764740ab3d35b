use Rattle.textwrap_calls.proofs.refilling.textwrap_refill.Goals as goal

pub returns-clause-faults : goal.returns-clause-faults
returns-clause-faults c =
    let told = c.refill_text.ensures.faults in
    let utf8 = c.in-Ok.ensures.1 in
    record {
      unknown = told.unknown;
      not_utf8 = (
        λ is. let (known, none) = told.not_utf8.0 is in (known, λ (_, texts). none texts),
        λ (known, none). told.not_utf8.1 (known, λ texts. none (utf8, texts)),
      );
      statuses = told.statuses;
    }
