use Rattle.textwrap_more_calls.proofs.balancing.textwrap_wrap_balanced.Goals as goal
use Rattle.textwrap_more_calls.proofs.BalanceLemmas.{balanced-count, balanced-written}
use Rattle.textwrap_more_calls.proofs.BalanceLemmas.{refused-not_utf8}
use Rattle.textwrap_text.proofs.Common.{arith, rules}

pub returns-in-Err-clause-faults : goal.returns-in-Err-clause-faults
returns-in-Err-clause-faults c =
    record {
      unknown = search (rules, arith);
      not_utf8 = refused-not_utf8 c.in-Err.ensures.refused;
      statuses = search (rules, arith);
    }

pub returns-clause-balanced : goal.returns-clause-balanced
returns-clause-balanced c =
    balanced-written c.args.options.now c.by_first_fit-options.result c.args.text.now c.in-Ok.width
    c.in-Ok.ensures.balanced c.by_first_fit-options.ensures c.textwrap_wrap_utf8.ensures.wrapped

pub returns-clause-as_many : goal.returns-clause-as_many
returns-clause-as_many c =
    balanced-count c.args.options.now c.by_first_fit-options.result c.args.text.now c.in-Ok.width
    c.in-Ok.ensures.balanced c.by_first_fit-options.ensures c.textwrap_wrap_utf8.ensures.wrapped
