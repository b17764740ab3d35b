use Rattle.textwrap_display.proofs.tabs.push_expanded.Goals as goal
use Rattle.std.proofs.{Common.lit<, lemmas.Str.Pattern.split_once_first}
use Rattle.textwrap_display.proofs.TabTexts.{expanded-last, expanded-next}
use Rattle.textwrap_text.proofs.Common.{None, Some, append_assoc, refl, rules}

pub loop-part-init : goal.loop-part-init
loop-part-init g c = record { whole = refl; utf8 = c.utf8.text }

pub loop-part-preserved : goal.loop-part-preserved
loop-part-preserved g c = record {
  whole =
      let cut = split_once_first 9 c.loop-part.rest.now (Some (c.in-Some.part, c.in-Some.after))
      c.in-Some.ensures.cases (lit< tt) in
      rw (c.in_ok-push_filled_up.ensures, append_assoc, ← expanded-next c.args.stop _ _ _ cut)
      c.loop-part.invariant.whole;
  utf8 = search rules;
}

pub returns : goal.returns
returns g c =
    let all = split_once_first 9 c.loop-part.rest.now None c.in_default.ensures.cases (lit< tt) in
    rw c.in_ok-push_str.ensures.bytes (rw (expanded-last c.args.stop _ all) at c.loop-part.invariant.whole)
