use Rattle.textwrap_styles.proofs.latest.Later.insert.Goals as goal
use Rattle.std.proofs.lemmas.Map.Text.{is_eq-slice_cmp}
use Rattle.textwrap_styles.proofs.{OpenSettings.{any-replaces, any-unknown, unknown-number}}
use Rattle.textwrap_text.proofs.Common.{◌∙◌, ap, arith, cases_Bool, not, sym, nat_tests}

pub returns-then-is_unknown-clause-fresh : goal.returns-then-is_unknown-clause-fresh
returns-then-is_unknown-clause-fresh g c = λ later are.
    let same = any-unknown c.args.setting.now later in
    let fresh = are.unknown c.args.setting in
    grind (arith, same, fresh, c.if-is_unknown.ensures, c.kind_of-kind.ensures, c.in_ok-insert.ensures.added)

pub returns-then-is_unknown-clause-added : goal.returns-then-is_unknown-clause-added
returns-then-is_unknown-clause-added g c = λ later are.
    let s = c.args.setting.now in
    let unknown = sym (rw c.kind_of-kind.ensures at c.if-is_unknown.ensures) in
    record {
      kinds = λ n below. grind (arith, cases_Bool, nat_tests, unknown, are.kinds n below, unknown-number);
      unknown = λ t.
          let same = is_eq-slice_cmp s t.now in
          grind (arith, cases_Bool, c.in_ok-insert.ensures.updates.0 t, same, are.unknown t, unknown);
    }

pub returns-clause-fresh : goal.returns-clause-fresh
returns-clause-fresh g c = λ later are.
    let known = sym (rw c.kind_of-kind.ensures at c.if-is_unknown.ensures) in
    let own = rw c.kind_of-kind.ensures at (c.take_back-fresh.ensures later are) in
    ap not (own ∙ sym (any-replaces c.args.setting.now later known))
