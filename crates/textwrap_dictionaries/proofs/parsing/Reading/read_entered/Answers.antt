use Rattle.std.specs.Str.{trim}
use Rattle.textwrap_dictionaries.{proofs.Said.lines-refused, proofs.Said.then-read, specs.Entries.is_list}
use Rattle.textwrap_dictionaries.specs.Parsing.{header_said, listed_said, reading_view, said_in, with_all}
use Rattle.textwrap_dictionaries.specs.declared.entries.Section.{Section}
use Rattle.textwrap_text.proofs.Common.{Ok, if◌then◌else◌, ap, sym, true, ⊤, ◌∙◌, ◌≡◌}
use Rattle.textwrap_dictionaries.proofs.parsing.Reading.read_entered.Goals as goal

pub returns-then-is_list-clause-said : goal.returns-then-is_list-clause-said
returns-then-is_list-clause-said g c =
    let section = c.args.section in
    let line = c.args.line.now in
    let old = reading_view c.args.self.now in
    let is : is_list section ≡ true = cc in
    let same : c.trim.result.now ≡ trim line = cc in
    ap (λ b. with_all c.args.number (if b then listed_said section (trim line) else header_said section line) old) is
    ∙ ap (λ t. with_all c.args.number (listed_said section t) old) (sym same) ∙ c.in_ok-read_listed.ensures

pub returns-in_err-read_listed-clause-said : goal.returns-in_err-read_listed-clause-said
returns-in_err-read_listed-clause-said g c =
    let section = c.args.section in
    let line = c.args.line.now in
    let old = reading_view c.args.self.now in
    let new = reading_view c.read_listed.new.self in
    let is : is_list section ≡ true = cc in
    let same : c.trim.result.now ≡ trim line = cc in
    let first = with_all c.args.number (listed_said section c.trim.result.now) old in
    lines-refused {T = ⊤} (λ _. new) (λ (after : Section). new) first (with_all c.args.number (said_in section line) old)
    (λ k. Ok k) c.in_err-read_listed.field-0.0 c.from_residual.result
    (then-read first ∙ ap (λ t. with_all c.args.number (listed_said section t) old) same
    ∙ ap (λ b. with_all c.args.number (if b then listed_said section (trim line) else header_said section line) old)
    (sym is)) c.in_err-read_listed.ensures c.from_residual.ensures.1
