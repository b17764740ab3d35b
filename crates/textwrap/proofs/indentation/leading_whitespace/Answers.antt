use Rattle.textwrap.proofs.indentation.leading_whitespace.Goals as goal
use Rattle.textwrap.proofs.Common.{chars_from_encodes, leading_whitespace, encode_utf8_all, length}
use Rattle.textwrap.proofs.Common.{from_start, take, sym, ◌-◌, ◌∙◌, ◌≡◌, ap}
use Rattle.textwrap.proofs.Text.Margins.{leading-cut, leading-len}

pub range-requires-clause-end_boundary : goal.range-requires-clause-end_boundary
range-requires-clause-end_boundary c =
    rw (c.trim_start.ensures.trim, leading-len c.args.line.now c.utf8.line)
    (leading-cut c.args.line.now c.utf8.line).boundary

pub returns : goal.returns
returns c =
    let line = c.args.line.now in
    let len : length line - length c.trim_start.result.now
    ≡ length (encode_utf8_all (leading_whitespace line)) =
    ap (λ t. length line - length t) c.trim_start.ensures.trim ∙ leading-len line c.utf8.line in
    sym (chars_from_encodes (leading_whitespace line) c.range.result.now c.range.utf8
    (sym (c.range.ensures.value ∙ from_start line (length line - length c.trim_start.result.now)
    ∙ ap (λ n. take n line) len
    ∙ (leading-cut line c.utf8.line).front)))
