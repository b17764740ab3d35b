use Rattle.textwrap_display.proofs.shortening.kept_len.Goals as goal
use Rattle.textwrap_display.proofs.Common.{IsKeptBeginning, indent_len}
use Rattle.textwrap_display.proofs.ShortenedLines.{IsFoundWord, cut-none, kept-cut, kept-none, kept-uncut}
use Rattle.textwrap_display.proofs.ShortenedLines.{kept-within, kept-words, start-boundary, start-is, word-is}
use Rattle.textwrap_display.proofs.shortening.kept_len.Goals.{After-broken_len-broken, After-split_indent}
use Rattle.textwrap_text.proofs.Common.{ap, arith, drop, length, text_width, ◌+◌, ◌∙◌, ◌≡◌}
use Rattle.textwrap_text.proofs.Lists.Parts.{from_start}

pub returns-in_default : goal.returns-in_default
returns-in_default c =
    kept-none (omega (arith, c.in_default.ensures, c.display_width-placeholder.ensures.width))

-- the words that have room beside the placeholder, and where the first word behind them begins
kept : (c : After-split_indent) → IsKeptBeginning c.args.shortening.now.width
    c.args.shortening.now.placeholder.now c.args.line.now c.words_len-words.result
kept c = c.words_len-words.ensures _ _
    (omega (arith, c.in-Some.ensures, c.display_width-placeholder.ensures.width))

start : (c : After-split_indent) → c.words_len-words.result + length c.split_indent.result.0.now
    ≡ c.words_len-words.result + indent_len (drop c.words_len-words.result c.args.line.now)
start c = start-is c.args.line.now c.words_len-words.result c.range_from.ensures.value
    c.split_indent.ensures.indent

pub range-requires-clause-end_boundary : goal.range-requires-clause-end_boundary
range-requires-clause-end_boundary c =
    let at = goal.at.range-requires-clause-end_boundary c in
    start-boundary c.utf8.line (kept at.After-split_indent) (start at.After-split_indent)

pub returns-in_default-checked_sub : goal.returns-in_default-checked_sub
returns-in_default-checked_sub c =
    let at = goal.at.returns-in_default-checked_sub c in
    let words = kept at.After-split_indent in
    let next = start at.After-split_indent in
    let front = ap text_width (c.range.ensures.value ∙ from_start c.args.line.now _) in
    kept-words words next (λ passes. cut-none c.utf8.line words next
    (omega (arith, c.in-Some.ensures, c.in_default-checked_sub.ensures, front)))

-- what is found of that word
found : (c : After-broken_len-broken) → IsFoundWord c.args.shortening.now.width
    c.args.shortening.now.placeholder.now c.args.line.now c.words_len-words.result
    (c.words_len-words.result + length c.split_indent.result.0.now) c.in-Some.room
    c.in-Some-checked_sub.left c.broken_len-broken.result c.split_indent.result.1.now
found c =
    let line = c.args.line.now in
    let words = c.words_len-words.result in
    let is : c.in-Some.room + text_width c.args.shortening.now.placeholder.now ≡ c.args.shortening.now.width =
    omega (arith, c.in-Some.ensures, c.display_width-placeholder.ensures.width) in
    let next = start-is line words c.range_from.ensures.value c.split_indent.ensures.indent in
    let front = ap text_width (c.range.ensures.value ∙ from_start line _) in
    record {
      kept = c.words_len-words.ensures _ _ is;
      next = next;
      text_is = word-is line words c.range_from.ensures.value c.split_indent.ensures.rest next;
      is = is;
      fits = omega (arith, c.in-Some-checked_sub.ensures, c.display_width.ensures.width, front);
      whole = c.broken_len-broken.ensures.whole;
      cut = c.broken_len-broken.ensures.cut;
    }

pub overflow_add-result : goal.overflow_add-result
overflow_add-result c =
    let h = found (goal.at.overflow_add-result c).After-broken_len-broken in
    omega (arith, kept-within c.utf8.line h c.if-broken-eq0.false)

pub returns-then-broken-eq0 : goal.returns-then-broken-eq0
returns-then-broken-eq0 c = kept-uncut c.utf8.line
    (found (goal.at.returns-then-broken-eq0 c).After-broken_len-broken) c.if-broken-eq0.true

pub returns-else-broken-eq0 : goal.returns-else-broken-eq0
returns-else-broken-eq0 c =
    kept-cut c.utf8.line (found (goal.at.returns-else-broken-eq0 c).After-broken_len-broken)
    c.if-not-shortening.false c.if-broken-eq0.false
