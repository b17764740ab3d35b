use Rattle.textwrap_lines.proofs.wrapping.bounds_of.Goals as goal
use Rattle.textwrap_lines.proofs.Common.{IsCharBoundary, IsUtf8-drop, length-append, map, word_view}
use Rattle.textwrap_lines.proofs.Common.{arith, drop, IsUtf8, length, refl, subst, tiled, ◌+◌, ◌≡◌}
use Rattle.textwrap_lines.proofs.Common.{ap}
use Rattle.std.proofs.lemmas.Str.{IsCharBoundary-from_rest}
use Rattle.textwrap_layout.proofs.Paragraph.Covered.{cuts_before_whitespace, IsCharBoundary-whole}
use Rattle.textwrap_layout.proofs.Paragraph.Covered.{IsCharBoundary-cut}

pub returns-clause-bounds : goal.returns-clause-bounds
returns-clause-bounds c =
    let text = c.args.paragraph.now in
    let start = c.args.start in
    let last = c.args.last.now in
    let cut = cuts_before_whitespace (drop start text) _ c.args.front.now last refl
    c.requires.begins in
    let utf8 = IsUtf8-drop text start c.utf8.paragraph c.requires.start in
    let word_utf8 = subst IsUtf8 c.as_bytes.ensures.value c.as_bytes.ensures.utf8 in
    let len = length (tiled (map word_view c.args.front.now)) + length last.word.now in
    let more = length c.as_bytes-2.result.now in
    let word_is : start + len ≡ start + c.tiled_len.result + length c.as_bytes.result.now =
    omega (arith, c.tiled_len.ensures.len, ap length c.as_bytes.ensures.value) in
    let end_is : start + (len + more)
    ≡ start + c.tiled_len.result + length c.as_bytes.result.now + more = omega (arith, word_is) in
    record {
      start = c.requires.start;
      word = subst (IsCharBoundary text) word_is
          (IsCharBoundary-from_rest text start len c.requires.start.0
          (IsCharBoundary-cut _ _ _ _ cut utf8 c.tiled_len.ensures.utf8 word_utf8));
      end = subst (IsCharBoundary text) end_is
          (IsCharBoundary-from_rest text start (len + more) c.requires.start.0
          (IsCharBoundary-whole _ _ _ _ cut utf8 c.tiled_len.ensures.utf8 word_utf8
          c.as_bytes-2.result.now c.as_bytes-2.ensures.value c.as_bytes-2.ensures.utf8));
      some = omega arith;
      order = omega arith;
    }

pub returns-clause-word_end : goal.returns-clause-word_end
returns-clause-word_end c =
    let last = c.args.last.now in
    let cut = cuts_before_whitespace (drop c.args.start c.args.paragraph.now) _ c.args.front.now last
    refl c.requires.begins in
    omega (
      arith,
      c.tiled_len.ensures.len,
      ap length c.as_bytes.ensures.value,
      ap length cut.covers,
      length-append (tiled (map word_view c.args.front.now)) last.word.now,
    )
