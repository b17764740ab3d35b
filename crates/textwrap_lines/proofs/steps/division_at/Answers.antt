use Rattle.textwrap_lines.proofs.Common.{IfOk-weaker, StartsWith, word_view, flat_map, rules, arith}
use Rattle.textwrap_lines.proofs.Common.{subst, tiled, flat, List, Word, ◌++◌, Bor, map, ◌∙◌, ap}
use Rattle.textwrap_lines.proofs.steps.division_at.Goals as goal
use Rattle.std.proofs.lemmas.Simd.{map-map}
use Rattle.textwrap_layout.proofs.Paragraph.Widths.{lines-begin}
use Rattle.textwrap_words.proofs.Word.Divisions.{lines_from-begin, lines_from-map}

pub returns-clause-begins : goal.returns-clause-begins
returns-clause-begins g c =
    let (rest, is) = lines_from-begin c.args.pieces.now 0 c.args.ends.now c.requires.ends in
    IfOk-weaker c.lines_between.result _ _ (λ division are. subst (λ text. StartsWith text
    (flat_map (λ line. tiled (map word_view line.now)) division.items)) c.requires.tiles
    (lines-begin (λ (line : Bor (List Word)). line.now) c.args.pieces.now rest division.items
    (ap (λ lines. flat lines ++ rest) are ∙ is))) c.lines_between.ensures.lines

pub returns-clause-lines : goal.returns-clause-lines
returns-clause-lines g c =
    search (rules, arith, map-map, lines_from-map, c.lines_between.ensures.lines)
