use Rattle.textwrap_layout.proofs.paragraph_pieces.cut_paragraph.Goals as goal
use Rattle.textwrap_text.proofs.Common.{Option, arith, subst, List, ap, ℕ}
use Rattle.std.specs.Option.{option_map}
use Rattle.textwrap_layout.proofs.Common.{frame_settings, as_splitter, stand_from, words_cut}
use Rattle.textwrap_layout.proofs.Common.{CanBeCut, cuts_of, words_of}
use Rattle.textwrap_layout.proofs.Paragraph.Pieces.{words_cut-texts, words_of-texts}
use Rattle.textwrap_layout.proofs.Paragraph.Standing.{limited-pieces}

pub of-requires-2 : goal.of-requires-2
of-requires-2 c = subst (λ (places : Option (List ℕ)). CanBeCut places c.args.paragraph.now)
    (ap (option_map (λ places. places.now)) c.in-Some.is) c.requires

pub returns : goal.returns
returns c =
    let text = c.args.paragraph.now in
    let cuts = c.args.cuts.now in
    let named = ap (λ places. words_cut (option_map (λ given. given.now) places) text)
    c.in-Some.is in
    let pieces = limited-pieces (frame_settings c.args.frame.now) (as_splitter cuts.splitter) text
    (words_cut (cuts_of cuts) text) c.utf8.paragraph
    (words_cut-texts (cuts_of cuts) text c.utf8.paragraph c.requires) (omega arith) in
    rw (c.of-2.ensures, c.args.frame.now.front, c.args.frame.now.limited, ← named)
    (ap (stand_from 0) pieces)

pub returns-in_default : goal.returns-in_default
returns-in_default c =
    let text = c.args.paragraph.now in
    let cuts = c.args.cuts.now in
    let named = ap (λ places. words_cut (option_map (λ given. given.now) places) text)
    c.in_default.is in
    rw (c.of.ensures, c.args.frame.now.front, c.args.frame.now.limited, named) (ap (stand_from 0)
    (limited-pieces (frame_settings c.args.frame.now) (as_splitter cuts.splitter) text
    (words_of text) c.utf8.paragraph (words_of-texts text c.utf8.paragraph) (omega arith)))
