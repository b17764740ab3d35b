use Rattle.textwrap.proofs.Common.{option_map}
use Rattle.textwrap_layout.proofs.Common.{broken_pieces_of}
use Rattle.textwrap_layout.proofs.Paragraph.Pieces.{AreWordsCut-texts, split_words-no_penalty}
use Rattle.textwrap_lines.proofs.Common.{Settings, layout_view, pieces_of_words, word_view}
use Rattle.textwrap_lines.proofs.Common.{words_cut, frame_settings, ap, arith, false, map, rules}
use Rattle.textwrap_lines.proofs.Common.{subst, sym, ◌∙◌, ◌≡◌, as_splitter, split_words, AreTexts}
use Rattle.textwrap_lines.proofs.Common.{stand_from}
use Rattle.textwrap_plain.proofs.{Balance.Room.places-widest, Pieces.hyphenated-wide}
use Rattle.textwrap_plain.{proofs.Split.pieces-from, specs.Options.{points_by, split_by_points}}
use Rattle.textwrap_plain.specs.CutSides.{points_by-inner}
use Rattle.textwrap_plain.specs.Widest.{widest_of_words, widest_place}
use Rattle.textwrap_plain.proofs.balancing.widest_in.Goals as goal

pub widest_of_list-requires : goal.widest_of_list-requires
widest_of_list-requires g c =
    let words = g.W.PrintableCuts.words c.args.parts.now.words in
    let are = c.in_ok-pieces-in-OutsideSequences.ensures.pieces in
    rw c.deref.ensures.value (omega (
      arith,
      hyphenated-wide (frame_settings c.of-frame.result) (λ line ws. ws ≡ words line)
          (λ line ws utf8 is. subst (AreTexts line) (sym is)
          (AreWordsCut-texts line (words line) utf8
          (g.met.W.PrintableCuts.are_cut c.args.parts.now.words line utf8)))
          (λ word points. points ≡ points_by c.args.parts.now.splitter word)
          (points_by-inner c.args.parts.now.splitter) c.args.paragraph.now _ c.utf8.paragraph are,
    ))

pub returns-in_ok-found-in-BuiltIn-clause-widest : goal.returns-in_ok-found-in-BuiltIn-clause-widest
returns-in_ok-found-in-BuiltIn-clause-widest g c =
    let paragraph = c.args.paragraph.now in
    let splitter = as_splitter c.in-BuiltIn.splitter in
    let words = g.W.PrintableCuts.words c.args.parts.now.words paragraph in
    let whole : Settings = record (layout_view c.args.layout) { break_words = false } in
    let framed : frame_settings c.of-frame.result ≡ whole = ap layout_view c.of-frame.ensures.layout in
    let cuts : option_map (λ places. places.now) c.as_deref.result
    ≡ option_map (λ cuts. cuts.items) c.in_ok-found-in-BuiltIn.found = search (rules, c.as_deref.ensures) in
    let cut : words_cut (option_map (λ places. places.now) c.as_deref.result) paragraph ≡ words =
    ap (λ cs. words_cut cs paragraph) cuts ∙ c.in_ok-found-in-BuiltIn.ensures.words in
    rw c.in-BuiltIn.is (c.widest_of.ensures ∙ ap widest_place (c.cut_paragraph.ensures
    ∙ ap (λ s. stand_from 0 (pieces_of_words s splitter
    (words_cut (option_map (λ places. places.now) c.as_deref.result) paragraph))) framed
    ∙ ap (λ ws. stand_from 0 (split_words splitter ws)) cut)
    ∙ places-widest 0 (split_words splitter words)
    (split_words-no_penalty (layout_view c.args.layout) splitter paragraph words c.utf8.paragraph
    (AreWordsCut-texts paragraph words c.utf8.paragraph
    (g.met.W.PrintableCuts.are_cut c.args.parts.now.words paragraph c.utf8.paragraph))))

pub returns-in_ok-pieces-in-OutsideSequences-clause-widest :
    goal.returns-in_ok-pieces-in-OutsideSequences-clause-widest
returns-in_ok-pieces-in-OutsideSequences-clause-widest g c =
    let words = g.W.PrintableCuts.words c.args.parts.now.words in
    let whole : Settings = record (layout_view c.args.layout) { break_words = false } in
    let framed : frame_settings c.of-frame.result ≡ whole = ap layout_view c.of-frame.ensures.layout in
    let points = points_by c.args.parts.now.splitter in
    let pieces = map word_view c.in_ok-pieces-in-OutsideSequences.pieces.items in
    c.widest_of_list.ensures
    ∙ ap (λ ps. widest_of_words (map word_view ps)) c.deref.ensures.value
    ∙ ap widest_of_words (pieces-from points (λ line ws. ws ≡ words line) words (λ line ws is. is)
    (frame_settings c.of-frame.result) c.args.paragraph.now pieces
    c.in_ok-pieces-in-OutsideSequences.ensures.pieces
    ∙ ap (λ s. broken_pieces_of s (split_by_points points (words c.args.paragraph.now))) framed)
