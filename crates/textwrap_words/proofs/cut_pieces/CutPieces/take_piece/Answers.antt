use Rattle.textwrap_text.proofs.Common.{arith, map, rules, slice_range, ◌+◌, ◌-◌, ◌≡◌}
use Rattle.textwrap_words.proofs.{Common.word_of, Word.SplitParts.within-stands}
use Rattle.textwrap_words.proofs.Common.{as_splitter, broken_words, parts_after, split_words}
use Rattle.textwrap_words.proofs.cut_pieces.CutPieces.take_piece.Goals as goal

pub returns : goal.returns
returns c =
    let self = c.args.self.now in
    let text = self.text.now in
    let splitter = as_splitter self.splitter in
    let limit = self.limit in
    let piece = c.next_within-piece.result in
    let word = slice_range text self.start self.end in
    let others = broken_words limit (split_words splitter
    (map word_of (parts_after self.end self.cuts.now text))) in
    let place : self.start + piece.end - self.start ≡ piece.end = omega arith in
    search (rules, arith, within-stands)
