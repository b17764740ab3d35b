use Rattle.textwrap.proofs.Common.{word_view, arith, map}
use Rattle.textwrap_layout.proofs.{Common.AreWordsCut, Paragraph.Pieces.AreWordsCut-texts}
use Rattle.textwrap_hyphens.proofs.SplitPieces.{held-inner}
use Rattle.textwrap_hyphens.specs.{Splitting.ArePointsBy, Table.held}
use Rattle.textwrap_plain.proofs.Pieces.{hyphenated-wide}
use Rattle.textwrap_plain.proofs.parts.HyphenatedParts.divide.Goals as goal

pub returns-clause-only_memory : goal.returns-clause-only_memory
returns-clause-only_memory g c = λ settings paragraph utf8 short are tiles never.
    c.divide.ensures.no_overflow (omega (
      arith,
      hyphenated-wide settings AreWordsCut
          AreWordsCut-texts (ArePointsBy (held c.args.self.now.patterns.now))
          (held-inner c.args.self.now.patterns.now) paragraph (map word_view c.args.pieces.now) utf8 are,
    ))
