use Rattle.textwrap_layout.proofs.built_in.BuiltInAnyPartsAny.divide.Goals as goal
use Rattle.textwrap_text.proofs.Common.{arith, List, Bor, Vec, map}
use Rattle.textwrap_layout.proofs.Common.{as_algorithm, as_splitter, ArePoints, AreWordsCut, Word}
use Rattle.textwrap_layout.proofs.Common.{IfOk-weaker, word_view}
use Rattle.textwrap_words.proofs.Word.Pieces.{ArePoints-cuts, ArePoints-hyphens}
use Rattle.textwrap_layout.proofs.Paragraph.Pieces.{AreWordsCut-texts, division-as, pieces-bounded}
use Rattle.textwrap_layout.proofs.Paragraph.Widths.{division-begins, divides-views, only-fitting}
use Rattle.textwrap_layout.proofs.Paragraph.Widths.{only-without, total_width-pieces}

pub returns-clause-begins : goal.returns-clause-begins
returns-clause-begins g c = IfOk-weaker c.wrap.result _ _ (λ lines.
    division-begins (λ (line : Bor (List Word)). line.now) c.wrap_algorithm.result _
    c.args.pieces.now lines.items) c.wrap.ensures.divided

pub returns-clause-divides : goal.returns-clause-divides
returns-clause-divides g c = IfOk-weaker c.wrap.result _ _ (λ lines divided.
    rw (division-as c.wrap_algorithm.result (as_algorithm c.args.self.now.parts.algorithm)
    c.wrap_algorithm.ensures) at
    (divides-views (λ (line : Bor (List Word)). line.now) c.wrap_algorithm.result
    c.args.line_widths.now c.args.pieces.now lines.items divided)) c.wrap.ensures.divided

pub returns-clause-only_memory : goal.returns-clause-only_memory
returns-clause-only_memory g c = λ settings paragraph utf8 short are tiles never.
    let splitter = as_splitter c.args.self.now.parts.splitter in
    let pieces = c.args.pieces.now in
    let bounded = pieces-bounded settings AreWordsCut (ArePoints splitter) AreWordsCut-texts
    (ArePoints-cuts splitter) (ArePoints-hyphens splitter) paragraph (map word_view pieces) utf8
    are in
    only-without c.wrap.result (c.wrap.ensures.no_overflow
    (omega (arith, short, total_width-pieces paragraph pieces bounded tiles)))

pub returns-clause-no_overflow : goal.returns-clause-no_overflow
returns-clause-no_overflow g c = only-fitting (Vec (Bor (List Word)) g.row.A.Denot)
    c.args.pieces.now c.wrap.result c.wrap.ensures.no_overflow
