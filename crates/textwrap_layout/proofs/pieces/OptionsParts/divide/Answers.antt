use Rattle.textwrap_layout.proofs.pieces.OptionsParts.divide.Goals as goal
use Rattle.textwrap_text.proofs.Common.{List, Bor, Vec}
use Rattle.textwrap_layout.proofs.Common.{IfOk-weaker, word_view, Word, sizes_of}
use Rattle.textwrap_layout.proofs.Paragraph.Widths.{overflow-optimal, division-begins, divides-views}
use Rattle.textwrap_layout.proofs.Paragraph.Widths.{only-fitting, only-memory}

pub returns-clause-begins : goal.returns-clause-begins
returns-clause-begins g c = IfOk-weaker c.wrap.result _ _ (λ lines.
    division-begins (λ (line : Bor (List Word)). line.now) c.args.self.now.wrap_algorithm
    c.args.line_widths.now c.args.pieces.now lines.items)
    c.wrap.ensures.divided

pub returns-clause-divides : goal.returns-clause-divides
returns-clause-divides g c = IfOk-weaker c.wrap.result _ _ (λ lines.
    divides-views (λ (line : Bor (List Word)). line.now) c.args.self.now.wrap_algorithm
    c.args.line_widths.now c.args.pieces.now lines.items) c.wrap.ensures.divided

pub returns-clause-only_memory : goal.returns-clause-only_memory
returns-clause-only_memory g c = λ settings paragraph utf8 short are tiles never.
    only-memory c.args.self.now (Vec (Bor (List Word)) g.row.A.Denot) settings paragraph
    c.args.pieces.now c.wrap.result utf8 short are tiles (λ overflowed.
    overflow-optimal c.args.self.now.wrap_algorithm (λ word. sizes_of (word_view word)) _
    c.args.pieces.now (c.wrap.ensures.overflow_only overflowed))
    c.wrap.ensures.no_overflow never

pub returns-clause-no_overflow : goal.returns-clause-no_overflow
returns-clause-no_overflow g c = only-fitting (Vec (Bor (List Word)) g.row.A.Denot)
    c.args.pieces.now c.wrap.result c.wrap.ensures.no_overflow
