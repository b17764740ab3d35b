use Rattle.textwrap_layout.proofs.line_sinks.JoinedLinesLineSink.push_line.Goals as goal
use Rattle.textwrap_text.proofs.Common.{on_ok_weaker}
use Rattle.textwrap_layout.proofs.Common.{assembled_line}
use Rattle.textwrap_layout.proofs.Text.Sinks.{assembled-bytes, Pushed-joined}

pub returns-clause-pushed : goal.returns-clause-pushed
returns-clause-pushed g c =
    let line = assembled_line c.args.indent.now c.args.slice.now c.args.penalty.now in
    on_ok_weaker c.add_line.result
    (Pushed-joined c.args.self.now c.add_line.new.self _ c.args.start line
    (assembled-bytes c.args.indent.now c.args.slice.now c.args.penalty.now)) c.add_line.ensures
