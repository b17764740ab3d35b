use Rattle.std.proofs.Common.{IfOk}
use Rattle.textwrap_lines.proofs.Common.{IfOk-weaker, AreTextLines, later_width, line_view}
use Rattle.textwrap_lines.proofs.Common.{arith, map, true, ◌<◌, ◌≡◌, refl}
use Rattle.textwrap_plain.proofs.Words.{AddOnlyHyphens-at, ArePrintedWithin-at, AreTheText-at}
use Rattle.textwrap_plain.proofs.Words.{IsWrapped-at, LinesKeepButHyphens-at, LinesKeepToWidth-at}
use Rattle.textwrap_plain.{proofs.texts.wrap.Goals.After-wrap_by, specs.Options.DividesPlainly}
use Rattle.textwrap_plain.specs.Options.{HasRoomForHyphen, is_dictionary, plain_algorithm, plain_settings}
use Rattle.textwrap_plain.specs.declared.options.PlainOptions.{PlainOptions}
use Rattle.textwrap_plain.proofs.texts.wrap.Goals as goal

lines : (c : After-wrap_by) → IfOk c.wrap_by.result (λ lines.
    AreTextLines (plain_settings c.args.options.now)
    (DividesPlainly c.args.options.now (plain_settings c.args.options.now)) c.args.text.now
    (map line_view lines.items))
lines c =
    let o = c.parts.ensures in
    rw (c.layout.ensures, o.words, o.splitter, o.algorithm) at c.wrap_by.ensures.lines

later-room : (o : PlainOptions) → HasRoomForHyphen o → is_dictionary o.word_splitter ≡ true
    → 0 < later_width (plain_settings o)
later-room o room dictionary = omega (arith, room dictionary)

pub returns-clause-lines : goal.returns-clause-lines
returns-clause-lines c =
    let o = c.args.options.now in
    IfOk-weaker c.wrap_by.result _ _ (λ found.
    IsWrapped-at o.word_separator c.utf8.text o.word_splitter) (lines c)

pub returns-clause-even : goal.returns-clause-even
returns-clause-even c = λ room even first breaks.
    let o = c.args.options.now in
    IfOk-weaker c.wrap_by.result _ _ (λ found.
    LinesKeepToWidth-at o.word_separator c.utf8.text first o.word_splitter refl (later-room o room) even
    breaks) (lines c)

pub returns-clause-printed : goal.returns-clause-printed
returns-clause-printed c = λ room first can.
    let o = c.args.options.now in
    IfOk-weaker c.wrap_by.result _ _ (λ found.
    ArePrintedWithin-at o.word_separator c.utf8.text first o.word_splitter refl (later-room o room) can)
    (lines c)

pub returns-clause-hyphens : goal.returns-clause-hyphens
returns-clause-hyphens c =
    let o = c.args.options.now in
    IfOk-weaker c.wrap_by.result _ _ (λ found.
    AddOnlyHyphens-at o.word_separator o.word_splitter (plain_algorithm o) c.utf8.text) (lines c)

pub returns-clause-spelled : goal.returns-clause-spelled
returns-clause-spelled c =
    let o = c.args.options.now in
    IfOk-weaker c.wrap_by.result _ _ (λ found.
    AreTheText-at o.word_separator o.word_splitter (plain_algorithm o) c.utf8.text) (lines c)

pub returns-clause-keeps : goal.returns-clause-keeps
returns-clause-keeps c = λ first breaks.
    let o = c.args.options.now in
    IfOk-weaker c.wrap_by.result _ _ (λ found.
    LinesKeepButHyphens-at o.word_separator c.utf8.text first o.word_splitter breaks)
    (lines c)
