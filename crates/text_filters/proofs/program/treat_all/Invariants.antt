use Rattle.std.proofs.Common.{◌-◌, ◌≤◌, ◌^◌, drop, false}
use Rattle.text_filters.proofs.TreatedInputs.{HasTreated, texts}
use Rattle.text_filters.specs.{Messages.about_view, Streams.faults_of}
use Rattle.text_filters.proofs.program.treat_all.Given as goal

abbrev pub invariant-loop-name : goal.invariant-loop-name
invariant-loop-name g l =
    (l.ending.replaced ≤ 2 ^ 64 - 1)
    × HasTreated (faults_of g.R.ReadWhole.faults g.W.WriteWhole.faults g.M.WriteWhole.faults) (about_view l.run.about) (g.T.Filter.work l.run.filter.now) l.run.inputs.mode
    (texts l.run.inputs.names.now)
    (texts (drop l.name-index l.name-items)) false
    (record {
      unread = g.R.ReadWhole.remaining l.fn.reader;
      files = g.F.Files.past l.fn.files;
      output = g.W.WriteWhole.contents l.fn.output;
      messages = g.M.WriteWhole.contents l.fn.messages;
    })
    (record {
      unread = g.R.ReadWhole.remaining l.reader;
      files = g.F.Files.past l.files;
      output = g.W.WriteWhole.contents l.output;
      messages = g.M.WriteWhole.contents l.messages;
    })
    l.ending
