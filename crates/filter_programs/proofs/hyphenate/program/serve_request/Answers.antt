use Rattle.filter_programs.proofs.hyphenate.program.serve_request.Goals.{else-said, then-said}
use Rattle.std.proofs.{Common.{Bool, ap, inl, ◌∙◌}, KnownBytes.Keeps-refl}
use Rattle.text_filters.specs.Program.{World}
use Rattle.textwrap_hyphens.specs.{Hyphenation.Hyphenation, Table.patterns_view}
use Rattle.filter_programs.proofs.hyphenate.program.serve_request.Goals as goal

pub returns : goal.returns
returns g c =
    let request = c.args.request.now in
    let mid : World = record {
      unread = g.R.ReadWhole.remaining c.args.reader.now;
      files = g.F.Files.past c.read_dictionary.new.files;
      output = g.W.WriteWhole.contents c.args.output.now;
      messages = g.M.WriteWhole.contents c.say_changed-said.new.messages;
    } in
    let is = c.soft_hyphens-patterns.ensures
    ∙ ap (λ (h : Hyphenation). record h { soft_hyphens = request.soft_hyphens })
    (c.table.ensures ∙ c.with_minima-patterns.ensures) in
    inl (
      patterns_view c.in-Ok.patterns,
      c.in-Ok.ensures.read,
      mid,
      c.say_changed-said.result,
      c.serve-ending.result,
      (Keeps-refl mid.unread, c.in-Ok.ensures.kept, Keeps-refl mid.output),
      rw (c.changed.ensures ∙ ap (λ (h : Hyphenation). h.changed) is) at c.say_changed-said.ensures,
      rw is at (rw c.filling.ensures at c.serve-ending.ensures),
      ap (λ (said : Bool). record c.serve-ending.result { said = said }) (elim c.if-said.branch [
        | then-said w ↦ rw w.if-said.true w.result-is
        | else-said w ↦ rw w.if-said.false (w.result-is ∙ w.if-said.false)
      ]),
    )
