use Rattle.text_filters.proofs.program.explain_parse.Goals as goal

pub returns-in-DisplayHelp : goal.returns-in-DisplayHelp
returns-in-DisplayHelp g c = rw c.in-DisplayHelp.is c.show.ensures
