-- What the program leaves behind, and how it ends.
use Rattle.clap.specs.Words.{Row}
use Rattle.filter_programs.specs.ReflowArguments.{IsRequest, IsUnfit, help_text, reflow_app, version_text}
use Rattle.filter_programs.specs.{ReflowLayout.reflowing, declared.reflow.arguments.Request.Request}
use Rattle.filter_programs.specs.declared.reflow.arguments.Unfit.{Unfit}
use Rattle.std.specs.Prelude.{◌⊎◌, ℕ, List, codes, false}
use Rattle.text_filters.specs.Messages.{AboutText, joined_texts, value_texts}
use Rattle.text_filters.specs.Program.{IsFault, OnlySays, Says, Serves, World}
use Rattle.text_filters.specs.{Streams.StreamFaults, Tool.ExecutesTool, Tool.ToolText, Words.spelled_out}
use Rattle.text_filters.specs.declared.program.Ending.{Ending}
use Rattle.filter_programs.specs.declared.reflow.arguments.Unfit.TheVariants as unfit

abbrev pub reflow_about : AboutText
reflow_about = record {
  name = codes "reflow";
  help = help_text;
  version = version_text;
  idle = codes "no line begins with what --prefix says";
}

-- which value is not what is wanted
abbrev pub unfit_texts : List Row → Unfit → List (List ℕ)
unfit_texts rows unfit.Width =
    value_texts reflow_about rows (codes "width") (codes "a number of 64 bits")
unfit_texts rows unfit.Lines =
    value_texts reflow_about rows (codes "lines") (codes "two numbers of 64 bits, A:B")

-- these matches mean a request, of which each input is treated, or none, of which it is said why
abbrev pub ServesRows : StreamFaults → List Row → World → World → Ending → Type 0
ServesRows faults rows old new ending =
    ((request : Request) × IsRequest rows request
    × Serves faults reflow_about (reflowing request.layout) request.inputs old new ending)
    ⊎ ((unfit : Unfit) × IsUnfit rows unfit × OnlySays old new
    × Says faults.messages (joined_texts (unfit_texts rows unfit)) old.messages new.messages ending.said
    × IsFault ending)

abbrev pub reflow_tool : ToolText
reflow_tool = record {
  about = reflow_about;
  app = reflow_app;
  spelled = spelled_out false;
  Serves = ServesRows;
}

-- the whole run over these words
abbrev pub ExecutesReflow : StreamFaults → List (List ℕ) → World → World → Ending → Type 0
ExecutesReflow faults = ExecutesTool faults reflow_tool
