-- What the program leaves behind, and how it ends.
use Rattle.clap.specs.Words.{Row}
use Rattle.filter_programs.specs.FillArguments.{IsRequest, fill_app, help_text, version_text}
use Rattle.filter_programs.specs.{FillFilling.filling, FillWords.spelled_for_fill}
use Rattle.filter_programs.specs.declared.fill.arguments.Request.{Request}
use Rattle.std.specs.Prelude.{◌≡◌, ◌⊎◌, ℕ, List, codes, None}
use Rattle.text_filters.specs.{Arguments.width_in, Messages.AboutText, Messages.joined_texts}
use Rattle.text_filters.specs.{Messages.value_texts, Program.IsFault, Program.OnlySays}
use Rattle.text_filters.specs.{Program.Says, Program.Serves, Program.World, Streams.StreamFaults}
use Rattle.text_filters.specs.{Tool.ExecutesTool, Tool.ToolText, declared.program.Ending.Ending}

abbrev pub fill_about : AboutText
fill_about = record {
  name = codes "textwrap";
  help = help_text;
  version = version_text;
  idle = codes "nothing to fill";
}

-- these matches mean a request, of which each input is treated, or the width is no number, which is
-- said
abbrev pub ServesRows : StreamFaults → List Row → World → World → Ending → Type 0
ServesRows faults rows old new ending =
    ((request : Request) × IsRequest rows request
    × Serves faults fill_about (filling request.filling) request.inputs old new ending)
    ⊎ ((width_in rows ≡ None) × OnlySays old new
    × Says faults.messages (joined_texts (value_texts fill_about rows (codes "width") (codes "a number of 64 bits")))
    old.messages new.messages ending.said
    × IsFault ending)

abbrev pub fill_tool : ToolText
fill_tool = record {
  about = fill_about;
  app = fill_app;
  spelled = spelled_for_fill;
  Serves = ServesRows;
}

-- the whole run over these words
abbrev pub ExecutesFill : StreamFaults → List (List ℕ) → World → World → Ending → Type 0
ExecutesFill faults = ExecutesTool faults fill_tool
