-- What the program leaves behind, and how it ends.
use Rattle.clap.specs.Words.{Row}
use Rattle.filter_programs.specs.HyphenateArguments.{IsRequest, filling_of, help_text, hyphenate_app}
use Rattle.filter_programs.specs.HyphenateArguments.{name_of, number_if_given, version_text}
use Rattle.filter_programs.specs.HyphenateDictionary.{ReadsNone, ReadsSaid, as_asked}
use Rattle.filter_programs.specs.HyphenateTexts.{hyphenating_by}
use Rattle.filter_programs.specs.declared.hyphenate.arguments.{Count.Count, Request.Request}
use Rattle.filter_programs.specs.declared.hyphenate.dictionary.Failure.{Failure}
use Rattle.filter_programs.specs.declared.hyphenate.dictionary.Failure.TheVariants.{Unread, Wrong}
use Rattle.std.specs.Prelude.{◌≡◌, ◌⊎◌, ◌==◌, ◌&&◌, ◌||◌, ℕ, Bool, List, [], ◌∷◌, codes, decimal, false}
use Rattle.std.specs.Prelude.{Option, None, Err, IfSome}
use Rattle.text_files.specs.Files.{bytes_at}
use Rattle.text_filters.specs.Messages.{AboutText, joined_texts, message_line, value_texts}
use Rattle.text_filters.specs.Program.{IsFault, OnlySays, ReportsInput, Says, SaysUnless, Serves, World}
use Rattle.text_filters.specs.{Streams.StreamFaults, Tool.ExecutesTool, Tool.ToolText}
use Rattle.text_filters.specs.{Words.spelled_out, declared.faults.Fault.TheVariants.Memory}
use Rattle.text_filters.specs.declared.{faults.Reason.Reason, program.Ending.Ending}
use Rattle.textwrap_hyphens.specs.Hyphenation.{Hyphenation}

abbrev pub hyphenate_about : AboutText
hyphenate_about = record {
  name = codes "hyphenate";
  help = help_text;
  version = version_text;
  idle = codes "nothing to hyphenate";
}

-- ---- what is said of a dictionary

-- which line is wrong, and what is wrong, as that is displayed
abbrev pub SaysWrong : (Reason → Type 0) → List ℕ → ℕ → Option (List ℕ) → Option (List ℕ)
    → Option (List ℕ) → Ending → Type 0
SaysWrong messages name line shown old new ending =
    ((text : List ℕ) × IfSome shown (λ bytes. text ≡ bytes)
    × Says messages (message_line hyphenate_about name
    (codes "line " ∷ decimal line ∷ codes ": " ∷ text ∷ [])) old new ending.said
    × IsFault ending)
    ⊎ ReportsInput messages hyphenate_about name (Err Memory) old new ending

abbrev pub Explains : (Reason → Type 0) → List ℕ → Failure → Option (List ℕ) → Option (List ℕ)
    → Ending → Type 0
Explains messages name (Unread fault) old new ending =
    ReportsInput messages hyphenate_about name (Err fault) old new ending
Explains messages name (Wrong line fault) old new ending =
    SaysWrong messages name line None old new ending

-- at how many patterns letters would change, if there are such and nobody asks for quiet
abbrev pub SaysChanged : (Reason → Type 0) → Request → ℕ → Option (List ℕ) → Option (List ℕ) → Bool
    → Type 0
SaysChanged messages request changed =
    SaysUnless messages (request.quiet || (changed == 0))
    (message_line hyphenate_about request.dictionary.now
    (codes "patterns that would change letters, and set no hyphen there: " ∷ decimal changed ∷ []))

-- ---- the whole run

-- it is said how many patterns of the dictionary would change letters, and the inputs are hyphenated by
-- it; or it is said why there is none, and nothing is read or printed
abbrev pub Hyphenates : StreamFaults → Request → World → World → Ending → Type 0
Hyphenates faults request old new ending =
    ((h : Hyphenation) × ReadsSaid (bytes_at old.files request.dictionary.now) h
    × (mid : World) × (said : Bool) × (rest : Ending)
    × OnlySays old mid
    × SaysChanged faults.messages request h.changed old.messages mid.messages said
    × Serves faults hyphenate_about
    (hyphenating_by (filling_of request) (as_asked request h)) request.inputs mid new rest
    × (ending ≡ record rest { said = said && rest.said }))
    ⊎ ((failure : Failure) × ReadsNone (bytes_at old.files request.dictionary.now) failure
    × OnlySays old new
    × Explains faults.messages request.dictionary.now failure old.messages new.messages ending)

-- these matches mean a request, or a value is no number, which is said
abbrev pub ServesRows : StreamFaults → List Row → World → World → Ending → Type 0
ServesRows faults rows old new ending =
    ((request : Request) × IsRequest rows request × Hyphenates faults request old new ending)
    ⊎ ((option : Count) × (number_if_given (name_of option) rows ≡ None) × OnlySays old new
    × Says faults.messages (joined_texts (value_texts hyphenate_about rows (name_of option)
    (codes "a number of 64 bits")))
    old.messages new.messages ending.said
    × IsFault ending)

abbrev pub hyphenate_tool : ToolText
hyphenate_tool = record {
  about = hyphenate_about;
  app = hyphenate_app;
  spelled = spelled_out false;
  Serves = ServesRows;
}

-- the whole run over these words
abbrev pub ExecutesHyphenate : StreamFaults → List (List ℕ) → World → World → Ending → Type 0
ExecutesHyphenate faults = ExecutesTool faults hyphenate_tool
