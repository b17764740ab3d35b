use Rattle.textwrap_styles.proofs.styles.OpenStyles.read_parameters.Given as goal
use Rattle.textwrap_styles.{proofs.Common.{is_in_range, open_settings, settings}, specs.OpenStyles.AreOpen}
use Rattle.textwrap_text.proofs.Common.{◌++◌, length, List, list_all, shadow, true, Utf8, ℕ, ◌≡◌}

-- some settings were taken, and those of what is left follow them
abbrev pub invariant-loop-rest : goal.invariant-loop-rest
invariant-loop-rest g l = record {
  takes : (before : List (List ℕ)) → AreOpen (open_settings before) l.fn.self
      → (taken : List (List ℕ)) × AreOpen (open_settings (before ++ taken)) l.self
      × (settings l.fn.parameters ≡ taken ++ settings l.left);
  range : list_all (is_in_range 0x30 0x3B) l.left ≡ true;
  utf8 : shadow (Utf8 l.left);
  link : l.self.link ≡ l.fn.self.link;
  links : l.self.links ≡ l.fn.self.links;
}

abbrev pub decreases-loop-rest : goal.decreases-loop-rest
decreases-loop-rest g l = length l.left
