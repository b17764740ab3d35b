use Rattle.textwrap_display.proofs.tabs.push_expanded.Given as goal
use Rattle.textwrap_display.specs.Tabs.{expanded_tabs}
use Rattle.textwrap_text.proofs.Common.{Utf8, length, shadow, string_bytes, ◌++◌, ◌≡◌}

-- what is expanded so far, and then what is left, is what was there and the whole
abbrev pub invariant-loop-part : goal.invariant-loop-part
invariant-loop-part g l = record {
  whole : string_bytes l.expanded ++ expanded_tabs l.stop l.rest
      ≡ string_bytes l.fn.expanded ++ expanded_tabs l.fn.stop l.fn.text;
  utf8 : shadow (Utf8 l.rest);
}

abbrev pub decreases-loop-part : goal.decreases-loop-part
decreases-loop-part g l = length l.rest
