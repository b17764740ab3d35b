-- What the calls on one paragraph promise.
use Rattle.std.specs.Prelude.{◌≡◌, List, length, take, Result, OnOk, OnErr}
use Rattle.std.specs.declared.borrow.CowStr.{CowStr}
use Rattle.textwrap_base.specs.declared.errors.WrapError.{WrapError}
use Rattle.textwrap_base.specs.Errors.{OnlyMemoryRunsOut}
use Rattle.textwrap_layout.specs.Paragraph.{LineParts, Adds}

-- at Ok such lines follow those that were there, at Err these stay; where widths can't overflow,
-- memory alone may run out
pub record AppendsLines {Z A : Type 0} (Overflow : Type 0) (Are : List LineParts → Type 0)
    (old new : List (CowStr Z)) (result : Result A WrapError) : Type 0 where
  pub lines : OnOk result ((parts : List LineParts) × Are parts × Adds old new parts)
  pub kept : OnOk result (take (length old) new ≡ old)
  pub unchanged : OnErr result (new ≡ old)
  pub only_memory : ¬ Overflow → OnlyMemoryRunsOut result
