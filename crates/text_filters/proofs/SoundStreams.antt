-- Over streams that do not fail, what the standard input becomes is printed, or it is said why not.
use Rattle.std.proofs.Common.{◌≡◌, ◌∙◌, ap, arith, inl, inr, max, refl, subst, ℕ, Bool, true, false}
use Rattle.std.proofs.Common.{List, [], ◌∷◌, Option, Result, Ok, Err, IfErr, ◌⊎◌, if◌then◌else◌}
use Rattle.std.proofs.{KnownBytes.Appends-kept, KnownBytes.Keeps-trans, Math.Bool.and-true}
use Rattle.std.specs.Io.KnownBytes.{Appends, Keeps}
use Rattle.text_filters.specs.{Filter.Work, Inputs.Prints, Laws.PrintsNothing, Laws.PrintsText}
use Rattle.text_filters.specs.{Laws.SaysIfIdle, Laws.SoundStreamsAreServed, Messages.AboutText}
use Rattle.text_filters.specs.{Messages.fault_texts, Messages.message_line, Program.ReportsInput}
use Rattle.text_filters.specs.Program.{Says, SaysUnless, World, all_well, joined, standard_input}
use Rattle.text_filters.specs.{Streams.IsPossible, Streams.NoReason, declared.faults.Fault.Fault}
use Rattle.text_filters.specs.declared.faults.Fault.TheVariants.{Memory, NotUtf8, Output, Read, Write}
use Rattle.text_filters.specs.declared.{inputs.Treated.Treated, program.Ending.Ending}

-- what is said where messages cannot fail
is-said : (text : List ℕ) (old new : Option (List ℕ)) (said : Bool) → Says NoReason text old new said
    → Appends old new text × (said ≡ true)
is-said text old new true appends = (appends, refl)
is-said text old new false (prefix, (reason, none)) = absurd none

module _ (about : AboutText) (work : Work) (old mid new : World) (first ending : Ending)
    (output_kept : Keeps mid.output new.output) (messages_kept : Keeps mid.messages new.messages)
    (is : ending ≡ joined first all_well) where
  abbrev Served : Type 0
  Served =
      (PrintsText about work old new ending ⊎ PrintsNothing about old new ending)
      × (ending.said ≡ true)

  said : first.said ≡ true → ending.said ≡ true
  said first_said = ap (λ e. e.said) is ∙ and-true first.said ∙ first_said

  status : (n : ℕ) → first.status ≡ n → ending.status ≡ n
  status n first_status =
      let top : max first.status 0 ≡ first.status = omega arith in
      ap (λ e. e.status) is ∙ top ∙ first_status

  abbrev idle_text : List ℕ
  idle_text = message_line about standard_input (about.idle ∷ [])

  idle : (applies : Bool)
      → SaysUnless NoReason applies idle_text old.messages mid.messages first.said
      → SaysIfIdle about applies old.messages new.messages × (ending.said ≡ true)
  idle true (kept, is_said) =
      (Keeps-trans old.messages mid.messages new.messages kept messages_kept, said is_said)
  idle false says =
      let (appends, first_said) = is-said idle_text old.messages mid.messages first.said says in
      (Appends-kept old.messages mid.messages new.messages idle_text appends messages_kept, said first_said)

  told : (fault : Fault)
      → Says NoReason (message_line about standard_input (fault_texts fault)) old.messages mid.messages
      first.said → first.status ≡ 2
      → Appends old.messages new.messages (message_line about standard_input (fault_texts fault))
      × (ending.said ≡ true) × (ending.status ≡ 2)
  told fault says is_status =
      let (appends, first_said) = is-said _ old.messages mid.messages first.said says in (
        Appends-kept old.messages mid.messages new.messages (message_line about standard_input (fault_texts fault)) appends messages_kept,
        said first_said,
        status 2 is_status,
      )

  served : (result : Result Treated Fault)
      → Prints work old.unread mid.unread old.output mid.output result
      → IfErr result (IsPossible NoReason NoReason)
      → ReportsInput NoReason about standard_input result old.messages mid.messages first → Served
  served (Ok treated) (input, output, reads, appends, changes, applies, replaced) possible (says, is_status, count) =
      let (says_idle, is_said) = idle treated.applies says in (
        inl (
          mid.unread,
          input,
          output,
          reads,
          Appends-kept old.output mid.output new.output output appends output_kept,
          subst (λ a. SaysIfIdle about a old.messages new.messages) applies says_idle,
          status 0 (is_status ∙ ap (λ b. if b then 1 else 0) changes),
        ),
        is_said,
      )
  served (Err (Read reason)) prints possible reports = absurd possible
  served (Err (Output reason)) prints possible reports = absurd possible
  served (Err (Write reason)) prints possible reports = absurd prints
  served (Err Memory) kept possible (says, is_status, count) =
      let (appends, is_said, ends) = told Memory says is_status in (
        inr (Memory, tt, Keeps-trans old.output mid.output new.output kept output_kept, appends, ends),
        is_said,
      )
  served (Err (NotUtf8 valid)) (none, kept) possible (says, is_status, count) =
      let (appends, is_said, ends) = told (NotUtf8 valid) says is_status in (
        inr (
          NotUtf8 valid,
          (mid.unread, none),
          Keeps-trans old.output mid.output new.output kept output_kept,
          appends,
          ends,
        ),
        is_said,
      )

pub are-served : (work : Work) → SoundStreamsAreServed work
are-served work about old new ending (mid, result, first, rest, ((files, prints), possible), reports, ((unread_kept, same, output_kept, messages_kept), well), is) =
    served about work old mid new first ending output_kept messages_kept
    (subst (λ r. ending ≡ joined first r) well is) result prints possible reports
