-- Lemmas on inputs that are treated one after another.
use Rattle.std.proofs.{KnownBytes.Keeps-refl, Math.Bool.and-true, Math.Bool.and_assoc, lemmas.List.at_drop_more}
use Rattle.text_filters.specs.{Filter.Work, Messages.AboutText, Messages.is_closed, Program.ReportsInput}
use Rattle.text_filters.specs.Program.{SameWorld, TreatsAll, TreatsName, World, all_well, joined, shown_name}
use Rattle.text_filters.specs.{Streams.StreamFaults, declared.arguments.Mode.Mode, declared.faults.Fault.Fault}
use Rattle.text_filters.specs.declared.{inputs.Treated.Treated, program.Ending.Ending}
use Rattle.textwrap_text.proofs.Common.{◌≡◌, ◌∙◌, ap, ap₂, refl, sym, subst, ℕ, ◌+◌, ◌<◌, ◌≤◌, max, arith, Bool}
use Rattle.textwrap_text.proofs.Common.{false, true, ◌-◌, ◌^◌, min, List, [], ◌∷◌, length, map, drop, get_or, Bor}
use Rattle.textwrap_text.proofs.Common.{Result, drop_all}

-- ---- how a run ends that goes on

abbrev ending_of : ℕ → Bool → ℕ → Ending
ending_of status said replaced = record { status = status; said = said; replaced = replaced }

same-ending : {s t m n : ℕ} {a b : Bool} → s ≡ t → a ≡ b → m ≡ n
    → ending_of s a m ≡ ending_of t b n
same-ending {s} {t} {m} {n} {a} {b} status said replaced =
    ap₂ (λ s b. ending_of s b m) status said ∙ ap (ending_of t b) replaced

joined-joined : (a b c : Ending) → joined a (joined b c) ≡ joined (joined a b) c
joined-joined a b c =
    let statuses : max a.status (max b.status c.status) ≡ max (max a.status b.status) c.status
    = omega arith in
    let most : ℕ = 2 ^ 64 - 1 in
    let counts : min (a.replaced + min (b.replaced + c.replaced) most) most
    ≡ min (min (a.replaced + b.replaced) most + c.replaced) most = omega arith in
    same-ending statuses (sym (and_assoc a.said b.said c.said)) counts

-- after it nothing happened
joined-all_well : (a : Ending) → a.replaced ≤ 2 ^ 64 - 1 → joined a all_well ≡ a
joined-all_well a within =
    let status : max a.status 0 ≡ a.status = omega arith in
    let count : min (a.replaced + 0) (2 ^ 64 - 1) ≡ a.replaced = omega (arith, within) in
    same-ending status (and-true a.said) count

-- before it nothing happened
joined-first : (a : Ending) → a.replaced ≤ 2 ^ 64 - 1 → joined all_well a ≡ a
joined-first a within =
    let status : max 0 a.status ≡ a.status = omega arith in
    let count : min (0 + a.replaced) (2 ^ 64 - 1) ≡ a.replaced = omega (arith, within) in
    same-ending status refl count

-- ---- one input after another

abbrev pub texts : List (Bor (List ℕ)) → List (List ℕ)
texts = map (λ text. text.now)

module _ (faults : StreamFaults) (about : AboutText) (work : Work) (mode : Mode) where
  -- what was done so far, and then any right treatment of the inputs that are left, is a right
  -- treatment of all
  abbrev pub HasTreated : List (List ℕ) → List (List ℕ) → Bool → World → World → Ending → Type 0
  HasTreated all left closed start so_far ending =
      (end : World) (rest : Ending) → TreatsAll faults about work mode left closed so_far end rest
      → TreatsAll faults about work mode all false start end (joined ending rest)

  -- how many were replaced is a number of 64 bits
  within : (names : List (List ℕ)) (start end : World) (rest : Ending)
      → TreatsAll faults about work mode names false start end rest → rest.replaced ≤ 2 ^ 64 - 1
  within [] start end rest (same, well) = subst (λ e. e.replaced ≤ 2 ^ 64 - 1) (sym well) (omega arith)
  within (name ∷ names) start end rest (mid, result, first, more, treats, reports, others, is) =
      subst (λ e. e.replaced ≤ 2 ^ 64 - 1) (sym is) (omega arith)

  -- at first nothing was done
  pub HasTreated-none : (all left : List (List ℕ)) (start : World) (ending : Ending) → left ≡ all
      → ending ≡ all_well → HasTreated all left false start start ending
  HasTreated-none all left start ending same well end rest treats =
      let of_all = subst (λ names. TreatsAll faults about work mode names false start end rest) same treats in
      subst (TreatsAll faults about work mode all false start end)
      (sym (ap (λ first. joined first rest) well
      ∙ joined-first rest (within left start end rest treats))) of_all

  -- one input more
  HasTreated-one : (all : List (List ℕ)) (name : List ℕ) (left : List (List ℕ))
      (start old mid : World) (ending first : Ending) (result : Result Treated Fault)
      → HasTreated all (name ∷ left) false start old ending
      → TreatsName faults work mode name old mid result
      → ReportsInput faults.messages about (shown_name name) result old.messages mid.messages first
      → HasTreated all left (is_closed result) start mid (joined ending first)
  HasTreated-one all name left start old mid ending first result so_far treats reports end rest
      others =
      subst (TreatsAll faults about work mode all false start end) (joined-joined ending first rest)
      (so_far end (joined first rest) (mid, result, first, rest, treats, reports, others, refl))

  pub HasTreated-next : (all : List (List ℕ)) (names : List (Bor (List ℕ))) (index : ℕ)
      (default : Bor (List ℕ)) (shown : List ℕ) (start old mid : World) (ending first next : Ending)
      (result : Result Treated Fault) (closed : Bool) → index < length names
      → HasTreated all (texts (drop index names)) false start old ending
      → TreatsName faults work mode (get_or names index default).now old mid result
      → shown ≡ shown_name (get_or names index default).now
      → ReportsInput faults.messages about shown result old.messages mid.messages first
      → next ≡ joined ending first → closed ≡ is_closed result
      → HasTreated all (texts (drop (index + 1) names)) closed start mid next
  HasTreated-next all names index default shown start old mid ending first next result closed within
      so_far treats is reports goes ends =
      let name = (get_or names index default).now in
      let left = texts (drop (index + 1) names) in
      let before = subst (λ names. HasTreated all names false start old ending)
      (at_drop_more texts names index default within) so_far in
      let reported = subst (λ name. ReportsInput faults.messages about name result old.messages mid.messages first) is reports in
      subst (HasTreated all left closed start mid) (sym goes)
      (subst (λ c. HasTreated all left c start mid (joined ending first)) (sym ends)
      (HasTreated-one all name left start old mid ending first result before treats reported))

  SameWorld-refl : (world : World) → SameWorld world world
  SameWorld-refl world = (
    Keeps-refl world.unread,
    refl,
    Keeps-refl world.output,
    Keeps-refl world.messages,
  )

  -- no further input is treated
  treats-none : (left : List (List ℕ)) (end : World)
      → TreatsAll faults about work mode left true end end all_well
  treats-none [] end = (SameWorld-refl end, refl)
  treats-none (name ∷ left) end = (SameWorld-refl end, refl)

  pub HasTreated-closed : (all left : List (List ℕ)) (start end : World) (ending : Ending)
      → ending.replaced ≤ 2 ^ 64 - 1 → HasTreated all left true start end ending
      → TreatsAll faults about work mode all false start end ending
  HasTreated-closed all left start end ending least so_far =
      subst (TreatsAll faults about work mode all false start end) (joined-all_well ending least)
      (so_far end all_well (treats-none left end))

  -- and no input is left
  pub HasTreated-all : (all : List (List ℕ)) (names : List (Bor (List ℕ))) (index : ℕ)
      (start end : World) (ending : Ending) → length names ≤ index → ending.replaced ≤ 2 ^ 64 - 1
      → HasTreated all (texts (drop index names)) false start end ending
      → TreatsAll faults about work mode all false start end ending
  HasTreated-all all names index start end ending past least so_far =
      let none = subst (λ left. HasTreated all (texts left) false start end ending)
      (drop_all index names past) so_far in
      subst (TreatsAll faults about work mode all false start end) (joined-all_well ending least)
      (none end all_well (SameWorld-refl end, refl))
