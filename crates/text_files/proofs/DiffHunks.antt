-- The hunks of lines with signs: stretches that are near a change, which patch the text.
use Rattle.std.proofs.{Common.IsTrue, Math.Logic.⊎_map, lemmas.List.{take_rest, drop-map}}
use Rattle.std.specs.List.{slice_range}
use Rattle.textwrap_text.proofs.Common.{◌≡◌, ◌∙◌, ap, refl, sym, subst, ℕ, ◌+◌, ◌-◌, ◌<◌, ◌≤◌, arith, false}
use Rattle.textwrap_text.proofs.Common.{zero, ◌⊎◌, inl, inr, List, [], ◌∷◌, ◌++◌, length, take, drop, map}
use Rattle.textwrap_text.proofs.Common.{get_or, All, ap₂, suc, All-cons, All-nil, flat_map, append_assoc}
use Rattle.textwrap_text.proofs.Common.{append-nil, get_or-drop, get_or-take, length-drop, length-append}
use Rattle.textwrap_text.proofs.Common.{length-take, take-map, drop_split, false_from_ne_true}
use Rattle.text_files.proofs.DiffLines.{change-within, news-append, news-le, olds-append, olds-le}
use Rattle.text_files.specs.Differences.{AreLean, ArePushed, AreApart, HasContext, HunkText, IsDiff, IsNear}
use Rattle.text_files.specs.Differences.{IsTight, Patches, SignedText, hunk_text, head_text, line_text}
use Rattle.text_files.specs.Differences.{range_text, signed_view, is_change, new_end, news, old_end, olds}
use Rattle.text_files.specs.Differences.{sign_at}
use Rattle.text_files.specs.declared.differences.{Sign.Sign, Sign.TheVariants.Kept, SignedLine.SignedLine}

-- ---- lines that are kept

kept-same : (lines : List SignedText)
    → ((k : ℕ) → k < length lines → is_change (sign_at lines k) ≡ false)
    → (news lines ≡ olds lines) × (length (olds lines) ≡ length lines)
kept-same [] kept = (refl, refl)
kept-same (line ∷ lines) kept =
    grind (arith, kept 0 (omega arith), kept-same lines (λ k below. kept (suc k) (omega arith)))

-- ---- tests and numbers

pub not_below : (n m : ℕ) → (n < m → ⊥) → m ≤ n
not_below n m less = omega (arith, less)

not_above : (n m : ℕ) → (m ≤ n → ⊥) → n < m
not_above n m more = omega (arith, more)

-- ---- a part of the lines

pub sign_at-part : (lines : List SignedText) (first last k : ℕ) → k < last - first
    → sign_at (slice_range lines first last) k ≡ sign_at lines (first + k)
sign_at-part lines first last k within =
    let signs : List Sign = map (λ s. s.sign) lines in
    let cut : map (λ s. s.sign) (slice_range lines first last) ≡ take (last - first) (drop first signs)
    = sym (take-map (λ s. s.sign) (last - first) (drop first lines))
    ∙ ap (take (last - first)) (sym (drop-map (λ s. s.sign) first lines)) in
    ap (λ ss. get_or ss k Kept) cut
    ∙ get_or-take (last - first) (drop first signs) k Kept within
    ∙ get_or-drop first signs k Kept

length-part : (lines : List SignedText) (first last : ℕ) → first ≤ last → last ≤ length lines
    → length (slice_range lines first last) ≡ last - first
length-part lines first last order within = grind (arith, length-take, length-drop)

abbrev pub hunk_at : ℕ → ℕ → List SignedText → HunkText
hunk_at old_start new_start lines =
    record { old_start = old_start; new_start = new_start; lines = lines }

module _ (lines : List SignedText) where
  -- none of these lines is near a change
  abbrev pub AreFar : ℕ → ℕ → Type 0
  AreFar first last = (k : ℕ) → k < last → first ≤ k → ¬ IsNear lines k

  -- a line that is not near a change is none
  far-kept : (first last k : ℕ) → first ≤ last → k < last - first → AreFar first last
      → is_change (sign_at (slice_range lines first last) k) ≡ false
  far-kept first last k order below far =
      rw (sign_at-part lines first last k below)
      (false_from_ne_true (is_change (sign_at lines (first + k))) (λ change. far (first + k)
      (omega arith) (omega arith) (first + k, change, omega arith, omega arith)))

  far-same : (first last : ℕ) → first ≤ last → last ≤ length lines → AreFar first last
      → (news (slice_range lines first last) ≡ olds (slice_range lines first last))
      × (length (olds (slice_range lines first last)) ≡ last - first)
  far-same first last order within far =
      let part : List SignedText = slice_range lines first last in
      let len : length part ≡ last - first = length-part lines first last order within in
      let same = kept-same part (λ k below. far-kept first last k order (omega arith) far) in
      (same.0, same.1 ∙ len)

  -- ---- stretches of lines near a change

  near-part : (first last at : ℕ) → first < last → at < last - first
      → (0 < first → ¬ IsNear lines (first - 1))
      → (last < length lines → ¬ IsNear lines last)
      → IsNear lines (first + at) → IsNear (slice_range lines first last) at
  near-part first last at some below before behind (change, is, above, under) =
      let within : change < length lines = change-within lines change is in
      let past : first ≤ change = not_below change first
      (λ less. before (omega arith) (change, is, omega arith, omega arith)) in
      let short : change < last = not_above change last
      (λ more. behind (omega arith) (change, is, omega arith, omega arith)) in
      let here : sign_at (slice_range lines first last) (change - first) ≡ sign_at lines change =
      sign_at-part lines first last (change - first) (omega arith)
      ∙ ap (sign_at lines) (let whole : first + (change - first) ≡ change = omega arith in whole) in
      (change - first, ap is_change here ∙ is, omega arith, omega arith)

  -- a stretch of lines near a change, with none before it and behind it, is tight
  pub tight-part : (first last : ℕ) → first < last → last ≤ length lines
      → ((k : ℕ) → k < last → first ≤ k → IsNear lines k)
      → (0 < first → ¬ IsNear lines (first - 1))
      → (last < length lines → ¬ IsNear lines last)
      → IsTight (slice_range lines first last)
  tight-part first last some within near before behind = grind (arith, length-part, near-part, some)

  -- ---- what stands around a change

  before-change : (first change : ℕ) → (0 < first → ¬ IsNear lines (first - 1))
      → IsTrue (is_change (sign_at lines (first + change))) → (first ≡ 0) ⊎ (3 ≤ change)
  before-change zero change before is = inl refl
  before-change (suc first) change before is = grind arith

  behind-change : (left first last change : ℕ) → left ≡ length lines - last → last ≤ length lines
      → first + change < last → (last < length lines → ¬ IsNear lines last)
      → IsTrue (is_change (sign_at lines (first + change)))
      → (last ≡ length lines) ⊎ (change + 3 < last - first)
  behind-change zero first last change left_is within below behind is = inl (omega arith)
  behind-change (suc left) first last change left_is within below behind is =
      inr (not_above (change + 3) (last - first) (λ more. behind (omega arith)
      (first + change, is, omega arith, omega arith)))

  -- three lines of the stretch from `first` to `last`, or what the texts begin or end with
  abbrev pub HasAround : ℕ → ℕ → List SignedText → Type 0
  HasAround first last part =
      (change : ℕ) → IsTrue (is_change (sign_at part change))
      → ((first ≡ 0) ⊎ (3 ≤ change)) × ((last ≡ length lines) ⊎ (change + 3 < last - first))

  around-part : (first last : ℕ) → first < last → last ≤ length lines
      → (0 < first → ¬ IsNear lines (first - 1)) → (last < length lines → ¬ IsNear lines last)
      → HasAround first last (slice_range lines first last)
  around-part first last some within before behind =
      grind (arith, length-part, change-within, sign_at-part, before-change, behind-change)

  -- ---- a hunk

  -- from a place on, so far into both texts, the next hunk has the lines from `first` to `last`
  pub record IsHunkOf (at old_at new_at first last : ℕ) (hunk : HunkText) : Type 0 where
    pub from : at ≤ first
    pub some : first < last
    pub within : last ≤ length lines
    pub far : AreFar at first
    pub apart : 0 < at → at < first
    pub has : hunk.lines ≡ slice_range lines first last
    pub old_start : hunk.old_start ≡ old_at + (first - at)
    pub new_start : hunk.new_start ≡ new_at + (first - at)
    pub tight : IsTight hunk.lines
    pub around : HasAround first last hunk.lines

  -- found by where a line near a change comes next, and then one that is not
  pub hunk-found : (at old_at new_at first last : ℕ) (part : List SignedText)
      → part ≡ slice_range lines first last → at ≤ first → first < last → last ≤ length lines
      → AreFar at first → IsNear lines first
      → ((k : ℕ) → k < last → first ≤ k → IsNear lines k)
      → (last < length lines → ¬ IsNear lines last)
      → (0 < at → at < length lines → ¬ IsNear lines at)
      → IsHunkOf at old_at new_at first last
      (hunk_at (old_at + (first - at)) (new_at + (first - at)) part)
  hunk-found at old_at new_at first last part is from some within far here near behind edge =
      let apart : 0 < at → at < first = λ positive. not_above at first
      (λ more. let same : first ≡ at = omega arith in
      edge positive (omega arith) (subst (IsNear lines) same here)) in
      let before : 0 < first → ¬ IsNear lines (first - 1) = λ positive.
      let less : at < first = not_above at first
      (λ more. let again : at < first = apart (omega arith) in omega arith) in
      far (first - 1) (omega arith) (omega arith) in
      record {
        from = from;
        some = some;
        within = within;
        far = far;
        apart = apart;
        has = is;
        old_start = refl;
        new_start = refl;
        tight = subst IsTight (sym is) (tight-part first last some within near before behind);
        around = subst (HasAround first last) (sym is) (around-part first last some within before behind);
      }

  -- these are all hunks from a place on
  abbrev pub AreHunks : ℕ → ℕ → ℕ → List HunkText → Type 0
  AreHunks at old_at new_at [] = AreFar at (length lines)
  AreHunks at old_at new_at (hunk ∷ hunks) =
      (first : ℕ) × (last : ℕ) × IsHunkOf at old_at new_at first last hunk
      × AreHunks last (old_end hunk) (new_end hunk) hunks

  -- ---- they patch the texts

  pub hunks-patch : (hunks : List HunkText) (at old_at new_at : ℕ) → at ≤ length lines
      → AreHunks at old_at new_at hunks
      → Patches old_at new_at (olds (drop at lines)) (news (drop at lines)) hunks
  hunks-patch [] at old_at new_at within far =
      grind (arith, far-same at (length lines) within (omega arith) far, take_rest lines at)
  hunks-patch (hunk ∷ hunks) at old_at new_at within (first, last, is, rest) =
      let part : List SignedText = slice_range lines at first in
      let mid : List SignedText = slice_range lines first last in
      let left : List SignedText = drop last lines in
      let order : at ≤ first = is.from in
      let split : drop at lines ≡ part ++ (mid ++ left) =
      drop_split lines at first is.from
      ∙ ap (λ ls. part ++ ls) (drop_split lines first last (let some : first < last = is.some in omega arith)) in
      let same : (news part ≡ olds part) × (length (olds part) ≡ first - at) =
      far-same at first is.from (let some : first < last = is.some in let within : last ≤ length lines = is.within in omega arith) is.far in (
        olds part,
        olds left,
        news left,
        ap olds split ∙ olds-append part (mid ++ left)
            ∙ ap (λ ls. olds part ++ ls)
            (olds-append mid left ∙ ap (λ ls. olds ls ++ olds left) (sym is.has)),
        ap news split ∙ news-append part (mid ++ left)
            ∙ ap₂ (λ ks ls. ks ++ ls) same.0
            (news-append mid left ∙ ap (λ ls. news ls ++ news left) (sym is.has)),
        is.old_start ∙ ap (λ n. old_at + n) (sym same.1),
        is.new_start ∙ ap (λ n. new_at + n) (sym same.1),
        hunks-patch hunks last (old_end hunk) (new_end hunk) is.within rest,
      )

  hunks-tight : (hunks : List HunkText) (at old_at new_at : ℕ) → AreHunks at old_at new_at hunks
      → All (λ hunk. IsTight hunk.lines) hunks
  hunks-tight [] at old_at new_at far = All-nil (λ (hunk : HunkText). IsTight hunk.lines)
  hunks-tight (hunk ∷ hunks) at old_at new_at (first, last, is, rest) =
      All-cons (λ (hunk : HunkText). IsTight hunk.lines) hunk hunks is.tight
      (hunks-tight hunks last (old_end hunk) (new_end hunk) rest)

  -- of so many old lines in all
  hunks-context : (hunks : List HunkText) (at old_at new_at total : ℕ) → at ≤ length lines
      → (at ≡ 0 → old_at ≡ 0) → old_at + length (olds (drop at lines)) ≡ total
      → AreHunks at old_at new_at hunks → All (HasContext total) hunks
  hunks-context [] at old_at new_at total within begins all far = All-nil (HasContext total)
  hunks-context (hunk ∷ hunks) at old_at new_at total within begins all (first, last, is, rest) =
      let mid : List SignedText = slice_range lines first last in
      let left : List SignedText = drop last lines in
      let from : at ≤ first = is.from in
      let some : first < last = is.some in
      let short : last ≤ length lines = is.within in
      let kept : (news (slice_range lines at first) ≡ olds (slice_range lines at first))
      × (length (olds (slice_range lines at first)) ≡ first - at) =
      far-same at first from (omega arith) is.far in
      let split : drop at lines ≡ slice_range lines at first ++ (mid ++ left) =
      drop_split lines at first from
      ∙ ap (λ ls. slice_range lines at first ++ ls) (drop_split lines first last (omega arith)) in
      let lens : length (olds (drop at lines)) ≡ (first - at) + (length (olds mid) + length (olds left)) =
      ap length (ap olds split ∙ olds-append (slice_range lines at first) (mid ++ left)
      ∙ ap (λ ls. olds (slice_range lines at first) ++ ls) (olds-append mid left))
      ∙ length-append (olds (slice_range lines at first)) (olds mid ++ olds left)
      ∙ ap₂ (λ n m. n + m) kept.1 (length-append (olds mid) (olds left)) in
      let has : length (olds hunk.lines) ≡ length (olds mid) = ap (λ ls. length (olds ls)) is.has in
      let start : hunk.old_start ≡ old_at + (first - at) = is.old_start in
      let whole : old_end hunk + length (olds left) ≡ total = omega arith in
      let len : length hunk.lines ≡ last - first =
      ap length is.has ∙ length-part lines first last (omega arith) short in
      All-cons (HasContext total) hunk hunks
      (λ change is_one. let around = is.around change is_one in (
        ⊎_map (λ none. let at_start = begins (omega arith) in omega arith) (λ more. more) around.0,
        ⊎_map (λ end. let none : length left ≡ 0 = length-drop last lines ∙ omega arith in
            let few = olds-le left in omega arith) (λ more. omega arith) around.1,
      ))
      (hunks-context hunks last (old_end hunk) (new_end hunk) total short (λ none. omega arith) whole rest)

  hunks-apart : (hunks : List HunkText) (at old_at new_at : ℕ) → AreHunks at old_at new_at hunks
      → AreApart hunks
  hunks-apart [] at old_at new_at far = tt
  hunks-apart (hunk ∷ []) at old_at new_at hunked = tt
  hunks-apart (hunk ∷ next ∷ hunks) at old_at new_at (first, last, is, (next_first, next_last, then, rest)) =
      let some : first < last = is.some in
      let apart : last < next_first = then.apart (omega arith) in
      let starts : next.old_start ≡ old_end hunk + (next_first - last) = then.old_start in (
        omega arith,
        hunks-apart (next ∷ hunks) last (old_end hunk) (new_end hunk) (next_first, next_last, then, rest),
      )

  -- a part of the lines is lean
  abbrev pub AreLeanParts : Type 0
  AreLeanParts = (first last : ℕ) → AreLean (slice_range lines first last)

  hunks-lean : (hunks : List HunkText) (at old_at new_at : ℕ) → AreLeanParts
      → AreHunks at old_at new_at hunks → All (λ hunk. AreLean hunk.lines) hunks
  hunks-lean [] at old_at new_at lean far = All-nil (λ (hunk : HunkText). AreLean hunk.lines)
  hunks-lean (hunk ∷ hunks) at old_at new_at lean (first, last, is, rest) =
      grind (arith, hunks-lean hunks last (old_end hunk) (new_end hunk) lean rest, All-cons)

  pub hunks-diff : (hunks : List HunkText) → AreLeanParts → AreHunks 0 0 0 hunks
      → IsDiff (olds lines) (news lines) hunks
  hunks-diff hunks lean are = record {
    patches = hunks-patch hunks 0 0 0 (omega arith) are;
    tight = hunks-tight hunks 0 0 0 are;
    lean = hunks-lean hunks 0 0 0 lean are;
    context = hunks-context hunks 0 0 0 (length (olds lines)) (omega arith) (λ none. refl) (omega arith)
        are;
    apart = hunks-apart hunks 0 0 0 are;
  }

  -- ---- hunks that are written one after another

  -- any hunks that are left and those so far are all, and the text has the latter
  abbrev pub HasPushed : List ℕ → List ℕ → ℕ → ℕ → ℕ → Type 0
  HasPushed old text at old_at new_at =
      (hunks : List HunkText) → AreHunks at old_at new_at hunks
      → (all : List HunkText) × AreHunks 0 0 0 all
      × (old ++ flat_map hunk_text all ≡ text ++ flat_map hunk_text hunks)

  HasPushed-hunk : (old text next : List ℕ) (at old_at new_at first last : ℕ) (hunk : HunkText)
      → HasPushed old text at old_at new_at → IsHunkOf at old_at new_at first last hunk
      → next ≡ text ++ hunk_text hunk
      → HasPushed old next last (old_end hunk) (new_end hunk)
  HasPushed-hunk old text next at old_at new_at first last hunk before is writes hunks are =
      let all = before (hunk ∷ hunks) (first, last, is, are) in (
        all.0,
        all.1,
        all.2 ∙ sym (append_assoc text (hunk_text hunk) (flat_map hunk_text hunks))
            ∙ ap (λ t. t ++ flat_map hunk_text hunks) (sym writes),
      )

  -- its head was pushed, and its lines
  pub HasPushed-next : (old text headed next : List ℕ)
      (at old_at new_at first last old_len new_len : ℕ) (part : List SignedText)
      → HasPushed old text at old_at new_at
      → IsHunkOf at old_at new_at first last (hunk_at (old_at + (first - at)) (new_at + (first - at)) part)
      → old_len ≡ length (olds part) → new_len ≡ length (news part)
      → headed ≡ text ++ head_text (range_text (old_at + (first - at)) old_len)
      (range_text (new_at + (first - at)) new_len)
      → next ≡ headed ++ flat_map line_text part
      → HasPushed old next last (old_at + (first - at) + old_len) (new_at + (first - at) + new_len)
  HasPushed-next old text headed next at old_at new_at first last old_len new_len part before is olds_are
      news_are head then =
      let old_start : ℕ = old_at + (first - at) in
      let new_start : ℕ = new_at + (first - at) in
      let hunk : HunkText = hunk_at old_start new_start part in
      let ranges = ap₂ (λ n m. head_text (range_text old_start n) (range_text new_start m)) olds_are
      news_are in
      let writes : next ≡ text ++ hunk_text hunk =
      then ∙ ap (λ t. t ++ flat_map line_text part) (head ∙ ap (λ t. text ++ t) ranges)
      ∙ append_assoc text (head_text (range_text old_start (length (olds part)))
      (range_text new_start (length (news part)))) (flat_map line_text part) in
      let pushed = HasPushed-hunk old text next at old_at new_at first last hunk before is writes in
      rw (olds_are, news_are) pushed

  pub HasPushed-all : (old text : List ℕ) (at old_at new_at : ℕ)
      → HasPushed old text at old_at new_at → AreFar at (length lines) → AreLeanParts
      → ArePushed lines old text
  HasPushed-all old text at old_at new_at before far lean =
      let all = before [] far in
      (all.0, hunks-diff all.0 lean all.1, sym (append-nil text) ∙ sym all.2)

pub view-part : (lines : List SignedLine) (first last : ℕ)
    → map signed_view (take (last - first) (drop first lines))
    ≡ slice_range (map signed_view lines) first last
view-part lines first last = grind (arith, take-map, drop-map)

pub lens-part : (lines : List SignedText) (first last : ℕ) → first ≤ last → last ≤ length lines
    → (length (olds (slice_range lines first last)) ≤ last - first)
    × (length (news (slice_range lines first last)) ≤ last - first)
lens-part lines first last order within = grind (arith, length-part, olds-le, news-le)
