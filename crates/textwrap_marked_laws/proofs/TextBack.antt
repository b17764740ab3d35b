-- A new text, read again, has the parts of the text.
use Rattle.textwrap_marked.specs.Within.{IsReflowedWithinFrom}
use Rattle.textwrap_text.proofs.Common.{ltb-true}
use Rattle.textwrap_marked_laws.proofs as own
use own.Common.{StateText, is_beside, LineText, all-left, All-nil, or-left, Option, blocks, length, lt-ltb, ℕ}
use own.Common.{false_from_ne_true, parts_of_blocks, IsReflowedFrom, ReflowOptions, filled_ending, LineEnding}
use own.Common.{lines_of_text, AreSameParts, first_state, text_parts, true≢false, IsOfBlock, LineRange, arith}
use own.Common.{nat_lt, false, stays, subst, Bool, List, None, Some, flat, refl, true, ◌++◌, ◌||◌, All, sym}
use own.Feedless.{IsFeedlessLine, split-feedless, read-feedless, split-joined, IsFeedless, raws-some, raws_of}
use own.ReadBack.{AreOfBlocksAny, IsReadBack, within-any, kept-step, laid-any, ending, Walks}
use own.{AnewLines.{returns_by, bytes-by, IsTold, Tells}, TextBlocks.{paragraph-at, read-more, read}}
use own.{BegunAlike.AreBegun, FenceLeft.safe-none, FilledBack.filled-step, LinesAlone.{none-alike, AreAlike}}
use own.{Common.{◌<◌, ◌∙◌, ◌∷◌, ◌≡◌, [], ap}, TextParts.{blocks-back, blocks-flat, blocks-are, AreBlocks}}

module _ (options : ReflowOptions) (returns : Bool) (told : IsTold options.ending returns) where
  read-none : (state : StateText) (raws : List (List ℕ)) → [] ≡ read options state raws → [] ≡ raws
  read-none state [] is = refl
  read-none state (raw ∷ raws) is =
      absurd (omega (arith, ap length is, ap length (read-more options state raw raws)))

  none-begun : (raws : List (List ℕ)) → AreBegun returns raws []
  none-begun [] = tt
  none-begun (raw ∷ raws) = tt

  -- the same parts, lines that show the same, and a first line that is the same or stands in its place
  pub record AreReadBack (text reflowed : List ℕ) : Type 0 where
    pub same : (e : Option LineEnding) → Tells options.ending e
        → AreSameParts e (text_parts options text) (text_parts options reflowed)
    pub begun : AreBegun returns (raws_of text) (raws_of reflowed)
    pub alike : AreAlike options (raws_of text) (raws_of reflowed)

  pub walk-blocks : (bs : List (List LineText)) (beside : Bool) → AreBlocks bs
      → Walks options returns told beside bs
  walk-blocks [] beside are state raws text reads laid safe free = record {
    again = [];
    blocks = [];
    reads = refl;
    are = tt;
    same = λ e tells. tt;
    text_is = laid;
    feedless = All-nil IsFeedless;
    heads = tt;
    some = ap (λ l. nat_lt 0 (length l)) (read-none state raws reads);
    begun = none-begun raws;
    alike = subst (λ l. AreAlike options l []) (read-none state raws reads) (none-alike options);
  }
  walk-blocks ([] ∷ bs) beside are state raws text reads laid safe free = absurd are
  walk-blocks ((first ∷ lines) ∷ bs) beside are state raws text reads (is_kept, stay, front, back, of, later, is) safe
      free =
      subst (IsReadBack options returns told state beside [] ((first ∷ lines) ∷ bs) raws) (sym is)
      (step is_kept stay of (walk-blocks bs (is_beside first bs) are.2))
    where
      step : (b : Bool) → (stays (beside || is_beside first bs) first ≡ true → b ≡ true)
          → IsOfBlock options (ending options returns told) b first (first ∷ lines) front
          → Walks options returns told (is_beside first bs) bs
          → IsReadBack options returns told state beside [] ((first ∷ lines) ∷ bs) raws (front ++ back)
      step true stay of walks =
          kept-step options returns told beside first lines bs walks are state raws front back reads of
          later safe free
      step false kept of walks =
          let stay : stays (beside || is_beside first bs) first ≡ false =
          false_from_ne_true _ (λ so. true≢false (sym (kept so))) in
          let apart = or-left first.apart _ (or-left _ (beside || is_beside first bs) stay) in
          let (raw, p, whole) = paragraph-at options state raws first lines (flat bs) reads apart are.0 in
          let lines_free = all-left IsFeedlessLine (first ∷ lines) (flat bs)
          (subst (All IsFeedlessLine) (sym reads) (read-feedless options raws state free)) in
          filled-step options returns told state raw first lines bs p beside front back raws whole
          are stay of later walks safe free lines_free

  pub parts-back : (text reflowed : List ℕ)
      → AreOfBlocksAny options returns told false (blocks (lines_of_text options text)) reflowed
      → AreReadBack text reflowed
  parts-back text reflowed laid =
      let raws = raws_of text in
      let lines = lines_of_text options text in
      let r = walk-blocks (blocks lines) false (blocks-are lines) first_state raws reflowed
      (blocks-flat lines) laid (safe-none options first_state refl) (split-feedless text) in
      let some : 0 < length r.again = ltb-true 0 (length r.again)
      (r.some ∙ lt-ltb 0 (length raws) (raws-some text)) in
      let split : r.again ≡ raws_of reflowed =
      sym (ap raws_of r.text_is ∙ split-joined r.again some r.feedless) in
      let again : r.blocks ≡ blocks (lines_of_text options reflowed) = sym (blocks-back r.blocks r.are)
      ∙ ap blocks r.reads ∙ ap (λ l. blocks (read options first_state l)) split in
      record {
        same = λ e tells. subst (λ bs. AreSameParts e (text_parts options text) (parts_of_blocks false bs))
            again (r.same e tells);
        begun = subst (AreBegun returns raws) split r.begun;
        alike = subst (AreAlike options raws) split r.alike;
      }

-- ---- by the ending of the text

pub told-by : (e : Option LineEnding) (text : List ℕ) → IsTold e (returns_by (filled_ending e text))
told-by None text = tt
told-by (Some e) text = refl

-- what is read of a new text
abbrev pub IsTextBack : ReflowOptions → List ℕ → List ℕ → Type 0
IsTextBack options text reflowed =
    AreReadBack options (returns_by (filled_ending options.ending text)) (told-by options.ending text) text
    reflowed

module _ (options : ReflowOptions) (text reflowed : List ℕ) where
  abbrev returns_of : Bool
  returns_of = returns_by (filled_ending options.ending text)

  abbrev told_of : IsTold options.ending returns_of
  told_of = told-by options.ending text

  back-by : AreOfBlocksAny options returns_of told_of false (blocks (lines_of_text options text)) reflowed
      → IsTextBack options text reflowed
  back-by = parts-back options returns_of told_of text reflowed

  pub text-back : IsReflowedFrom options text reflowed → IsTextBack options text reflowed
  text-back laid =
      back-by (laid-any options returns_of told_of (blocks (lines_of_text options text)) false reflowed
      (rw (bytes-by (filled_ending options.ending text)) at laid))

  -- where only some lines are filled
  pub within-back : (range : LineRange) → IsReflowedWithinFrom options range text reflowed
      → IsTextBack options text reflowed
  within-back range laid =
      back-by (within-any options returns_of told_of range 0
      (blocks (lines_of_text options text)) false reflowed
      (rw (bytes-by (filled_ending options.ending text)) at laid))
