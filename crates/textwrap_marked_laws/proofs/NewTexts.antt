-- What becomes of a text is one text; and texts that were reflowed, reflowed again.
use Rattle.std.{proofs.Common.⊎_elim, proofs.lemmas.List.Splits.join_with_byte-slice_split}
use Rattle.textwrap_base.{proofs.Cost.Results.by_table_one, proofs.Division.Greedy.greedy_unique}
use Rattle.textwrap_marked.{specs.Reflow.IsReflowed, specs.Within.IsReflowedWithin}
use Rattle.textwrap_marked_laws.specs.Laws.{HaveTheSameAlone, AreNewParts, KeepsEnding, ShowTheSame, EndAlike}
use Rattle.textwrap_marked_laws.specs.Laws.{behind_mark}
use Rattle.textwrap_marked_lines.specs.Columns.{text_columns}
use Rattle.textwrap_marks.specs.declared.options.Algorithm.{Algorithm}
use Rattle.textwrap_words.proofs.Common.{Algorithm as DividingAlgorithm}
use Rattle.textwrap_words.proofs.Common.{ByFirstFit}
use Rattle.textwrap_marked_laws.proofs as own
use own.Common.{AreSameParts, ByOptimalFit, ending_bytes, line_as_read, AreOfBlocks, IsDividedBy, first_state}
use own.Common.{WordText, sizes_of, printed, word_of, blocks, length, nat_eq, nat_lt, passed, pieces, arith}
use own.Common.{dividing_algorithm, IsReflowedBehind, starts_with-rest, byte_order_mark, parts_of_blocks, All}
use own.Common.{false, stays, subst, Bool, CRLF, List, Part, Some, drop, refl, true, ◌++◌, ◌==◌, ◌||◌, inl, ℕ}
use own.Common.{inr, map, sym, ◌-◌, ◌∙◌, ◌∷◌, ◌≡◌, ◌⊎◌, LF, [], ap}
use own.Common.{slice_split, starts_with, with_titles, LineEnding, cases_Bool, line_texts, read_lines, Option}
use own.Common.{text_parts, IsOfBlock, LineRange, StateText, is_beside, All-head, IsSameBy, LineText, entered}
use own.Common.{without_returns, IsReflowedFrom, join_with_byte, ReflowOptions, filled_ending, lines_of_text}
use own.{AnewLines.{returns_by, tells-own, Tells}, Feedless.{split-feedless, IsFeedless, raws-some, raws_of}}
use own.{BegunAlike.{ends-alike, marks-same, one-line}, TextBack.{within-back, IsTextBack, text-back}}

divided-one : (algorithm : DividingAlgorithm) (widths : List ℕ) (xs : List WordText)
    (lines others : List (List WordText)) → IsDividedBy algorithm sizes_of widths xs lines
    → IsDividedBy algorithm sizes_of widths xs others → lines ≡ others
divided-one ByFirstFit widths xs lines others one other =
    greedy_unique sizes_of widths xs lines others one other
divided-one (ByOptimalFit penalties) widths xs lines others one other =
    by_table_one _ lines others one.by_table other.by_table

module _ (options : ReflowOptions) (ending : List ℕ) where
  block-one : (stays : Bool) (first : LineText) (lines : List LineText) (text other : List ℕ)
      → IsOfBlock options ending stays first lines text
      → IsOfBlock options ending stays first lines other → text ≡ other
  block-one true first lines text other is same = is ∙ sym same
  block-one false first lines text other (division, divided, is) (second, by, same) =
      grind (arith, cases_Bool, divided-one)

  laid-one : (beside : Bool) (bs : List (List LineText)) (text other : List ℕ)
      → AreOfBlocks options ending beside bs text → AreOfBlocks options ending beside bs other → text ≡ other
  laid-one beside [] text other is same = is ∙ sym same
  laid-one beside ([] ∷ bs) text other is same = laid-one beside bs text other is same
  laid-one beside ((first ∷ lines) ∷ bs) text other (front, back, of, later, is)
      (begin, rest, by, more, same) =
      is ∙ ap (λ l. l ++ back) (block-one _ first (first ∷ lines) front begin of by)
      ∙ ap (λ l. begin ++ l) (laid-one (is_beside first bs) bs back rest later more) ∙ sym same

from-one : (options : ReflowOptions) (text first second : List ℕ)
    → IsReflowedFrom options text first → IsReflowedFrom options text second → first ≡ second
from-one options text first second of by =
    laid-one options (ending_bytes (filled_ending options.ending text)) false
    (blocks (lines_of_text options text)) first second of by

pub behind-one : (marked : Bool) (options : ReflowOptions) (text first second : List ℕ)
    → IsReflowedBehind marked options text first → IsReflowedBehind marked options text second
    → first ≡ second
behind-one true options text first second (rest, of, is) (other, by, same) =
    is ∙ ap (λ l. byte_order_mark ++ l) (from-one options (drop 3 text) rest other of by) ∙ sym same
behind-one false options text first second of by = from-one options text first second of by

-- ---- what becomes of two texts of the same parts is the same

module _ (options : ReflowOptions) (ending : List ℕ) where
  -- ---- one part

  abbrev IsFilledBy : List ℕ → List ℕ → Bool → List (List ℕ) → List ℕ → List ℕ → Type 0
  IsFilledBy prefix hanging starred words end text =
      (division : List (List WordText))
      × IsDividedBy (dividing_algorithm options.algorithm) sizes_of
      ((options.width - text_columns prefix) ∷ (options.width - text_columns hanging) ∷ [])
      (map word_of (pieces options starred words)) division
      × (text ≡ printed ending prefix hanging (line_texts options.justify
      (options.width - text_columns prefix) (options.width - text_columns hanging) division) ++ end)

  abbrev OfPart : Bool → Part → List ℕ → Type 0
  OfPart is_kept part text = IsOfBlock options ending is_kept part.first part.lines text

  abbrev Of : Part → List ℕ → Type 0
  Of part text = OfPart part.stays part text

  of-same : (is_kept : Bool) (part other : Part) → part.stays ≡ is_kept
      → IsSameBy options.ending is_kept part other → Of part ≡ Of other
  of-same true part other stay (leaves, kept) = grind (arith, cases_Bool)
  of-same false part other stay (leaves, para) =
      let same : OfPart false part ≡ OfPart false other =
      λ i text. IsFilledBy (sym para.prefix i) (sym para.hanging i) (sym para.starred i) (sym para.words i)
      (sym (para.end ending) i) text in
      ap (λ b. OfPart b part) stay ∙ same ∙ sym (ap (λ b. OfPart b other) leaves)

  -- ---- all of them

  news-same : (parts others : List Part) → AreSameParts options.ending parts others
      → AreNewParts Of parts ≡ AreNewParts Of others
  news-same [] [] same = refl
  news-same [] (other ∷ others) same = absurd same
  news-same (part ∷ parts) [] same = absurd same
  news-same (part ∷ parts) (other ∷ others) (same, more) =
      λ i text. (front : List ℕ) × (back : List ℕ) × of-same part.stays part other refl same i front
      × news-same parts others more i back × (text ≡ front ++ back)

  laid-news : (bs : List (List LineText)) (beside : Bool)
      → AreOfBlocks options ending beside bs ≡ AreNewParts Of (parts_of_blocks beside bs)
  laid-news [] beside = refl
  laid-news ([] ∷ bs) beside = laid-news bs beside
  laid-news ((first ∷ lines) ∷ bs) beside =
      λ i text. (front : List ℕ) × (back : List ℕ)
      × IsOfBlock options ending (stays (beside || is_beside first bs) first) first (first ∷ lines) front
      × laid-news bs (is_beside first bs) i back × (text ≡ front ++ back)

-- ---- texts

module _ (options : ReflowOptions) (text other : List ℕ)
    (same : AreSameParts options.ending (text_parts options text) (text_parts options other)) where
  abbrev end_of : List ℕ → List ℕ
  end_of t = ending_bytes (filled_ending options.ending t)

  laid-same : (e : List ℕ) → AreOfBlocks options e false (blocks (lines_of_text options text))
      ≡ AreOfBlocks options e false (blocks (lines_of_text options other))
  laid-same e =
      laid-news options e (blocks (lines_of_text options text)) false ∙ news-same options e _ _ same
      ∙ sym (laid-news options e (blocks (lines_of_text options other)) false)

  pub from-other : filled_ending options.ending other ≡ filled_ending options.ending text
      → (reflowed : List ℕ) → IsReflowedFrom options other reflowed → IsReflowedFrom options text reflowed
  from-other ends reflowed laid =
      subst (λ New. New reflowed) (sym (laid-same (end_of text)))
      (rw ends at laid)

  pub laid-other : (reflowed : List ℕ) → IsReflowedFrom options text reflowed
      → AreOfBlocks options (end_of text) false (blocks (lines_of_text options other)) reflowed
  laid-other reflowed laid = subst (λ New. New reflowed) (laid-same (end_of text)) laid

-- ---- another width and another ending

module _ (options : ReflowOptions) (width : ℕ) (algorithm : Algorithm) (ending : Option LineEnding) where
  abbrev others : ReflowOptions
  others = record options { width = width; algorithm = algorithm; ending = ending }

  lines-same : (raws : List (List ℕ)) (state : StateText)
      → read_lines others state raws ≡ read_lines options state raws
  lines-same [] state = refl
  lines-same (raw ∷ raws) state =
      let at = entered state (without_returns raw) in
      let line = line_as_read options at raw (nat_lt 0 (length raws)) in
      ap (λ ls. line ∷ ls) (lines-same raws (passed at line))

  parts-equal : (text : List ℕ) → text_parts others text ≡ text_parts options text
  parts-equal text =
      ap (λ ls. parts_of_blocks false (blocks (with_titles ls)))
      (lines-same (slice_split (λ c. c == 10) text) first_state)

  pub width-same : (e : Option LineEnding) → Tells ending e → (text between : List ℕ)
      → IsReflowedFrom others text between
      → AreSameParts e (text_parts options text) (text_parts options between)
  width-same e tells text between laid =
      rw (parts-equal text, parts-equal between) at ((text-back others text between laid).same e tells)

-- ---- without a byte order mark

-- both begin with one, or neither does
begins-alike : (options : ReflowOptions) (text reflowed : List ℕ) → IsTextBack options text reflowed
    → starts_with nat_eq reflowed byte_order_mark ≡ starts_with nat_eq text byte_order_mark
begins-alike options text reflowed r =
    ap (λ t. starts_with nat_eq t byte_order_mark) (sym (join_with_byte-slice_split 10 reflowed))
    ∙ marks-same (returns_by (filled_ending options.ending text)) (raws_of text) (raws_of reflowed)
    (raws-some text) (raws-some reflowed) r.begun
    ∙ ap (λ t. starts_with nat_eq t byte_order_mark) (join_with_byte-slice_split 10 text)

ends-feed : (e : LineEnding) → (front : List ℕ) × (ending_bytes e ≡ front ++ 10 ∷ [])
ends-feed LF = ([], refl)
ends-feed CRLF = (13 ∷ [], refl)

-- it is a single line, or its filled lines end as those of the text
one-or-alike : (options : ReflowOptions) (text reflowed : List ℕ) → IsTextBack options text reflowed
    → ((raw : List ℕ) × (raws_of reflowed ≡ raw ∷ []))
    ⊎ (filled_ending options.ending reflowed ≡ filled_ending options.ending text)
one-or-alike options text reflowed r = cut (raws_of reflowed) refl
  where
    cut : (raws : List (List ℕ)) → raws_of reflowed ≡ raws → ((raw : List ℕ) × (raws_of reflowed ≡ raw ∷ []))
        ⊎ (filled_ending options.ending reflowed ≡ filled_ending options.ending text)
    cut [] is = absurd (omega (arith, raws-some reflowed, ap length is))
    cut (raw ∷ []) is = inl (raw, is)
    cut (raw ∷ next ∷ raws) is =
        inr (ends-alike options.ending text reflowed r.begun (omega (arith, ap length is)))

-- the new text stays, whatever its own ending is
from-stays : (options : ReflowOptions) (text reflowed : List ℕ)
    → IsReflowedFrom options text reflowed → IsReflowedFrom options reflowed reflowed
from-stays options text reflowed laid =
    let r = text-back options text reflowed laid in
    cut (laid-other options text reflowed (r.same options.ending (tells-own options.ending)) reflowed laid)
    (one-or-alike options text reflowed r)
  where
    LaidBy : LineEnding → Type 0
    LaidBy e = AreOfBlocks options (ending_bytes e) false (blocks (lines_of_text options reflowed)) reflowed

    cut : LaidBy (filled_ending options.ending text) → ((raw : List ℕ) × (raws_of reflowed ≡ raw ∷ []))
        ⊎ (filled_ending options.ending reflowed ≡ filled_ending options.ending text)
        → LaidBy (filled_ending options.ending reflowed)
    cut again (inr same) = subst LaidBy (sym same) again
    cut again (inl (raw, split)) =
        let whole : reflowed ≡ raw =
        sym (join_with_byte-slice_split 10 reflowed) ∙ ap (join_with_byte 10) split in
        let old = ending_bytes (filled_ending options.ending text) in
        let new = ending_bytes (filled_ending options.ending reflowed) in
        let (front, feed) = ends-feed (filled_ending options.ending text) in
        let shown : lines_of_text options reflowed ≡ with_titles (read_lines options first_state (raw ∷ [])) =
        ap (λ l. with_titles (read_lines options first_state l)) split in
        subst (λ ls. AreOfBlocks options new false (blocks ls) reflowed) (sym shown)
        (one-line options old new front feed _ refl reflowed (subst IsFeedless (sym whole)
        (All-head IsFeedless raw [] (subst (All IsFeedless) split (split-feedless reflowed))))
        (subst (λ ls. AreOfBlocks options old false (blocks ls) reflowed) shown again))

-- ---- behind one

-- both texts begin with a byte order mark, or none, and what follows it in the one becomes what follows
-- it in the other
module _ (From : List ℕ → List ℕ → Type 0) (text reflowed : List ℕ) where
  abbrev IsBehind : Type 0
  IsBehind =
      (starts_with nat_eq reflowed byte_order_mark ≡ starts_with nat_eq text byte_order_mark)
      × From (behind_mark text) (behind_mark reflowed)

  abbrev IsMarked : Type 0
  IsMarked = (rest : List ℕ) × From (drop 3 text) rest × (reflowed ≡ byte_order_mark ++ rest)

  module _ (Becomes : Bool → Type 0) where
    opened : (Becomes true → IsMarked) → (Becomes false → From text reflowed) → (From text reflowed
        → starts_with nat_eq reflowed byte_order_mark ≡ starts_with nat_eq text byte_order_mark)
        → Becomes (starts_with nat_eq text byte_order_mark) → IsBehind
    opened marked plain alike = cut (starts_with nat_eq text byte_order_mark) refl
      where
        cut : (b : Bool) → starts_with nat_eq text byte_order_mark ≡ b → Becomes b → IsBehind
        cut true is becomes = let (rest, laid, whole) = marked becomes in rw (is, whole) (refl, laid)
        cut false is becomes = let laid = plain becomes in rw (is, alike laid ∙ is) (refl, laid)

    closed : (IsMarked → Becomes true) → (From text reflowed → Becomes false) → IsBehind
        → Becomes (starts_with nat_eq text byte_order_mark)
    closed marked plain (same, laid) = cut (starts_with nat_eq text byte_order_mark) refl
      where
        cut : (b : Bool) → starts_with nat_eq text byte_order_mark ≡ b → Becomes b
        cut true is = marked (
          drop 3 reflowed,
          rw (is, same ∙ is) at laid,
          starts_with-rest byte_order_mark reflowed (same ∙ is),
        )
        cut false is = plain (rw (is, same ∙ is) at laid)

-- what follows a byte order mark in a text is read again behind the same one, if there is one
abbrev pub IsBack : ReflowOptions → List ℕ → List ℕ → Type 0
IsBack options = IsBehind (IsTextBack options)

module _ (options : ReflowOptions) (text reflowed : List ℕ) where
  whole : IsReflowed options text reflowed → IsBehind (IsReflowedFrom options) text reflowed
  whole = opened (IsReflowedFrom options) text reflowed (λ b. IsReflowedBehind b options text reflowed)
      (λ marked. marked) (λ laid. laid)
      (λ laid. begins-alike options text reflowed (text-back options text reflowed laid))

  again : IsBehind (IsReflowedFrom options) text reflowed → IsReflowed options text reflowed
  again = closed (IsReflowedFrom options) text reflowed (λ b. IsReflowedBehind b options text reflowed)
      (λ marked. marked) (λ laid. laid)

  pub read-whole : IsReflowed options text reflowed → IsBack options text reflowed
  read-whole is = let (same, laid) = whole is in (same, text-back options _ _ laid)

  -- where only some lines are filled
  pub read-within : (range : LineRange) → IsReflowedWithin options range text reflowed
      → IsBack options text reflowed
  read-within range is = grind (arith, cases_Bool, begins-alike, within-back)

  pub parts-same : IsBack options text reflowed
      → AreSameParts options.ending (text_parts options (behind_mark text)) (text_parts options (behind_mark reflowed))
  parts-same back = back.1.same options.ending (tells-own options.ending)

  pub alone-same : IsBack options text reflowed → HaveTheSameAlone options text reflowed
  alone-same (same, r) = r.alike.alone

  pub shown-same : IsBack options text reflowed → ShowTheSame options text reflowed
  shown-same (same, r) = (same, r.alike.shown, r.alike.these, r.alike.those)

pub texts-stay : (options : ReflowOptions) (text reflowed : List ℕ) → IsReflowed options text reflowed
    → IsReflowed options reflowed reflowed
texts-stay options text reflowed is =
    again options reflowed reflowed
    (refl, from-stays options (behind_mark text) (behind_mark reflowed) (whole options text reflowed is).1)

-- ---- another width first, and another ending

module _ (options : ReflowOptions) (width : ℕ) (algorithm : Algorithm) (before : Option LineEnding)
    (tells : Tells before options.ending) (text between reflowed : List ℕ) where
  abbrev earlier : ReflowOptions
  earlier = record options { width = width; algorithm = algorithm; ending = before }

  -- if filled lines of the text between end as those of the text do
  earlier-same : (IsTextBack earlier (behind_mark text) (behind_mark between) → EndAlike options text between)
      → IsReflowed earlier text between → IsReflowed options between reflowed
      → IsReflowed options text reflowed
  earlier-same ends first second =
      let (mark, laid) = whole earlier text between first in
      let (same, later) = whole options between reflowed second in
      let parts = width-same options width algorithm before options.ending tells (behind_mark text)
      (behind_mark between) laid in
      again options text reflowed (
        same ∙ mark,
        from-other options (behind_mark text) (behind_mark between) parts
            (ends (text-back earlier _ _ laid)) (behind_mark reflowed) later,
      )

pub widths-same : (options : ReflowOptions) (width : ℕ) (algorithm : Algorithm)
    (text between reflowed : List ℕ)
    → KeepsEnding options text between
    → IsReflowed (record options { width = width; algorithm = algorithm }) text between
    → IsReflowed options between reflowed → IsReflowed options text reflowed
widths-same options width algorithm text between reflowed ends =
    earlier-same options width algorithm options.ending (tells-own options.ending) text between reflowed
    (λ r. ⊎_elim (λ one. ends (ap length one.1)) (λ same. same) (one-or-alike _ _ _ r))

pub endings-same : (options : ReflowOptions) (width : ℕ) (algorithm : Algorithm) (before : Option LineEnding)
    (e : LineEnding) → options.ending ≡ Some e → (text between reflowed : List ℕ)
    → IsReflowed (record options { width = width; algorithm = algorithm; ending = before }) text between
    → IsReflowed options between reflowed → IsReflowed options text reflowed
endings-same options width algorithm before e asked text between reflowed =
    grind (arith, cases_Bool, earlier-same)
