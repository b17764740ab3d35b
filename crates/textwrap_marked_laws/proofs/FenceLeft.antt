-- The marks before an open fence, and the lines that leave it.
use Rattle.std.proofs.Math.Bool.{or-true}
use Rattle.std.{proofs.lemmas.List.get_or-reverse, proofs.lemmas.List.Sums.prefix_len_passes}
use Rattle.textwrap_marked_lines.specs.Lines.{is_in_block}
use Rattle.textwrap_marked_lines.{proofs.FirstWords.comment_is, specs.declared.fences.FenceKind.FenceKind}
use Rattle.textwrap_marked_lines.{specs.Columns.behind_white, specs.Fences.{is_closed_by, is_left_by, opened}}
use Rattle.textwrap_marks.proofs.Letterless.{star-plain}
use Rattle.textwrap_text.{proofs.Common.not-true, proofs.Lists.Parts.starts_with-true}
use Rattle.textwrap_marked_laws.proofs as own
use own.Common.{LineText, drop_all, fence_at, is_white, marks_of, All-nil, entered, is_some, reverse, get_or}
use own.Common.{append-nil, cases_Bool, first_word, map-append, option_map, prefix_len, suffix_len, FenceText}
use own.Common.{length, nat_eq, passed, arith, false, subst, Bool, List, None, Some, cond, drop, refl, true}
use own.Common.{length-append, closes_block, line_as_read, begins_text, comment_len, spaced_text, starts_with}
use own.Common.{starts_with-rest, take-append-drop, without_returns, ReflowOptions, is_comment_at, SpacedText}
use own.Common.{suffix_len-le-length, words_between_white, false_from_ne_true, bytes_eq-Decides, append_assoc}
use own.Common.{true≢false, StateText, all-right, drop_more, is_return, new_fence, All-head, All-tail, Option}
use own.Common.{zero, ◌&&◌, ◌++◌, ◌||◌, All, inl, inr, not, suc, sym, ◌+◌, ◌-◌, ◌<◌, ◌∙◌, ◌∷◌, ◌≡◌, ◌⊎◌, []}
use own.LaterLines.{read-spaced, read-split, read_kinds, read_marks, text-parts, line-read, read-line, IsRead}
use own.SpacedBack.{spaced-first, plain-first, words-white, text-words, AreSpaced, spaced-in, words_in, IsInk}
use own.{Common.{ap, ℕ, ⊤}, HangingForms.{before-full, full-before, hanging-is, IsHanging, AreMarks, IsQuote}}
use own.{LineKinds.{has_opening_in, line_by}, ParagraphLines.all-spaced, SpacedBack.{IsPlain, IsWhite}}
use own.{OpenBehind.text-letter, SpreadWords.text-no-quote}

-- white and marks, or the beginning of them, of a line before which a block comment was open, or not
abbrev pub AreSafeMarks : ReflowOptions → Bool → List ℕ → Type 0
AreSafeMarks options in_block text =
    (rest : List ℕ) × (block : Bool) × (block ≡ false → in_block ≡ false)
    × IsHanging options block (text ++ rest)

abbrev pub IsSafeFence : ReflowOptions → Bool → Option FenceText → Type 0
IsSafeFence options in_block None = ⊤
IsSafeFence options in_block (Some fence) = AreSafeMarks options in_block fence.marks

abbrev pub IsSafe : ReflowOptions → StateText → Type 0
IsSafe options state = IsSafeFence options state.in_block state.fence

pub safe-none : (options : ReflowOptions) (state : StateText) → state.fence ≡ None → IsSafe options state
safe-none options state none = subst (IsSafeFence options state.in_block) (sym none) tt

-- marks are safe where a block comment is closed, if they were
carry : (options : ReflowOptions) (a b : Bool) (text : List ℕ) → (a ≡ false → b ≡ false)
    → AreSafeMarks options a text → AreSafeMarks options b text
carry options a b text down (rest, block, was, hang) = (rest, block, (λ out. down (was out)), hang)

-- ---- white before a text

behind-ink : (c : ℕ) (cs : List ℕ) → IsInk c → behind_white (c ∷ cs) ≡ c ∷ cs
behind-ink c cs ink = ap (λ b. drop (cond b (1 + prefix_len is_white cs) 0) (c ∷ cs)) ink

pub behind-lead : (lead text : List ℕ) → All IsWhite lead → behind_white text ≡ text
    → behind_white (lead ++ text) ≡ text
behind-lead [] text white is = is
behind-lead (c ∷ lead) text white is =
    let rest = lead ++ text in
    let next : 1 + prefix_len is_white rest ≡ suc (prefix_len is_white rest) = omega arith in
    ap (λ b. drop (cond b (1 + prefix_len is_white rest) 0) (c ∷ rest)) (All-head IsWhite c lead white)
    ∙ ap (λ n. drop n (c ∷ rest)) next ∙ behind-lead lead text (All-tail IsWhite c lead white) is

pub behind-words : (ks : List SpacedText) (more : List ℕ) → AreSpaced ks → 0 < length ks
    → behind_white (spaced_text ks ++ more) ≡ spaced_text ks ++ more
behind-words [] more are some = absurd (omega (arith, some))
behind-words (k ∷ ks) more are some = first k.word refl (spaced-first k ks are).word
  where
    first : (word : List ℕ) → k.word ≡ word → IsPlain k.word
        → behind_white (((k.word ++ k.white) ++ spaced_text ks) ++ more)
        ≡ ((k.word ++ k.white) ++ spaced_text ks) ++ more
    first [] same is = absurd (omega (arith, is.some, ap length same))
    first (c ∷ cs) same is =
        rw same (behind-ink c (((cs ++ k.white) ++ spaced_text ks) ++ more)
        (All-head IsInk c cs (subst (All IsInk) same is.ink)))

hanging-safe : (options : ReflowOptions) (in_block : Bool) (text : List ℕ)
    → IsHanging options in_block text → AreSafeMarks options in_block (marks_of text)
hanging-safe options in_block text hang =
    let ks = hang.cs ++ hang.qs in
    let behind = behind_white text in
    let spaced = all-spaced ks hang.full in
    let n = length behind - suffix_len is_white behind in
    let whole : behind ≡ spaced_text ks =
    ap behind_white hang.is ∙ behind-lead hang.lead (spaced_text ks) hang.white (words ks spaced) in (
      drop n behind,
      in_block,
      (λ out. out),
      record {
        lead = [];
        cs = hang.cs;
        qs = hang.qs;
        white = All-nil IsWhite;
        full = hang.full;
        marks = hang.marks;
        is = take-append-drop n behind ∙ whole;
      },
    )
  where
    words : (ks : List SpacedText) → AreSpaced ks → behind_white (spaced_text ks) ≡ spaced_text ks
    words [] are = refl
    words (k ∷ ks) are =
        subst (λ t. behind_white t ≡ t) (append-nil (spaced_text (k ∷ ks)))
        (behind-words (k ∷ ks) [] are (omega arith))

-- ---- behind a line

opened-some : (words : List SpacedText) → is_some (opened words) ≡ true → 0 < length words
opened-some [] is = absurd (true≢false (sym is))
opened-some (w ∷ ws) is = omega arith

-- a fence behind these marks, if there is one
maybe-safe : (options : ReflowOptions) (block : Bool) (marks : List ℕ) (kind : Option FenceKind)
    → (is_some kind ≡ true → AreSafeMarks options block marks)
    → IsSafeFence options block (option_map (λ k. record { marks = marks; kind = k }) kind)
maybe-safe options block marks None safe = tt
maybe-safe options block marks (Some kind) safe = safe refl

outside : (i o c : Bool) → (i || o) ≡ false → cond i c (true && (o && c)) ≡ false
outside true o c is = absurd (true≢false is)
outside false o c is = ap (λ b. true && (b && c)) is

line-marks : (options : ReflowOptions) (state : StateText) (raw : List ℕ) (fed : Bool)
    → 0 < length (line_as_read options state raw fed).words
    → AreSafeMarks options (is_in_block state.in_block false (line_as_read options state raw fed))
    (marks_of (line_as_read options state raw fed).hanging)
line-marks options state raw fed some =
    let r = line-read options state raw in
    let is = read-line options state raw r fed in
    let here = line_by options state raw fed (read_kinds options state raw r) in
    let has : 0 < length r.ws = subst (λ (l : LineText). 0 < length l.words) is some in
    let (full, spaced) = before-full (read_marks options state raw r) r.ws has (read-spaced options state raw r) in
    subst (λ (l : LineText). AreSafeMarks options (is_in_block state.in_block false l) (marks_of l.hanging))
    (sym is) (carry options (state.in_block || has_opening_in r.cs) (is_in_block state.in_block false here)
    (marks_of here.hanging)
    (λ out. outside state.in_block (has_opening_in r.cs) (not (closes_block r.ws)) out)
    (hanging-safe options _ _
    (hanging-is options state.in_block r.lead r.cs r.qs r.bs r.ws r.text.white full r.have)))

pub safe-passed : (options : ReflowOptions) (state : StateText) (raw : List ℕ) (fed : Bool)
    → IsSafe options state
    → IsSafe options (passed (entered state (without_returns raw)) (line_as_read options (entered state (without_returns raw)) raw fed))
safe-passed options state raw fed safe =
    behind (fence_at state.fence (without_returns raw)) (at state.fence safe)
  where
    at : (f : Option FenceText) → IsSafeFence options state.in_block f
        → IsSafeFence options state.in_block (fence_at f (without_returns raw))
    at None safe = tt
    at (Some fence) safe =
        elim (is_left_by fence (without_returns raw)) as (λ b. IsSafeFence options state.in_block (cond b None (Some fence)))
        [ true ↦ tt | false ↦ safe ]

    behind : (f : Option FenceText) → IsSafeFence options state.in_block f → IsSafeFence options
        (is_in_block state.in_block (is_some f) (line_as_read options (entered state (without_returns raw)) raw fed))
        (new_fence f (line_as_read options (entered state (without_returns raw)) raw fed))
    behind (Some fence) safe =
        let here = line_as_read options (entered state (without_returns raw)) raw fed in
        let block = is_in_block state.in_block true here in
        elim (is_closed_by fence here.hanging here.words)
        as (λ b. IsSafeFence options block (cond b None (Some fence))) [
          | true ↦ tt
          | false ↦ carry options state.in_block block fence.marks
              (ap (λ i. cond i (not (closes_block here.words)) false)) safe
        ]
    behind None safe =
        let here = line_as_read options (entered state (without_returns raw)) raw fed in
        let block = is_in_block state.in_block false here in
        elim here.deeper as (λ b. IsSafeFence options block (cond b None (option_map
        (λ k. record { marks = marks_of here.hanging; kind = k }) (opened here.words)))) [
          | true ↦ tt
          | false ↦ maybe-safe options block (marks_of here.hanging) (opened here.words) (λ some.
              line-marks options (entered state (without_returns raw)) raw fed (opened-some here.words some))
        ]

-- nothing, or white first
abbrev pub EndsText : List ℕ → Type 0
EndsText [] = ⊤
EndsText (c ∷ cs) = is_white c ≡ true

-- or a carriage return first
abbrev pub EndsWord : List ℕ → Type 0
EndsWord [] = ⊤
EndsWord (c ∷ cs) = (is_white c || is_return c) ≡ true

-- ---- one text in two parts, twice

abbrev Splits : List ℕ → List ℕ → List ℕ → List ℕ → Type 0
Splits xs ys zs ws =
    ((d : List ℕ) × (xs ≡ zs ++ d))
    ⊎ ((c : ℕ) × (d : List ℕ) × (zs ≡ xs ++ c ∷ d) × (ys ≡ c ∷ (d ++ ws)))

splits : (xs ys zs ws : List ℕ) → xs ++ ys ≡ zs ++ ws → Splits xs ys zs ws
splits [] ys [] ws is = inl ([], refl)
splits [] ys (z ∷ zs) ws is = inr (z, zs, refl, is)
splits (x ∷ xs) ys [] ws is = inl (x ∷ xs, refl)
splits (x ∷ xs) ys (z ∷ zs) ws is = grind (arith, cases_Bool, splits xs ys zs ws (ap (drop 1) is))

-- ---- no mark goes on with a word of a text

-- it is none of the marks before a fence, where it is the first of them or stands behind these
module _ (options : ReflowOptions) (block : Bool) (word : List ℕ) (more : List (List ℕ)) (starred : Bool)
    (begins : begins_text starred word ≡ true) where
  no-quote : (words : List (List ℕ)) → All IsQuote (words ++ (word ∷ more)) → ⊥
  no-quote words all =
      true≢false (sym (All-head IsQuote word more (all-right IsQuote words (word ∷ more) all))
      ∙ text-no-quote starred word begins)

  no-comment : (b : Bool) → (b ≡ false → is_comment_at options false word ≡ true → ⊥)
      → is_comment_at options b word ≡ true → ⊥
  no-comment true other comment = grind (arith, cases_Bool, text-letter, bytes_eq-Decides, star-plain)
  no-comment false other comment = other refl comment

  never : (cs qs marks : List SpacedText) → AreMarks options block (words_in cs) (words_in qs)
      → (length marks ≡ 0 → block ≡ false → is_comment_at options false word ≡ true → ⊥)
      → words_in (cs ++ qs) ≡ words_in marks ++ (word ∷ more) → ⊥
  never [] qs marks are other same = no-quote (words_in marks) (subst (All IsQuote) same are.1)
  never (c ∷ []) qs [] are other same =
      no-comment block (other refl)
      (sym (ap (λ l. is_comment_at options block (get_or l 0 [])) same) ∙ are.0)
  never (c ∷ []) qs (m ∷ marks) are other same =
      no-quote (words_in marks) (subst (All IsQuote) (ap (drop 1) same) are.2)
  never (c ∷ d ∷ cs) qs marks are other same = absurd are

-- ---- the fence

left-by : (fence : FenceText) (raw : List ℕ) → fence_at (Some fence) raw ≡ None → is_left_by fence raw ≡ true
left-by fence raw is = grind (arith, cases_Bool)

-- the carriage returns at the end of a line
pub returned : (raw : List ℕ) → EndsWord (drop (length raw - suffix_len is_return raw) raw)
returned raw = cut (suffix_len is_return raw) refl
  where
    cut : (s : ℕ) → suffix_len is_return raw ≡ s → EndsWord (drop (length raw - suffix_len is_return raw) raw)
    cut zero is =
        subst EndsWord (sym (drop_all (length raw - suffix_len is_return raw) raw (omega (arith, is)))) tt
    cut (suc m) is =
        let le = suffix_len-le-length is_return raw in
        let n = length raw - suffix_len is_return raw in
        let place : length raw - 1 - m ≡ n = omega (arith, is) in
        let passes : is_return (get_or raw n 0) ≡ true =
        sym (ap is_return (get_or-reverse raw m 0 (omega (arith, is, le)) ∙ ap (λ k. get_or raw k 0) place))
        ∙ prefix_len_passes is_return (reverse raw) m 0 (omega (arith, is)) in
        subst EndsWord (sym (drop_more raw n 0 (omega (arith, is, le))))
        (ap (λ b. is_white (get_or raw n 0) || b) passes ∙ or-true (is_white (get_or raw n 0)))

-- what follows the first word of a line's text
pub text-tail : (raw prefix : List ℕ) (ws : List SpacedText) → 0 < length ws
    → without_returns raw ≡ prefix ++ spaced_text ws → AreSpaced ws
    → (tail : List ℕ) × (raw ≡ prefix ++ (first_word ws ++ tail)) × EndsWord tail
text-tail raw prefix [] some is are = absurd (omega (arith, some))
text-tail raw prefix (w ∷ ws) some is are =
    let n = length raw - suffix_len is_return raw in
    let back = drop n raw in
    let grouped : (prefix ++ ((w.word ++ w.white) ++ spaced_text ws)) ++ back
    ≡ prefix ++ (w.word ++ ((w.white ++ spaced_text ws) ++ back)) = simp append_assoc in (
      (w.white ++ spaced_text ws) ++ back,
      sym (take-append-drop n raw) ∙ ap (λ l. l ++ back) is ∙ grouped,
      ends w.white ws refl are (returned raw),
    )
  where
    ends : (white : List ℕ) (vs : List SpacedText) → w.white ≡ white → AreSpaced (w ∷ vs)
        → EndsWord (drop (length raw - suffix_len is_return raw) raw)
        → EndsWord ((white ++ spaced_text vs) ++ drop (length raw - suffix_len is_return raw) raw)
    ends [] [] same are back = back
    ends [] (v ∷ vs) same are back = absurd (omega (arith, are.1, ap length same))
    ends (c ∷ cs) vs same are back =
        ap (λ b. b || is_return c) (All-head IsWhite c cs (subst (All IsWhite) same (spaced-first w vs are).white))

-- such a word would be a comment mark of the line
would-be-mark : (options : ReflowOptions) (in_block : Bool) (ws cs qs bs : List SpacedText) → 0 < length ws
    → comment_len options in_block (cs ++ (qs ++ (bs ++ ws))) ≡ length cs
    → length (cs ++ (qs ++ bs)) ≡ 0 → in_block ≡ false
    → is_comment_at options false (first_word ws) ≡ true → ⊥
would-be-mark options in_block ws (c ∷ cs) qs bs some count none out comment = omega (arith, none)
would-be-mark options in_block ws [] (q ∷ qs) bs some count none out comment = omega (arith, none)
would-be-mark options in_block ws [] [] (b ∷ bs) some count none out comment = omega (arith, none)
would-be-mark options in_block ws [] [] [] some count none out comment = grind (arith, cases_Bool, comment_is)

first-rest : (ws : List SpacedText) → 0 < length ws
    → (rest : List ℕ) × (spaced_text ws ≡ first_word ws ++ rest)
first-rest [] some = absurd (omega (arith, some))
first-rest (w ∷ ws) some = (w.white ++ spaced_text ws, append_assoc w.word w.white (spaced_text ws))

module _ (options : ReflowOptions) (state : StateText) (raw : List ℕ)
    (r : IsRead options (entered state (without_returns raw)) raw) (some : 0 < length r.ws) where
  abbrev marks : List SpacedText
  marks = r.cs ++ (r.qs ++ r.bs)

  abbrev first : SpacedText
  first = record { word = first_word r.ws; white = [] }

  -- the line up to the end of its text's first word
  abbrev begun : List SpacedText
  begun = marks ++ (first ∷ [])

  begun-spaced : AreSpaced begun
  begun-spaced =
      let (full, spaced) = before-full marks r.ws some
      (read-spaced options (entered state (without_returns raw)) raw r) in
      full-before marks (first ∷ []) full (record {
        word = plain-first r.ws some spaced;
        white = All-nil IsWhite;
      })

  begun-text : spaced_text begun ≡ spaced_text marks ++ first.word
  begun-text =
      text-parts marks (first ∷ [])
      ∙ ap (λ l. spaced_text marks ++ l) (append-nil (first.word ++ []) ∙ append-nil first.word)

  behind-begun : (more : List ℕ)
      → behind_white (r.lead ++ (spaced_text begun ++ more)) ≡ spaced_text begun ++ more
  behind-begun more = grind (arith, cases_Bool, behind-lead, behind-words, begun-spaced, length-append)

  module _ (starred : Bool) (tail : List ℕ) (begins : begins_text starred first.word ≡ true)
      (ends : EndsText tail)
    where
      same-left : (fence : FenceText) (rest : List ℕ) → AreSafeMarks options state.in_block fence.marks
          → is_left_by fence (r.lead ++ (spaced_text begun ++ rest)) ≡ true
          → is_left_by fence (r.lead ++ (spaced_text begun ++ tail)) ≡ true
      same-left fence rest (others, block, was, hang) left =
          ap not (ap (λ l. starts_with nat_eq l fence.marks) (behind-begun tail)
          ∙ false_from_ne_true (starts_with nat_eq (spaced_text begun ++ tail) fence.marks) (λ starts.
          parted (splits (spaced_text begun) tail fence.marks
          (drop (length fence.marks) (spaced_text begun ++ tail))
          (starts_with-rest fence.marks (spaced_text begun ++ tail) starts))))
        where
          outside : starts_with nat_eq (spaced_text begun ++ rest) fence.marks ≡ false
          outside =
              sym (ap (λ l. starts_with nat_eq l fence.marks) (behind-begun rest))
              ∙ not-true (starts_with nat_eq (behind_white (r.lead ++ (spaced_text begun ++ rest)))
              fence.marks) left

          parted : Splits (spaced_text begun) tail fence.marks
              (drop (length fence.marks) (spaced_text begun ++ tail)) → ⊥
          parted (inl (d, same)) =
              true≢false (sym (starts_with-true fence.marks (spaced_text begun ++ rest) (d ++ rest)
              (ap (λ l. l ++ rest) same ∙ append_assoc fence.marks d rest)) ∙ outside)
          parted (inr (c, d, same, more)) =
              let after = words_between_white (d ++ others) in
              let ks = hang.cs ++ hang.qs in
              let words : words_in ks ≡ words_in marks ++ (first.word ∷ after) =
              sym (text-words (fence.marks ++ others) hang.lead ks
              (record { white = hang.white; spaced = all-spaced ks hang.full; is = hang.is }))
              ∙ ap (λ m. words_between_white (m ++ others)) same
              ∙ ap words_between_white (append_assoc (spaced_text begun) (c ∷ d) others)
              ∙ words-white (spaced_text begun) c (d ++ others) (subst EndsText more ends)
              ∙ ap (λ l. l ++ after) (spaced-in begun begun-spaced
              ∙ map-append (λ w. w.word) marks (first ∷ []))
              ∙ append_assoc (words_in marks) (first.word ∷ []) after in
              never options block first.word after starred begins hang.cs hang.qs marks hang.marks
              (λ none out. would-be-mark options state.in_block r.ws r.cs r.qs r.bs some r.have.comment none
              (was out)) words

      pub still-left : IsSafe options state → fence_at state.fence (without_returns raw) ≡ None
          → fence_at state.fence ((r.lead ++ spaced_text marks) ++ (first.word ++ tail)) ≡ None
      still-left safe left = cut state.fence safe left
        where
          cut : (f : Option FenceText) → IsSafeFence options state.in_block f
              → fence_at f (without_returns raw) ≡ None
              → fence_at f ((r.lead ++ spaced_text marks) ++ (first.word ++ tail)) ≡ None
          cut None safe left = refl
          cut (Some fence) safe left =
              let (rest, is) = first-rest r.ws some in
              let grouped : (more : List ℕ) → (r.lead ++ spaced_text marks) ++ (first.word ++ more)
              ≡ r.lead ++ (spaced_text begun ++ more) = λ more.
              append_assoc r.lead (spaced_text marks) (first.word ++ more)
              ∙ ap (λ t. r.lead ++ t) (sym (append_assoc (spaced_text marks) first.word more)
              ∙ ap (λ t. t ++ more) (sym begun-text)) in
              let old : without_returns raw ≡ r.lead ++ (spaced_text begun ++ rest) =
              read-split options (entered state (without_returns raw)) raw r
              ∙ ap (λ t. (r.lead ++ spaced_text marks) ++ t) is ∙ grouped rest in
              ap (λ b. cond b None (Some fence)) (ap (is_left_by fence) (grouped tail)
              ∙ same-left fence rest safe (sym (ap (is_left_by fence) old)
              ∙ left-by fence (without_returns raw) left))
