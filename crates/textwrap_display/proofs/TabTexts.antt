-- Texts with blanks in the place of their tabs, one part after another, and the laws of them.
use Rattle.std.proofs.{Common.◌%◌, Math.Nat.add-mul, lemmas.List.get_or_default}
use Rattle.std.proofs.lemmas.List.{Elements.All-replicate, Folds.list_any-append, Folds.list_any_none}
use Rattle.std.proofs.lemmas.List.Splits.{length-slice_split, slice_split_at, slice_split_first}
use Rattle.std.proofs.lemmas.{List.Splits.slice_split_none, List.Sums.prefix_len_passes, Nat.div-add-mod'}
use Rattle.std.proofs.lemmas.{Nat.mod_below, Str.Pattern.NoCharPasses-char, Str.Pattern.contains_char}
use Rattle.std.{proofs.lemmas.Str.Pattern.drop_at_char, specs.List.after_first, specs.List.before_first}
use Rattle.std.specs.{List.list_any, List.position_or_len, Prelude.MatchBool, Prelude.replicate}
use Rattle.std.specs.Str.{NoCharPasses, Pattern.FindsChar, Pattern.HasCharAt}
use Rattle.textwrap_display.proofs.Common.{IsWholeText, suc-mul, text_width-append, text_width-nil}
use Rattle.textwrap_display.proofs.Widths.{more-blanks}
use Rattle.textwrap_display.specs.Tabs.{expanded_tabs, filled_parts, filled_up, last_line, tab, tab_blanks}
use Rattle.textwrap_text.proofs.Common.{All, All-append, All-cons, All-head, All-nil, All-tail}
use Rattle.textwrap_text.proofs.Common.{All-weaker, Bool, List, None, Some, [], ap, append-nil}
use Rattle.textwrap_text.proofs.Common.{append_assoc, arith, blank, cases_Bool, cond, drop}
use Rattle.textwrap_text.proofs.Common.{eqb-false, eqb-true, false, false_from_ne_true, inl, inr}
use Rattle.textwrap_text.proofs.Common.{length, ne_eqb, not-true, refl, rules, slice_split, subst}
use Rattle.textwrap_text.proofs.Common.{suc, sym, take, take-append-drop, text_width, true, ℕ, ◌*◌}
use Rattle.textwrap_text.proofs.Common.{◌++◌, ◌+◌, ◌/◌, ◌<◌, ◌==◌, ◌||◌, ◌∙◌, ◌∷◌, ◌≡◌, ◌≢◌, ◌≤◌}
use Rattle.textwrap_text.proofs.Lists.{Elements.any-contains, Elements.contains-any, Parts.after_last-push}

-- ---- what stands behind the last line feed

abbrev is_feed : ℕ → Bool
is_feed b = b == 10

-- of a text and more
last_line-append : (text more : List ℕ) → last_line (text ++ more)
    ≡ cond (list_any is_feed more) (last_line more) (last_line text ++ more)
last_line-append text [] = ap last_line (append-nil text) ∙ sym (append-nil (last_line text))
last_line-append text (c ∷ cs) =
    ap last_line (sym (append_assoc text (c ∷ []) cs)) ∙ last_line-append (text ++ c ∷ []) cs
    ∙ rw (after_last-push is_feed text c, last_line-append (c ∷ []) cs, after_last-push is_feed [] c)
    (by (is_feed c) (list_any is_feed cs))
  where
    by : (feed later : Bool) → cond later (last_line cs) (cond feed [] (last_line text ++ c ∷ []) ++ cs)
        ≡ cond (feed || later) (cond later (last_line cs) (cond feed [] (c ∷ []) ++ cs))
        (last_line text ++ c ∷ cs)
    by feed later = grind (arith, cases_Bool, append_assoc)

last_line-free : (text more : List ℕ) → list_any is_feed more ≡ false
    → last_line (text ++ more) ≡ last_line text ++ more
last_line-free text more lacks = rw lacks at (last_line-append text more)

last_line-past : (text more : List ℕ) → last_line (text ++ 10 ∷ more) ≡ last_line more
last_line-past text more =
    let own = last_line-append (10 ∷ []) more in
    grind (arith, cases_Bool, last_line-append text (10 ∷ more), own, last_line-append [] more)

lacks-any : (c : ℕ) (text : List ℕ) → c < 128 → NoCharPasses (λ d. d == c) text
    → list_any (λ b. b == c) text ≡ false
lacks-any c text low none = false_from_ne_true _ (λ some.
    let (k, within, is) = any-contains c text some in
    NoCharPasses-char c text k none low within (get_or_default text k 0 c within ∙ is))

pub last_line-none : (text : List ℕ) → NoCharPasses (λ d. d == 10) text → text ≡ last_line text
last_line-none text none = sym (last_line-free [] text (lacks-any 10 text (omega arith) none))

pub last_line-behind : (text : List ℕ) (i j : ℕ) → NoCharPasses (λ d. d == 10) (drop j text)
    → HasCharAt 10 text i j → j ≤ length text → drop j text ≡ last_line text
last_line-behind text i j none feed within =
    last_line-none (drop j text) none ∙ sym (last_line-past (take i text) (drop j text))
    ∙ ap (λ l. last_line (take i text ++ l)) (sym (drop_at_char 10 text i j feed (omega arith)))
    ∙ ap last_line (take-append-drop i text)

-- ---- whether a text has a tab

abbrev pub is_tab : ℕ → Bool
is_tab b = b == tab

pub has-tab : (text : List ℕ) (r : Bool)
    → MatchBool r ((i : ℕ) × (j : ℕ) × FindsChar 9 text (Some (i, j)) × (i ≤ j) × (j ≤ length text))
    (FindsChar 9 text None) → r ≡ list_any is_tab text
has-tab text true found =
    let (k, within, is) = (contains_char 9 text true found (omega arith)).0 refl in
    sym (contains-any 9 text (k, within, get_or_default text k 9 0 within ∙ is))
has-tab text false none = sym (lacks-any 9 text (omega arith) none)

-- ---- one part after another

pub filled-more : (stop : ℕ) (part : List ℕ) (parts : List (List ℕ)) → 0 < length parts
    → filled_parts stop (part ∷ parts) ≡ filled_up stop part ++ filled_parts stop parts
filled-more stop part [] some = absurd (omega arith)
filled-more stop part (next ∷ parts) some = refl

-- a part, and the tab behind it
pub expanded-next : (stop : ℕ) (text part rest : List ℕ)
    → (position_or_len is_tab text < length text) × (part ≡ before_first is_tab text)
    × (rest ≡ after_first is_tab text)
    → expanded_tabs stop text ≡ filled_up stop part ++ expanded_tabs stop rest
expanded-next stop text part rest (within, first, later) =
    search (rules, arith, slice_split_first, filled-more, length-slice_split)

-- the last part
pub expanded-last : (stop : ℕ) (text : List ℕ) → position_or_len is_tab text ≡ length text
    → expanded_tabs stop text ≡ text
expanded-last stop text all = search (rules, arith, slice_split_none, not-true, prefix_len_passes)

-- ---- a text is its parts between tabs

-- a byte stands nowhere in a text; blanks are neither tabs nor line feeds
abbrev Lacks : ℕ → List ℕ → Type 0
Lacks c text = All (λ b. b ≢ c) text

lacks-both : (c : ℕ) (xs ys : List ℕ) → Lacks c xs → Lacks c ys → Lacks c (xs ++ ys)
lacks-both c xs ys = All-append (λ b. b ≢ c) xs ys

lacks-blanks : (c n : ℕ) → c < 32 → Lacks c (replicate n blank)
lacks-blanks c n low = All-replicate (λ b. b ≢ c) n blank (λ is. omega (arith, is, low))

no-tabs : (part : List ℕ) → Lacks 9 part → All (λ b. is_tab b ≡ false) part
no-tabs part lacks = search (rules, arith, All-weaker, ne_eqb)

module _ (P : List ℕ → Type 0) (whole : (part : List ℕ) → Lacks 9 part → P part)
    (more : (part rest : List ℕ) → Lacks 9 part → P rest → P (part ++ 9 ∷ rest)) where
  parts-past : (part text : List ℕ) → Lacks 9 part → P (part ++ text)
  parts-past part [] lacks = subst P (sym (append-nil part)) (whole part lacks)
  parts-past part (c ∷ cs) lacks = elim (cases_Bool (is_tab c)) [
    | inl here ↦ subst (λ b. P (part ++ b ∷ cs)) (sym (eqb-true c 9 here))
        (more part cs lacks (parts-past [] cs (All-nil (λ b. b ≢ 9))))
    | inr other ↦ subst P (append_assoc part (c ∷ []) cs) (parts-past (part ++ c ∷ []) cs
        (search (rules, arith, lacks-both 9, All-cons, All-nil, eqb-false)))
  ]

  by-parts : (text : List ℕ) → P text
  by-parts text = parts-past [] text (All-nil (λ b. b ≢ 9))

-- ---- parts between tabs, and lines

module _ (stop : ℕ) where
  pub expanded-free : (text : List ℕ) → Lacks 9 text → expanded_tabs stop text ≡ text
  expanded-free text lacks = search (rules, arith, slice_split_none, no-tabs)

  -- a part that a tab follows
  expanded-tab : (part rest : List ℕ) → Lacks 9 part
      → expanded_tabs stop (part ++ 9 ∷ rest) ≡ filled_up stop part ++ expanded_tabs stop rest
  expanded-tab part rest lacks =
      search (rules, arith, slice_split_at, no-tabs, filled-more, length-slice_split)

  -- and what follows it is a text and more
  expanded-more : (part rest more : List ℕ) → Lacks 9 part → expanded_tabs stop ((part ++ 9 ∷ rest) ++ more)
      ≡ filled_up stop part ++ expanded_tabs stop (rest ++ more)
  expanded-more part rest more lacks = ap (expanded_tabs stop) (append_assoc part (9 ∷ rest) more)
      ∙ expanded-tab part (rest ++ more) lacks

  -- ---- no tab is left

  pub no_tab-left : (text : List ℕ) → Lacks 9 (expanded_tabs stop text)
  no_tab-left = by-parts (λ text. Lacks 9 (expanded_tabs stop text))
      (λ part lacks. rw (expanded-free part lacks) lacks)
      (λ part rest lacks left. rw (expanded-tab part rest lacks)
      (search (rules, arith, lacks-both 9, lacks-blanks 9)))

  -- ---- what follows a tab is expanded by itself

  pub expanded-cut : (before after : List ℕ) → expanded_tabs stop (before ++ 9 ∷ after)
      ≡ expanded_tabs stop (before ++ 9 ∷ []) ++ expanded_tabs stop after
  expanded-cut before after = by-parts (λ text. expanded_tabs stop (text ++ 9 ∷ after)
      ≡ expanded_tabs stop (text ++ 9 ∷ []) ++ expanded_tabs stop after)
      (λ part lacks. rw (expanded-tab part after lacks, expanded-tab part [] lacks, append-nil) refl)
      (λ part rest lacks is. let all = expanded-more part rest (9 ∷ after) lacks in
      rw (all, expanded-more part rest (9 ∷ []) lacks, is) (simp append_assoc)) before

  -- ---- each line is expanded by itself

  -- the first line has no tab
  line-after : (line after : List ℕ) → Lacks 9 line
      → expanded_tabs stop (line ++ 10 ∷ after) ≡ line ++ 10 ∷ expanded_tabs stop after
  line-after line after lacks = by-parts
      (λ text. expanded_tabs stop (line ++ 10 ∷ text) ≡ line ++ 10 ∷ expanded_tabs stop text)
      (λ part none. rw (expanded-free (line ++ 10 ∷ part) (joined part none), expanded-free part none) refl)
      (λ part rest none _. let first = expanded-tab (line ++ 10 ∷ part) rest (joined part none) in
      ap (expanded_tabs stop) (sym (append_assoc line (10 ∷ part) (9 ∷ rest)))
      ∙ rw (first, last_line-past line part, expanded-tab part rest none) (simp append_assoc)) after
    where
      joined : (part : List ℕ) → Lacks 9 part → Lacks 9 (line ++ 10 ∷ part)
      joined part none = lacks-both 9 line (10 ∷ part) lacks
          (All-cons (λ b. b ≢ 9) 10 part (λ is. omega (arith, is)) none)

  pub expanded-lines : (before after : List ℕ) → expanded_tabs stop (before ++ 10 ∷ after)
      ≡ expanded_tabs stop before ++ 10 ∷ expanded_tabs stop after
  expanded-lines before after = by-parts (λ text. expanded_tabs stop (text ++ 10 ∷ after)
      ≡ expanded_tabs stop text ++ 10 ∷ expanded_tabs stop after)
      (λ part lacks. rw (line-after part after lacks, expanded-free part lacks) refl)
      (λ part rest lacks is. let all = expanded-more part rest (10 ∷ after) lacks in
      rw (all, expanded-tab part rest lacks, is) (sym (append_assoc (filled_up stop part) _ _))) before

pub expanded-twice : (stop later : ℕ) (text : List ℕ)
    → expanded_tabs later (expanded_tabs stop text) ≡ expanded_tabs stop text
expanded-twice stop later text = search (rules, arith, expanded-free, no_tab-left)

-- ---- a tab leads to a stop

abbrev IsMultiple : ℕ → ℕ → Type 0
IsMultiple stop n = (k : ℕ) × (n ≡ k * stop)

filled-columns : (stop columns more : ℕ) → stop ≢ 0 → IsMultiple stop more
    → IsMultiple stop (columns + (tab_blanks stop columns + more))
filled-columns stop columns more some (k, is) =
    (suc (columns / stop + k), search (rules, arith, ne_eqb, mod_below, div-add-mod', suc-mul, add-mul))

-- no escape sequence of the line goes on over the end of the part
abbrev EndsWhole : List ℕ → Type 0
EndsWhole part = IsWholeText (last_line part)

module _ (stop : ℕ) (some : stop ≢ 0) where
  abbrev Reaches : List ℕ → Type 0
  Reaches text = IsMultiple stop (text_width (last_line text))

  reaches-more : (part rest : List ℕ) → EndsWhole part → Reaches rest → Reaches (filled_up stop part ++ rest)
  reaches-more part rest whole reaches = elim (cases_Bool (list_any is_feed rest)) [
    | inl some ↦ rw (rw some at (last_line-append (filled_up stop part) rest)) reaches
    | inr lacks ↦
        let n = tab_blanks stop (text_width (last_line part)) in
        let more : list_any is_feed (replicate n blank ++ rest) ≡ false =
        let none = All-replicate (λ b. is_feed b ≡ false) n blank refl in
        rw (list_any-append, list_any_none is_feed (replicate n blank) none) lacks in
        let free = last_line-free part (replicate n blank ++ rest) more in
        rw (append_assoc, free, text_width-append _ _ whole.0 whole.1, more-blanks n rest)
        (filled-columns stop (text_width (last_line part)) (text_width rest) some
        (rw (last_line-free [] rest lacks) at reaches))
  ]

  reaches : (before : List ℕ) → All EndsWhole (slice_split is_tab before)
      → Reaches (expanded_tabs stop (before ++ 9 ∷ []))
  reaches = by-parts
      (λ text. All EndsWhole (slice_split is_tab text) → Reaches (expanded_tabs stop (text ++ 9 ∷ [])))
      (λ part lacks whole. subst Reaches (sym (expanded-tab stop part [] lacks)) (reaches-more part []
      (All-head EndsWhole part [] (rw (slice_split_none is_tab part (no-tabs part lacks)) at whole))
      (0, omega (arith, text_width-nil))))
      (λ part rest lacks more whole.
      let parts = rw (slice_split_at is_tab part 9 rest (no-tabs part lacks) refl) at whole in
      subst Reaches (sym (expanded-more stop part rest (9 ∷ []) lacks)) (reaches-more part _
      (All-head EndsWhole part _ parts) (more (All-tail EndsWhole part _ parts))))

pub tab-reaches : (stop : ℕ) (before : List ℕ) → stop ≢ 0 → All EndsWhole (slice_split is_tab before)
    → text_width (last_line (expanded_tabs stop (before ++ 9 ∷ []))) % stop ≡ 0
tab-reaches stop before some whole = grind (arith, reaches stop some before whole)
