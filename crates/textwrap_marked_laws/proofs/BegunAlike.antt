-- How a new text begins, and how its first line ends.
use Rattle.textwrap_marked.specs.Reflow.{ending_of_line, first_ending}
use Rattle.textwrap_marked_laws.proofs as own
use own.Common.{IsOfBlock, all-right, ends_with, is_return, All-head, LineText, all-left, flat_map, Option, ℕ}
use own.Common.{None, Some, cond, refl, true, ◌&&◌, ◌++◌, ◌||◌, ap₂, inl, inr, sym, ◌<◌, ◌∙◌, ◌∷◌, ◌≡◌, ◌≤◌}
use own.Common.{byte_order_mark, join_with_byte, ReflowOptions, filled_ending, append_assoc, AreOfBlocks, All}
use own.Common.{length, lt-ltb, nat_eq, nat_lt, ne_eqb, arith, codes, false, stays, subst, Bool, CRLF, List}
use own.Common.{shown_lines, starts_with, LineEnding, append-nil, cases_Bool, filled_end, true≢false, printed}
use own.{AnewLines.{returns_by, return_if}, Feedless.{raws-some, raws_of, NoFeed}, WordEnds.filled-last}
use own.{Common.{◌⊎◌, LF, [], ap, ⊤}, FenceLeft.{EndsText, EndsWord}}

-- a first line in the place of another: what both begin with goes up to the end of a word, and if lines
-- follow, it ends in a carriage return where the others do
pub record IsInPlace (returns : Bool) (raw new : List ℕ) (news : List (List ℕ)) : Type 0 where
  pub common : List ℕ
  pub old_end : List ℕ
  pub new_end : List ℕ
  pub old : raw ≡ common ++ old_end
  pub is : new ≡ common ++ new_end
  pub old_ends : EndsWord old_end
  pub new_ends : EndsWord new_end
  pub ends : nat_lt 0 (length news) ≡ true → ends_with nat_eq new (codes "\r") ≡ returns

-- the same first line, or one in its place
abbrev pub AreBegun : Bool → List (List ℕ) → List (List ℕ) → Type 0
AreBegun returns [] news = ⊤
AreBegun returns (raw ∷ raws) [] = ⊤
AreBegun returns (raw ∷ raws) (new ∷ news) =
    ((raw ≡ new) × (nat_lt 0 (length raws) ≡ nat_lt 0 (length news)))
    ⊎ IsInPlace returns raw new news

pub ends-word : (tail : List ℕ) (r : Bool) → EndsText tail → EndsWord (tail ++ return_if r)
ends-word [] true ends = refl
ends-word [] false ends = tt
ends-word (c ∷ tail) r ends = ap (λ b. b || is_return c) ends

-- ---- a byte order mark

-- no byte of a byte order mark first
abbrev SmallFirst : List ℕ → Type 0
SmallFirst [] = ⊤
SmallFirst (c ∷ cs) = c < 128

none-first : (text : List ℕ) (m : ℕ) (ms : List ℕ) → SmallFirst text → 128 ≤ m
    → starts_with nat_eq text (m ∷ ms) ≡ false
none-first [] m ms small large = refl
none-first (c ∷ cs) m ms small large =
    ap (λ b. b && starts_with nat_eq cs ms) (ne_eqb m c (λ e. omega (arith, small, large, e)))

same-start : (common a b : List ℕ) → SmallFirst a → SmallFirst b
    → starts_with nat_eq (common ++ a) byte_order_mark ≡ starts_with nat_eq (common ++ b) byte_order_mark
same-start [] a b small other =
    none-first a 0xEF (0xBB ∷ 0xBF ∷ []) small (omega arith)
    ∙ sym (none-first b 0xEF (0xBB ∷ 0xBF ∷ []) other (omega arith))
same-start (x ∷ []) a b small other =
    ap (λ t. nat_eq 0xEF x && t) (none-first a 0xBB (0xBF ∷ []) small (omega arith)
    ∙ sym (none-first b 0xBB (0xBF ∷ []) other (omega arith)))
same-start (x ∷ y ∷ []) a b small other =
    ap (λ t. nat_eq 0xEF x && (nat_eq 0xBB y && t)) (none-first a 0xBF [] small (omega arith)
    ∙ sym (none-first b 0xBF [] other (omega arith)))
same-start (x ∷ y ∷ z ∷ common) a b small other = refl

word-small : (text more : List ℕ) → EndsWord text → SmallFirst more → SmallFirst (text ++ more)
word-small [] more ends small = small
word-small (c ∷ cs) more ends small = grind (arith, cases_Bool)

feed-small : (raws : List (List ℕ)) (raw : List ℕ)
    → (more : List ℕ) × (join_with_byte 10 (raw ∷ raws) ≡ raw ++ more) × SmallFirst more
feed-small [] raw = ([], sym (append-nil raw), tt)
feed-small (next ∷ raws) raw = (10 ∷ join_with_byte 10 (next ∷ raws), refl, omega arith)

abbrev begins_marked : List ℕ → Bool
begins_marked text = starts_with nat_eq text byte_order_mark

pub marks-same : (returns : Bool) (raws news : List (List ℕ)) → 0 < length raws → 0 < length news
    → AreBegun returns raws news → begins_marked (join_with_byte 10 news) ≡ begins_marked
    (join_with_byte 10 raws)
marks-same returns [] news some more begun = absurd (omega (arith, some))
marks-same returns (raw ∷ raws) [] some more begun = absurd (omega (arith, more))
marks-same returns (raw ∷ raws) (new ∷ news) some more begun =
    let (behind, is, small) = feed-small raws raw in
    let (others, shown, low) = feed-small news new in
    ap begins_marked shown ∙ starts others behind low small begun ∙ ap begins_marked (sym is)
  where
    starts : (others more : List ℕ) → SmallFirst others → SmallFirst more
        → AreBegun returns (raw ∷ raws) (new ∷ news)
        → begins_marked (new ++ others) ≡ begins_marked (raw ++ more)
    starts others more low small (inl (same, fed)) =
        ap (λ t. begins_marked (t ++ others)) (sym same) ∙ same-start raw others more low small
    starts others more low small (inr place) =
        ap begins_marked (ap (λ t. t ++ others) place.is ∙ append_assoc place.common place.new_end others)
        ∙ same-start place.common (place.new_end ++ others) (place.old_end ++ more)
        (word-small place.new_end others place.new_ends low)
        (word-small place.old_end more place.old_ends small)
        ∙ ap begins_marked (sym (ap (λ t. t ++ more) place.old
        ∙ append_assoc place.common place.old_end more))

-- ---- the first line says it, if lines follow

ending-by : (e : LineEnding) → cond (true && returns_by e) CRLF LF ≡ e
ending-by LF = refl
ending-by CRLF = refl

first-ends : (raws news : List (List ℕ)) → 0 < length raws
    → AreBegun (returns_by (first_ending raws)) raws news → 1 < length news
    → first_ending news ≡ first_ending raws
first-ends [] news more begun some = absurd (omega (arith, more))
first-ends (raw ∷ raws) [] more begun some = absurd (omega (arith, some))
first-ends (raw ∷ raws) (new ∷ news) more (inl (same, fed)) some =
    λ i. ending_of_line (sym same i) (sym fed i)
first-ends (raw ∷ raws) (new ∷ news) more (inr place) some = grind (arith, cases_Bool, lt-ltb, ending-by)

pub ends-alike : (e : Option LineEnding) (text reflowed : List ℕ)
    → AreBegun (returns_by (filled_ending e text)) (raws_of text) (raws_of reflowed)
    → 1 < length (raws_of reflowed) → filled_ending e reflowed ≡ filled_ending e text
ends-alike (Some e) text reflowed begun some = refl
ends-alike None text reflowed begun some =
    first-ends (raws_of text) (raws_of reflowed) (raws-some text) begun some

-- ---- a single line has no ending

module _ (options : ReflowOptions) (ending other front_end : List ℕ) (feed : ending ≡ front_end ++ 10 ∷ [])
    (line : LineText) (unfed : line.fed ≡ false) where
  end-same : filled_end ending (line ∷ []) ≡ filled_end other (line ∷ [])
  end-same = grind (arith, cases_Bool, filled-last)

  -- an ending stands between two printed lines
  printed-one : (first later : List ℕ) (texts : List (List ℕ)) (end : List ℕ)
      → All NoFeed (printed ending first later texts ++ end)
      → printed ending first later texts ≡ printed other first later texts
  printed-one first later [] end all = refl
  printed-one first later (text ∷ []) end all = refl
  printed-one first later (text ∷ next ∷ texts) end all =
      let rest = flat_map (λ (l : List ℕ). (ending ++ later) ++ l) texts in
      let lines = all-left NoFeed (printed ending first later (text ∷ next ∷ texts)) end all in
      let behind = all-right NoFeed (first ++ text) (((ending ++ later) ++ next) ++ rest) lines in
      let between = all-left NoFeed (ending ++ later) next
      (all-left NoFeed ((ending ++ later) ++ next) rest behind) in
      let own = subst (All NoFeed) feed (all-left NoFeed ending later between) in
      absurd (true≢false (All-head NoFeed 10 [] (all-right NoFeed front_end (10 ∷ []) own)))

  one-block : (b : Bool) (text : List ℕ) → All NoFeed text → IsOfBlock options ending b line (line ∷ []) text
      → IsOfBlock options other b line (line ∷ []) text
  one-block true text all is = is
  one-block false text all (division, divided, is) = (
    division,
    divided,
    is ∙ ap₂ (λ lines end. lines ++ end) (printed-one line.prefix line.hanging
        (shown_lines options line division) (filled_end ending (line ∷ [])) (subst (All NoFeed) is all))
        end-same,
  )

  pub one-line : (text : List ℕ) → All NoFeed text → AreOfBlocks options ending false ((line ∷ []) ∷ []) text
      → AreOfBlocks options other false ((line ∷ []) ∷ []) text
  one-line text all (front, back, of, later, is) = (
    front,
    back,
    one-block (stays false line) front (all-left NoFeed front back (subst (All NoFeed) is all)) of,
    later,
    is,
  )
