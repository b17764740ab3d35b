-- What is read of a line, from its words by kind: a comment mark, quote marks, bullets and text.
use Rattle.std.proofs.Common.{length-take-le, drop_at, eq-eqb}
use Rattle.textwrap_marked_lines.specs.Prefixes.{prefix_ends, lead_len}
use Rattle.textwrap_marked_lines.{specs.Lines.is_chosen, specs.declared.prefixes.PrefixEnds.PrefixEnds}
use Rattle.textwrap_marked_laws.proofs as own
use own.Common.{LineText, has_byte, is_ended, list_any, is_deep, is_some, take_at, is_box, is_key, length, []}
use own.Common.{closes_block, line_as_read, spaced_words, stands_apart, bullets_len, comment_len, slice_range}
use own.Common.{is_comment_opening, hanging_comments, take-append-drop, flat_map-append, hanging_bullets, not}
use own.Common.{line_from_words, without_returns, ReflowOptions, is_comment_at, length-append, append_assoc}
use own.Common.{lt-ltb, ne_eqb, arith, false, Bool, List, cond, drop, refl, take, true, ◌&&◌, ◌++◌, ◌==◌, suc}
use own.Common.{spaced_text, SpacedText, append-nil, cases_Bool, first_word, quotes_len, StateText, is_bullet}
use own.Common.{◌||◌, sym, ◌+◌, ◌-◌, ◌∙◌, ◌∷◌, ◌≡◌, ◌≤◌, ap, ℕ}
use own.SpacedBack.{begins-plain, BeginsPlain, IsLineText, lead_words, line-back, with_lead}

-- ---- what is read of words by kind

-- the white in front, the words of each kind, the text of all before the bullets, that of all before
-- the text, and whether there are no bullets
pub record Kinds : Type 0 where
  pub lead : List ℕ
  pub comments : List SpacedText
  pub quotes : List SpacedText
  pub bullets : List SpacedText
  pub words : List SpacedText
  pub margin : List ℕ
  pub prefix : List ℕ
  pub bare : Bool

abbrev pub hanging_of : Bool → Kinds → List ℕ
hanging_of bare k = k.lead ++ hanging_comments bare k.comments ++ spaced_text k.quotes

abbrev pub has_opening_in : List SpacedText → Bool
has_opening_in words = list_any (λ w. is_comment_opening w.word) words

abbrev pub line_by : ReflowOptions → StateText → List ℕ → Bool → Kinds → LineText
line_by options state raw fed k =
    let margin = hanging_of options.bare k in
    let opening = has_opening_in k.comments in
    let in_block = state.in_block || opening in
    let starred = in_block && not (has_byte 42 margin) in
    let field = is_key (first_word k.words) && k.bare in
    let deeper = is_deep options state margin in
    record {
      raw = raw;
      fed = fed;
      prefix = k.prefix;
      hanging = margin ++ hanging_bullets k.bullets;
      words = k.words;
      starred = starred;
      opens_block = opening && not (closes_block k.words);
      deeper = deeper;
      apart =
          is_some state.fence || deeper || state.prompted
          || stands_apart options.justify in_block starred field k.words;
      field = field;
      ended = is_ended in_block k.words;
      chosen = is_chosen options k.margin;
    }

abbrev cut_kinds : List SpacedText → PrefixEnds → Kinds
cut_kinds all ends = record {
  lead = spaced_text (take ends.lead all);
  comments = slice_range all ends.lead ends.comment;
  quotes = slice_range all ends.comment ends.margin;
  bullets = slice_range all ends.margin ends.text;
  words = drop ends.text all;
  margin = spaced_text (take ends.margin all);
  prefix = spaced_text (take ends.text all);
  bare = ends.margin == ends.text;
}

abbrev pub kinds : List ℕ → List SpacedText → List SpacedText → List SpacedText → List SpacedText → Kinds
kinds lead comments quotes bullets words = record {
  lead = lead;
  comments = comments;
  quotes = quotes;
  bullets = bullets;
  words = words;
  margin = lead ++ spaced_text (comments ++ quotes);
  prefix = lead ++ spaced_text (comments ++ (quotes ++ bullets));
  bare = length bullets == 0;
}

-- ---- how many are of each kind

pub record HaveKinds (options : ReflowOptions) (in_block : Bool) (comments quotes bullets
    words : List SpacedText) : Type 0 where
  pub comment : comment_len options in_block (comments ++ (quotes ++ (bullets ++ words)))
      ≡ length comments
  pub quote : quotes_len (quotes ++ (bullets ++ words)) ≡ length quotes
  pub bullet : bullets_len (bullets ++ words) ≡ length bullets

abbrev pub one_if : Bool → ℕ
one_if b = cond b 1 0

abbrev one_unless : Bool → ℕ
one_unless b = cond b 0 1

-- what is counted where a test holds
pub none-if : (b : Bool) (n m : ℕ) → cond b (suc n) m ≡ 0 → b ≡ false
none-if true n m is = absurd (omega (arith, is))
none-if false n m is = refl

pub some-if : (b : Bool) (n m : ℕ) → cond b (suc n) 0 ≡ suc m → (b ≡ true) × (n ≡ m)
some-if true n m is = (refl, omega (arith, is))
some-if false n m is = absurd (omega (arith, is))

lead-len : (lead : List ℕ) (ws : List SpacedText) → BeginsPlain ws
    → lead_len (with_lead lead ws) ≡ length (lead_words lead)
lead-len [] [] begins = refl
lead-len [] (w ∷ ws) begins = ap one_unless (lt-ltb 0 (length w.word) begins)
lead-len (c ∷ cs) ws begins = refl

lead-text : (lead : List ℕ) → spaced_text (lead_words lead) ≡ lead
lead-text [] = refl
lead-text (c ∷ cs) = append-nil (c ∷ cs)

-- a list in two parts, and in three
behind : (front rest all : List SpacedText) → all ≡ front ++ rest → drop (length front) all ≡ rest
behind front rest all is = ap (drop (length front)) is ∙ drop_at front rest (length front) refl

between : (front middle rest all : List SpacedText) → all ≡ (front ++ middle) ++ rest
    → slice_range all (length front) (length (front ++ middle)) ≡ middle
between front middle rest all is =
    let n = length (front ++ middle) - length front in
    ap (take n) (behind front (middle ++ rest) all (is ∙ append_assoc front middle rest))
    ∙ take_at middle rest n (omega (arith, length-append front middle))

module _ (lead : List ℕ) (cs qs bs ws : List SpacedText) where
  abbrev all_words : List SpacedText
  all_words = cs ++ (qs ++ (bs ++ ws))

  abbrev all : List SpacedText
  all = with_lead lead all_words

  -- what stands before the quote marks, before the bullets and before the text
  abbrev to_quotes : List SpacedText
  to_quotes = lead_words lead ++ cs

  abbrev to_bullets : List SpacedText
  to_bullets = to_quotes ++ qs

  abbrev to_text : List SpacedText
  to_text = to_bullets ++ bs

  abbrev all_ends : PrefixEnds
  all_ends = record {
    lead = length (lead_words lead);
    comment = length to_quotes;
    margin = length to_bullets;
    text = length to_text;
  }

  at-quotes : all ≡ to_quotes ++ (qs ++ (bs ++ ws))
  at-quotes = sym (append_assoc (lead_words lead) cs (qs ++ (bs ++ ws)))

  at-bullets : all ≡ to_bullets ++ (bs ++ ws)
  at-bullets = at-quotes ∙ sym (append_assoc to_quotes qs (bs ++ ws))

  at-text : all ≡ to_text ++ ws
  at-text = at-bullets ∙ sym (append_assoc to_bullets bs ws)

  text-before : (front rest ks : List SpacedText) → all ≡ front ++ rest → front ≡ lead_words lead ++ ks
      → spaced_text (take (length front) all) ≡ lead ++ spaced_text ks
  text-before front rest ks is parts = grind (arith, cases_Bool, take_at, flat_map-append, lead-text)

  no-bullets : (xs : List SpacedText) → (length to_bullets == length (to_bullets ++ xs)) ≡ (length xs == 0)
  no-bullets [] = eq-eqb (length to_bullets) (length (to_bullets ++ [])) (omega (arith, length-append to_bullets []))
  no-bullets (x ∷ xs) = grind (arith, cases_Bool, ne_eqb, length-append)

  cut-is : cut_kinds all all_ends ≡ kinds lead cs qs bs ws
  cut-is = λ i. record {
    lead = (text-before (lead_words lead) all_words [] refl (sym (append-nil (lead_words lead))) ∙ append-nil lead) i;
    comments = between (lead_words lead) cs (qs ++ (bs ++ ws)) all at-quotes i;
    quotes = between to_quotes qs (bs ++ ws) all at-bullets i;
    bullets = between to_bullets bs ws all at-text i;
    words = behind to_text ws all at-text i;
    margin = text-before to_bullets (bs ++ ws) (cs ++ qs) at-bullets (append_assoc (lead_words lead) cs qs) i;
    prefix = text-before to_text ws (cs ++ (qs ++ bs)) at-text
        (append_assoc to_quotes qs bs ∙ append_assoc (lead_words lead) cs (qs ++ bs)) i;
    bare = no-bullets bs i;
  }

  ends-are : (options : ReflowOptions) (in_block : Bool) → BeginsPlain all_words
      → HaveKinds options in_block cs qs bs ws → prefix_ends options in_block all ≡ all_ends
  ends-are options in_block begins have =
      let l = lead-len lead all_words begins in
      let c_at : ℕ → ℕ = λ n. n + comment_len options in_block (drop n all) in
      let q_at : ℕ → ℕ = λ n. n + quotes_len (drop n all) in
      let b_at : ℕ → ℕ = λ n. n + bullets_len (drop n all) in
      let c : c_at (lead_len all) ≡ length to_quotes = ap c_at l
      ∙ ap (λ n. length (lead_words lead) + n) (ap (comment_len options in_block)
      (behind (lead_words lead) all_words all refl) ∙ have.comment) ∙ sym (length-append (lead_words lead) cs) in
      let q : q_at (c_at (lead_len all)) ≡ length to_bullets = ap q_at c
      ∙ ap (λ n. length to_quotes + n) (ap quotes_len
      (behind to_quotes (qs ++ (bs ++ ws)) all at-quotes) ∙ have.quote) ∙ sym (length-append to_quotes qs) in
      let b : b_at (q_at (c_at (lead_len all))) ≡ length to_text = ap b_at q
      ∙ ap (λ n. length to_bullets + n) (ap bullets_len (behind to_bullets (bs ++ ws) all at-bullets)
      ∙ have.bullet) ∙ sym (length-append to_bullets bs) in
      λ i. record { lead = l i; comment = c i; margin = q i; text = b i }

  -- the line that is read of such words
  pub line-is : (options : ReflowOptions) (state : StateText) (raw : List ℕ) (fed : Bool)
      → IsLineText (without_returns raw) lead all_words → HaveKinds options state.in_block cs qs bs ws
      → line_as_read options state raw fed ≡ line_by options state raw fed (kinds lead cs qs bs ws)
  line-is options state raw fed is have =
      ap (λ a. line_from_words options state raw fed a (prefix_ends options state.in_block a))
      (ap spaced_words is.is ∙ line-back lead all_words is.white is.spaced)
      ∙ ap (line_from_words options state raw fed all)
      (ends-are options state.in_block (begins-plain all_words is.spaced) have)
      ∙ ap (line_by options state raw fed) cut-is

-- ---- each line has such words

-- as many words in front as are counted, and the others
abbrev IsCut : (List SpacedText → ℕ) → List SpacedText → Type 0
IsCut count ws = (front : List SpacedText) × (rest : List SpacedText) × (ws ≡ front ++ rest)
    × (count ws ≡ length front)

cut-at : (count : List SpacedText → ℕ) (ws : List SpacedText) → count ws ≤ length ws → IsCut count ws
cut-at count ws few = (
  take (count ws) ws,
  drop (count ws) ws,
  sym (take-append-drop (count ws) ws),
  sym (length-take-le (count ws) ws few),
)

pub comment-most : (options : ReflowOptions) (in_block : Bool) (ws : List SpacedText)
    → comment_len options in_block ws ≤ 1
comment-most options in_block [] = omega arith
comment-most options in_block (w ∷ ws) =
    elim (is_comment_at options in_block w.word) as (λ b. one_if b ≤ 1) [
      | true ↦ omega arith
      | false ↦ omega arith
    ]

comment-few : (options : ReflowOptions) (in_block : Bool) (ws : List SpacedText)
    → comment_len options in_block ws ≤ length ws
comment-few options in_block [] = omega arith
comment-few options in_block (w ∷ ws) = omega (arith, comment-most options in_block (w ∷ ws))

quotes-few : (ws : List SpacedText) → quotes_len ws ≤ length ws
quotes-few [] = omega arith
quotes-few (w ∷ ws) = grind (arith, cases_Bool, quotes-few ws)

if-few : (b : Bool) (n m most : ℕ) → n ≤ most → m ≤ most → cond b n m ≤ most
if-few true n m most few less = few
if-few false n m most few less = less

bullets-few : (ws : List SpacedText) → bullets_len ws ≤ length ws
bullets-few [] = omega arith
bullets-few (w ∷ []) = if-few (is_bullet w.word) 1 0 (length (w ∷ [])) (omega arith) (omega arith)
bullets-few (w ∷ v ∷ ws) =
    let most = length (w ∷ v ∷ ws) in
    if-few (is_bullet w.word) (suc (bullets_len (v ∷ ws))) _ most (omega (arith, bullets-few (v ∷ ws)))
    (if-few (is_box w v) (suc (suc (bullets_len ws))) 0 most (omega (arith, bullets-few ws)) (omega arith))

pub kinds-cut : (options : ReflowOptions) (in_block : Bool) (ws : List SpacedText)
    → (cs : List SpacedText) × (qs : List SpacedText) × (bs : List SpacedText)
    × (words : List SpacedText) × (ws ≡ cs ++ (qs ++ (bs ++ words)))
    × HaveKinds options in_block cs qs bs words
kinds-cut options in_block ws =
    let (cs, behind, is_c, len_c) =
    cut-at (comment_len options in_block) ws (comment-few options in_block ws) in
    let (qs, later, is_q, len_q) = cut-at quotes_len behind (quotes-few behind) in
    let (bs, words, is_b, len_b) = cut-at bullets_len later (bullets-few later) in
    let at_q : behind ≡ qs ++ (bs ++ words) = is_q ∙ ap (λ l. qs ++ l) is_b in
    let at_c : ws ≡ cs ++ (qs ++ (bs ++ words)) = is_c ∙ ap (λ l. cs ++ l) at_q in (
      cs,
      qs,
      bs,
      words,
      at_c,
      record {
        comment = ap (comment_len options in_block) (sym at_c) ∙ len_c;
        quote = ap quotes_len (sym at_q) ∙ len_q;
        bullet = ap bullets_len (sym is_b) ∙ len_b;
      },
    )
