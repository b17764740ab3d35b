-- The words, the prefixes and the hanging forms of the lines of a text have no line feed.
use Rattle.std.proofs.lemmas.List.Splits.{slice_split_at}
use Rattle.textwrap_marked_lines.specs.Hanging.{hanging_mark}
use Rattle.textwrap_text.proofs.Common.{All-take}
use Rattle.textwrap_marked_laws.proofs as own
use own.Common.{All-append, All-weaker, SpacedText, onto_first, suffix_len, text_width, StateText, all-right}
use own.Common.{All-nil, blanks, length, arith, codes, false, subst, Bool, List, cond, refl, true, ◌++◌, ◌==◌}
use own.Common.{each-flat, flat-each, is_return, All-cons, All-head, All-tail, LineText, all-left, as_title}
use own.Common.{is_comment_opening, length-slice_split, hanging_comments, slice_split_none, hanging_bullets}
use own.Common.{join_with_byte, All-replicate, ReflowOptions, line_as_read, slice_split, spaced_text, All-map}
use own.{Common.{All, sym, ◌-◌, ◌<◌, ◌∙◌, ◌∷◌, ◌≡◌, [], ap, ℕ}, HangingForms.bullets-all, SpacedBack.words_in}
use own.{LaterLines.{read-split, read_marks, line-read, read-line}, TextBlocks.{read-all, read}}

abbrev pub NoFeed : ℕ → Type 0
NoFeed c = (c == 10) ≡ false

abbrev pub IsFeedless : List ℕ → Type 0
IsFeedless text = All NoFeed text

pub record IsFeedlessLine (line : LineText) : Type 0 where
  pub prefix : IsFeedless line.prefix
  pub hanging : IsFeedless line.hanging
  pub words : All IsFeedless (words_in line.words)

-- with the white behind it
abbrev IsFeedlessWord : SpacedText → Type 0
IsFeedlessWord w = IsFeedless (w.word ++ w.white)

mark-feedless : (bare : Bool) (word : List ℕ) → IsFeedless word → IsFeedless (hanging_mark bare word)
mark-feedless bare word all = cut (is_comment_opening word) bare
  where
    cut : (o b : Bool) → IsFeedless (cond o (cond b (blanks (text_width word)) (codes " *")) word)
    cut true true = All-replicate NoFeed (text_width word) 32 refl
    cut true false = All-cons NoFeed 32 (42 ∷ []) refl (All-cons NoFeed 42 [] refl (All-nil NoFeed))
    cut false b = all

line-feedless : (options : ReflowOptions) (state : StateText) (raw : List ℕ) (fed is : Bool) → IsFeedless raw
    → IsFeedlessLine (as_title is (line_as_read options state raw fed))
line-feedless options state raw fed is all =
    let r = line-read options state raw in
    let bytes : SpacedText → List ℕ = λ w. w.word ++ w.white in
    let prefix = r.lead ++ spaced_text (read_marks options state raw r) in
    let comments = hanging_comments options.bare r.cs in
    let text = subst IsFeedless (read-split options state raw r)
    (All-take NoFeed (length raw - suffix_len is_return raw) raw all) in
    let front = all-left NoFeed prefix (spaced_text r.ws) text in
    let lead = all-left NoFeed r.lead (spaced_text (read_marks options state raw r)) front in
    let marks = flat-each NoFeed bytes (read_marks options state raw r)
    (all-right NoFeed r.lead (spaced_text (read_marks options state raw r)) front) in
    let behind = all-right IsFeedlessWord r.cs (r.qs ++ r.bs) marks in
    subst (λ l. IsFeedlessLine (as_title is l)) (sym (read-line options state raw r fed)) (record {
      prefix = front;
      hanging = All-append NoFeed ((r.lead ++ comments) ++ spaced_text r.qs) (hanging_bullets r.bs)
          (All-append NoFeed (r.lead ++ comments) (spaced_text r.qs) (All-append NoFeed r.lead comments lead
          (each-flat NoFeed (λ w. hanging_mark options.bare w.word ++ w.white) r.cs
          (All-weaker IsFeedlessWord (λ w. IsFeedless (hanging_mark options.bare w.word ++ w.white)) (λ w word.
          All-append NoFeed (hanging_mark options.bare w.word) w.white
          (mark-feedless options.bare w.word (all-left NoFeed w.word w.white word))
          (all-right NoFeed w.word w.white word)) r.cs (all-left IsFeedlessWord r.cs (r.qs ++ r.bs) marks))))
          (each-flat NoFeed bytes r.qs (all-left IsFeedlessWord r.qs r.bs behind)))
          (bullets-all NoFeed refl r.bs (All-weaker IsFeedlessWord (λ w. IsFeedless w.white)
          (λ w word. all-right NoFeed w.word w.white word) r.bs (all-right IsFeedlessWord r.qs r.bs behind)));
      words = All-map IsFeedless (λ w. w.word) r.ws (All-weaker IsFeedlessWord (λ w. IsFeedless w.word)
          (λ w word. all-left NoFeed w.word w.white word) r.ws
          (flat-each NoFeed bytes r.ws (all-right NoFeed prefix (spaced_text r.ws) text)));
    })

-- each line that is read of lines without line feeds
pub read-feedless : (options : ReflowOptions) (raws : List (List ℕ)) (state : StateText)
    → All IsFeedless raws → All IsFeedlessLine (read options state raws)
read-feedless options = read-all options IsFeedlessLine IsFeedless (line-feedless options)

-- ---- lines between line feeds

abbrev pub raws_of : List ℕ → List (List ℕ)
raws_of text = slice_split (λ c. c == 10) text

pub raws-some : (text : List ℕ) → 0 < length (raws_of text)
raws-some text = omega (arith, length-slice_split (λ c. c == 10) text)

pub split-feedless : (text : List ℕ) → All IsFeedless (raws_of text)
split-feedless [] = All-cons IsFeedless [] [] (All-nil NoFeed) (All-nil IsFeedless)
split-feedless (c ∷ cs) = cut (c == 10) refl (raws_of cs) (split-feedless cs)
  where
    cut : (b : Bool) → (c == 10) ≡ b → (parts : List (List ℕ)) → All IsFeedless parts
        → All IsFeedless (cond b ([] ∷ parts) (onto_first c parts))
    cut true is parts all = All-cons IsFeedless [] parts (All-nil NoFeed) all
    cut false is [] all =
        All-cons IsFeedless (c ∷ []) [] (All-cons NoFeed c [] is (All-nil NoFeed)) (All-nil IsFeedless)
    cut false is (part ∷ parts) all =
        All-cons IsFeedless (c ∷ part) parts
        (All-cons NoFeed c part is (All-head IsFeedless part parts all)) (All-tail IsFeedless part parts all)

pub split-joined : (raws : List (List ℕ)) → 0 < length raws → All IsFeedless raws
    → raws_of (join_with_byte 10 raws) ≡ raws
split-joined [] some all = absurd (omega (arith, some))
split-joined (raw ∷ []) some all = slice_split_none (λ c. c == 10) raw (All-head IsFeedless raw [] all)
split-joined (raw ∷ next ∷ raws) some all =
    slice_split_at (λ c. c == 10) raw 10 (join_with_byte 10 (next ∷ raws))
    (All-head IsFeedless raw (next ∷ raws) all) refl
    ∙ ap (λ l. raw ∷ l) (split-joined (next ∷ raws) (omega arith) (All-tail IsFeedless raw (next ∷ raws) all))
