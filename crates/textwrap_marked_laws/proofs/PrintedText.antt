-- The text of a paragraph as it is printed is its lines, with a line feed between each two.
use Rattle.textwrap_marked_laws.proofs as own
use own.Common.{cases_Bool, all-right, ending_if, All-cons, All-head, All-tail, all-left, flat_map, All-nil}
use own.Common.{join_with_byte, ReflowOptions, append_assoc, spaced_text, All-append, All-weaker, append-nil}
use own.Common.{length, nat_lt, arith, subst, Bool, List, refl, ◌&&◌, ◌++◌, All, ◌∷◌, ◌≡◌, [], ℕ}
use own.TextParts.{join-more}
use own.{AnewLines.{return-feedless, end-parts, return_if}, Feedless.{IsFeedless, NoFeed}}
use own.{LineWords.{AreCutInto, all_shown, spread, shown, gap}, SpreadWords.{spread-end, gap-white}}
use own.{NewLines.{later_raws, returns_at, line_raw, text_end}, SpacedBack.{white-other, IsWhite}}

-- ---- no line feed

white-feedless : (text : List ℕ) → All IsWhite text → IsFeedless text
white-feedless text white = All-weaker IsWhite NoFeed (λ c is. white-other c 10 is refl) text white

spread-feedless : (justify : Bool) (gaps : ℕ → ℕ) (words : List (List ℕ)) (end : List ℕ)
    → All IsFeedless words → IsFeedless end → IsFeedless (spaced_text (spread justify gaps words end))
spread-feedless justify gaps [] end all free = All-nil NoFeed
spread-feedless justify gaps (word ∷ []) end all free =
    All-append NoFeed (word ++ end) []
    (All-append NoFeed word end (All-head IsFeedless word [] all) free) (All-nil NoFeed)
spread-feedless justify gaps (word ∷ next ∷ words) end all free =
    let white = gap justify gaps (length words) in
    All-append NoFeed (word ++ white) (spaced_text (spread justify gaps (next ∷ words) end))
    (All-append NoFeed word white (All-head IsFeedless word (next ∷ words) all)
    (white-feedless white (gap-white justify gaps (length words))))
    (spread-feedless justify gaps (next ∷ words) end (All-tail IsFeedless word (next ∷ words) all) free)

-- ---- the lines

module _ (options : ReflowOptions) (starred : Bool) (wide : ℕ → ℕ → ℕ) (returns : Bool) (end hanging : List ℕ)
    (left : List (List ℕ)) where
  abbrev more : Bool
  more = returns && nat_lt 0 (length left)

  abbrev ending : List ℕ
  ending = return_if returns ++ 10 ∷ []

  abbrev tail : List ℕ
  tail = (end ++ ending_if (nat_lt 0 (length left)) ending) ++ join_with_byte 10 left

  abbrev raw_of : List ℕ → List (List ℕ) → List (List (List ℕ)) → List ℕ
  raw_of prefix words lines = line_raw options.justify wide returns more end prefix words lines

  abbrev raws_behind : List (List (List ℕ)) → List (List ℕ)
  raws_behind lines = later_raws options.justify wide returns more end hanging lines

  abbrev behind_ending : List (List ℕ) → List ℕ
  behind_ending texts = flat_map (λ (t : List ℕ). (ending ++ hanging) ++ t) texts

  pub text-joined : (lines : List (List (List ℕ))) (prefix word : List ℕ) (words later : List (List ℕ))
      → AreCutInto options starred later lines
      → ((prefix ++ shown options.justify (wide (length lines)) (word ∷ words))
      ++ behind_ending (all_shown options.justify wide lines)) ++ tail
      ≡ join_with_byte 10 (raw_of prefix (word ∷ words) lines ∷ (raws_behind lines ++ left))
  text-joined [] prefix word words later none =
      grind (arith, cases_Bool, append_assoc, append-nil, end-parts, spread-end, join-more)
  text-joined ([] ∷ lines) prefix word words later (behind, some, is, may, cut) = absurd (some refl)
  text-joined ((next ∷ others) ∷ lines) prefix word words later (behind, some, is, may, cut) =
      grind (arith, cases_Bool, append_assoc, text-joined lines hanging next others behind cut)

  module _ (white : All IsWhite end) (hung : IsFeedless hanging) where
    end-feedless : (lines : List (List (List ℕ))) → IsFeedless (text_end end lines)
    end-feedless [] = white-feedless end white
    end-feedless (line ∷ lines) = All-nil NoFeed

    line-feedless : (lines : List (List (List ℕ))) (prefix : List ℕ) (words : List (List ℕ))
        → IsFeedless prefix → All IsFeedless words → IsFeedless (raw_of prefix words lines)
    line-feedless lines prefix words free all =
        let gaps = wide (length lines) in
        let text = spaced_text (spread options.justify gaps words (text_end end lines)) in
        All-append NoFeed (prefix ++ text) (return_if (returns_at returns more lines))
        (All-append NoFeed prefix text free
        (spread-feedless options.justify gaps words (text_end end lines) all (end-feedless lines)))
        (return-feedless (returns_at returns more lines))

    pub raws-feedless : (lines : List (List (List ℕ))) (prefix : List ℕ) (words later : List (List ℕ))
        → IsFeedless prefix → AreCutInto options starred later lines → All IsFeedless (words ++ later)
        → All IsFeedless (raw_of prefix words lines ∷ raws_behind lines)
    raws-feedless [] prefix words later free cut all =
        All-cons IsFeedless _ [] (line-feedless [] prefix words free (all-left IsFeedless words later all))
        (All-nil IsFeedless)
    raws-feedless (next ∷ lines) prefix words later free (behind, some, is, may, cut) all =
        All-cons IsFeedless _ (raws_behind (next ∷ lines))
        (line-feedless (next ∷ lines) prefix words free (all-left IsFeedless words later all))
        (raws-feedless lines hanging next behind hung cut
        (subst (All IsFeedless) is (all-right IsFeedless words later all)))
