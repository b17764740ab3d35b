-- The parts that a text is cut into wherever a test of its places says so.
use Rattle.textwrap_text.proofs.Common.{take-append-drop, length-drop, slice_range, append-nil, inl}
use Rattle.textwrap_text.proofs.Common.{drop-drop, cases_lt, drop_all, take_all, length, rules, inr}
use Rattle.textwrap_text.proofs.Common.{arith, false, Bool, List, drop, refl, take, true, zero, suc}
use Rattle.textwrap_text.proofs.Common.{◌++◌, sym, ◌+◌, ◌-◌, ◌<◌, ◌∙◌, ◌∷◌, ◌≡◌, ◌≤◌, [], ap, ℕ}
use Rattle.textwrap_layout.proofs.Common.{drop-take, parts_by, IsPart}
use Rattle.textwrap_text.proofs.Lists.Parts.{onto_first-append, flat-onto_first, flat}
use Rattle.textwrap_words.proofs.Word.Parts.{parts_by-some, end-from, next_by, HasEnd}
use Rattle.textwrap_layout.specs.Printable.{NoCutBetween}

-- ---- slices, and what follows them

pub slice-rest : (text : List ℕ) (at end : ℕ) → at ≤ end
    → slice_range text at end ++ drop end text ≡ drop at text
slice-rest text at end from =
    search (rules, arith, drop-drop (end - at) at text, take-append-drop (end - at) (drop at text))

-- the front of a text from a place on
pub front-slice : (text : List ℕ) (at end : ℕ) → at ≤ end
    → drop at (take end text) ≡ slice_range text at end
front-slice text at end from =
    let place : at + (end - at) ≡ end = omega (arith, from) in search (rules, arith, drop-take)

-- ---- parts

module _ (test : ℕ → Bool) where
  pub flat-parts : (at : ℕ) (rest : List ℕ) → flat (parts_by test at rest) ≡ rest
  flat-parts at [] = refl
  flat-parts at (b ∷ []) = refl
  flat-parts at (b ∷ c ∷ cs) = search (rules, arith, flat-onto_first, flat-parts (at + 1) (c ∷ cs))

  -- ---- at a cut

  next-append : (here : Bool) (at b c : ℕ) (cs all : List ℕ) (qs : List (List ℕ))
      → parts_by test (at + 1) all ≡ parts_by test (at + 1) (c ∷ cs) ++ qs
      → next_by test here at b all ≡ next_by test here at b (c ∷ cs) ++ qs
  next-append true at b c cs all qs e = ap (λ ps. (b ∷ []) ∷ ps) e
  next-append false at b c cs all qs e = search (rules, arith, onto_first-append, parts_by-some)

  parts-at_cut : (rest : List ℕ) (at n : ℕ) → 0 < n → n < length rest → test (at + n) ≡ true
      → parts_by test at rest
      ≡ parts_by test at (take n rest) ++ parts_by test (at + n) (drop n rest)
  parts-at_cut rest at zero some within is = absurd (omega arith)
  parts-at_cut [] at (suc n) some within is = absurd (omega arith)
  parts-at_cut (b ∷ []) at (suc n) some within is = absurd (omega (arith, within))
  parts-at_cut (b ∷ c ∷ cs) at (suc zero) some within is = ap (λ t. next_by test t at b (c ∷ cs)) is
  parts-at_cut (b ∷ c ∷ cs) at (suc (suc n)) some within is =
      let place : at + suc (suc n) ≡ at + 1 + suc n = omega arith in
      next-append (test (at + 1)) at b c (take n cs) (c ∷ cs)
      (parts_by test (at + 1 + suc n) (drop (suc n) (c ∷ cs)))
      (parts-at_cut (c ∷ cs) (at + 1) (suc n) (omega arith) (omega (arith, within))
      (ap test (sym place) ∙ is))
      ∙ ap (λ m. parts_by test at (take (suc (suc n)) (b ∷ c ∷ cs))
      ++ parts_by test m (drop (suc n) (c ∷ cs))) (sym place)

  module _ (text : List ℕ) where
    -- the parts up to a place where the text is cut, or ends, and those from there on
    pub parts-split : (at end : ℕ) → at < end → end ≤ length text
        → (end < length text → test end ≡ true)
        → parts_by test at (drop at text)
        ≡ parts_by test at (slice_range text at end) ++ parts_by test end (drop end text)
    parts-split at end some within ends =
        let rest = drop at text in
        let n = end - at in
        let left = length-drop at text in
        let place : at + n ≡ end = omega (arith, some) in
        elim (cases_lt end (length text)) [
          | inl inside ↦
              rw (drop-drop n at text, place) at (parts-at_cut rest at n (omega (arith, some))
              (omega (arith, left, inside, some)) (ap test place ∙ ends inside))
          | inr past ↦
              rw (
                drop_all end text past,
                append-nil (parts_by test at (slice_range text at end)),
                take_all n rest (omega (arith, left, past)),
              )
        ]

    -- ---- the first part

    -- a part goes past the places where the text is not cut
    pub record HasPart (at place : ℕ) : Type 0 where
      pub end : ℕ
      pub part : IsPart test text at end
      pub past : place < end

    pub first-part : (at place : ℕ) → at ≤ place → place < length text
        → NoCutBetween test at place → HasPart at place
    first-part at place from inside none =
        let found : HasEnd test (length text) (place + 1) =
        end-from test (length text) (place + 1) (omega (arith, inside)) in
        let up_to = found.from in
        record {
          end = found.end;
          part = record {
            some = omega (arith, from, up_to);
            within = found.within;
            uncut = λ k after before. elim (cases_lt place k) [
              | inl later ↦ found.uncut k (omega (arith, later)) before
              | inr up ↦ none k after up
            ];
            ends = found.ends;
          };
          past = omega (arith, up_to);
        }
