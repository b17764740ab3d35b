-- The chunks of a line: there is one list of them, and it is computed.
use Rattle.textwrap_text.proofs.{Lists.Parts.flat, Lists.Parts.last-cons, Texts.ascii_seam}
use Rattle.textwrap_text.proofs.Common.{append_assoc, AreCutApart, Bool, length-append, slice_index}
use Rattle.textwrap_text.proofs.Common.{and_parts, append-nil, AreChunks, cases_Bool, onto_first, ℕ}
use Rattle.textwrap_text.proofs.Common.{All-cons, All-head, All-nil, All-tail, eqb-true, is_blank}
use Rattle.textwrap_text.proofs.Common.{add-one, chunks, get_or, is_cut, IsUncut, IsUtf8, length, ⊤}
use Rattle.textwrap_text.proofs.Common.{arith, cond, drop, false, last, List, refl, rules, subst}
use Rattle.textwrap_text.proofs.Common.{All, not, suc, sym, take, true, zero, ◌++◌, ◌+◌, ◌-◌, ◌<◌}
use Rattle.textwrap_text.proofs.Common.{[], ap, ◌∙◌, ◌∷◌, ◌≡◌, ◌≢◌, ◌≤◌}
use Rattle.textwrap_text.proofs.Lists.Parts.{flat-onto_first, onto_front, onto_front-onto_first}

-- ---- chunks

pub join-chunks : (line : List ℕ) → flat (chunks line) ≡ line
join-chunks [] = refl
join-chunks (c ∷ []) = refl
join-chunks (c ∷ d ∷ cs) = grind (arith, cases_Bool, flat-onto_first, join-chunks (d ∷ cs))

-- the first chunk ends at the first cut
pub chunks_first : (line : List ℕ) (n : ℕ) → 0 < n → n ≤ length line
    → ((k : ℕ) → k + 1 < n → is_cut (get_or line k 0) (get_or line (k + 1) 0) ≡ false)
    → (n < length line → is_cut (get_or line (n - 1) 0) (get_or line n 0) ≡ true)
    → chunks line ≡ take n line ∷ chunks (drop n line)
chunks_first line zero some within before at = absurd (omega arith)
chunks_first [] (suc n) some within before at = absurd (omega arith)
chunks_first (c ∷ []) (suc zero) some within before at = refl
chunks_first (c ∷ []) (suc (suc n)) some within before at = absurd (omega arith)
chunks_first (c ∷ d ∷ cs) (suc zero) some within before at = rw (at (omega arith)) refl
chunks_first (c ∷ d ∷ cs) (suc (suc n)) some within before at =
    let less : suc (suc n) - 1 ≡ suc n = omega arith in
    let next : suc n - 1 ≡ n = omega arith in
    rw (before 0 (omega arith)) (ap (onto_first c)
    (chunks_first (d ∷ cs) (suc n) (omega arith) (omega arith)
    (λ k h. rw add-one (rw (add-one) at (before (suc k) (omega arith))))
    (λ more. rw next (rw less at (at (omega (arith, more)))))))

-- ---- no parts of a line but its chunks are cut apart after blanks

-- what follows a chunk is nothing, or begins after a cut
abbrev CutAfter : List ℕ → List ℕ → Type 0
CutAfter part [] = ⊤
CutAfter part (d ∷ rest) = is_cut (last part) d ≡ true

IsUncut-tail : (c : ℕ) (part : List ℕ) → IsUncut (c ∷ part) → IsUncut part
IsUncut-tail c part uncut = λ before after x y e. uncut (c ∷ before) after x y (ap (λ l. c ∷ l) e)

CutAfter-tail : (c d : ℕ) (part rest : List ℕ) → CutAfter (c ∷ d ∷ part) rest
    → CutAfter (d ∷ part) rest
CutAfter-tail c d part [] cut = tt
CutAfter-tail c d part (x ∷ rest) cut = ap (λ l. is_cut l x) (sym (last-cons c d part)) ∙ cut

chunks-first : (c : ℕ) (part rest : List ℕ) → IsUncut (c ∷ part) → CutAfter (c ∷ part) rest
    → chunks (c ∷ part ++ rest) ≡ (c ∷ part) ∷ chunks rest
chunks-first c [] [] uncut cut = refl
chunks-first c [] (d ∷ rest) uncut cut = rw cut refl
chunks-first c (d ∷ part) rest uncut cut = rw (uncut [] part c d refl)
    (ap (onto_first c) (chunks-first d part rest (IsUncut-tail c (d ∷ part) uncut)
    (CutAfter-tail c d part rest cut)))

AreCutApart-head : (part : List ℕ) (parts : List (List ℕ)) → All (λ part. part ≢ []) parts
    → AreCutApart (part ∷ parts) → CutAfter part (flat parts)
AreCutApart-head part [] some cut = tt
AreCutApart-head part ([] ∷ parts) some cut = grind (arith, All-head)
AreCutApart-head part ((d ∷ next) ∷ parts) some cut = cut [] parts part (d ∷ next) refl

pub AreCutApart-tail : (part : List ℕ) (parts : List (List ℕ)) → AreCutApart (part ∷ parts)
    → AreCutApart parts
AreCutApart-tail part parts cut = λ before after left right e. cut (part ∷ before) after left right
    (ap (λ l. part ∷ l) e)

pub chunks-flat : (parts : List (List ℕ)) → All (λ part. part ≢ []) parts → All IsUncut parts
    → AreCutApart parts → chunks (flat parts) ≡ parts
chunks-flat [] some uncut cut = refl
chunks-flat ([] ∷ parts) some uncut cut = absurd (All-head (λ part. part ≢ []) [] parts some refl)
chunks-flat ((c ∷ part) ∷ parts) some uncut cut =
    let others = All-tail (λ part. part ≢ []) (c ∷ part) parts some in
    chunks-first c part (flat parts) (All-head IsUncut (c ∷ part) parts uncut)
    (AreCutApart-head (c ∷ part) parts others cut)
    ∙ ap (λ l. (c ∷ part) ∷ l) (chunks-flat parts others (All-tail IsUncut (c ∷ part) parts uncut)
    (AreCutApart-tail (c ∷ part) parts cut))

-- ---- the computed chunks are chunks

-- the properties of parts of which the first begins with d
pub record AreChunksFrom (d : ℕ) (parts : List (List ℕ)) : Type 0 where
  pub first : List ℕ
  pub rest : List (List ℕ)
  pub shape : parts ≡ (d ∷ first) ∷ rest
  pub nonempty : All (λ part. part ≢ []) ((d ∷ first) ∷ rest)
  pub uncut : All IsUncut ((d ∷ first) ∷ rest)
  pub cut : AreCutApart ((d ∷ first) ∷ rest)

IsUncut-one : (c : ℕ) → IsUncut (c ∷ [])
IsUncut-one c = λ before after x y e.
    absurd (omega (arith, ap length e, length-append before (x ∷ y ∷ after)))

IsUncut-cons : (c d : ℕ) (part : List ℕ) → is_cut c d ≡ false → IsUncut (d ∷ part)
    → IsUncut (c ∷ d ∷ part)
IsUncut-cons c d part whole uncut [] after x y e = grind arith
IsUncut-cons c d part whole uncut (b ∷ before) after x y e = uncut before after x y (ap (drop 1) e)

-- fewer than two parts have no place between them
AreCutApart-few : (parts : List (List ℕ)) → length parts < 2 → AreCutApart parts
AreCutApart-few parts few = grind (arith, length-append)

AreCutApart-cons : (part next : List ℕ) (parts : List (List ℕ))
    → is_cut (last part) (slice_index next 0) ≡ true → AreCutApart (next ∷ parts)
    → AreCutApart (part ∷ next ∷ parts)
AreCutApart-cons part next parts here cut [] after left right e = grind arith
AreCutApart-cons part next parts here cut (b ∷ before) after left right e = grind arith

AreCutApart-longer : (c d : ℕ) (part : List ℕ) (parts : List (List ℕ))
    → AreCutApart ((d ∷ part) ∷ parts) → AreCutApart ((c ∷ d ∷ part) ∷ parts)
AreCutApart-longer c d part parts cut [] after left right e =
    let first : c ∷ d ∷ part ≡ left = ap (λ l. get_or l 0 []) e in
    ap (λ x. is_cut x (slice_index right 0)) (ap last (sym first) ∙ last-cons c d part)
    ∙ cut [] after (d ∷ part) right (ap (λ l. (d ∷ part) ∷ l) (ap (drop 1) e))
AreCutApart-longer c d part parts cut (b ∷ before) after left right e =
    cut ((d ∷ part) ∷ before) after left right (ap (λ l. (d ∷ part) ∷ l) (ap (drop 1) e))

pub chunks-from : (c : ℕ) (cs : List ℕ) → AreChunksFrom c (chunks (c ∷ cs))
chunks-from c [] = record {
  first = [];
  rest = [];
  shape = refl;
  nonempty = grind arith;
  uncut = grind (arith, IsUncut-one);
  cut = AreCutApart-few ((c ∷ []) ∷ []) (omega arith);
}
chunks-from c (d ∷ cs) = step (is_cut c d) refl (chunks-from d cs)
  where
    step : (b : Bool) → is_cut c d ≡ b → AreChunksFrom d (chunks (d ∷ cs))
        → AreChunksFrom c (cond b ((c ∷ []) ∷ chunks (d ∷ cs)) (onto_first c (chunks (d ∷ cs))))
    step true is h = record {
      first = [];
      rest = (d ∷ h.first) ∷ h.rest;
      shape = ap (λ parts. (c ∷ []) ∷ parts) h.shape;
      nonempty = grind (arith, h.nonempty, All-cons);
      uncut = All-cons IsUncut (c ∷ []) ((d ∷ h.first) ∷ h.rest) (IsUncut-one c) h.uncut;
      cut = AreCutApart-cons (c ∷ []) (d ∷ h.first) h.rest is h.cut;
    }
    step false is h = record {
      first = d ∷ h.first;
      rest = h.rest;
      shape = ap (onto_first c) h.shape;
      nonempty = All-cons (λ part. part ≢ []) (c ∷ d ∷ h.first) h.rest (λ e. cc)
          (All-tail (λ part. part ≢ []) (d ∷ h.first) h.rest h.nonempty);
      uncut = All-cons IsUncut (c ∷ d ∷ h.first) h.rest
          (IsUncut-cons c d h.first is (All-head IsUncut (d ∷ h.first) h.rest h.uncut))
          (All-tail IsUncut (d ∷ h.first) h.rest h.uncut);
      cut = AreCutApart-longer c d h.first h.rest h.cut;
    }

pub AreChunks-chunks : (line : List ℕ) → AreChunks line (chunks line)
AreChunks-chunks [] = record {
  tiles = refl;
  nonempty = grind arith;
  uncut = grind arith;
  cut = AreCutApart-few [] (omega arith);
}
AreChunks-chunks (c ∷ cs) =
    let h = chunks-from c cs in
    rw h.shape (record {
      tiles = rw h.shape at (join-chunks (c ∷ cs));
      nonempty = h.nonempty;
      uncut = h.uncut;
      cut = h.cut;
    })

-- ---- the parts of a text, where bytes stand before the first

pub all_utf8-front : (parts : List (List ℕ)) → All IsUtf8 (onto_front [] parts) → All IsUtf8 parts
all_utf8-front [] all = All-nil IsUtf8
all_utf8-front (part ∷ parts) all = all

-- ---- the chunks of a line

chunks-utf8_step : (before : List ℕ) (c d : ℕ) (cs : List ℕ) → IsUtf8 (before ++ c ∷ d ∷ cs)
    → (b : Bool) → is_cut c d ≡ b
    → (IsUtf8 (d ∷ cs) → All IsUtf8 (onto_front [] (chunks (d ∷ cs))))
    → (IsUtf8 ((before ++ c ∷ []) ++ d ∷ cs)
    → All IsUtf8 (onto_front (before ++ c ∷ []) (chunks (d ∷ cs))))
    → All IsUtf8 (onto_front before
    (cond b ((c ∷ []) ∷ chunks (d ∷ cs)) (onto_first c (chunks (d ∷ cs)))))
chunks-utf8_step before c d cs utf8 true cut after joined =
    let blank : c ≡ 32 = eqb-true c 32 (and_parts (is_blank c) (not (is_blank d)) cut).0 in
    let seam = ascii_seam before (d ∷ cs) c utf8 (omega arith) in
    search (rules, arith, All-cons, all_utf8-front)
chunks-utf8_step before c d cs utf8 false whole after joined =
    subst (All IsUtf8) (sym (onto_front-onto_first before c (chunks (d ∷ cs))))
    (joined (subst IsUtf8 (sym (append_assoc before (c ∷ []) (d ∷ cs))) utf8))

chunks-utf8_from : (before line : List ℕ) → IsUtf8 (before ++ line)
    → All IsUtf8 (onto_front before (chunks line))
chunks-utf8_from before [] utf8 = grind (arith, All-cons, append-nil, All-nil)
chunks-utf8_from before (c ∷ []) utf8 = All-cons IsUtf8 (before ++ c ∷ []) [] utf8 (All-nil IsUtf8)
chunks-utf8_from before (c ∷ d ∷ cs) utf8 = chunks-utf8_step before c d cs utf8 (is_cut c d) refl
    (chunks-utf8_from [] (d ∷ cs)) (chunks-utf8_from (before ++ c ∷ []) (d ∷ cs))

pub chunks-utf8 : (line : List ℕ) → IsUtf8 line → All IsUtf8 (chunks line)
chunks-utf8 line utf8 = all_utf8-front (chunks line) (chunks-utf8_from [] line utf8)
