-- The parts of a compound, one after another.
use Rattle.std.proofs.{Common.◌%◌, lemmas.List.FromFn.{get_or-map-range_with_len, length-map-range_with_len}}
use Rattle.textwrap_hyphens.proofs.Common.{dotted, greatest, level, levels_of}
use Rattle.textwrap_hyphens.proofs.FewLetters.{filter-none, never-behind}
use Rattle.textwrap_hyphens.specs.Hyphenation.{places_from, places_of, Hyphenation, first_levels, is_allowed}
use Rattle.textwrap_hyphens.specs.{Hyphenation.{is_odd, is_place, joints_of}, Points.{points_at, points_in}}
use Rattle.textwrap_patterns.specs.declared.letters.Letter.{Letter}
use Rattle.textwrap_text.proofs.Common.{None, unwrap_or, cases_Bool, map-append, ◌&&◌, ◌==◌, filter-append, Bool}
use Rattle.textwrap_text.proofs.Common.{List, [], ap, append-nil, append_assoc, arith, cond, false, filter}
use Rattle.textwrap_text.proofs.Common.{length, map, range_with_len, refl, slice_index, sym, true, ℕ, ◌+◌, ◌++◌}
use Rattle.textwrap_text.proofs.Common.{◌-◌, ◌∙◌, ◌∷◌, get_or-take, length-take, nat_tests, ◌<◌, ◌≡◌, ◌≤◌}
use Rattle.textwrap_text.proofs.{Common.take_all, Lists.Elements.{points-more, range-split}}

-- the level that is read is that of the place
pub odd-is : (from : List ℕ → ℕ → ℕ) (letters levels : List ℕ) (place : ℕ)
    → levels ≡ levels_of from letters → place ≤ length letters
    → (slice_index levels (place + 1) % 2 == 1) ≡ is_odd from letters place
odd-is from letters levels place are within = grind (arith, get_or-map-range_with_len, level, dotted)

pub levels-length : (from : List ℕ → ℕ → ℕ) (letters levels : List ℕ)
    → levels ≡ levels_of from letters → length levels ≡ length letters + 3
levels-length from letters levels are = grind (arith, length-map-range_with_len, level, dotted)

-- a place that has enough letters behind it is told by the first levels
pub point-is : (h : Hyphenation) (letters levels : List ℕ) (place : ℕ) → levels ≡ first_levels h letters
    → place < length letters → place + 1 < length levels
    → ((slice_index levels (place + 1) % 2 == 1) && is_allowed h letters place)
    ≡ is_place h letters 0 (length letters) place
point-is h letters levels place are inside within =
    let all = levels_of h.level_from letters in
    let some = length letters - h.right + 2 in
    let same = ap (λ (l : List ℕ). slice_index l (place + 1)) are
    ∙ get_or-take some all (place + 1) 0 (omega (arith, ap length are, length-take some all, within)) in
    let odd = odd-is h.level_from letters all place refl (omega (arith, inside)) in
    let whole = take_all (length letters) letters (omega arith) in
    grind (arith, nat_tests)

-- behind its levels none is allowed
pub point-none : (h : Hyphenation) (letters levels : List ℕ) (place : ℕ) → levels ≡ first_levels h letters
    → place < length letters → length levels ≤ place + 1
    → is_place h letters 0 (length letters) place ≡ false
point-none h letters levels place are inside past =
    let all = levels_of h.level_from letters in
    let none = never-behind h letters place inside (omega (
      arith,
      ap length are,
      length-take (length letters - h.right + 2) all,
      levels-length h.level_from letters all refl,
    )) in
    grind (arith, nat_tests)

-- ---- no joints

zeros : (f : ℕ → ℕ) → ((n : ℕ) → f n ≡ 0) → (ns : List ℕ) → greatest (map f ns) ≡ 0
zeros f each [] = refl
zeros f each (n ∷ ns) = omega (arith, each n, zeros f each ns)

-- where no pattern joins, a word has no joint
pub no-joints : (h : Hyphenation) → ((text : List ℕ) (place : ℕ) → h.joint_from text place ≡ 0)
    → (letters : List ℕ) → joints_of h letters ≡ []
no-joints h none letters = grind (arith, filter-none, zeros, dotted)

-- the joints by the trie that has the patterns of joints
pub joints-by : (h : Hyphenation) (levels : List ℕ → ℕ → ℕ) (letters places : List ℕ)
    → ((text : List ℕ) (place : ℕ) → h.joint_from text place ≡ levels text place)
    → places ≡ filter (is_odd levels letters) (range_with_len 1 (length letters - 1))
    → places ≡ joints_of h letters
joints-by h levels letters places same are = grind arith

-- ---- parts

range-passed : (test : ℕ → Bool) (a n : ℕ) (one : List ℕ) → filter test ((a + n) ∷ []) ≡ one
    → filter test (range_with_len a (n + 1)) ≡ filter test (range_with_len a n) ++ one
range-passed test a n one is = grind (arith, range-split, filter-append)

-- numbers of a range that pass a test, and the one behind it
pub range-next : (test : ℕ → Bool) (a n : ℕ) (front items more : List ℕ) (b : Bool)
    → items ≡ front ++ filter test (range_with_len a n) → b ≡ test (a + n)
    → more ≡ cond b (items ++ (a + n) ∷ []) items
    → more ≡ front ++ filter test (range_with_len a (n + 1))
range-next test a n front items more true so_far passes is = grind (arith, append_assoc, range-passed)
range-next test a n front items more false so_far passes is =
    is ∙ so_far ∙ ap (λ l. front ++ l) (sym (append-nil (filter test (range_with_len a n)))
    ∙ sym (range-passed test a n [] (rw (← passes) refl)))

-- places of a part that pass a test, and the next
pub part-next : (test : ℕ → Bool) (from place : ℕ) (front items more : List ℕ) (b : Bool)
    → from + 1 ≤ place
    → items ≡ front ++ filter test (range_with_len (from + 1) (place - from - 1)) → b ≡ test place
    → more ≡ cond b (items ++ place ∷ []) items
    → more ≡ front ++ filter test (range_with_len (from + 1) (place + 1 - from - 1))
part-next test from place front items more b ahead so_far passes is = grind (arith, range-next)

-- ---- points

-- what stands behind the places of a range that pass a test, and behind the next
pub behind-next : (test : ℕ → Bool) (f : ℕ → ℕ) (place : ℕ) (front items more : List ℕ) (b : Bool)
    → 1 ≤ place → items ≡ front ++ map f (filter test (range_with_len 1 (place - 1))) → b ≡ test place
    → more ≡ cond b (items ++ f place ∷ []) items
    → more ≡ front ++ map f (filter test (range_with_len 1 (place + 1 - 1)))
behind-next test f place front items more b start so_far passes is =
    grind (arith, cases_Bool, append_assoc, map-append, points-more test place _ _ b start refl passes refl)

-- the points of a run that is no exception
pub run-points : (h : Hyphenation) (run : List Letter) (letters places : List ℕ)
    → letters ≡ map (λ c. c.ch) run → h.exception letters ≡ None
    → places_from h letters 0 (joints_of h letters) ≡ places → points_in h run ≡ points_at run places
run-points h run letters places is none from =
    ap (λ cs. points_at run (places_of h cs)) (sym is)
    ∙ ap (λ e. points_at run (unwrap_or e (places_from h letters 0 (joints_of h letters)))) none
    ∙ ap (points_at run) from
