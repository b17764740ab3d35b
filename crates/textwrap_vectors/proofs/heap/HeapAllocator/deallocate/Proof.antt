-- It gives the block back to `inner`, by the `&` to that field and the same right to free.
use Rattle.textwrap_vectors.proofs.Steps.{ℕ, ◌+◌, List, [], ◌∷◌, refl, w64, proved, Val, vunit, vptr, id⊢, ftrue, flft, align, up, tables, ‵, raw, ◌⊛◌, some, later, at_ret, ◌$◌, ◌∵◌, !, qed, done, move, keep, drop, use1, use2, split, join, fsplit, fjoin, feq_i, feq_l, pick, await, suffices, group, enter, addr, of_opd, unit_lit, stop, fld, no_more, and_then, first, blocks, exec, returns, alloc_all, pass_all, free_all, look_at, get, through, sets, lands_last, env, unit, usize, RefOf, yes, lone, unhide, Nothing-Lawful, uint_vals, uint_Tells, owns, RawPtr, rawptr_vals, rawptr_Tells, rawptr_Lawful, shr_vals, plain, types_at, nothing, calls_at_last, lasts, triple_of, framed, Stays, walk_of, stay_dropped, Goes-dropped, ends_at, Inner}
use Rattle.std.specs.contracts.impls.GlobalAllocator.deallocate as inner
use Rattle.std.proofs.impls.GlobalAllocator.deallocate.Met as inner_met
use Rattle.textwrap_vectors.specs.contracts.heap.Heap.{the_row as Heap}
use Rattle.textwrap_vectors.specs.contracts.heap.HeapAllocator.deallocate as here
use Rattle.textwrap_vectors.proofs.heap.HeapAllocator.deallocate.Statement.{statement}
use Rattle.textwrap_vectors.proofs.heap.HeapAllocator.deallocate.Code as code

abbrev stayed : Stays here.ended.signature.params here.ended.kept
stayed = (stay_dropped _ yes, (stay_dropped _ yes, (stay_dropped _ yes, (stay_dropped _ yes, tt))))

pub deallocate_spec : {M : Type 1} → statement M
deallocate_spec 𝓤 𝓛 𝓜 𝓡 wired =
    let c = here.clauses 𝓛 𝓜.mem 𝓡.returns in
    let W = walk_of 𝓛 here.ended stayed c in
    let 𝓣 = tables 𝓤 𝓛.H 𝓜 𝓡 𝓡.env in
    let self = RefOf (0 ∷ []) tt (plain (λ _. Heap)) (λ _. tt) in
    let goes = Goes-dropped 𝓛 1 self yes (λ κs x w. refl) in
    let pointer = Goes-dropped 𝓛 1 (plain (λ _. RawPtr)) yes (λ κs x w. refl) in
    let number = Goes-dropped 𝓛 1 (plain (λ _. usize)) yes (λ κs x w. refl) in
    proved 𝓛 here.ended stayed c 𝓜 𝓡 (goes, (pointer, (number, (number, tt))))
    here.Key.name code.function (code.unfolded 𝓤 𝓛.H 𝓜 𝓡 wired)
    (λ κs. (shr_vals, (rawptr_vals, (uint_vals w64, (uint_vals w64, tt)))))
    (λ κs. ((λ r vs s. s.0), (rawptr_Tells, (uint_Tells w64, (uint_Tells w64, tt))))) (λ κs qs bounds a τ are.
    let b = a.0.ref_ptr.0 in
    let at_inner : ℕ = a.0.ref_ptr.1 + up (align (lone Inner.mir)) 0 in
    let tokens = ‵ (flft κs.0 qs.0) ⊛ ‵ ftrue in
    let y : W.Ghost =
    ((κs, qs, bounds, a, (shr_vals a.0, (rawptr_vals a.1.0, (uint_vals w64 a.1.1.0, (uint_vals w64 a.1.1.1.0, tt))))), τ) in
    qed 𝓛 ((tokens ⊛ ‵ (owns (types_at here.signature.params κs) a y.0.4)) ∷ raw ((c κs a).requires τ) ∷ []) ∵
    split ! $ move ! (1 ∷ []) $ fsplit ! $ fsplit ! $ move ! (1 ∷ []) $
    unhide ! $ fsplit ! $ fsplit ! $ keep ! (0 ∷ 4 ∷ 5 ∷ 6 ∷ []) $
    -- [a `&` to `inner`; the other parameters; the tokens; the `requires`]
    enter ! _ _ _ _ _ $ alloc_all ! (λ l. pass_all ! refl (
      (tt, tt),
      (
        ((rawptr_Lawful 𝓛).typed a.1.0 _ refl).0,
        ((tt, record { fits = are.1.1.0.1 }), ((tt, record { fits = are.1.1.1.0.1 }), tt)),
      ),
    ) $
    first ! $ blocks ! $ sets ! (addr ! (through ! refl (fld ! refl (stop !)))) refl (tt, tt) $
    let G = triple_of 𝓛 inner.signature (inner.spec 𝓛 𝓜.mem 𝓡.returns) in
    let z : G.Ghost =
    ((κs, qs, bounds, (record { ref_ptr = (b, at_inner); now = a.0.now.inner }, a.1), (vptr b at_inner ∷ [], y.0.4.1)), τ) in
    feq_i ! (List Val) (vptr b at_inner ∷ []) _ refl $ fjoin ! $ fjoin ! $ move ! (1 ∷ 0 ∷ []) $ join ! $
    use2 𝓛 (raw (G.pre z)) (id⊢ 𝓤 _) $
    calls_at_last ! (framed 𝓤 𝓛.H 𝓜 𝓣) G
    (inner_met.met 𝓤 𝓛 𝓜 𝓡 (code.calls-std_heap::GlobalAllocator::deallocate 𝓡.env wired)) z
    (and_then ! (get ! refl) (and_then ! (get ! refl) (and_then ! (get ! refl) (and_then ! (get ! refl) (no_more !))))) (λ v.
    use1 𝓛 (later (some (λ (r : Unit {0}). (tokens ⊛ ‵ (unit.own_val r (v ∷ [])))
    ⊛ some (λ (ws : Unit {0} × (Unit {0} × (Unit {0} × (Unit {0} × Unit {0})))). ‵ (lasts inner.ended z.0.0 z.0.3 ws) ⊛ ‵ ftrue))))
    (id⊢ 𝓤 _) $
    await ! tt $ pick ! (λ r. split ! $ split ! $ move ! (1 ∷ []) $ feq_l ! (λ e. move ! (1 ∷ []) $ drop ! $
    -- [the tokens]
    lands_last ! refl ((Nothing-Lawful 𝓛).typed r (v ∷ []) e).0 $
    exec ! 𝓣.C 𝓣.Λ (env code.Mir.locals l) code.Mir.t-2 (at_ret _ (W.post y)) $
    sets ! (of_opd ! (unit_lit !)) refl (tt, tt) $ returns ! (look_at ! 0 refl) $ free_all ! refl $
    suffices ! _ (ends_at 𝓛 here.ended stayed c y vunit tt (tt, (tt, (tt, (tt, tt)))) (tt, (tt, (tt, (tt, tt))))) $
    nothing ! $ feq_i ! (List Val) (vunit ∷ []) _ refl $
    nothing ! $ nothing ! $ fjoin ! $ nothing ! $ fjoin ! $ nothing ! $ fjoin ! $ nothing ! $ fjoin ! $
    move ! (3 ∷ 0 ∷ []) $ group ! 3 $ done !)))))
