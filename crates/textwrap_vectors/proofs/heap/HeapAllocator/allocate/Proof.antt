-- Where `spend` finds an allocation left, it answers what `inner` answers, and else `Err`. Each `&` to a
-- field comes from the one to the heap, and a block may be freed as `inner` says.
use Rattle.textwrap_vectors.proofs.Steps.{ℕ, ◌+◌, Bool, false, List, [], ◌∷◌, Err, refl, ap, w64, proved, Val, vptr, id⊢, ftrue, flft, size, align, up, tables, ‵, raw, ◌⊛◌, some, later, prop, at_ret, Sq, ◌$◌, ◌∵◌, !, qed, done, move, keep, drop, use0, use1, use2, split, join, fsplit, fjoin, feq_i, feq_l, pick, await, suffices, group, agg, enter, addr, lit, of_opd, stop, fld, no_more, and_then, first, branches, exec, returns, alloc_all, pass_all, free_all, look_at, get, through, sets, sets_last, lands_as, lands_last, env, ptr_laws, bool, usize, RefOf, RawPtr, loose_lawful, yes, shows, lone, unhide, uint_vals, uint_Tells, owns, shr_vals, plain, types_at, nothing, peeks, only, calls_at, calls_at_last, lasts, triple_of, framed, Stays, walk_of, stay_dropped, Goes-dropped, ends_at, block_if_ok, Answer, answer_val, Answer-typed, Answer-err, the_row_laws, the_loose, AllocError, Inner, ghosts, Results}
use Rattle.std.specs.contracts.impls.GlobalAllocator.allocate as inner
use Rattle.std.proofs.impls.GlobalAllocator.allocate.Met as inner_met
use Rattle.textwrap_vectors.specs.contracts.heap.Heap.{the_row as Heap}
use Rattle.textwrap_vectors.specs.contracts.heap.spend as spend
use Rattle.textwrap_vectors.proofs.heap.spend.Met as spend_met
use Rattle.textwrap_vectors.specs.contracts.heap.HeapAllocator.allocate as here
use Rattle.textwrap_vectors.proofs.heap.HeapAllocator.allocate.Statement.{statement}
use Rattle.textwrap_vectors.proofs.heap.HeapAllocator.allocate.Code as code

abbrev stayed : Stays here.ended.signature.params here.ended.kept
stayed = (stay_dropped _ yes, (stay_dropped _ yes, (stay_dropped _ yes, tt)))

pub allocate_spec : {M : Type 1} → statement M
allocate_spec 𝓤 𝓛 𝓜 𝓡 wired =
    let c = here.clauses 𝓛 𝓜.mem 𝓡.returns in
    let W = walk_of 𝓛 here.ended stayed c in
    let 𝓣 = tables 𝓤 𝓛.H 𝓜 𝓡 𝓡.env in
    let self = RefOf (0 ∷ []) tt (plain (λ _. Heap)) (λ _. tt) in
    let goes = Goes-dropped 𝓛 1 self yes (λ κs x w. refl) in
    let number = Goes-dropped 𝓛 1 (plain (λ _. usize)) yes (λ κs x w. refl) in
    proved 𝓛 here.ended stayed c 𝓜 𝓡 (goes, (number, (number, tt)))
    here.Key.name code.function (code.unfolded 𝓤 𝓛.H 𝓜 𝓡 wired)
    (λ κs. (shr_vals, (uint_vals w64, (uint_vals w64, tt))))
    (λ κs. ((λ r vs s. s.0), (uint_Tells w64, (uint_Tells w64, tt)))) (λ κs qs bounds a τ are.
    let heap = a.0.now in
    let b = a.0.ref_ptr.0 in
    let at_inner : ℕ = a.0.ref_ptr.1 + up (align (lone Inner.mir)) 0 in
    let at_left : ℕ = a.0.ref_ptr.1 + up 8 (up (align (lone Inner.mir)) 0 + size (lone Inner.mir)) in
    let tokens = ‵ (flft κs.0 qs.0) ⊛ ‵ ftrue in
    let block = λ (r : Answer.Denot). block_if_ok (ghosts.dealloc_token heap.inner) τ r in
    let y : W.Ghost =
    ((κs, qs, bounds, a, (shr_vals a.0, (uint_vals w64 a.1.0, (uint_vals w64 a.1.1.0, tt)))), τ) in
    let out : (v : Val) (r : Answer.Denot)
    → Sq 𝓛 (‵ (block r) ∷ ‵ (Answer.own_val r (v ∷ [])) ∷ tokens ∷ []) (prop (W.post y v)) = λ v r.
    suffices ! _ (ends_at 𝓛 here.ended stayed c y v r (tt, (tt, (tt, tt))) (tt, (tt, (tt, tt)))) $
    nothing ! $ nothing ! $ fjoin ! $ nothing ! $ fjoin ! $ nothing ! $ fjoin ! $
    move ! (3 ∷ 0 ∷ 2 ∷ []) $ group ! 3 $ done ! in
    qed 𝓛 ((tokens ⊛ ‵ (owns (types_at here.signature.params κs) a y.0.4)) ∷ raw ((c κs a).requires τ) ∷ []) ∵
    split ! $ move ! (1 ∷ []) $ fsplit ! $ fsplit ! $ move ! (1 ∷ []) $
    unhide ! $ fsplit ! $ fsplit ! $ move ! (1 ∷ []) $ fsplit ! $ keep ! (0 ∷ 6 ∷ 2 ∷ 5 ∷ 7 ∷ []) $
    -- [a `&` to `left`; the tokens; a `&` to `inner`; the other parameters; the `requires`]
    enter ! _ _ _ _ _ $ alloc_all ! (λ l. pass_all ! refl
    ((tt, tt), ((tt, record { fits = are.1.0.1 }), ((tt, record { fits = are.1.1.0.1 }), tt))) $
    sets ! (addr ! (through ! refl (fld ! refl (stop !)))) refl (tt, tt) $
    let S = triple_of 𝓛 spend.signature (spend.spec 𝓛 𝓜.mem 𝓡.returns) in
    let x : S.Ghost =
    ((κs, qs, bounds, (record { ref_ptr = (b, at_left); now = heap.left }, tt), (vptr b at_left ∷ [], tt)), tt) in
    feq_i ! (List Val) (vptr b at_left ∷ []) _ refl $ fjoin ! $ nothing ! $ move ! (1 ∷ []) $ fjoin ! $
    move ! (1 ∷ 0 ∷ []) $ join ! $ nothing ! $ move ! (1 ∷ []) $ use2 𝓛 (raw (S.pre x)) (id⊢ 𝓤 _) $
    calls_at ! (framed 𝓤 𝓛.H 𝓜 𝓣) S
    (spend_met.met 𝓤 𝓛 𝓜 𝓡 (code.calls-textwrap_vectors::heap::spend 𝓡.env wired)) x
    (and_then ! (get ! refl) (no_more !)) (λ v.
    use1 𝓛 (later (some (λ (t : Bool). (tokens ⊛ ‵ (bool.own_val t (v ∷ [])))
    ⊛ some (λ (ws : Unit {0} × Unit {0}). ‵ (lasts spend.ended x.0.0 x.0.3 ws) ⊛ ‵ ftrue)))) (id⊢ 𝓤 _) $
    await ! tt $ pick ! (λ t. split ! $ split ! $ move ! (1 ∷ []) $ feq_l ! (λ e. move ! (1 ∷ []) $ drop ! $
    lands_as ! (ap only e) refl (tt, tt) $
    -- [the tokens; a `&` to `inner`; the other parameters; the `requires`]
    first ! $ branches ! (get ! refl)
    (λ spent. sets ! (addr ! (through ! refl (fld ! refl (stop !)))) refl (tt, tt) $
    let G = triple_of 𝓛 inner.signature (inner.spec 𝓛 𝓜.mem 𝓡.returns) in
    let z : G.Ghost =
    ((κs, qs, bounds, (record { ref_ptr = (b, at_inner); now = heap.inner }, a.1), (vptr b at_inner ∷ [], y.0.4.1)), τ) in
    feq_i ! (List Val) (vptr b at_inner ∷ []) _ refl $ move ! (0 ∷ 2 ∷ []) $ fjoin ! $
    move ! (0 ∷ 2 ∷ []) $ fjoin ! $ move ! (1 ∷ 0 ∷ []) $ join ! $ use2 𝓛 (raw (G.pre z)) (id⊢ 𝓤 _) $
    calls_at_last ! (framed 𝓤 𝓛.H 𝓜 𝓣) G
    (inner_met.met 𝓤 𝓛 𝓜 𝓡 (code.calls-std_heap::GlobalAllocator::allocate 𝓡.env wired)) z
    (and_then ! (get ! refl) (and_then ! (get ! refl) (and_then ! (get ! refl) (no_more !)))) (λ v.
    use1 𝓛 (later (some (λ (r : Answer.Denot). (tokens ⊛ ‵ (Answer.own_val r (v ∷ [])))
    ⊛ some (λ (ws : Unit {0} × (Unit {0} × (Unit {0} × Unit {0}))). ‵ (lasts inner.ended z.0.0 z.0.3 ws) ⊛ ‵ (block r)))))
    (id⊢ 𝓤 _) $
    await ! tt $ pick ! (λ r. split ! $ split ! $ move ! (1 ∷ []) $
    peeks ! Answer _ (shows 𝓛 Answer) r (v ∷ []) (λ is. move ! (2 ∷ []) $ pick ! (λ ws. split ! $ drop ! $
    -- [the block, if there is one; the answer; the tokens]
    let answers = loose_lawful (Results RawPtr AllocError) (the_loose RawPtr AllocError ptr_laws the_row_laws) tt 𝓛 in
    let typed = (answers.typed r (v ∷ []) is).0 in
    lands_last ! refl typed $ exec ! 𝓣.C 𝓣.Λ (env code.Mir.locals l) code.Mir.t-4 (at_ret _ (W.post y)) $
    sets ! (of_opd ! (get ! refl)) refl typed $ returns ! (look_at ! 0 refl) $ free_all ! refl $ out v r)))))
    (λ none. let refused = answer_val false 0 0 in let typed = Answer-typed false 0 0 in
    sets ! (agg ! (no_more !)) refl (tt, tt) $
    sets_last ! (agg ! (and_then ! (lit ! tt) (and_then ! (get ! refl) (no_more !)))) refl typed $
    exec ! 𝓣.C 𝓣.Λ (env code.Mir.locals l) code.Mir.t-4 (at_ret _ (W.post y)) $
    sets ! (of_opd ! (get ! refl)) refl typed $ returns ! (look_at ! 0 refl) $ free_all ! refl $ keep ! (0 ∷ []) $
    use0 𝓛 (‵ (Answer.own_val (Err (record {})) (refused ∷ []))) (Answer-err 𝓛) $ nothing ! $
    out refused (Err (record {}))))))))
