-- What the two proofs cite of the toolchain: all that another kit may name in another way.
pub use Rattle.std.proofs.Common.{ℕ, ◌+◌, Bool, false, List, [], ◌∷◌, Err, refl, ap, w64}
pub use Rattle.std.proofs.raw_atomic.Walks.{proved}
pub use Rattle.std.specs.Allocator.{block_if_ok}
pub use Rattle.std.proofs.alloc.Calls.{Answer, answer_val, Answer-typed, Answer-err}
pub use Rattle.std.proofs.alloc.AllocError.TheLaws.{the_row_laws}
pub use Rattle.std.proofs.result.Result.TheLaws.{the_loose}
pub use Rattle.std.specs.contracts.alloc.AllocError.{the_row as AllocError}
pub use Rattle.std.specs.contracts.alloc.Global.{the_row as Inner}
pub use Rattle.std.specs.contracts.impls.GlobalAllocator.TheImpl.{ghosts}
pub use Rattle.std.specs.contracts.result.Result.{the_type as Results}
pub use mir.Val.{Val, vptr, vunit}
pub use base.Logic.{id⊢}
pub use base.Fml.{ftrue, flft}
pub use prog.Memory.{size, align, up}
pub use contract.Running.{tables}
pub use types.Kit.{‵, raw, ◌⊛◌, some, later, prop, at_ret, Sq, ◌$◌, ◌∵◌, !, qed, done, move, keep, drop, use0, use1, use2, split, join, fsplit, fjoin, feq_i, feq_l, pick, await, suffices, group}
pub use types.Part.{agg}
pub use types.Run.{enter, addr, lit, of_opd, stop, fld, no_more, and_then, first, branches, exec, returns, unit_lit, blocks}
pub use types.ByLocal.{alloc_all, pass_all, free_all, look_at, get, through, sets, sets_last, lands_as, lands_last, env}
pub use borrow.Table.RawPtr.{ptr_laws}
pub use denote.Builtin.{bool, usize, RefOf, RawPtr, unit}
pub use denote.Enum.Loose.{loose_lawful}
pub use denote.Exit.{yes}
pub use denote.Laws.{shows}
pub use denote.Memory.{lone}
pub use denote.Opens.{unhide}
pub use denote.Plain.{uint_vals, uint_Tells, Nothing-Lawful}
pub use denote.RattleType.{owns}
pub use denote.Ref.{shr_vals}
pub use denote.Signature.{plain, types_at}
pub use denote.Steps.{nothing, peeks, only}
pub use denote.Triple.Call.{calls_at, calls_at_last}
pub use denote.Triple.Clauses.{lasts}
pub use denote.Triple.Spec.{triple_of}
pub use denote.Triple.Table.{framed}
pub use denote.Triple.Walked.{Stays, walk_of, stay_dropped, Goes-dropped, ends_at}
pub use denote.RawPtr.{rawptr_vals, rawptr_Tells, rawptr_Lawful}
