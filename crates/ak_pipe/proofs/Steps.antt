-- The names that the two proofs by hand cite.
pub use Rattle.std.proofs.Common.{[], ◌∷◌, ◌++◌, refl}
pub use Rattle.std.proofs.raw_atomic.Walks.{proved}
pub use base.Logic.{via, fst∗, emp}
pub use mir.Syntax.{named}
pub use mir.Val.{Val, vptr, vstruct, vnil}
pub use contract.Running.{tables}
pub use types.Kit.{‵, raw, at_ret, ◌$◌, ◌∵◌, !, qed, done, move, keep, join, suffices}
pub use types.Run.{enter, no_more, returns}
pub use types.Part.{agg}
pub use types.ByLocal.{alloc_all, pass_all, free_all, look_at, sets}
pub use denote.Builtin.{i64}
pub use denote.Steps.{nothing}
pub use denote.Exit.{yes}
pub use denote.Ref.{shr_vals, shr_Tells}
pub use denote.Shadow.{pure_i}
pub use denote.Signature.{plain, types_at}
pub use denote.RattleType.{owns}
pub use denote.Triple.Entry.{on_entry, alive}
pub use denote.Triple.Walked.{Stays, walk_of, says, stay_none_ref, Goes-none_ref, ends_at}
