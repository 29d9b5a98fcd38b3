-- A value of no bytes is made, at the empty list.
use Rattle.ak_pipe.proofs.Steps.{[], ◌∷◌, refl, proved, raw, ◌$◌, ◌∵◌, !, qed, done, keep, join, nothing, suffices, enter, no_more, agg, returns, alloc_all, pass_all, free_all, look_at, sets, vstruct, vnil, pure_i, on_entry, Stays, walk_of, says, ends_at}
use Rattle.ak_pipe.specs.contracts.past.Past as made
use Rattle.ak_pipe.specs.contracts.past.Past.new as f
use Rattle.ak_pipe.proofs.past.Past.new.Statement.{statement}
use Rattle.ak_pipe.proofs.past.Past.new.Code as code

abbrev stayed : Stays f.ended.signature.params f.ended.kept
stayed = tt

pub new_spec : {M : Type 1} → statement M
new_spec 𝓤 𝓛 𝓜 𝓡 wired =
    let c = f.clauses 𝓛 𝓜.mem 𝓡.returns
    in let W = walk_of 𝓛 f.ended stayed c
    in proved 𝓛 f.ended stayed c 𝓜 𝓡 tt f.Key.name code.function (code.unfolded 𝓤 𝓛.H 𝓜 𝓡 wired) (λ κs. tt) (λ κs. tt) (λ κs qs bounds a n are.
    let y : W.Ghost = ((κs, qs, bounds, a, tt), n)
    in qed 𝓛 (raw (on_entry 𝓛 f.signature κs qs a y.0.4) ∷ raw ((c κs a).requires n) ∷ []) ∵ keep ! [] $
    enter ! _ _ _ _ _ $ alloc_all ! (λ l. pass_all ! refl tt $ sets ! (agg ! (no_more !)) refl (tt, tt) $
    returns ! (look_at ! 0 refl) $ free_all ! refl $
    pure_i ! (made.the_row.own_val (record { written = [] }) (vstruct vnil ∷ [])) ((λ vss. (tt, tt)), tt) ((tt, (refl, tt)), tt) $
    suffices ! _ (ends_at 𝓛 f.ended stayed c y (vstruct vnil) (record { written = [] }) tt tt) $ says ! refl $
    nothing ! $ join ! $ nothing ! $ done !))
