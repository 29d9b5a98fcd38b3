-- A value of no bytes is made, at the list before with one more number.
use Rattle.ak_pipe.proofs.Steps.{[], ◌∷◌, ◌++◌, refl, proved, via, fst∗, emp, alive, owns, types_at, ‵, raw, ◌$◌, ◌∵◌, !, qed, done, move, suffices, enter, no_more, agg, returns, alloc_all, pass_all, free_all, look_at, sets, Val, vptr, vstruct, vnil, pure_i, Stays, walk_of, says, ends_at, named, yes, plain, stay_none_ref, Goes-none_ref, shr_vals, shr_Tells, i64}
use Rattle.ak_pipe.specs.contracts.past.Past as made
use Rattle.ak_pipe.specs.contracts.past.Past.then as f
use Rattle.ak_pipe.proofs.past.Past.then.Statement.{statement}
use Rattle.ak_pipe.proofs.past.Past.then.Code as code

abbrev stayed : Stays f.ended.signature.params f.ended.kept
stayed = (stay_none_ref (0 ∷ []) tt (plain (λ _. made.the_row)) yes, (stay_none_ref (1 ∷ []) tt (plain (λ _. i64)) yes, tt))

pub then_spec : {M : Type 1} → statement M
then_spec 𝓤 𝓛 𝓜 𝓡 wired =
    let c = f.clauses 𝓛 𝓜.mem 𝓡.returns
    in let W = walk_of 𝓛 f.ended stayed c
    in proved 𝓛 f.ended stayed c 𝓜 𝓡 (Goes-none_ref 𝓛 2 (0 ∷ []) tt (plain (λ _. made.the_row)) yes, (Goes-none_ref 𝓛 2 (1 ∷ []) tt (plain (λ _. i64)) yes, tt))
    f.Key.name code.function (code.unfolded 𝓤 𝓛.H 𝓜 𝓡 wired) (λ κs. (shr_vals, (shr_vals, tt)))
    (λ κs. (shr_Tells (named 0) κs.0 made.the_row, (shr_Tells (named 1) κs.1.0 i64, tt))) (λ κs qs bounds a n are.
    let before : Val = vptr a.0.ref_ptr.0 a.0.ref_ptr.1
    in let num : Val = vptr a.1.0.ref_ptr.0 a.1.0.ref_ptr.1
    in let y : W.Ghost = ((κs, qs, bounds, a, (before ∷ [], (num ∷ [], tt))), n)
    in via 𝓤 _ (fst∗ 𝓤 _ (emp 𝓤)) (qed 𝓛 (raw (alive 𝓛 f.signature κs qs) ∷ ‵ (owns (types_at f.signature.params κs) a y.0.4) ∷ []) ∵
    enter ! _ _ _ _ _ $ alloc_all ! (λ l. pass_all ! refl ((tt, tt), ((tt, tt), tt)) $ sets ! (agg ! (no_more !)) refl (tt, tt) $
    returns ! (look_at ! 0 refl) $ free_all ! refl $
    suffices ! _ (ends_at 𝓛 f.ended stayed c y (vstruct vnil) (record { written = a.0.now.written ++ a.1.0.now ∷ [] }) (tt, (tt, tt))
    (tt, (tt, tt))) $ says ! refl $
    pure_i ! (made.the_row.own_val (record { written = a.0.now.written ++ a.1.0.now ∷ [] }) (vstruct vnil ∷ [])) ((λ vss. (tt, tt)), tt)
    ((tt, (refl, tt)), tt) $
    move ! (1 ∷ 2 ∷ 0 ∷ []) $ done !)))
