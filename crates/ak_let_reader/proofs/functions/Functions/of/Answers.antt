use Rattle.std.proofs.Common.{◌≡◌, ℕ, ◌+◌, List, [], ◌∷◌, ◌++◌, take, sym, ap, subst, ◌∙◌, arith}
use Rattle.std.proofs.lemmas.List.{take_all}
use Rattle.ak_let_syntax.specs.declared.named.NamedFun.{NamedFun}
use Rattle.ak_let_reader.specs.Numbered.{fun_names}
use Rattle.ak_let_reader.specs.Places.{ArePlaces}
use Rattle.ak_let_reader.proofs.Positions.{names_many, names_next}
use Rattle.ak_let_reader.proofs.functions.Functions.of.Goals as goal

pub loop-i-preserved : goal.loop-i-preserved
loop-i-preserved c =
    let named : c.as_slice.result.now ≡ c.index-funs-i.result.name = c.as_slice.ensures in
    let next : fun_names (take c.loop-i.i c.args.funs.now) ++ c.as_slice.result.now ∷ [] ≡ fun_names (take (c.loop-i.i + 1) c.args.funs.now) =
    ap (λ (name : List ℕ). fun_names (take c.loop-i.i c.args.funs.now) ++ name ∷ []) named
    ∙ sym (names_next c.args.funs.now c.loop-i.i c.index-funs-i.result (omega arith) c.index-funs-i.is) in
    subst (λ (names : List (List ℕ)). ArePlaces c.put.new.places.entries names) next
    (c.in_ok-put.ensures (fun_names (take c.loop-i.i c.args.funs.now)) (sym (names_many c.args.funs.now c.loop-i.i (omega arith))) c.loop-i.invariant)

pub invariant_of-result : goal.invariant_of-result
invariant_of-result c =
    subst (λ (funs : List NamedFun). ArePlaces c.loop-i.places.entries (fun_names funs)) (take_all c.loop-i.i c.args.funs.now (omega arith)) c.loop-i.invariant
