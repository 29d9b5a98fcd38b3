-- Statements that begin a group and bind its result.
use Rattle.std.proofs.Common.{◌≡◌, ℕ, List, [], ◌∷◌, ◌++◌, length, map, ap, sym, ◌∙◌}
use Rattle.std.proofs.lemmas.List.{map-append}
use Rattle.ak_base.specs.declared.number.Ctx.{Ctx}
use Rattle.ak_cells.specs.Names.{name_in}
use Rattle.ak_frames.specs.declared.value.Value.{Value}
use Rattle.ak_frames.specs.declared.value.Value.TheVariants.{Def}
use Rattle.ak_program.specs.declared.statement.NumAtom.{NumAtom}
use Rattle.ak_program.specs.declared.statement.NumChoice.{NumChoice}
use Rattle.ak_program.specs.declared.statement.NumStmt.TheVariants as stmt
use Rattle.ak_machine.specs.declared.held.Choosable.{Choosable}
use Rattle.ak_machine.specs.State.{State}
use Rattle.ak_machine.specs.Deferred.{with_ivar}
use Rattle.ak_machine.specs.Mapped.{value_mapped, values_mapped, callback_mapped, choosable_mapped}
use Rattle.ak_machine.specs.Effect as effect
use Rattle.ak_machine.specs.Effect.{name_in as name_at, args_of, result_bound, call_to_fresh}
use Rattle.ak_machine.specs.Statement.{choosable}
use Rattle.ak_machine.specs.Groups.{all_begun, choice_begun}
use Rattle.ak_state.specs.Seen.{Seen, doing}
use Rattle.ak_state.specs.Reads.{named}
use Rattle.ak_state.proofs.Stands.{seen_as}
use Rattle.ak_exec.specs.declared.statement.Step.TheVariants.{Goes}
use Rattle.ak_exec.specs.Steps.{Takes, Does}

-- a fresh result has its own name
result_named : (old : Seen) (vals vals' : List Value) (i : ℕ) → i ≡ length old.plain.cells.ivars → name_in old.names i ≡ i → vals' ≡ vals ++ Def i ∷ []
    → values_mapped (name_in old.names) vals' ≡ result_bound old.plain (named old vals)
result_named old vals vals' i number own e =
    ap (values_mapped (name_in old.names)) e ∙ map-append (value_mapped (name_in old.names)) vals (Def i ∷ [])
    ∙ ap (λ k. named old vals ++ Def k ∷ []) (own ∙ number)

pub goes_bound : (old two : Seen) (vals vals' : List Value) (i : ℕ) (t : State) → two ≡ seen_as old.names t → i ≡ length old.plain.cells.ivars
    → name_in old.names i ≡ i → vals' ≡ vals ++ Def i ∷ [] → Takes (effect.Goes t (result_bound old.plain (named old vals))) Goes old two vals'
goes_bound old two vals vals' i t e number own p =
    let bound : named two vals' ≡ result_bound old.plain (named old vals) =
    ap (λ (x : Seen). values_mapped (name_in x.names) vals') e ∙ result_named old vals vals' i number own p
    in (
      ap (λ (x : Seen). effect.Goes x.plain (result_bound old.plain (named old vals))) (sym e) ∙ ap (effect.Goes two.plain) (sym bound),
      ap (λ (x : Seen). x.names) e,
    )

pub all_goes : (ctx : Ctx) (r proc : ℕ) (ds : List ℕ) (args : List NumAtom) (old one two : Seen) (vals vals' values : List Value) (is : List ℕ) (i : ℕ)
    → map (name_in old.names) is ≡ map (name_at (named old vals)) ds → values_mapped (name_in old.names) values ≡ args_of (named old vals) args
    → one ≡ doing with_ivar old → i ≡ length old.plain.cells.ivars → name_in old.names i ≡ i
    → two ≡ doing (all_begun ctx (map (name_in one.names) is) (callback_mapped (name_in one.names) (record { proc = proc; vals = values; to = i }))) one
    → vals' ≡ vals ++ Def i ∷ [] → Does ctx (stmt.All r ds proc args) old vals Goes two vals'
all_goes ctx r proc ds args old one two vals vals' values is i n a e number own b p =
    let s : State = with_ivar old.plain
    in let f : ℕ → ℕ = name_in old.names
    in goes_bound old two vals vals' i (all_begun ctx (map (name_at (named old vals)) ds) (call_to_fresh old.plain proc (args_of (named old vals) args)) s)
    (b ∙ ap (λ (x : Seen). doing (all_begun ctx (map (name_in x.names) is)
    (callback_mapped (name_in x.names) (record { proc = proc; vals = values; to = i }))) x) e
    ∙ ap (λ js. seen_as old.names (all_begun ctx js (record { proc = proc; vals = values_mapped f values; to = f i }) s)) n
    ∙ ap (λ vs. seen_as old.names (all_begun ctx (map (name_at (named old vals)) ds) (record { proc = proc; vals = vs; to = f i }) s)) a
    ∙ ap (λ k. seen_as old.names (all_begun ctx (map (name_at (named old vals)) ds) (record { proc = proc; vals = args_of (named old vals) args; to = k }) s))
    (own ∙ number)) number own p

pub choice_goes : (ctx : Ctx) (r : ℕ) (choices : List NumChoice) (args : List NumAtom) (old one two : Seen) (vals vals' values : List Value)
    (all : List Choosable) (i : ℕ) → map (choosable_mapped (name_in old.names)) all ≡ map (choosable (named old vals)) choices
    → values_mapped (name_in old.names) values ≡ args_of (named old vals) args → one ≡ doing with_ivar old → i ≡ length old.plain.cells.ivars
    → name_in old.names i ≡ i
    → two ≡ doing (choice_begun ctx (map (choosable_mapped (name_in one.names)) all) (values_mapped (name_in one.names) values) (name_in one.names i)) one
    → vals' ≡ vals ++ Def i ∷ [] → Does ctx (stmt.Choose r choices args) old vals Goes two vals'
choice_goes ctx r choices args old one two vals vals' values all i n a e number own b p =
    let s : State = with_ivar old.plain
    in let f : ℕ → ℕ = name_in old.names
    in let cs : List Choosable = map (choosable (named old vals)) choices
    in goes_bound old two vals vals' i (choice_begun ctx cs (args_of (named old vals) args) (length old.plain.cells.ivars) s)
    (b ∙ ap (λ (x : Seen). doing (choice_begun ctx (map (choosable_mapped (name_in x.names)) all) (values_mapped (name_in x.names) values)
    (name_in x.names i)) x) e
    ∙ ap (λ xs. seen_as old.names (choice_begun ctx xs (values_mapped f values) (f i) s)) n
    ∙ ap (λ vs. seen_as old.names (choice_begun ctx cs vs (f i) s)) a
    ∙ ap (λ k. seen_as old.names (choice_begun ctx cs (args_of (named old vals) args) k s)) (own ∙ number)) number own p
