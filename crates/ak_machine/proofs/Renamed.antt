-- A name that was renamed stands nowhere.
use Rattle.std.proofs.Common.{ℕ, ◌≡◌, refl, ap, sym, ◌∙◌, Bool, true, false, cond}
use Rattle.std.specs.Prelude.{◌==◌, None}
use Rattle.std.proofs.lemmas.Bool.{eqb-true}
use mathlib.Core.Path.{fun_ext}
use Rattle.ak_cells.specs.Names.{renamed}
use Rattle.ak_trace.specs.declared.entry.Entry.TheVariants as entry
use Rattle.ak_machine.specs.State.{State}
use Rattle.ak_machine.specs.Deferred.{noting, number_at, connect, connect_at}
use Rattle.ak_machine.specs.Mapped.{state_mapped, state_renamed}
use Rattle.ak_machine.proofs.Mapped.{state_twice}

-- a number that is not `from` is its own
renamed_else : (from to i : ℕ) (b : Bool) → (i == from) ≡ b → ¬ (i ≡ from) → renamed from to i ≡ i
renamed_else from to i false e h = ap (λ x. cond x to i) e
renamed_else from to i true e h = absurd (h (eqb-true i from e))

-- of a renamed number nothing is left to rename
renamed_again : (from to other i : ℕ) → ¬ (to ≡ from) → (b : Bool) → (i == from) ≡ b → renamed from other (renamed from to i) ≡ renamed from to i
renamed_again from to other i h true e =
    ap (λ x. renamed from other (cond x to i)) e ∙ renamed_else from other to (to == from) refl h ∙ ap (λ x. cond x to i) (sym e)
renamed_again from to other i h false e = ap (λ x. renamed from other (cond x to i)) e ∙ ap (λ x. cond x other i) e ∙ ap (λ x. cond x to i) (sym e)

pub renamed_twice : (from to other : ℕ) → ¬ (to ≡ from) → (λ i. renamed from other (renamed from to i)) ≡ renamed from to
renamed_twice from to other h = fun_ext (λ i. renamed_again from to other i h (i == from) refl)

pub renamed_is_gone : (from to other : ℕ) (s : State) → ¬ (to ≡ from) → state_renamed from other (state_renamed from to s) ≡ state_renamed from to s
renamed_is_gone from to other s h =
    state_twice (renamed from other) (renamed from to) s ∙ ap (λ f. state_mapped f s) (renamed_twice from to other h)

connected_is_gone : (result right other : ℕ) (s : State) (b : Bool) → (result == right) ≡ b → ¬ (result ≡ right) → number_at result s ≡ None
    → number_at right s ≡ None
    → state_renamed right other (cond b s (connect_at (number_at result s) (number_at right s) result right s)) ≡ cond b s
    (connect_at (number_at result s) (number_at right s) result right s)
connected_is_gone result right other s true e h p q = absurd (h (eqb-true result right e))
connected_is_gone result right other s false e h p q =
    rw (p, q) (renamed_is_gone right result other (noting (entry.Join result right) s) h)

pub connection_is_gone : (result right other : ℕ) (s : State) → ¬ (result ≡ right) → number_at result s ≡ None → number_at right s ≡ None
    → state_renamed right other (connect result right s) ≡ connect result right s
connection_is_gone result right other s h p q = connected_is_gone result right other s (result == right) refl h p q
