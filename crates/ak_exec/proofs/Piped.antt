-- Statements on pipes that take reads.
use Rattle.std.proofs.Common.{◌≡◌, ℕ, List, [], ◌∷◌, ◌++◌, length, refl, ap, ◌∙◌}
use Rattle.ak_base.specs.declared.number.Ctx.{Ctx}
use Rattle.ak_cells.specs.Names.{name_in}
use Rattle.ak_frames.specs.declared.value.Value.{Value}
use Rattle.ak_frames.specs.declared.value.Value.TheVariants.{Def}
use Rattle.ak_program.specs.declared.statement.NumAtom.{NumAtom}
use Rattle.ak_program.specs.declared.statement.NumStmt.TheVariants as stmt
use Rattle.ak_machine.specs.declared.held.Callback.{Callback}
use Rattle.ak_machine.specs.State.{State}
use Rattle.ak_machine.specs.Deferred.{with_ivar}
use Rattle.ak_machine.specs.Mapped.{values_mapped, callback_mapped, read_mapped}
use Rattle.ak_machine.specs.Effect.{name_in as name_at, args_of, call_to_fresh}
use Rattle.ak_machine.specs.Pipes.{read, close_read}
use Rattle.ak_state.specs.Seen.{Seen, doing}
use Rattle.ak_state.specs.Reads.{named}
use Rattle.ak_state.proofs.Stands.{seen_as}
use Rattle.ak_exec.specs.declared.statement.Step.TheVariants.{Goes}
use Rattle.ak_exec.specs.Steps.{Does}
use Rattle.ak_exec.proofs.Groups.{goes_bound}

-- a call with its own names, and with those that survive
called_same : (old : Seen) (proc : ℕ) (vals values : List Value) (args : List NumAtom) (i : ℕ)
    → values_mapped (name_in old.names) values ≡ args_of (named old vals) args → name_in old.names i ≡ i → i ≡ length old.plain.cells.ivars
    → callback_mapped (name_in old.names) (record { proc = proc; vals = values; to = i }) ≡ call_to_fresh old.plain proc (args_of (named old vals) args)
called_same old proc vals values args i a own number =
    ap (λ (vs : List Value). record { proc = proc; vals = vs; to = name_in old.names i }) a
    ∙ ap (λ (k : ℕ). record { proc = proc; vals = args_of (named old vals) args; to = k }) (own ∙ number)

pub read_goes : (ctx : Ctx) (r p proc eof : ℕ) (args eof_args : List NumAtom) (old one two : Seen) (vals vals' values eof_values : List Value) (pipe i : ℕ)
    → pipe ≡ name_at (named old vals) p → values_mapped (name_in old.names) values ≡ args_of (named old vals) args
    → values_mapped (name_in old.names) eof_values ≡ args_of (named old vals) eof_args → one ≡ doing with_ivar old
    → i ≡ length old.plain.cells.ivars → name_in old.names i ≡ i
    → two ≡ doing (read pipe (read_mapped (name_in one.names)
    (record { ctx = ctx; item = record { proc = proc; vals = values; to = i }; eof = record { proc = eof; vals = eof_values; to = i } }))) one
    → vals' ≡ vals ++ Def i ∷ [] → Does ctx (stmt.Read r p proc args eof eof_args) old vals Goes two vals'
read_goes ctx r p proc eof args eof_args old one two vals vals' values eof_values pipe i n a ea e number own b d =
    let s : State = with_ivar old.plain
    in let f : ℕ → ℕ = name_in old.names
    in let item : Callback = record { proc = proc; vals = values; to = i }
    in let end : Callback = record { proc = eof; vals = eof_values; to = i }
    in let item' : Callback = call_to_fresh old.plain proc (args_of (named old vals) args)
    in let end' : Callback = call_to_fresh old.plain eof (args_of (named old vals) eof_args)
    in goes_bound old two vals vals' i (read (name_at (named old vals) p) (record { ctx = ctx; item = item'; eof = end' }) s)
    (b ∙ ap (λ (x : Seen). doing (read pipe (read_mapped (name_in x.names) (record { ctx = ctx; item = item; eof = end }))) x) e
    ∙ ap (λ (k : ℕ). seen_as old.names (read k (record { ctx = ctx; item = callback_mapped f item; eof = callback_mapped f end }) s)) n
    ∙ ap (λ (x : Callback). seen_as old.names (read (name_at (named old vals) p) (record { ctx = ctx; item = x; eof = callback_mapped f end }) s))
    (called_same old proc vals values args i a own number)
    ∙ ap (λ (x : Callback). seen_as old.names (read (name_at (named old vals) p) (record { ctx = ctx; item = item'; eof = x }) s))
    (called_same old eof vals eof_values eof_args i ea own number)) number own d

pub close_read_goes : (ctx : Ctx) (p pipe : ℕ) (old two : Seen) (vals : List Value) → pipe ≡ name_at (named old vals) p
    → two ≡ doing (close_read pipe) old → Does ctx (stmt.CloseRead p) old vals Goes two vals
close_read_goes ctx p pipe old two vals n b =
    let is : two ≡ doing (close_read (name_at (named old vals) p)) old = b ∙ ap (λ (k : ℕ). doing (close_read k) old) n
    in (rw is refl, ap (λ (x : Seen). x.names) is)
