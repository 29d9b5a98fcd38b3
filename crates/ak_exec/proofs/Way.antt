-- A job under way, by the last step that the code took.
use Rattle.std.proofs.Common.{◌≡◌, ℕ, ◌<◌, List, [], ◌∷◌, length, refl, subst, sym, ap, ◌∙◌}
use Rattle.std.specs.Prelude.{ℤ, Option, Some, None, MatchOption}
use Rattle.std.specs.List.{AllByRecursion, slice_get}
use Rattle.std.proofs.lemmas.Option.{get_or_from_slice_get, slice_get_within}
use Rattle.ak_base.specs.declared.number.Ctx.{Ctx}
use Rattle.ak_frames.specs.declared.value.Value.{Value}
use Rattle.ak_frames.specs.declared.frame.Ret.{Ret}
use Rattle.ak_program.specs.declared.program.NumStatement.{NumStatement}
use Rattle.ak_program.specs.declared.program.NumProc.{NumProc}
use Rattle.ak_program.specs.Programs.{ProcIsSound}
use Rattle.ak_machine.specs.State.{State}
use Rattle.ak_labor.specs.declared.ask.Ask.{Ask}
use Rattle.ak_machine.specs.Effect.{Goes, Raises, Returns, Stops, Ends, Asks}
use Rattle.ak_machine.specs.Statement.{line_effect}
use Rattle.ak_machine.specs.Errors.{After, going_on, stopped, send}
use Rattle.ak_machine.specs.Job.{Over, Asking, returned, run_lines, lines_of}
use Rattle.ak_holders.specs.Returns.{LinesReturn}
use Rattle.ak_holders.proofs.Carry.{returns_on}
use Rattle.ak_state.specs.Drawn.{Drawn}
use Rattle.ak_state.specs.Fits.{ValsFit, kinds_of, CallFits}
use Rattle.ak_state.proofs.Fitting.{all_get}
use Rattle.ak_exec.specs.Typed.{AreTyped}

-- a line that goes on
goes_here : (ctx : Ctx) (ret : Ret) (line : NumStatement) (rest : List NumStatement) (s s' : State) (vals vals' : List Value)
    → line_effect ctx line s vals ≡ Goes s' vals' → run_lines ctx ret (line ∷ rest) s vals ≡ run_lines ctx ret rest s' vals'
goes_here ctx ret line rest s s' vals vals' e = rw (e, run_lines) refl

pub line_goes : (ctx : Ctx) (ret ret' : Ret) (lines : List NumStatement) (line : NumStatement) (rest : List NumStatement) (s s' : State)
    (vals vals' : List Value) → lines ≡ line ∷ rest → ret' ≡ ret → line_effect ctx line s vals ≡ Goes s' vals'
    → run_lines ctx ret lines s vals ≡ run_lines ctx ret' rest s' vals'
line_goes ctx ret ret' lines line rest s s' vals vals' el er e =
    ap (λ ls. run_lines ctx ret ls s vals) el ∙ goes_here ctx ret line rest s s' vals vals' e ∙ ap (λ r. run_lines ctx r rest s' vals') (sym er)

-- a line that ends the job
raises_here : (ctx : Ctx) (ret : Ret) (line : NumStatement) (rest : List NumStatement) (s : State) (vals : List Value) (num : ℤ)
    → line_effect ctx line s vals ≡ Raises num → run_lines ctx ret (line ∷ rest) s vals ≡ Over (send ctx.mon num s)
raises_here ctx ret line rest s vals num e = rw (e, run_lines) refl

pub line_raises : (ctx : Ctx) (ret : Ret) (lines : List NumStatement) (line : NumStatement) (rest : List NumStatement) (s : State)
    (vals : List Value) (num : ℤ) → lines ≡ line ∷ rest → line_effect ctx line s vals ≡ Raises num
    → run_lines ctx ret lines s vals ≡ Over (send ctx.mon num s)
line_raises ctx ret lines line rest s vals num el e = ap (λ ls. run_lines ctx ret ls s vals) el ∙ raises_here ctx ret line rest s vals num e

returns_here : (ctx : Ctx) (ret : Ret) (line : NumStatement) (rest : List NumStatement) (s : State) (vals : List Value) (v : Value)
    → line_effect ctx line s vals ≡ Returns v → run_lines ctx ret (line ∷ rest) s vals ≡ Over (going_on (returned ret v s))
returns_here ctx ret line rest s vals v e = rw (e, run_lines) refl

pub line_returns : (ctx : Ctx) (ret : Ret) (lines : List NumStatement) (line : NumStatement) (rest : List NumStatement) (s : State)
    (vals : List Value) (v : Value) → lines ≡ line ∷ rest → line_effect ctx line s vals ≡ Returns v
    → run_lines ctx ret lines s vals ≡ Over (going_on (returned ret v s))
line_returns ctx ret lines line rest s vals v el e = ap (λ ls. run_lines ctx ret ls s vals) el ∙ returns_here ctx ret line rest s vals v e

ends_here : (ctx : Ctx) (ret : Ret) (line : NumStatement) (rest : List NumStatement) (s : State) (vals : List Value) (after : After)
    → line_effect ctx line s vals ≡ Ends after → run_lines ctx ret (line ∷ rest) s vals ≡ Over after
ends_here ctx ret line rest s vals after e = rw (e, run_lines) refl

pub line_ends : (ctx : Ctx) (ret : Ret) (lines : List NumStatement) (line : NumStatement) (rest : List NumStatement) (s : State)
    (vals : List Value) (after : After) → lines ≡ line ∷ rest → line_effect ctx line s vals ≡ Ends after
    → run_lines ctx ret lines s vals ≡ Over after
line_ends ctx ret lines line rest s vals after el e = ap (λ ls. run_lines ctx ret ls s vals) el ∙ ends_here ctx ret line rest s vals after e

stops_here : (ctx : Ctx) (ret : Ret) (line : NumStatement) (rest : List NumStatement) (s : State) (vals : List Value)
    → line_effect ctx line s vals ≡ Stops → run_lines ctx ret (line ∷ rest) s vals ≡ Over (stopped s)
stops_here ctx ret line rest s vals e = rw (e, run_lines) refl

pub line_stops : (ctx : Ctx) (ret : Ret) (lines : List NumStatement) (line : NumStatement) (rest : List NumStatement) (s : State)
    (vals : List Value) → lines ≡ line ∷ rest → line_effect ctx line s vals ≡ Stops → run_lines ctx ret lines s vals ≡ Over (stopped s)
line_stops ctx ret lines line rest s vals el e = ap (λ ls. run_lines ctx ret ls s vals) el ∙ stops_here ctx ret line rest s vals e

-- a line that asks
asks_here : (ctx : Ctx) (ret : Ret) (line : NumStatement) (rest : List NumStatement) (s s' : State) (vals vals' : List Value) (a : Ask)
    → line_effect ctx line s vals ≡ Asks a s' vals'
    → run_lines ctx ret (line ∷ rest) s vals ≡ Asking a s' (record { ctx = ctx; ret = ret; vals = vals'; lines = rest })
asks_here ctx ret line rest s s' vals vals' a e = rw (e, run_lines) refl

pub line_asks : (ctx : Ctx) (ret ret' : Ret) (lines : List NumStatement) (line : NumStatement) (rest : List NumStatement) (s s' : State)
    (vals vals' : List Value) (a : Ask) → lines ≡ line ∷ rest → ret' ≡ ret → line_effect ctx line s vals ≡ Asks a s' vals'
    → run_lines ctx ret lines s vals ≡ Asking a s' (record { ctx = ctx; ret = ret'; vals = vals'; lines = rest })
line_asks ctx ret ret' lines line rest s s' vals vals' a el er e =
    ap (λ ls. run_lines ctx ret ls s vals) el ∙ asks_here ctx ret line rest s s' vals vals' a e
    ∙ ap (λ (r : Ret). Asking a s' (record { ctx = ctx; ret = r; vals = vals'; lines = rest })) (sym er)

-- ---- the lines of a procedure that is called
pub call_there : (program : List NumProc) (n : Drawn) (proc : ℕ) (vals : List Value) → CallFits program n proc vals → proc < length program
call_there program n proc vals h = by (slice_get program proc) refl h
  where
    by : (o : Option NumProc) → slice_get program proc ≡ o → MatchOption o ⊥ (λ (p : NumProc). ValsFit n (kinds_of p.params) vals) → proc < length program
    by None e f = absurd f
    by (Some p) e f = slice_get_within program proc p e

pub call_typed : (program : List NumProc) (n : Drawn) (proc : ℕ) (vals : List Value) → AllByRecursion (ProcIsSound program) program
    → CallFits program n proc vals → AreTyped program n vals (lines_of program proc)
call_typed program n proc vals sound h = by (slice_get program proc) refl h
  where
    by : (o : Option NumProc) → slice_get program proc ≡ o → MatchOption o ⊥ (λ (p : NumProc). ValsFit n (kinds_of p.params) vals)
        → AreTyped program n vals (lines_of program proc)
    by None e f = absurd f
    by (Some p) e f =
        let body : lines_of program proc ≡ p.body = ap (λ (q : NumProc). q.body)
        (get_or_from_slice_get program proc p (record { name = 0; line = 0; params = []; body = [] }) e)
        in subst (AreTyped program n vals) (sym body)
        (record {
          kinds = kinds_of p.params;
          vals_fit = f;
          sound =
              (all_get (ProcIsSound program) program proc p sound e).lines;
        })

-- ---- a job that returns to an empty deferred
pub goes_returns : (ctx : Ctx) (ret ret' : Ret) (line : NumStatement) (rest : List NumStatement) (s s' : State) (vals vals' : List Value)
    → LinesReturn ctx ret (line ∷ rest) s vals → ret' ≡ ret → line_effect ctx line s vals ≡ Goes s' vals' → LinesReturn ctx ret' rest s' vals'
goes_returns ctx ret ret' line rest s s' vals vals' f er e =
    subst (λ r. LinesReturn ctx r rest s' vals') (sym er) (returns_on ctx ret line rest s s' vals vals' f e)
