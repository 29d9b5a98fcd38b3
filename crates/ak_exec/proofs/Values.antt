-- Values of the right kind: what a statement of a sound program reads.
use Rattle.std.proofs.Common.{◌≡◌, ◌⊎◌, inl, inr, ℕ, zero, suc, ◌<◌, ◌≤◌, List, [], ◌∷◌, ◌++◌, length, map, take, drop, get_or, subst, sym, arith}
use Rattle.std.specs.Prelude.{pos, Option, Some, None, All, MatchOption}
use Rattle.std.specs.List.{AllByRecursion, AllZip, Any as AnyOf, slice_get}
use Rattle.std.proofs.lemmas.List.Elements.{All-from_recursion}
use Rattle.ak_script.specs.declared.script.Kind.{Kind}
use Rattle.ak_script.specs.declared.script.Kind.TheVariants.{Num, Ivar, Def, Mon, Pipe, Thr, Event, Helper}
use Rattle.ak_script.specs.Kinds.{Serves}
use Rattle.ak_frames.specs.declared.value.Value.{Value}
use Rattle.ak_frames.specs.declared.value.Value.TheVariants as value
use Rattle.ak_program.specs.declared.program.NumParam.{NumParam}
use Rattle.ak_program.specs.declared.program.NumProc.{NumProc}
use Rattle.ak_program.specs.declared.statement.NumAtom.{NumAtom}
use Rattle.ak_program.specs.declared.statement.NumAtom.TheVariants.{Literal, Local}
use Rattle.ak_program.specs.Programs.{local as used, number, returned, IsKnown, IsPassed, Takes, IsCallable, NumCallee}
use Rattle.ak_machine.specs.Effect.{local, value_of, args_of, name_of, name_in}
use Rattle.ak_state.specs.Reads.{IsNum, IsNumAt, IsDeferred, IsMonitor, IsThrottle, IsEvent, IsEventAt, IsBound, AreBound, IsPipe, IsHelper, IsHelperAt}
use Rattle.ak_program.specs.declared.statement.NumChoice.{NumChoice}
use Rattle.ak_machine.specs.Statement.{choosable}
use Rattle.ak_state.specs.Drawn.{Drawn}
use Rattle.ak_state.specs.Fits.{ValueFits, ValsFit, kinds_of, CallFits, numbers, ChoosableFits}
use Rattle.ak_exec.specs.Typed.{IsReturned}

-- ---- kinds that serve
any_one : (P : Kind → Type 0) (w : Kind) → AnyOf P (w ∷ []) → P w
any_one P w h = only h.0 h.1 h.2 h.3 h.4
  where
    only : (k : ℕ) (x : Kind) → k < 1 → get_or (w ∷ []) k x ≡ x → P x → P w
    only zero x lt e p = subst P (sym e) p
    only (suc k) x lt e p = absurd (omega (arith, lt))

any_two : (P : Kind → Type 0) (v w : Kind) → AnyOf P (v ∷ w ∷ []) → P v ⊎ P w
any_two P v w h = only h.0 h.1 h.2 h.3 h.4
  where
    only : (k : ℕ) (x : Kind) → k < 2 → get_or (v ∷ w ∷ []) k x ≡ x → P x → P v ⊎ P w
    only zero x lt e p = inl (subst P (sym e) p)
    only (suc zero) x lt e p = inr (subst P (sym e) p)
    only (suc (suc k)) x lt e p = absurd (omega (arith, lt))

ivar_as_def : (n : Drawn) (v : Value) → ValueFits n Ivar v → ValueFits n Def v
ivar_as_def n (value.Ivar i) f = f
ivar_as_def n v f = absurd f

value_serves : (n : Drawn) (kind wanted : Kind) (v : Value) → ValueFits n kind v → Serves kind wanted → ValueFits n wanted v
value_serves n kind wanted v f (inl e) = subst (λ k. ValueFits n k v) e f
value_serves n kind wanted v f (inr e) = subst (λ k. ValueFits n k v) (sym e.1) (ivar_as_def n v (subst (λ k. ValueFits n k v) e.0 f))

-- ---- locals
pub local_fits : (n : Drawn) (kinds : List Kind) (vals : List Value) (k : ℕ) (wanted : Kind) → ValsFit n kinds vals → IsKnown kinds (used k wanted)
    → (k < length vals) × ValueFits n wanted (local vals k)
local_fits n [] vals k wanted f h = absurd h
local_fits n (kind ∷ kinds) [] k wanted f h = absurd f
local_fits n (kind ∷ kinds) (v ∷ vals) zero wanted f h = (omega arith, value_serves n kind wanted v f.0 (any_one (Serves kind) wanted h))
local_fits n (kind ∷ kinds) (v ∷ vals) (suc k) wanted f h =
    let p = local_fits n kinds vals k wanted f.1 h in let q : k < length vals = p.0 in (omega (arith, q), p.1)

num_value : (n : Drawn) (v : Value) → ValueFits n Num v → IsNum v
num_value n (value.Num z) f = tt
num_value n v f = absurd f

pub def_value : (n : Drawn) (v : Value) → ValueFits n Def v → IsDeferred n.ivars v
def_value n (value.Ivar i) f = f
def_value n (value.Def i) f = f
def_value n v f = absurd f

num_returned : (n : Drawn) (v : Value) → ValueFits n Num v → IsReturned n v
num_returned n (value.Num z) f = tt
num_returned n v f = absurd f

def_returned : (n : Drawn) (v : Value) → ValueFits n Def v → IsReturned n v
def_returned n (value.Ivar i) f = f
def_returned n (value.Def i) f = f
def_returned n v f = absurd f

pub ivar_at : (n : Drawn) (kinds : List Kind) (vals : List Value) (k : ℕ) → ValsFit n kinds vals → IsKnown kinds (used k Ivar)
    → IsDeferred n.ivars (local vals k)
ivar_at n kinds vals k f h = def_value n (local vals k) (ivar_as_def n (local vals k) (local_fits n kinds vals k Ivar f h).1)

pub def_at : (n : Drawn) (kinds : List Kind) (vals : List Value) (k : ℕ) → ValsFit n kinds vals → IsKnown kinds (used k Def) → IsDeferred n.ivars (local vals k)
def_at n kinds vals k f h = def_value n (local vals k) (local_fits n kinds vals k Def f h).1

mon_value : (n : Drawn) (v : Value) → ValueFits n Mon v → IsMonitor n.monitors v
mon_value n (value.Mon m) f = f
mon_value n v f = absurd f

pub mon_at : (n : Drawn) (kinds : List Kind) (vals : List Value) (k : ℕ) → ValsFit n kinds vals → IsKnown kinds (used k Mon)
    → IsMonitor n.monitors (local vals k)
mon_at n kinds vals k f h = mon_value n (local vals k) (local_fits n kinds vals k Mon f h).1

event_value : (n : Drawn) (v : Value) → ValueFits n Event v → IsEvent v
event_value n (value.Event e) f = tt
event_value n v f = absurd f

pipe_value : (n : Drawn) (v : Value) → ValueFits n Pipe v → IsPipe n.pipes v
pipe_value n (value.Pipe p) f = f
pipe_value n v f = absurd f

pub pipe_at : (n : Drawn) (kinds : List Kind) (vals : List Value) (k : ℕ) → ValsFit n kinds vals → IsKnown kinds (used k Pipe)
    → IsPipe n.pipes (local vals k)
pipe_at n kinds vals k f h = pipe_value n (local vals k) (local_fits n kinds vals k Pipe f h).1

thr_value : (n : Drawn) (v : Value) → ValueFits n Thr v → IsThrottle n.throttles v
thr_value n (value.Thr t) f = f
thr_value n v f = absurd f

pub thr_at : (n : Drawn) (kinds : List Kind) (vals : List Value) (k : ℕ) → ValsFit n kinds vals → IsKnown kinds (used k Thr)
    → IsThrottle n.throttles (local vals k)
thr_at n kinds vals k f h = thr_value n (local vals k) (local_fits n kinds vals k Thr f h).1

pub event_at : (n : Drawn) (kinds : List Kind) (vals : List Value) (k : ℕ) → ValsFit n kinds vals → IsKnown kinds (used k Event)
    → IsEventAt vals k
event_at n kinds vals k f h = let p = local_fits n kinds vals k Event f h in (p.0, event_value n (local vals k) p.1)

helper_value : (n : Drawn) (v : Value) → ValueFits n Helper v → IsHelper v
helper_value n (value.Helper h) f = tt
helper_value n v f = absurd f

pub helper_at : (n : Drawn) (kinds : List Kind) (vals : List Value) (k : ℕ) → ValsFit n kinds vals → IsKnown kinds (used k Helper)
    → IsHelperAt vals k
helper_at n kinds vals k f h = let p = local_fits n kinds vals k Helper f h in (p.0, helper_value n (local vals k) p.1)

-- ---- atoms
pub all_front : {A : Type 0} (P : A → Type 0) (xs ys : List A) → AllByRecursion P (xs ++ ys) → AllByRecursion P xs
all_front P [] ys h = tt
all_front P (x ∷ xs) ys h = (h.0, all_front P xs ys h.1)

pub all_back : {A : Type 0} (P : A → Type 0) (xs ys : List A) → AllByRecursion P (xs ++ ys) → AllByRecursion P ys
all_back P [] ys h = h
all_back P (x ∷ xs) ys h = all_back P xs ys h.1

pub num_at : (n : Drawn) (kinds : List Kind) (vals : List Value) (a : NumAtom) → ValsFit n kinds vals → AllByRecursion (IsKnown kinds) (number a)
    → IsNumAt vals a
num_at n kinds vals (Literal z) f h = (tt, tt)
num_at n kinds vals (Local k) f h = let p = local_fits n kinds vals k Num f h.0 in (p.0, num_value n (local vals k) p.1)

returned_local : (n : Drawn) (kinds : List Kind) (vals : List Value) (k : ℕ) → ValsFit n kinds vals
    → IsKnown kinds (record { place = k; wanted = Num ∷ Def ∷ [] }) → (k < length vals) × IsReturned n (local vals k)
returned_local n [] vals k f h = absurd h
returned_local n (kind ∷ kinds) [] k f h = absurd f
returned_local n (kind ∷ kinds) (v ∷ vals) zero f h = (omega arith, by (any_two (Serves kind) Num Def h))
  where
    by : Serves kind Num ⊎ Serves kind Def → IsReturned n v
    by (inl s) = num_returned n v (value_serves n kind Num v f.0 s)
    by (inr s) = def_returned n v (value_serves n kind Def v f.0 s)
returned_local n (kind ∷ kinds) (v ∷ vals) (suc k) f h =
    let p = returned_local n kinds vals k f.1 h in let q : k < length vals = p.0 in (omega (arith, q), p.1)

pub returned_at : (n : Drawn) (kinds : List Kind) (vals : List Value) (a : NumAtom) → ValsFit n kinds vals → AllByRecursion (IsKnown kinds) (returned a)
    → IsBound (length vals) a × IsReturned n (value_of vals a)
returned_at n kinds vals (Literal z) f h = (tt, tt)
returned_at n kinds vals (Local k) f h = returned_local n kinds vals k f h.0

-- ---- arguments
passed_bound : (n : Drawn) (kinds : List Kind) (vals : List Value) (a : NumAtom) (param : NumParam) → ValsFit n kinds vals → IsPassed kinds a param
    → IsBound (length vals) a
passed_bound n kinds vals (Literal z) param f h = tt
passed_bound n kinds vals (Local k) param f h = (local_fits n kinds vals k param.kind f h).0

passed_fits : (n : Drawn) (kinds : List Kind) (vals : List Value) (a : NumAtom) (param : NumParam) → ValsFit n kinds vals → IsPassed kinds a param
    → ValueFits n param.kind (value_of vals a)
passed_fits n kinds vals (Literal z) param f h = subst (λ k. ValueFits n k (value.Num z)) (sym h) tt
passed_fits n kinds vals (Local k) param f h = (local_fits n kinds vals k param.kind f h).1

bound_cons : (m : ℕ) (a : NumAtom) (args : List NumAtom) → IsBound m a → All (IsBound m) args → All (IsBound m) (a ∷ args)
bound_cons m a args p q zero d h = p
bound_cons m a args p q (suc k) d h = q k d (omega (arith, h))

args_bound : (n : Drawn) (kinds : List Kind) (vals : List Value) (args : List NumAtom) (params : List NumParam) → ValsFit n kinds vals
    → AllZip (IsPassed kinds) args params → AreBound vals args
args_bound n kinds vals [] params f h = λ k d p. absurd (omega (arith, p))
args_bound n kinds vals (a ∷ args) [] f h = absurd h
args_bound n kinds vals (a ∷ args) (param ∷ params) f h =
    bound_cons (length vals) a args (passed_bound n kinds vals a param f h.0) (args_bound n kinds vals args params f h.1)

args_fit : (n : Drawn) (kinds : List Kind) (vals : List Value) (args : List NumAtom) (params : List NumParam) → ValsFit n kinds vals
    → AllZip (IsPassed kinds) args params → ValsFit n (kinds_of params) (args_of vals args)
args_fit n kinds vals [] [] f h = tt
args_fit n kinds vals [] (param ∷ params) f h = absurd h
args_fit n kinds vals (a ∷ args) [] f h = absurd h
args_fit n kinds vals (a ∷ args) (param ∷ params) f h = (passed_fits n kinds vals a param f h.0, args_fit n kinds vals args params f h.1)

-- ---- calls
call_bound_at : (o : Option NumProc) (n : Drawn) (kinds : List Kind) (vals : List Value) (proc front : ℕ) (args : List NumAtom) → ValsFit n kinds vals
    → MatchOption o ⊥ (λ (p : NumProc). Takes kinds p.params (record { place = proc; front = front; args = args })) → AreBound vals args
call_bound_at None n kinds vals proc front args f h = absurd h
call_bound_at (Some p) n kinds vals proc front args f h = args_bound n kinds vals args (drop front p.params) f h.args

pub call_bound : (program : List NumProc) (n : Drawn) (kinds : List Kind) (vals : List Value) (proc front : ℕ) (args : List NumAtom) → ValsFit n kinds vals
    → IsCallable program kinds (record { place = proc; front = front; args = args }) → AreBound vals args
call_bound program n kinds vals proc front args f h = call_bound_at (slice_get program proc) n kinds vals proc front args f h

-- a call with so many numbers in front of its arguments
front_fits : (n : Drawn) (kinds : List Kind) (vals : List Value) (front : ℕ) (params : List NumParam) (args : List NumAtom) → ValsFit n kinds vals
    → AllByRecursion (λ (param : NumParam). param.kind ≡ Num) (take front params) → front ≤ length params
    → AllZip (IsPassed kinds) args (drop front params) → ValsFit n (kinds_of params) (numbers front ++ args_of vals args)
front_fits n kinds vals zero params args f p e h = args_fit n kinds vals args params f h
front_fits n kinds vals (suc front) [] args f p e h = absurd (omega (arith, e))
front_fits n kinds vals (suc front) (param ∷ params) args f p e h = (
  subst (λ k. ValueFits n k (value.Num (pos 0))) (sym p.0) tt,
  front_fits n kinds vals front params args f p.1 (omega (arith, e)) h,
)

front_call_at : (o : Option NumProc) (n : Drawn) (kinds : List Kind) (vals : List Value) (proc front : ℕ) (args : List NumAtom) → ValsFit n kinds vals
    → MatchOption o ⊥ (λ (p : NumProc). Takes kinds p.params (record { place = proc; front = front; args = args }))
    → MatchOption o ⊥ (λ (p : NumProc). ValsFit n (kinds_of p.params) (numbers front ++ args_of vals args))
front_call_at None n kinds vals proc front args f h = absurd h
front_call_at (Some p) n kinds vals proc front args f h = front_fits n kinds vals front p.params args f h.front h.enough h.args

pub front_call_fits : (program : List NumProc) (n : Drawn) (kinds : List Kind) (vals : List Value) (proc front : ℕ) (args : List NumAtom)
    → ValsFit n kinds vals → IsCallable program kinds (record { place = proc; front = front; args = args })
    → CallFits program n proc (numbers front ++ args_of vals args)
front_call_fits program n kinds vals proc front args f h = front_call_at (slice_get program proc) n kinds vals proc front args f h

-- a call with its arguments alone
pub call_fits : (program : List NumProc) (n : Drawn) (kinds : List Kind) (vals : List Value) (proc : ℕ) (args : List NumAtom) → ValsFit n kinds vals
    → IsCallable program kinds (record { place = proc; front = 0; args = args }) → CallFits program n proc (args_of vals args)
call_fits program n kinds vals proc args f h = front_call_fits program n kinds vals proc 0 args f h

-- a call with a number in front of its arguments
pub value_call_fits : (program : List NumProc) (n : Drawn) (kinds : List Kind) (vals : List Value) (proc : ℕ) (args : List NumAtom) → ValsFit n kinds vals
    → IsCallable program kinds (record { place = proc; front = 1; args = args }) → CallFits program n proc (value.Num (pos 0) ∷ args_of vals args)
value_call_fits program n kinds vals proc args f h = front_call_fits program n kinds vals proc 1 args f h

-- ---- lists of deferreds
deferreds_at : (n : Drawn) (kinds : List Kind) (vals : List Value) (ds : List ℕ) → ValsFit n kinds vals
    → AllByRecursion (IsKnown kinds) (map (λ d. used d Def) ds) → AllByRecursion (λ d. IsDeferred n.ivars (local vals d)) ds
deferreds_at n kinds vals [] f h = tt
deferreds_at n kinds vals (d ∷ ds) f h = (def_at n kinds vals d f h.0, deferreds_at n kinds vals ds f h.1)

pub defs_at : (n : Drawn) (kinds : List Kind) (vals : List Value) (ds : List ℕ) → ValsFit n kinds vals
    → AllByRecursion (IsKnown kinds) (map (λ d. used d Def) ds) → All (λ d. IsDeferred n.ivars (local vals d)) ds
defs_at n kinds vals ds f h = All-from_recursion (λ d. IsDeferred n.ivars (local vals d)) ds (deferreds_at n kinds vals ds f h)

deferred_name : (n : ℕ) (v : Value) → IsDeferred n v → name_of v < n
deferred_name n (value.Ivar i) f = f
deferred_name n (value.Def i) f = f
deferred_name n v f = absurd f

pub names_drawn : (n : Drawn) (kinds : List Kind) (vals : List Value) (ds : List ℕ) → ValsFit n kinds vals
    → AllByRecursion (IsKnown kinds) (map (λ d. used d Def) ds) → AllByRecursion (λ i. i < n.ivars) (map (name_in vals) ds)
names_drawn n kinds vals [] f h = tt
names_drawn n kinds vals (d ∷ ds) f h = (deferred_name n.ivars (local vals d) (def_at n kinds vals d f h.0), names_drawn n kinds vals ds f h.1)

-- and of choices
choices_by : (n : Drawn) (kinds : List Kind) (vals : List Value) (choices : List NumChoice) → ValsFit n kinds vals
    → AllByRecursion (IsKnown kinds) (map (λ (choice : NumChoice). used choice.d Def) choices)
    → AllByRecursion (λ (choice : NumChoice). IsDeferred n.ivars (local vals choice.d)) choices
choices_by n kinds vals [] f h = tt
choices_by n kinds vals (choice ∷ choices) f h = (def_at n kinds vals choice.d f h.0, choices_by n kinds vals choices f h.1)

pub choices_at : (n : Drawn) (kinds : List Kind) (vals : List Value) (choices : List NumChoice) → ValsFit n kinds vals
    → AllByRecursion (IsKnown kinds) (map (λ (choice : NumChoice). used choice.d Def) choices)
    → All (λ (choice : NumChoice). IsDeferred n.ivars (local vals choice.d)) choices
choices_at n kinds vals choices f h =
    All-from_recursion (λ (choice : NumChoice). IsDeferred n.ivars (local vals choice.d)) choices (choices_by n kinds vals choices f h)

-- what the procedure of a choice takes
abbrev pub callee_of : List NumAtom → NumChoice → NumCallee
callee_of args choice = record { place = choice.proc; front = 1; args = args }

-- a list of choices is not empty, and so the arguments are those of its first procedure
pub choice_bound : (program : List NumProc) (n : Drawn) (kinds : List Kind) (vals : List Value) (choices : List NumChoice) (args : List NumAtom)
    → ValsFit n kinds vals → 1 ≤ length choices → AllByRecursion (IsCallable program kinds) (map (callee_of args) choices) → AreBound vals args
choice_bound program n kinds vals [] args f e h = absurd (omega (arith, e))
choice_bound program n kinds vals (choice ∷ choices) args f e h = call_bound program n kinds vals choice.proc 1 args f h.0

pub choices_fit : (program : List NumProc) (n : Drawn) (kinds : List Kind) (vals : List Value) (choices : List NumChoice) (args : List NumAtom)
    → ValsFit n kinds vals → AllByRecursion (IsKnown kinds) (map (λ (choice : NumChoice). used choice.d Def) choices)
    → AllByRecursion (IsCallable program kinds) (map (callee_of args) choices)
    → AllByRecursion (ChoosableFits program n (args_of vals args)) (map (choosable vals) choices)
choices_fit program n kinds vals [] args f h p = tt
choices_fit program n kinds vals (choice ∷ choices) args f h p = (
  record {
    deferred = deferred_name n.ivars (local vals choice.d) (def_at n kinds vals choice.d f h.0);
    call = value_call_fits program n kinds vals choice.proc args f p.0;
  },
  choices_fit program n kinds vals choices args f h.1 p.1,
)

-- ---- one more value
pub vals_push : (n : Drawn) (kinds : List Kind) (vals : List Value) (kind : Kind) (v : Value) → ValsFit n kinds vals → ValueFits n kind v
    → ValsFit n (kinds ++ kind ∷ []) (vals ++ v ∷ [])
vals_push n [] [] kind v f p = (p, tt)
vals_push n (x ∷ kinds) (y ∷ vals) kind v f p = (f.0, vals_push n kinds vals kind v f.1 p)
vals_push n [] (y ∷ vals) kind v f p = absurd f
vals_push n (x ∷ kinds) [] kind v f p = absurd f
