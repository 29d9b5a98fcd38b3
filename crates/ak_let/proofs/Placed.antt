-- The compiled program has each piece of the source at its place.
use Rattle.std.proofs.Common.{ℕ, zero, suc, ◌+◌, ◌<◌, ◌≡◌, List, [], ◌∷◌, ◌++◌, length, slice_index_or, refl, ap, subst, arith, length-append, append_assoc}
use Rattle.std.specs.List.{AllByRecursion}
use Rattle.std.proofs.Math.Seq.{get_or-append_seam}
use Rattle.ak_labor.specs.declared.work.Outcome.{Outcome}
use Rattle.ak_program.specs.declared.program.NumProc.{NumProc}
use Rattle.ak_let.specs.declared.source.Line.{Line}
use Rattle.ak_let.specs.declared.source.Line.TheVariants.{Let, Compute, Print, Raise, Return, Await, AwaitWork, Try}
use Rattle.ak_let.specs.declared.source.Fun.{Fun}
use Rattle.ak_let.specs.declared.source.Source.{Source}
use Rattle.ak_let.specs.Eval.{fun_lines}
use Rattle.ak_let.specs.Compile.{piece, line_behind, further, fun_procs, awaits, entry_from, line_after, funs_procs, starter, compiled}
use Rattle.ak_let.specs.Correct.{CallsFit, FunIsSound, IsSound}
use Rattle.ak_let.proofs.Related.{Target, Stood, Follows, Stands, IsTarget}

abbrev no_proc : NumProc
no_proc = record { name = 0; line = 0; params = []; body = [] }

abbrev no_fun : Fun
no_fun = record { params = 0; lines = [] }

-- these procedures stand in the program from a place on
abbrev Holds : List NumProc → ℕ → List NumProc → Type 0
Holds program place [] = Unit {0}
Holds program place (proc ∷ procs) = (slice_index_or program place no_proc ≡ proc) × Holds program (suc place) procs

holds_append : (program : List NumProc) (place : ℕ) (xs ys : List NumProc) → Holds program place (xs ++ ys)
    → Holds program place xs × Holds program (place + length xs) ys
holds_append program place [] ys h = (tt, subst (λ k. Holds program k ys) (plus_zero place) h)
  where
    plus_zero : (k : ℕ) → k ≡ k + 0
    plus_zero k = omega arith
holds_append program place (x ∷ xs) ys h =
    let further = holds_append program (suc place) xs ys h.1
    in ((h.0, further.0), subst (λ k. Holds program k ys) (plus_suc place (length xs)) further.1)
  where
    plus_suc : (k n : ℕ) → suc k + n ≡ k + suc n
    plus_suc k n = omega arith

holds_behind : (before procs : List NumProc) (place : ℕ) → length before ≡ place → Holds (before ++ procs) place procs
holds_behind before [] place e = tt
holds_behind before (x ∷ procs) place e = (
  subst (λ k. slice_index_or (before ++ x ∷ procs) k no_proc ≡ x) e (get_or-append_seam before x procs no_proc),
  subst (λ (l : List NumProc). Holds l (suc place) procs) (append_assoc before (x ∷ []) procs)
      (holds_behind (before ++ x ∷ []) procs (suc place) (omega (arith, e, length-append before (x ∷ [])))),
)

length_further : (entry : ℕ → ℕ) (lines : List Line) (place line n : ℕ) → length (further entry place line n lines) ≡ awaits lines
length_further entry [] place line n = refl
length_further entry (Let a ∷ lines) place line n = length_further entry lines place line (suc n)
length_further entry (Compute a op b ∷ lines) place line n = length_further entry lines place line (suc n)
length_further entry (Print when a ∷ lines) place line n = length_further entry lines place line n
length_further entry (Raise when a ∷ lines) place line n = length_further entry lines place line n
length_further entry (Return when a ∷ lines) place line n = length_further entry lines place line n
length_further entry (Await f args ∷ lines) place line n =
    ap suc (length_further entry lines (suc place) (line_behind (piece entry place line (suc n) lines)) (suc n))
length_further entry (AwaitWork kind a ∷ lines) place line n =
    ap suc (length_further entry lines (suc place) (line_behind (piece entry place line (suc n) lines)) (suc n))
length_further entry (Try f args g ∷ lines) place line n =
    ap suc (length_further entry lines (suc place) (line_behind (piece entry place line (suc n) lines)) (suc n))

pub length_fun : (entry : ℕ → ℕ) (place line : ℕ) (f : Fun) → length (fun_procs entry place line f) ≡ suc (awaits f.lines)
length_fun entry place line f = ap suc (length_further entry f.lines (suc place) (line_behind (piece entry place line f.params f.lines)) f.params)

stood_at : (t : Target) (place line n : ℕ) (lines : List Line) → slice_index_or t.procs place no_proc ≡ piece t.entry place line n lines
    → Stood t place n lines
stood_at t place line n lines e = (line + 1, ap (λ (proc : NumProc). proc.body) e)

follow : (t : Target) (lines : List Line) (place line n : ℕ) → Holds t.procs place (further t.entry place line n lines)
    → AllByRecursion (CallsFit t.source) lines → Follows t place n lines
follow t [] place line n h c = tt
follow t (Let a ∷ lines) place line n h c = follow t lines place line (suc n) h c.1
follow t (Compute a op b ∷ lines) place line n h c = follow t lines place line (suc n) h c.1
follow t (Print when a ∷ lines) place line n h c = follow t lines place line n h c.1
follow t (Raise when a ∷ lines) place line n h c = follow t lines place line n h c.1
follow t (Return when a ∷ lines) place line n h c = follow t lines place line n h c.1
follow t (Await f args ∷ lines) place line n h c =
    (c.0, stood_at t place line (suc n) lines h.0, follow t lines (suc place) (line_behind (piece t.entry place line (suc n) lines)) (suc n) h.1 c.1)
follow t (AwaitWork kind a ∷ lines) place line n h c =
    (stood_at t place line (suc n) lines h.0, follow t lines (suc place) (line_behind (piece t.entry place line (suc n) lines)) (suc n) h.1 c.1)
follow t (Try f args g ∷ lines) place line n h c =
    (c.0.0, c.0.1, stood_at t place line (suc n) lines h.0, follow t lines (suc place) (line_behind (piece t.entry place line (suc n) lines)) (suc n) h.1 c.1)

fun_stands : (t : Target) (place line : ℕ) (f : Fun) → Holds t.procs place (fun_procs t.entry place line f) → FunIsSound t.source f
    → Stands t place f.params f.lines
fun_stands t place line f h s =
    record {
      stood = stood_at t place line f.params f.lines h.0;
      follows = follow t f.lines (suc place) (line_behind (piece t.entry place line f.params f.lines)) f.params h.1 s.calls;
      short = omega (arith, s.short);
    }

funs_stand : (t : Target) (funs : List Fun) (place line f : ℕ) → Holds t.procs place (funs_procs t.entry place line funs)
    → AllByRecursion (FunIsSound t.source) funs → f < length funs
    → Stands t (entry_from place funs f) (slice_index_or funs f no_fun).params (slice_index_or funs f no_fun).lines
funs_stand t [] place line f h s b = absurd (omega (arith, b))
funs_stand t (fun ∷ funs) place line zero h s b =
    fun_stands t place line fun
    (holds_append t.procs place (fun_procs t.entry place line fun)
    (funs_procs t.entry (place + suc (awaits fun.lines)) (line_after line (fun_procs t.entry place line fun)) funs) h).0
    s.0
funs_stand t (fun ∷ funs) place line (suc f) h s b =
    funs_stand t funs (place + suc (awaits fun.lines)) (line_after line (fun_procs t.entry place line fun)) f
    (subst (λ n. Holds t.procs (place + n) (funs_procs t.entry (place + suc (awaits fun.lines)) (line_after line (fun_procs t.entry place line fun)) funs))
    (length_fun t.entry place line fun)
    (holds_append t.procs place (fun_procs t.entry place line fun)
    (funs_procs t.entry (place + suc (awaits fun.lines)) (line_after line (fun_procs t.entry place line fun)) funs) h).1)
    s.1 (omega (arith, b))

-- the target of a source
abbrev pub target_of : (ℕ → Outcome) → Source → Target
target_of outcome p = record { outcome = outcome; source = p; procs = compiled p; entry = entry_from 1 p.funs }

pub compiled_is_target : (outcome : ℕ → Outcome) (p : Source) → IsSound p → IsTarget (target_of outcome p)
compiled_is_target outcome p s =
    let t : Target = target_of outcome p
    in record {
      funs = λ f n c. subst (λ k. Stands t (t.entry f) k (fun_lines p f)) c.takes
          (funs_stand t p.funs 1 5 f (holds_behind (starter t.entry p.main ∷ []) (funs_procs t.entry 1 5 p.funs) 1 refl) s.each c.there);
      main = s.main;
      starter = (2, 3, refl);
    }
