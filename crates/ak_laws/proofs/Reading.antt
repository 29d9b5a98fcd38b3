-- What was written to a pipe and what its reads got, by the tally of the pipe: each statement and each job keeps it.
use Rattle.std.proofs.Common.{ℕ, ℤ, ◌≡◌, List, [], ◌∷◌, ◌++◌, Bool, true, false, Option, Some, None, refl, sym, subst, ap, ◌∙◌, append_assoc, append-nil, get_or, fold}
use Rattle.std.specs.Prelude.{pos, if◌then◌else◌}
use Rattle.std.proofs.Math.ListN.{get_or-map}
use Rattle.std.proofs.lemmas.Grind.{flat_map-append}
use Rattle.ak_base.specs.declared.number.Ctx.{Ctx}
use Rattle.ak_labor.specs.declared.ask.Ask.{Ask}
use Rattle.ak_cells.specs.declared.registration.Registration.{Registration}
use Rattle.ak_cells.specs.Cells.{waiting_on, filled}
use Rattle.ak_cells.specs.Names.{renamed}
use Rattle.ak_frames.specs.declared.value.Value.{Value}
use Rattle.ak_frames.specs.declared.value.Value.TheVariants.{Num}
use Rattle.ak_frames.specs.declared.frame.Ret.{Ret}
use Rattle.ak_frames.specs.declared.frame.Ret.TheVariants.{To}
use Rattle.ak_frames.specs.declared.frame.Frame.{Frame}
use Rattle.ak_frames.specs.declared.frame.Frame.TheVariants as frame
use Rattle.ak_trace.specs.declared.entry.Entry.TheVariants as entry
use Rattle.ak_program.specs.declared.statement.NumStmt.{NumStmt}
use Rattle.ak_program.specs.declared.statement.NumStmt.TheVariants as stmt
use Rattle.ak_program.specs.declared.program.NumProc.{NumProc}
use Rattle.ak_program.specs.declared.program.NumStatement.{NumStatement}
use Rattle.ak_pipe.specs.Pipe as pipe
use Rattle.ak_machine.specs.declared.flow.Flow.{Flow}
use Rattle.ak_machine.specs.declared.flow.Flow.TheVariants as flow
use Rattle.ak_machine.specs.declared.held.Callback.{Callback}
use Rattle.ak_machine.specs.declared.held.Purpose.{Purpose}
use Rattle.ak_machine.specs.declared.held.Purpose.TheVariants.{ForAll, ForAny, ForChoice, ForGuard}
use Rattle.ak_machine.specs.declared.held.Read.{Read}
use Rattle.ak_machine.specs.State.{State, next_ivar}
use Rattle.ak_machine.specs.Deferred.{noting, with_ivar, woken_by}
use Rattle.ak_machine.specs.Groups.{group_at, purpose_at, part_at, part_set, all_call, choice_decided, first_number, first_call, try_done}
use Rattle.ak_machine.specs.Throttles.{body_ended, body_failed}
use Rattle.ak_machine.specs.Pipes.{pipe_at, with_pipe_at, put, write, read, close, close_read}
use Rattle.ak_machine.specs.Errors.{going_on, stopped, send}
use Rattle.ak_machine.specs.Works.{is_active, helper_at}
use Rattle.ak_machine.specs.Effect.{Effect, Goes, Raises, Returns, Stops, Ends, Asks, name_in, number_in, holds, closed_pipe, result_bound}
use Rattle.ak_machine.specs.Statement.{effect_of, line_effect}
use Rattle.ak_machine.specs.Job.{Progress, Over, Asking, returned, number_returned, run_lines, run_call_if}
use Rattle.ak_machine.specs.Job.{run_all_part, run_part, run_choice, run_frame, filled_if, lines_of}
use Rattle.ak_ledger.specs.Tallies.{proc_of, Tally, tally_of, tallies_of}
use Rattle.ak_ledger.proofs.Tallies.{tallies_mapped}
use Rattle.ak_ledger.proofs.Still.{Still, AfterHas, fill_keeps, try_done_keeps, body_ended_keeps, body_failed_keeps}
use Rattle.ak_ledger.proofs.Still.{send_keeps, put_keeps, write_keeps, read_keeps, close_keeps, close_read_keeps}
use Rattle.ak_ledger.proofs.Lines.{EffectHas, other_keeps, number_returned_keeps, returned_keeps}
use Rattle.ak_laws.specs.Executed.{Executed, left_by, statement_executed, line_executed, lines_executed, call_executed, all_executed, part_executed, choice_executed, frame_executed}
use Rattle.ak_laws.specs.Reads.{is_meant, front_taken, written, taken, writes, reads, gets, written_to, reads_of, got_from}
use Rattle.ak_laws.proofs.Told.{Gets, Told, none_told, put_is_told, write_is_told, close_is_told, close_read_is_told, tally_at, refused_told, written_told, asked_told, closed_told, new_told}

-- ---- what leaves the tallies
abbrev pub HasTallies : List Tally → State → Type 0
HasTallies ts s = tallies_of s ≡ ts

abbrev AsksWith : List Tally → Ask → State → Type 0
AsksWith ts a s = tallies_of s ≡ ts

module _ (ts : List Tally) where
  woken_tallies : (v : ℤ) (gs : List (Registration Frame)) (s : State) → HasTallies ts s → HasTallies ts (fold (woken_by v) s gs)
  woken_tallies v [] s h = h
  woken_tallies v (g ∷ gs) s h = woken_tallies v gs (woken_by v s g) h

  pub tallies_still : Still (HasTallies ts)
  tallies_still = record {
    note = λ e s q h. h;
    enq = λ ctx task s n h. h;
    wait = λ i ctx frame s n h. h;
    forget = λ notes s h. h;
    fill = λ i v s h. woken_tallies v (waiting_on i s.cells) (noting (entry.Fill i v) (record s { cells = filled i v s.cells })) h;
    join = λ result right s e h. tallies_mapped (renamed right result) s.pipes ∙ h;
    change = λ s u e t h. t ∙ h;
  }

  pub after_tallies : (f : Flow) (s : State) → AfterHas (HasTallies ts) f s → HasTallies ts s
  after_tallies flow.On s h = h
  after_tallies flow.Stopped s h = ap tallies_of h.last ∙ h.has
  after_tallies (flow.Unhandled e) s h = ap tallies_of h.last ∙ h.has

-- the state that a job comes to
abbrev pub reached : Progress → State
reached (Over after) = after.state
reached (Asking a s rest) = s

effect_tallies : (ts : List Tally) (s : State) (e : Effect) → HasTallies ts s → EffectHas (HasTallies ts) (AsksWith ts) e → HasTallies ts (left_by s e)
effect_tallies ts s (Goes s' vals) h q = q
effect_tallies ts s (Raises e) h q = h
effect_tallies ts s (Returns v) h q = h
effect_tallies ts s Stops h q = h
effect_tallies ts s (Ends after) h q = after_tallies ts after.flow after.state q
effect_tallies ts s (Asks a s' vals) h q = q

same_tally : (p : ℕ) (s u : State) → tallies_of u ≡ tallies_of s → tally_at p s ≡ tally_at p u
same_tally p s u e =
    sym (get_or-map tally_of s.pipes p (pipe.fresh_pipe 0))
    ∙ ap (λ (ts : List Tally). get_or ts p (tally_of (pipe.fresh_pipe 0))) (sym e)
    ∙ get_or-map tally_of u.pipes p (pipe.fresh_pipe 0)

pub told_by : (p : ℕ) (w : List ℤ) (rs : List ℕ) (g : List Gets) (s u : State) → tallies_of u ≡ tallies_of s → Told w rs g (tally_at p s)
    → Told w rs g (tally_at p u)
told_by p w rs g s u e h = subst (Told w rs g) (same_tally p s u e) h

module _ (p : ℕ) where
  -- what was executed is added
  abbrev pub Grown : (w : List ℤ) (rs : List ℕ) (g : List Gets) → List Executed → State → Type 0
  Grown w rs g xs s = Told (w ++ written_to p xs) (rs ++ reads_of p xs) (g ++ got_from p xs) (tally_at p s)

  pub none_grown : (w : List ℤ) (rs : List ℕ) (g : List Gets) (s u : State) → tallies_of u ≡ tallies_of s → Told w rs g (tally_at p s) → Grown w rs g [] u
  none_grown w rs g s u e h = none_told w rs g (tally_at p u) (told_by p w rs g s u e h)

  pub then_grown : (w : List ℤ) (rs : List ℕ) (g : List Gets) (xs ys : List Executed) (s : State)
      → Grown (w ++ written_to p xs) (rs ++ reads_of p xs) (g ++ got_from p xs) ys s → Grown w rs g (xs ++ ys) s
  then_grown w rs g xs ys s h =
      subst (λ l. Told l (rs ++ reads_of p (xs ++ ys)) (g ++ got_from p (xs ++ ys)) (tally_at p s))
      (append_assoc w (written_to p xs) (written_to p ys) ∙ ap (λ l. w ++ l) (sym (flat_map-append (λ (x : Executed). writes p x.stmt x.vals x.state) xs ys)))
      (subst (λ l. Told ((w ++ written_to p xs) ++ written_to p ys) l (g ++ got_from p (xs ++ ys)) (tally_at p s))
      (append_assoc rs (reads_of p xs) (reads_of p ys) ∙ ap (λ l. rs ++ l) (sym (flat_map-append (λ (x : Executed). reads p x.stmt x.vals x.state) xs ys)))
      (subst (λ l. Told ((w ++ written_to p xs) ++ written_to p ys) ((rs ++ reads_of p xs) ++ reads_of p ys) l (tally_at p s))
      (append_assoc g (got_from p xs) (got_from p ys) ∙ ap (λ l. g ++ l) (sym (flat_map-append (λ (x : Executed). gets p x.stmt x.vals x.state) xs ys))) h))

  -- ---- a statement
  abbrev Leaves : (w : List ℤ) (rs : List ℕ) (g : List Gets) → NumStmt → List Value → State → Effect → Type 0
  Leaves w rs g st vals s e = Told (w ++ writes p st vals s) (rs ++ reads p st vals s) (g ++ gets p st vals s) (tally_at p (left_by s e))

  put_effect : (q : ℕ) (v : ℤ) (s : State) (vals : List Value) (w : List ℤ) (rs : List ℕ) (g : List Gets) (b : Bool) → (pipe_at q s).closed ≡ b
      → Told w rs g (tally_at p s)
      → Told (w ++ written p q v s) (rs ++ []) (g ++ taken p q v s)
      (tally_at p (left_by s (if b then Raises closed_pipe else Goes (put q v s) vals)))
  put_effect q v s vals w rs g true e h = refused_told p q s w rs g h v e
  put_effect q v s vals w rs g false e h =
      let x : pipe.Pipe Read = pipe.put v (pipe_at q s)
      in told_by p _ _ _ (with_pipe_at q x s) (put q v s)
      (put_keeps (HasTallies (tallies_of (with_pipe_at q x s))) (tallies_still (tallies_of (with_pipe_at q x s))) q v s refl)
      (written_told p q s w rs g h v x e (λ k. put_is_told w rs g v (pipe_at q s) e k))

  write_effect : (q : ℕ) (v : ℤ) (s : State) (vals : List Value) (w : List ℤ) (rs : List ℕ) (g : List Gets) (b : Bool) → (pipe_at q s).closed ≡ b
      → Told w rs g (tally_at p s)
      → Told (w ++ written p q v s) (rs ++ []) (g ++ taken p q v s)
      (tally_at p (left_by s (if b then Raises closed_pipe else Goes (write q (next_ivar s) v (with_ivar s)) (result_bound s vals))))
  write_effect q v s vals w rs g true e h = refused_told p q s w rs g h v e
  write_effect q v s vals w rs g false e h =
      let x : pipe.Pipe Read = pipe.after_write v (next_ivar s) (pipe_at q s)
      in told_by p _ _ _ (with_pipe_at q x s) (write q (next_ivar s) v (with_ivar s))
      (write_keeps (HasTallies (tallies_of (with_pipe_at q x s))) (tallies_still (tallies_of (with_pipe_at q x s))) q (next_ivar s) v (with_ivar s) refl)
      (written_told p q s w rs g h v x e (λ k. write_is_told w rs g v (next_ivar s) (pipe_at q s) e k))

  read_effect : (q : ℕ) (r : Read) (s : State) (w : List ℤ) (rs : List ℕ) (g : List Gets) → Told w rs g (tally_at p s)
      → Told (w ++ []) (rs ++ (if is_meant p q s then proc_of r ∷ [] else []))
      (g ++ (if is_meant p q s then front_taken (proc_of r) (pipe.items_of (pipe_at p s)) else [])) (tally_at p (read q r (with_ivar s)))
  read_effect q r s w rs g h =
      let x : pipe.Pipe Read = pipe.after_read r (pipe_at q s)
      in told_by p _ _ _ (with_pipe_at q x s) (read q r (with_ivar s))
      (read_keeps (HasTallies (tallies_of (with_pipe_at q x s))) (tallies_still (tallies_of (with_pipe_at q x s))) q r (with_ivar s) refl)
      (asked_told p q s w rs g h r)

  close_effect : (q : ℕ) (s : State) (w : List ℤ) (rs : List ℕ) (g : List Gets) → Told w rs g (tally_at p s)
      → Told (w ++ []) (rs ++ []) (g ++ []) (tally_at p (close q s))
  close_effect q s w rs g h =
      let x : pipe.Pipe Read = pipe.after_close (pipe_at q s)
      in told_by p _ _ _ (with_pipe_at q x s) (close q s)
      (close_keeps (HasTallies (tallies_of (with_pipe_at q x s))) (tallies_still (tallies_of (with_pipe_at q x s))) q s refl)
      (closed_told p q s w rs g h x (λ k. close_is_told w rs g (pipe_at q s) k))

  close_read_effect : (q : ℕ) (s : State) (w : List ℤ) (rs : List ℕ) (g : List Gets) → Told w rs g (tally_at p s)
      → Told (w ++ []) (rs ++ []) (g ++ []) (tally_at p (close_read q s))
  close_read_effect q s w rs g h =
      let x : pipe.Pipe Read = pipe.after_close_read (pipe_at q s)
      in told_by p _ _ _ (with_pipe_at q x s) (close_read q s)
      (close_read_keeps (HasTallies (tallies_of (with_pipe_at q x s))) (tallies_still (tallies_of (with_pipe_at q x s))) q s refl)
      (closed_told p q s w rs g h x (λ k. close_read_is_told w rs g (pipe_at q s) k))

  same_effect : (w : List ℤ) (rs : List ℕ) (g : List Gets) (s : State) (e : Effect) → EffectHas (HasTallies (tallies_of s)) (AsksWith (tallies_of s)) e
      → Told w rs g (tally_at p s)
      → Told (w ++ []) (rs ++ []) (g ++ []) (tally_at p (left_by s e))
  same_effect w rs g s e q h =
      none_told w rs g (tally_at p (left_by s e)) (told_by p w rs g s (left_by s e) (effect_tallies (tallies_of s) s e refl q) h)

  helped : (s : State) (b : Bool) (x y : Effect) → EffectHas (HasTallies (tallies_of s)) (AsksWith (tallies_of s)) x
      → EffectHas (HasTallies (tallies_of s)) (AsksWith (tallies_of s)) y → EffectHas (HasTallies (tallies_of s)) (AsksWith (tallies_of s)) (if b then x else y)
  helped s true x y p q = p
  helped s false x y p q = q

  effect_told : (ctx : Ctx) (st : NumStmt) (s : State) (vals : List Value) (w : List ℤ) (rs : List ℕ) (g : List Gets) → Told w rs g (tally_at p s)
      → Leaves w rs g st vals s (effect_of ctx st s vals)
  effect_told ctx (stmt.Pipe i b) s vals w rs g h =
      none_told w rs g _ (subst (Told w rs g) (sym (new_told p b s.pipes)) h)
  effect_told ctx (stmt.Put q a) s vals w rs g h =
      put_effect (name_in vals q) (number_in vals a) s vals w rs g (pipe_at (name_in vals q) s).closed refl h
  effect_told ctx (stmt.Write r q a) s vals w rs g h =
      write_effect (name_in vals q) (number_in vals a) s vals w rs g (pipe_at (name_in vals q) s).closed refl h
  effect_told ctx (stmt.Read r q proc args eof eof_args) s vals w rs g h = read_effect (name_in vals q) _ s w rs g h
  effect_told ctx (stmt.Close q) s vals w rs g h = close_effect (name_in vals q) s w rs g h
  effect_told ctx (stmt.CloseRead q) s vals w rs g h = close_read_effect (name_in vals q) s w rs g h
  effect_told ctx (stmt.Work r kind a) s vals w rs g h = none_told w rs g (tally_at p s) h
  effect_told ctx (stmt.Helper r x) s vals w rs g h = none_told w rs g (tally_at p s) h
  effect_told ctx (stmt.HelperWork r n kind a) s vals w rs g h =
      same_effect w rs g s _ (helped s (is_active (helper_at (name_in vals n) s)) _ _ refl tt) h
  effect_told ctx (stmt.HelperDone n) s vals w rs g h =
      same_effect w rs g s _ (helped s (is_active (helper_at (name_in vals n) s)) _ _ refl refl) h
  effect_told ctx st s vals w rs g h =
      same_effect w rs g s (effect_of ctx st s vals)
      (other_keeps (HasTallies (tallies_of s)) (AsksWith (tallies_of s)) (tallies_still (tallies_of s)) ctx st s vals (λ apart. absurd apart) refl) h

  -- ---- the lines of a procedure
  one_grown : (w : List ℤ) (rs : List ℕ) (g : List Gets) (st : NumStmt) (vals : List Value) (s u : State)
      → Told (w ++ writes p st vals s) (rs ++ reads p st vals s) (g ++ gets p st vals s) (tally_at p u)
      → Grown w rs g (record { stmt = st; vals = vals; state = s; after = u } ∷ []) u
  one_grown w rs g st vals s u h =
      subst (λ l. Told (w ++ l) (rs ++ (reads p st vals s ++ [])) (g ++ (gets p st vals s ++ [])) (tally_at p u)) (sym (append-nil (writes p st vals s)))
      (subst (λ l. Told (w ++ writes p st vals s) (rs ++ l) (g ++ (gets p st vals s ++ [])) (tally_at p u)) (sym (append-nil (reads p st vals s)))
      (subst (λ l. Told (w ++ writes p st vals s) (rs ++ reads p st vals s) (g ++ l) (tally_at p u)) (sym (append-nil (gets p st vals s))) h))

  line_grown : (b : Bool) (ctx : Ctx) (st : NumStmt) (s : State) (vals : List Value) (w : List ℤ) (rs : List ℕ) (g : List Gets) → Told w rs g (tally_at p s)
      → Grown w rs g (if b then statement_executed ctx st s vals ∷ [] else [])
      (left_by s (if b then effect_of ctx st s vals else Goes s vals))
  line_grown true ctx st s vals w rs g h = one_grown w rs g st vals s (left_by s (effect_of ctx st s vals)) (effect_told ctx st s vals w rs g h)
  line_grown false ctx st s vals w rs g h = none_told w rs g (tally_at p s) h

  send_grown : (ctx : Ctx) (e : ℤ) (s : State) (w : List ℤ) (rs : List ℕ) (g : List Gets) (xs : List Executed) → Grown w rs g xs s
      → Grown w rs g (xs ++ []) (send ctx.mon e s).state
  send_grown ctx e s w rs g xs h =
      let ts : List Tally = tallies_of s
      in then_grown w rs g xs [] (send ctx.mon e s).state
      (none_grown _ _ _ s (send ctx.mon e s).state
      (after_tallies ts (send ctx.mon e s).flow (send ctx.mon e s).state (send_keeps (HasTallies ts) (tallies_still ts) ctx.mon e s refl)) h)

  returned_grown : (ret : Ret) (v : Value) (s : State) (w : List ℤ) (rs : List ℕ) (g : List Gets) (xs : List Executed) → Grown w rs g xs s
      → Grown w rs g (xs ++ []) (returned ret v s)
  returned_grown ret v s w rs g xs h =
      let ts : List Tally = tallies_of s
      in then_grown w rs g xs [] (returned ret v s)
      (none_grown _ _ _ s (returned ret v s) (returned_keeps (HasTallies ts) (AsksWith ts) (tallies_still ts) ret v s refl) h)

  -- the effect of a line, given that the lines behind it are told
  goes_on : (ctx : Ctx) (ret : Ret) (lines : List NumStatement) (s : State) (w : List ℤ) (rs : List ℕ) (g : List Gets) (xs : List Executed)
      → ((s' : State) (vals' : List Value) (w' : List ℤ) (rs' : List ℕ) (g' : List Gets) → Told w' rs' g' (tally_at p s')
      → Grown w' rs' g' (lines_executed ctx lines s' vals') (reached (run_lines ctx ret lines s' vals')))
      → (e : Effect) → Grown w rs g xs (left_by s e)
      → Grown w rs g
      (xs ++ elim e [
        | Goes s' vals' ↦ lines_executed ctx lines s' vals'
        | Raises e ↦ []
        | Returns v ↦ []
        | Stops ↦ []
        | Ends after ↦ []
        | Asks ask s' vals' ↦ []
      ])
      (reached (elim e [
        | Goes s' vals' ↦ run_lines ctx ret lines s' vals'
        | Raises e ↦ Over (send ctx.mon e s)
        | Returns v ↦ Over (going_on (returned ret v s))
        | Stops ↦ Over (stopped s)
        | Ends after ↦ Over after
        | Asks ask s' vals' ↦ Asking ask s' (record { ctx = ctx; ret = ret; vals = vals'; lines = lines })
      ]))
  goes_on ctx ret lines s w rs g xs more (Goes s' vals') h =
      then_grown w rs g xs (lines_executed ctx lines s' vals') (reached (run_lines ctx ret lines s' vals')) (more s' vals' _ _ _ h)
  goes_on ctx ret lines s w rs g xs more (Raises e) h = send_grown ctx e s w rs g xs h
  goes_on ctx ret lines s w rs g xs more (Returns v) h = returned_grown ret v s w rs g xs h
  goes_on ctx ret lines s w rs g xs more Stops h = then_grown w rs g xs [] (stopped s).state (none_grown _ _ _ s (stopped s).state refl h)
  goes_on ctx ret lines s w rs g xs more (Ends after) h = then_grown w rs g xs [] after.state (none_grown _ _ _ after.state after.state refl h)
  goes_on ctx ret lines s w rs g xs more (Asks a s' vals') h = then_grown w rs g xs [] s' (none_grown _ _ _ s' s' refl h)

  pub lines_grown : (ctx : Ctx) (ret : Ret) (lines : List NumStatement) (s : State) (vals : List Value) (w : List ℤ) (rs : List ℕ) (g : List Gets)
      → Told w rs g (tally_at p s)
      → Grown w rs g (lines_executed ctx lines s vals) (reached (run_lines ctx ret lines s vals))
  lines_grown ctx ret [] s vals w rs g h =
      let ts : List Tally = tallies_of s
      in none_grown w rs g s (number_returned ret (pos 0) s)
      (number_returned_keeps (HasTallies ts) (AsksWith ts) (tallies_still ts) ret (pos 0) s refl) h
  lines_grown ctx ret (line ∷ lines) s vals w rs g h =
      goes_on ctx ret lines s w rs g (line_executed ctx line s vals) (λ s' vals' w' rs' g' k. lines_grown ctx ret lines s' vals' w' rs' g' k)
      (line_effect ctx line s vals) (line_grown (holds line.prefix vals) ctx line.stmt s vals w rs g h)

  -- ---- frames
  call_grown : (program : List NumProc) (ctx : Ctx) (o : Option Callback) (s : State) (w : List ℤ) (rs : List ℕ) (g : List Gets) → Told w rs g (tally_at p s)
      → Grown w rs g (call_executed program ctx o s) (reached (run_call_if program ctx o s))
  call_grown program ctx None s w rs g h = none_told w rs g (tally_at p s) h
  call_grown program ctx (Some c) s w rs g h = lines_grown ctx (To c.to) (lines_of program c.proc) s c.vals w rs g h

  all_grown : (program : List NumProc) (ctx : Ctx) (q : Purpose) (n : ℕ) (s : State) (w : List ℤ) (rs : List ℕ) (g : List Gets) → Told w rs g (tally_at p s)
      → Grown w rs g (all_executed program ctx q n s) (reached (run_all_part program ctx q n s))
  all_grown program ctx (ForAll c) n s w rs g h = call_grown program ctx (all_call n c s) s w rs g h
  all_grown program ctx (ForAny ds r) n s w rs g h = none_told w rs g (tally_at p s) h
  all_grown program ctx (ForChoice choices vals r) n s w rs g h = none_told w rs g (tally_at p s) h
  all_grown program ctx (ForGuard ctx' m kind c) n s w rs g h = none_told w rs g (tally_at p s) h

  part_grown : (program : List NumProc) (ctx : Ctx) (o : Option ℤ) (n k : ℕ) (v : ℤ) (s : State) (w : List ℤ) (rs : List ℕ) (g : List Gets)
      → Told w rs g (tally_at p s)
      → Grown w rs g (part_executed program ctx o n k v s) (reached (run_part program ctx o n k v s))
  part_grown program ctx (Some u) n k v s w rs g h = none_told w rs g (tally_at p s) h
  part_grown program ctx None n k v s w rs g h = all_grown program ctx (purpose_at n s) n (part_set n k v s) w rs g h

  filled_grown : (r : ℕ) (o : Option ℤ) (s : State) (w : List ℤ) (rs : List ℕ) (g : List Gets) → Told w rs g (tally_at p s) → Grown w rs g [] (filled_if r o s)
  filled_grown r None s w rs g h = none_told w rs g (tally_at p s) h
  filled_grown r (Some v) s w rs g h =
      let ts : List Tally = tallies_of s
      in none_grown w rs g s (filled_if r (Some v) s) (fill_keeps (HasTallies ts) (tallies_still ts) r v s refl) h

  choice_grown : (program : List NumProc) (ctx : Ctx) (q : Purpose) (s : State) (w : List ℤ) (rs : List ℕ) (g : List Gets) → Told w rs g (tally_at p s)
      → Grown w rs g (choice_executed program ctx q s) (reached (run_choice program ctx q s))
  choice_grown program ctx (ForAny ds r) s w rs g h = filled_grown r (first_number ds s) s w rs g h
  choice_grown program ctx (ForChoice choices vals r) s w rs g h = call_grown program ctx (first_call choices vals r s) s w rs g h
  choice_grown program ctx (ForAll c) s w rs g h = none_told w rs g (tally_at p s) h
  choice_grown program ctx (ForGuard ctx' m kind c) s w rs g h = none_told w rs g (tally_at p s) h

  undecided_grown : (b : Bool) (w : List ℤ) (rs : List ℕ) (g : List Gets) (xs : List Executed) (s : State) (x : Progress) → Told w rs g (tally_at p s)
      → Grown w rs g xs (reached x)
      → Grown w rs g (if b then [] else xs) (reached (if b then Over (going_on s) else x))
  undecided_grown true w rs g xs s x h k = none_told w rs g (tally_at p s) h
  undecided_grown false w rs g xs s x h k = k

  pub frame_grown : (program : List NumProc) (ctx : Ctx) (f : Frame) (v : ℤ) (s : State) (w : List ℤ) (rs : List ℕ) (g : List Gets) → Told w rs g (tally_at p s)
      → Grown w rs g (frame_executed program ctx f v s) (reached (run_frame program ctx f v s))
  frame_grown program ctx (frame.Call proc vals ret) v s w rs g h = lines_grown ctx ret (lines_of program proc) s vals w rs g h
  frame_grown program ctx (frame.OnValue proc vals ret) v s w rs g h = lines_grown ctx ret (lines_of program proc) s (Num v ∷ vals) w rs g h
  frame_grown program ctx (frame.AllPart n k) v s w rs g h = part_grown program ctx (part_at n k s) n k v s w rs g h
  frame_grown program ctx (frame.ChoicePart n) v s w rs g h =
      undecided_grown (group_at n s).decided w rs g _ s _ h (choice_grown program ctx (purpose_at n s) (choice_decided n s) w rs g h)
  frame_grown program ctx (frame.TryDone n) v s w rs g h =
      let ts : List Tally = tallies_of s
      in none_grown w rs g s (try_done n v s) (try_done_keeps (HasTallies ts) (tallies_still ts) n v s refl) h
  frame_grown program ctx (frame.BodyDone b) v s w rs g h =
      let ts : List Tally = tallies_of s
      in none_grown w rs g s (body_ended b v s) (body_ended_keeps (HasTallies ts) (tallies_still ts) b v s refl) h
  frame_grown program ctx (frame.BodyFailed b e) v s w rs g h =
      let ts : List Tally = tallies_of s
      in send_grown ctx e (body_failed b s) w rs g []
      (none_grown w rs g s (body_failed b s) (body_failed_keeps (HasTallies ts) (tallies_still ts) b s refl) h)
  frame_grown program ctx (frame.Raise e) v s w rs g h = send_grown ctx e s w rs g [] (none_told w rs g (tally_at p s) h)
  frame_grown program ctx (frame.AnswerOut q) v s w rs g h = none_told w rs g (tally_at p s) h
