-- What a hold of a hub leaves of the pool's conditions.
use Rattle.std.proofs.Common.{◌≡◌, ℕ, suc, ◌+◌, Bool, false, List, [], ◌∷◌, ◌++◌, refl, sym, ap, subst, ◌∙◌, append-nil, arith}
use Rattle.std.specs.Prelude.{count_by, Option}
use Rattle.std.specs.List.{list_any}
use Rattle.ak_labor.specs.declared.work.Outcome.{Outcome}
use Rattle.ak_labor.specs.declared.work.Work.{Work}
use Rattle.ak_labor.specs.Value.{value_of}
use Rattle.ak_history.specs.declared.event.Event.{Event}
use Rattle.ak_history.specs.declared.event.Event.TheVariants as event
use Rattle.ak_history.specs.Events.{is_close, is_submit, is_running}
use Rattle.ak_history.specs.Legal.{Legal, IsLegalAfter}
use Rattle.ak_pool.specs.declared.pool.Taken.TheVariants as taken
use Rattle.ak_pool.specs.Pools.{IsOpen}
use Rattle.ak_history_laws.proofs.Legals.{legal_behind}
use Rattle.ak_history_laws.proofs.Workers.{open_behind, submits_behind}
use Rattle.ak_history_laws.proofs.Threads.{may_finish, idle_again, idle_behind}
use Rattle.ak_history_laws.proofs.Out.{out_now}
use Rattle.ak_turn.specs.Entries.{events}
use Rattle.ak_turn.specs.Seen.{PassView}
use Rattle.ak_hub.specs.Calls.{Took, SomeOutstanding}
use Rattle.ak_hub.specs.Hubs.{HubState, Gave, seen_by}

module _ (h : HubState) (p q : PassView Event) (was : List (ℕ × Event)) where
  -- the pool is open after what is no close
  pub open_again : (es : List Event) → p.number ≡ 0 → Gave h p was es q → list_any is_close es ≡ false → IsOpen (seen_by p) → IsOpen (seen_by q)
  open_again es number gave none is =
      ap (list_any is_close) gave.seen ∙ open_behind (seen_by p) (events was) es (gave.hold.workers number) none is

  -- how many works were handed in
  pub submits_again : (es : List Event) → p.number ≡ 0 → Gave h p was es q → count_by is_submit (seen_by q)
      ≡ count_by is_submit (seen_by p) + count_by is_submit es
  submits_again es number gave =
      ap (count_by is_submit) gave.seen ∙ submits_behind (seen_by p) (events was) es (gave.hold.workers number)

  -- what was just handed in is outstanding
  pub some_out : (id : ℕ) (work : Work) (helper : Option ℕ) → Gave h p was (event.Submit id work helper ∷ []) q → SomeOutstanding h.askers (seen_by q)
  some_out id work helper gave =
      let e = event.Submit id work helper in
      let legal = legal_behind h.threads h.askers [] (events was) (e ∷ []) (subst (Legal h.threads h.askers) gave.seen gave.legal) in
      subst (SomeOutstanding h.askers) (sym gave.seen) (out_now h.threads h.askers (events was) id work helper gave.hold.legal legal.0)

  -- the work that was taken may be finished with its value
  pub may_end : (t id : ℕ) (work : Work) (outcome : Outcome) → Took h p was t (taken.Got id work) q → outcome ≡ value_of work
      → IsLegalAfter h.threads h.askers (seen_by q) (event.Finish t id outcome)
  may_end t id work outcome took value =
      subst (λ l. IsLegalAfter h.threads h.askers l (event.Finish t id outcome)) (sym took.0.seen)
      (subst (λ o. IsLegalAfter h.threads h.askers (events was ++ event.Start t id ∷ []) (event.Finish t id o)) (sym value)
      (may_finish h.threads h.askers (events was) t id work took.0.hold.legal took.1.0 took.1.1))

  -- a thread that was given nothing still runs nothing
  pub idle_on : (t : ℕ) → p.number ≡ suc t → Gave h p was [] q → is_running (seen_by p) t ≡ false → is_running (seen_by q) t ≡ false
  idle_on t number gave idle =
      ap (λ l. is_running l t) (gave.seen ∙ append-nil (events was)) ∙ idle_behind t (seen_by p) (events was) (gave.hold.others t number) idle

-- a thread that finished the one work that it was given runs nothing
pub idle_then : (h : HubState) (p q r : PassView Event) (w1 w2 : List (ℕ × Event)) (t id : ℕ) (work : Work) (outcome : Outcome)
    → p.number ≡ suc t → q.number ≡ suc t → is_running (seen_by p) t ≡ false → Took h p w1 t (taken.Got id work) q
    → Gave h q w2 (event.Finish t id outcome ∷ []) r → is_running (seen_by r) t ≡ false
idle_then h p q r w1 w2 t id work outcome of_p of_q idle took gave =
    let b = gave.hold.others t of_q in
    let all : seen_by r ≡ ((events w1 ++ event.Start t id ∷ []) ++ b.rest) ++ event.Finish t id outcome ∷ [] =
    gave.seen ∙ (λ i. (b.whole_is ∙ ap (λ l. l ++ b.rest) took.0.seen) i ++ event.Finish t id outcome ∷ []) in
    ap (λ l. is_running l t) all
    ∙ idle_again (events w1) b.rest t id outcome b.others (idle_behind t (seen_by p) (events w1) (took.0.hold.others t of_p) idle)
