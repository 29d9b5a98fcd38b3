-- Jobs are enqueued and run in order.
use Rattle.std.proofs.Common.{ℕ, ◌+◌, ◌<◌, ◌≤◌, ◌⊎◌, ◌≡◌, List, [], ◌∷◌, ◌++◌, map, Bool, true, false, Option, Some, None, refl, sym, subst, ◌∙◌, ap, inl, inr}
use Rattle.std.proofs.lemmas.Bool.{cases_lt, cond_below, cond_above}
use Rattle.ak_base.specs.Lists.{rest_of}
use Rattle.ak_labor.specs.Calls.{Reply}
use Rattle.ak_rings.specs.declared.job.Job.{Job}
use Rattle.ak_rings.specs.Queues.{Queues, first_under, pick_or, pick_of, picked_by, picked_from, recounted, with_job}
use Rattle.ak_frames.specs.declared.frame.Task.{Task}
use Rattle.ak_trace.specs.declared.entry.Entry.{Entry}
use Rattle.ak_trace.specs.declared.entry.Entry.TheVariants as entry
use Rattle.ak_program.specs.Programs.{NumProgram}
use Rattle.ak_labor.specs.declared.config.Config.{Config}
use Rattle.ak_machine.specs.State.{State}
use Rattle.ak_machine.specs.Mapped.{job_mapped, state_renamed}
use Rattle.ak_machine.specs.Deferred.{noting, enqueue}
use Rattle.ak_machine.specs.Run.{HasEnded, run_of, machine_after}
use Rattle.ak_cells.specs.Names.{renamed}
use Rattle.ak_laws.specs.Order.{Waiting, nothing_waits, with_waiting, Follows, Leads, IsInOrder}
use Rattle.ak_ledger.proofs.Still.{Ended}
use Rattle.ak_laws.proofs.Loose.{IsAside, by_runs}
use Rattle.ak_laws.proofs.KeptRun.{KeptByRuns, run_keeps, anything, brings_anything}
use Rattle.ak_laws.proofs.Ends.{at_end}

abbrev no_of : Job Task → ℕ
no_of job = job.no

-- what waits in the queues
abbrev waiting_in : Queues Task → Waiting
waiting_in q =
    record { normal = map no_of q.normal; low = map no_of q.low; normal_ran = q.normal_ran; low_ran = q.low_ran; next = q.next }

-- the trace so far leads to what waits, under the limit of the queues
record InOrder (limit : ℕ) (s : State) : Type 0 where
  limit_is : s.queues.limit ≡ limit
  leads : Leads limit s.trace nothing_waits (waiting_in s.queues)

leads_push : (limit : ℕ) (es : List Entry) (e : Entry) (w u v : Waiting) → Leads limit es w u → Follows limit e u v → Leads limit (es ++ e ∷ []) w v
leads_push limit [] e w u v l f = (v, subst (λ x. Follows limit e x v) l f, refl)
leads_push limit (x ∷ es) e w u v l f = (l.0, l.1, leads_push limit es e l.0 u v l.2 f)

aside_follows : (limit : ℕ) (e : Entry) (w : Waiting) → IsAside e → Follows limit e w w
aside_follows limit entry.Cycle w q = absurd q
aside_follows limit (entry.Enq n low) w q = absurd q
aside_follows limit (entry.Job n) w q = absurd q
aside_follows limit (entry.End why) w q = absurd q
aside_follows limit e w q = refl

map_push : (xs : List (Job Task)) (x : Job Task) → map no_of (xs ++ x ∷ []) ≡ map no_of xs ++ no_of x ∷ []
map_push [] x = refl
map_push (y ∷ ys) x = ap (λ r. no_of y ∷ r) (map_push ys x)

map_mapped : (f : ℕ → ℕ) (xs : List (Job Task)) → map no_of (map (job_mapped f) xs) ≡ map no_of xs
map_mapped f [] = refl
map_mapped f (x ∷ xs) = ap (λ r. x.no ∷ r) (map_mapped f xs)

-- a job is enqueued
enqueued_waits : (mon : ℕ) (low : Bool) (task : Task) (q : Queues Task)
    → waiting_in (with_job (record { mon = mon; low = low }) task q) ≡ with_waiting low q.next (waiting_in q)
enqueued_waits mon true task q =
    ap (λ xs. record (waiting_in q) { low = xs; next = q.next + 1 })
    (map_push q.low (record { no = q.next; ctx = record { mon = mon; low = true }; frame = task }))
enqueued_waits mon false task q =
    ap (λ xs. record (waiting_in q) { normal = xs; next = q.next + 1 })
    (map_push q.normal (record { no = q.next; ctx = record { mon = mon; low = false }; frame = task }))

limit_stays : (mon : ℕ) (low : Bool) (task : Task) (q : Queues Task) → (with_job (record { mon = mon; low = low }) task q).limit ≡ q.limit
limit_stays mon true task q = refl
limit_stays mon false task q = refl

enq_kept : (limit mon : ℕ) (low : Bool) (task : Task) (s : State) → InOrder limit s → InOrder limit (enqueue (record { mon = mon; low = low }) task s)
enq_kept limit mon low task s p =
    record {
      limit_is = limit_stays mon low task s.queues ∙ p.limit_is;
      leads = leads_push limit s.trace (entry.Enq s.queues.next low) nothing_waits (waiting_in s.queues) _ p.leads (refl, enqueued_waits mon low task s.queues);
    }

renamed_kept : (limit from to : ℕ) (s : State) → InOrder limit s → InOrder limit (state_renamed from to s)
renamed_kept limit from to s p =
    record {
      limit_is = p.limit_is;
      leads = subst (λ w. Leads limit s.trace nothing_waits w) (sym (same s.queues)) p.leads;
    }
  where
    same : (q : Queues Task) → waiting_in (record q {
      normal = map (job_mapped (renamed from to)) q.normal;
      low = map (job_mapped (renamed from to)) q.low;
    }) ≡ waiting_in q
    same q =
        ap (λ xs. record (waiting_in q) { normal = xs; low = map no_of (map (job_mapped (renamed from to)) q.low) })
        (map_mapped (renamed from to) q.normal)
        ∙ ap (λ xs. record (waiting_in q) { low = xs }) (map_mapped (renamed from to) q.low)

new_cycle_kept : (limit : ℕ) (s : State) → InOrder limit s → InOrder limit (noting entry.Cycle (record s { queues = recounted s.queues }))
new_cycle_kept limit s p =
    record {
      limit_is = p.limit_is;
      leads = leads_push limit s.trace entry.Cycle nothing_waits (waiting_in s.queues) _ p.leads refl;
    }

-- ---- a pick
-- the front job of a list that may run, or that there is none
abbrev FrontIs : ℕ → ℕ → List (Job Task) → Option (Job Task) → Type 0
FrontIs ran limit jobs None = (map no_of jobs ≡ []) ⊎ (limit ≤ ran)
FrontIs ran limit jobs (Some job) = (map no_of jobs ≡ job.no ∷ map no_of (rest_of jobs)) × (ran < limit)

front_is : (ran limit : ℕ) (jobs : List (Job Task)) → FrontIs ran limit jobs (first_under ran limit jobs)
front_is ran limit [] = inl refl
front_is ran limit (x ∷ xs) = elim (cases_lt ran limit) [
  | inl lt ↦ subst (FrontIs ran limit (x ∷ xs)) (cond_below ran limit (Some x) None lt) (refl, lt)
  | inr ge ↦ subst (FrontIs ran limit (x ∷ xs)) (cond_above ran limit (Some x) None None ge refl) (inr ge)
]

abbrev or_else : Job Task → Option (Job Task) → Job Task
or_else x None = x
or_else x (Some y) = y

abbrev IsNothing : Option (Job Task) → Type 0
IsNothing None = Unit {0}
IsNothing (Some x) = ⊥

-- what the pick of one of two front jobs leaves
follows_pick : (q : Queues Task) (job : Job Task) (a b : Option (Job Task)) → FrontIs q.normal_ran q.limit q.normal a
    → FrontIs q.low_ran q.limit q.low b → pick_or a b ≡ Some job
    → Follows q.limit (entry.Job job.no) (waiting_in q) (waiting_in (picked_by a b q)) × ((picked_by a b q).limit ≡ q.limit)
follows_pick q job (Some x) b f g e = (
  inl (record {
    front = f.0 ∙ ap (λ (o : Option (Job Task)). (or_else x o).no ∷ map no_of (rest_of q.normal)) e;
    under = f.1;
    then = refl;
  }),
  refl,
)
follows_pick q job None (Some x) f g e = (
  inr (record {
    front = g.0 ∙ ap (λ (o : Option (Job Task)). (or_else x o).no ∷ map no_of (rest_of q.low)) e;
    under = g.1;
    none_before = f;
    then = refl;
  }),
  refl,
)
follows_pick q job None None f g e = absurd (subst IsNothing e tt)

pick_kept : (limit : ℕ) (job : Job Task) (s : State) → pick_of s.queues ≡ Some job → InOrder limit s
    → InOrder limit (noting (entry.Job job.no) (record s { queues = picked_from s.queues }))
pick_kept limit job s e p =
    let q : Queues Task = s.queues
    in let after : Follows q.limit (entry.Job job.no) (waiting_in q) (waiting_in (picked_from q)) × ((picked_from q).limit ≡ q.limit) =
    follows_pick q job (first_under q.normal_ran q.limit q.normal) (first_under q.low_ran q.limit q.low)
    (front_is q.normal_ran q.limit q.normal) (front_is q.low_ran q.limit q.low) e
    in record {
      limit_is = after.1 ∙ p.limit_is;
      leads = leads_push limit s.trace (entry.Job job.no) nothing_waits (waiting_in q) (waiting_in (picked_from q)) p.leads
          (subst (λ n. Follows n (entry.Job job.no) (waiting_in q) (waiting_in (picked_from q))) p.limit_is after.0);
    }

in_order_kept : (limit : ℕ) → KeptByRuns anything limit (InOrder limit)
in_order_kept limit =
    by_runs limit (InOrder limit)
    (record {
      loose = record {
        note = λ e s q p. record {
          limit_is = p.limit_is;
          leads = leads_push limit s.trace e nothing_waits (waiting_in s.queues) (waiting_in s.queues) p.leads (aside_follows limit e (waiting_in s.queues) q);
        };
        enq = λ ctx task s p. enq_kept limit ctx.mon ctx.low task s p;
        rename = λ from to s p. renamed_kept limit from to s p;
        change = λ s u q t p. record {
          limit_is = ap (λ (x : Queues Task). x.limit) q ∙ p.limit_is;
          leads = subst (λ es. Leads limit es nothing_waits (waiting_in u.queues)) (sym t)
              (subst (λ (x : Queues Task). Leads limit s.trace nothing_waits (waiting_in x)) (sym q) p.leads);
        };
      };
      cycle = λ s p. new_cycle_kept limit s p;
      pick = λ job s e p. pick_kept limit job s e p;
      first = λ askers. record { limit_is = refl; leads = refl };
    })

pub runs_in_order : (program : NumProgram) (config : Config) (replies : List Reply) → (run_of program config replies).outcome ≡ HasEnded
    → IsInOrder config.limit (run_of program config replies).trace
runs_in_order program config replies e =
    let x : Ended (InOrder config.limit) (machine_after program config replies).state =
    at_end (InOrder config.limit) (machine_after program config replies)
    (run_keeps anything (InOrder config.limit) config.limit (in_order_kept config.limit) program config refl replies (brings_anything replies)) e
    in subst (IsInOrder config.limit) (sym (ap (λ (s : State). s.trace) x.last)) (
      waiting_in x.before.queues,
      leads_push config.limit x.before.trace (entry.End x.why) nothing_waits (waiting_in x.before.queues) (waiting_in x.before.queues) x.has.leads refl,
    )
