-- The begin of a run and of a cycle keeps a state in step, and a run that is not stuck may wait.
use Rattle.std.proofs.Common.{◌≡◌, ◌≢◌, ◌⊎◌, inl, inr, ℕ, ◌+◌, ◌<◌, ◌||◌, ◌&&◌, List, [], ◌∷◌, length, map, Bool, true, false, cond, Option, Some, None, refl, sym, ap, ◌∙◌, arith}
use Rattle.std.specs.Prelude.{not, nat_le, is_some, is_none, count_by}
use Rattle.std.specs.List.{list_any, list_all}
use Rattle.std.proofs.lemmas.List.{length-map}
use Rattle.std.proofs.lemmas.List.Sums.{sum_by-cons}
use Rattle.std.proofs.lemmas.Bool.{true≢false}
use Rattle.std.proofs.lemmas.Bool.Decides.{nat_tests}
use Rattle.ak_base.specs.Lists.{is_empty_list}
use Rattle.ak_base.specs.declared.number.Ctx.{Ctx}
use Rattle.ak_labor.specs.declared.ask.Ask.{Ask}
use Rattle.ak_labor.specs.Calls.{Reply}
use Rattle.ak_labor.specs.Waits.{Handed, is_for_helper, outstanding, active_helpers, CanWork}
use Rattle.ak_frames.specs.declared.value.Value.{Value}
use Rattle.ak_frames.specs.declared.frame.Ret.{Ret}
use Rattle.ak_trace.specs.declared.entry.Entry.TheVariants as entry
use Rattle.ak_rings.specs.Queues.{recounted}
use Rattle.ak_machine.specs.declared.held.HelperState.{HelperState}
use Rattle.ak_machine.specs.declared.held.Outstanding.{Outstanding}
use Rattle.ak_machine.specs.State.{State, initial_state}
use Rattle.ak_machine.specs.Deferred.{noting, called}
use Rattle.ak_machine.specs.Works.{is_active}
use Rattle.ak_machine.specs.Cycle.{cycle_begun, is_general, is_stuck}
use Rattle.ak_ledger.specs.Outside.{work_kept, work_handed, Outside, outside_of, active_from, IsInStep}
use Rattle.ak_ledger.proofs.Still.{Still, yields_filled_keeps, alarms_filled_keeps}
use Rattle.ak_ledger.proofs.InStep.{step_still}
use Rattle.ak_ledger.proofs.Drains.{outside_still}

-- ---- a cycle begins
pub cycle_still : (P : State → Type 0) (k : Still P) (s : State) → P (noting entry.Cycle (record s { queues = recounted s.queues })) → P (cycle_begun s)
cycle_still P k s p =
    let noted : State = noting entry.Cycle (record s { queues = recounted s.queues })
    in alarms_filled_keeps P k _ (yields_filled_keeps P k noted p)

pub cycle_outside : (s : State) → outside_of (cycle_begun s) ≡ outside_of s
cycle_outside s = cycle_still (λ (t : State). outside_of t ≡ outside_of s) (outside_still (outside_of s)) s refl

pub cycle_in_step : (askers : ℕ) (asked : List Ask) (replies : List Reply) (s : State) → IsInStep askers asked replies s
    → IsInStep askers asked replies (cycle_begun s)
cycle_in_step askers asked replies s h = cycle_still (IsInStep askers asked replies) (step_still askers asked replies) s h

-- as many works are out
pub cycle_works : (s : State) → length (cycle_begun s).works ≡ length s.works
cycle_works s =
    sym (length-map (cycle_begun s).works work_kept) ∙ ap (λ (o : Outside). length o.works) (cycle_outside s) ∙ length-map s.works work_kept

-- ---- a run begins
pub first_in_step : (askers limit : ℕ) (ctx : Ctx) (main : ℕ) (vals : List Value) (ret : Ret)
    → IsInStep askers [] [] (cycle_begun (called ctx main vals ret (initial_state limit askers)))
first_in_step askers limit ctx main vals ret =
    cycle_in_step askers [] [] (called ctx main vals ret (initial_state limit askers))
    (record {
      works = refl;
      next_work = refl;
      below = tt;
      brought = tt;
      helpers = refl;
      active = refl;
      requests = refl;
      unanswered = refl;
      answered = tt;
      left = refl;
    })

-- ---- a run that is not stuck may wait
abbrev is_helped : ℕ × Option ℕ → Bool
is_helped work = is_some work.1

helped_kept : (works : List Outstanding) → list_all is_general works ≡ not (list_any is_helped (map work_kept works))
helped_kept [] = refl
helped_kept (work ∷ works) = by work.helper (helped_kept works)
  where
    by : (o : Option ℕ) → list_all is_general works ≡ not (list_any is_helped (map work_kept works))
        → (is_none o && list_all is_general works) ≡ not (is_some o || list_any is_helped (map work_kept works))
    by None e = e
    by (Some h) e = refl

helped_handed : (handed : List Handed) → list_any is_helped (map work_handed handed) ≡ list_any is_for_helper handed
helped_handed [] = refl
helped_handed (h ∷ handed) = ap (λ b. is_for_helper h || b) (helped_handed handed)

active_many : (h : ℕ) (helpers : List HelperState) → count_by is_active helpers ≡ length (active_from h helpers)
active_many h [] = refl
active_many h (helper ∷ helpers) =
    sum_by-cons (λ (x : HelperState). cond (is_active x) 1 0) helper helpers ∙ by (is_active helper) (active_many (h + 1) helpers)
  where
    by : (b : Bool) → count_by is_active helpers ≡ length (active_from (h + 1) helpers)
        → cond b 1 0 + count_by is_active helpers ≡ length (cond b (h ∷ active_from (h + 1) helpers) (active_from (h + 1) helpers))
    by true e = omega (arith, e)
    by false e = omega (arith, e)

not_stuck : (general reserved : Bool) → (true && general && reserved) ≡ false → (general ≡ false) ⊎ (reserved ≡ false)
not_stuck true true e = absurd (true≢false e)
not_stuck true false e = inr refl
not_stuck false reserved e = inl refl

some_out : (works : List Outstanding) (handed : List Handed) → map work_kept works ≡ map work_handed handed → is_empty_list works ≡ false → handed ≢ []
some_out [] handed e n = absurd (cc)
some_out (work ∷ works) [] e n = absurd (cc)
some_out (work ∷ works) (h ∷ handed) e n = λ k. absurd (cc)

not_true : (b : Bool) → not b ≡ false → b ≡ true
not_true true e = refl
not_true false e = absurd (cc)

pub can_work : (askers threads : ℕ) (asked : List Ask) (replies : List Reply) (s : State) → IsInStep askers asked replies s
    → is_empty_list s.works ≡ false → is_stuck threads s ≡ false → CanWork threads asked replies
can_work askers threads asked replies s p some e = (
  some_out s.works (outstanding asked replies) p.works some,
  elim (not_stuck (list_all is_general s.works) (nat_le threads (count_by is_active s.helpers))
      (ap (λ b. not b && list_all is_general s.works && nat_le threads (count_by is_active s.helpers)) (sym some) ∙ e)) [
        | inl general ↦
            inl (sym (helped_handed (outstanding asked replies)) ∙ ap (list_any is_helped) (sym p.works)
            ∙ not_true (list_any is_helped (map work_kept s.works)) (sym (helped_kept s.works) ∙ general))
        | inr reserved ↦ inr (few reserved)
      ],
)
  where
    few : nat_le threads (count_by is_active s.helpers) ≡ false → length (active_helpers asked replies) < threads
    few r =
        let below : count_by is_active s.helpers < threads = grind (arith, nat_tests)
        in let many : count_by is_active s.helpers ≡ length (active_helpers asked replies) = active_many 0 s.helpers ∙ ap length p.active
        in omega (arith, below, many)

-- none is out where none is kept
pub none_out : (askers : ℕ) (asked : List Ask) (replies : List Reply) (s : State) → IsInStep askers asked replies s → is_empty_list s.works ≡ true
    → outstanding asked replies ≡ []
none_out askers asked replies s p e = by s.works (outstanding asked replies) p.works e
  where
    by : (works : List Outstanding) (handed : List Handed) → map work_kept works ≡ map work_handed handed → is_empty_list works ≡ true → handed ≡ []
    by [] [] h n = refl
    by [] (x ∷ handed) h n = absurd (cc)
    by (work ∷ works) handed h n = absurd (cc)
