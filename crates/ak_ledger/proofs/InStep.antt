-- The steps of a job keep a state in step with the calls that were made and their replies, up to where it asks the pool.
use Rattle.std.proofs.Common.{◌≡◌, ℕ, ℤ, ◌+◌, ◌<◌, filter, zero-add, List, [], ◌∷◌, ◌++◌, length, map, Bool, true, false, cond, Option, Some, None, refl, sym, subst, ap, ◌∙◌, arith, fold}
use Rattle.std.specs.List.{AllByRecursion, list_any, filter_map, flat_map}
use Rattle.std.proofs.lemmas.List.{length-append, map-append, append-nil}
use Rattle.std.proofs.Math.ListN.{set, length-set}
use Rattle.ak_base.proofs.Lists.{all_push}
use Rattle.ak_base.specs.declared.number.Ctx.{Ctx}
use Rattle.ak_labor.specs.declared.work.Work.{Work}
use Rattle.ak_labor.specs.declared.work.Outcome.{Outcome}
use Rattle.ak_labor.specs.declared.ask.Ask.{Ask}
use Rattle.ak_labor.specs.declared.ask.Ask.TheVariants as ask
use Rattle.ak_labor.specs.Calls.{Reply, Granted, Done}
use Rattle.ak_labor.specs.Waits.{handed_by, pairs_in, requests_in, outstanding, helper_in, active_helpers, helped_by, is_number, is_other_helper, answered_by, left_by, IsServedBy}
use Rattle.ak_cells.specs.declared.registration.Registration.{Registration}
use Rattle.ak_cells.specs.Cells.{waiting_on, filled}
use Rattle.ak_cells.specs.Names.{renamed}
use Rattle.ak_frames.specs.declared.frame.Frame.{Frame}
use Rattle.ak_trace.specs.declared.entry.Entry.TheVariants as entry
use Rattle.ak_machine.specs.declared.held.HelperState.{HelperState}
use Rattle.ak_machine.specs.declared.held.Outstanding.{Outstanding}
use Rattle.ak_machine.specs.declared.held.Requested.{Requested}
use Rattle.ak_machine.specs.State.{State}
use Rattle.ak_machine.specs.Mapped.{outstanding_mapped, requested_mapped}
use Rattle.ak_machine.specs.Deferred.{noting, woken_by}
use Rattle.ak_machine.specs.Works.{submitted, helper_at, is_active, helper_ended}
use Rattle.ak_ledger.specs.Outside.{work_kept, work_handed, request_kept, Outside, outside_of, active_from, IsSaid, IsInStep, IsAskable}
use Rattle.ak_ledger.proofs.Still.{Still, Aspects}
use Rattle.ak_ledger.proofs.Lines.{IsHelped, AsksWell}
use Rattle.ak_ledger.proofs.Calls.{nothing_behind, none_more, none_longer, one_longer, outstanding_same, outstanding_more, active_next, active_ended, active_has, active_new, came_same, unanswered_same, left_same}

-- ---- the changes that ask nothing
abbrev pub outside_by : Aspects → Outside
outside_by a = record {
  works = map work_kept a.works;
  next_work = a.next_work;
  helpers = a.helpers;
  requests = map request_kept a.requests;
  left = a.left;
}

pub works_renamed : (f : ℕ → ℕ) (works : List Outstanding) → map work_kept (map (outstanding_mapped f) works) ≡ map work_kept works
works_renamed f [] = refl
works_renamed f (work ∷ works) = ap (λ l. work_kept work ∷ l) (works_renamed f works)

pub requests_renamed : (f : ℕ → ℕ) (requests : List Requested) → map request_kept (map (requested_mapped f) requests) ≡ map request_kept requests
requests_renamed f [] = refl
requests_renamed f (request ∷ requests) = ap (λ l. request_kept request ∷ l) (requests_renamed f requests)

module _ (askers : ℕ) (asked : List Ask) (replies : List Reply) where
  all_woken : (v : ℤ) (gs : List (Registration Frame)) (s : State) → IsInStep askers asked replies s → IsInStep askers asked replies (fold (woken_by v) s gs)
  all_woken v [] s h = h
  all_woken v (g ∷ gs) s h = all_woken v gs (woken_by v s g) h

  renamed_in_step : (f : ℕ → ℕ) (s : State) → IsInStep askers asked replies s
      → IsSaid askers asked replies (record (outside_of s) {
        works = map work_kept (map (outstanding_mapped f) s.works);
        requests = map request_kept (map (requested_mapped f) s.requests);
      })
  renamed_in_step f s h =
      let o : Outside = outside_of s
      in subst (λ ws. IsSaid askers asked replies (record o { works = ws; requests = map request_kept (map (requested_mapped f) s.requests) }))
      (sym (works_renamed f s.works))
      (subst (λ rs. IsSaid askers asked replies (record o { requests = rs })) (sym (requests_renamed f s.requests)) h)

  pub step_still : Still (IsInStep askers asked replies)
  step_still = record {
    note = λ e s q h. h;
    enq = λ ctx task s n h. h;
    wait = λ i ctx frame s n h. h;
    forget = λ notes s h. h;
    fill = λ i v s h. all_woken v (waiting_on i s.cells) (noting (entry.Fill i v) (record s { cells = filled i v s.cells })) h;
    join = λ result right s e h. renamed_in_step (renamed right result) s h;
    change = λ s u e t h. subst (IsSaid askers asked replies) (sym (ap outside_by e)) h;
  }

  module _ (even : length replies ≡ length asked) where
    -- ---- a call that is about a helper
    helper_said : (a : Ask) (r : Reply) (o : Outside) (helpers : List HelperState) → handed_by a ≡ None → answered_by a ≡ None
        → pairs_in r ≡ [] → requests_in r ≡ [] → ((n : ℕ) → left_by n r ≡ n)
        → length helpers ≡ length (filter_map helper_in (asked ++ a ∷ []))
        → active_from 0 helpers ≡ helped_by (active_helpers asked replies) a r
        → IsSaid askers asked replies o → IsSaid askers (asked ++ a ∷ []) (replies ++ r ∷ []) (record o { helpers = helpers })
    helper_said a r o helpers e g f q l n k h = record {
      works = h.works ∙ sym (ap (map work_handed) (outstanding_same asked replies a r e f));
      next_work = h.next_work ∙ sym (none_longer handed_by asked a e);
      below = h.below;
      brought = subst (AllByRecursion (λ (pair : ℕ × Outcome). pair.0 < o.next_work)) (sym (nothing_behind pairs_in replies r f)) h.brought;
      helpers = n;
      active = k ∙ sym (active_next asked replies a r even);
      requests = h.requests ∙ sym (ap length (came_same replies r q));
      unanswered = h.unanswered ∙ sym (ap (map (λ (x : ℕ × ℤ). x.0)) (unanswered_same asked replies a r g q));
      answered = subst (AllByRecursion (λ q. q < length o.requests)) (sym (none_more answered_by asked a g)) h.answered;
      left = h.left ∙ sym (left_same askers replies r l);
    }

    -- a new one
    granted_active : (active : List ℕ) (h : ℕ) (granted : Bool)
        → active ++ cond granted (h ∷ []) [] ≡ helped_by active (ask.HelperNew h) (Granted granted)
    granted_active active h true = refl
    granted_active active h false = append-nil active

    helper_asked : (s : State) → IsInStep askers asked replies s → IsAskable askers asked replies (ask.HelperNew (length s.helpers)) s
    helper_asked s h =
        let a : Ask = ask.HelperNew (length s.helpers)
        in (
          h.helpers,
          λ granted. helper_said a (Granted granted) (outside_of s) (s.helpers ++ record { granted = granted; ended = false } ∷ []) refl refl refl refl
              (λ n. refl)
              (length-append s.helpers (record { granted = granted; ended = false } ∷ [])
              ∙ ap (λ n. n + 1) h.helpers ∙ sym (one_longer helper_in asked a (length s.helpers) refl))
              (active_new 0 s.helpers granted
              ∙ ap (λ (l : List ℕ). l ++ cond granted ((0 + length s.helpers) ∷ []) []) h.active
              ∙ ap (λ n. active_helpers asked replies ++ cond granted (n ∷ []) []) (zero-add (length s.helpers))
              ∙ granted_active (active_helpers asked replies) (length s.helpers) granted) h,
        )

    -- one that is granted and has not ended
    served_by : (h : ℕ) (s : State) → is_active (helper_at h s) ≡ true → IsInStep askers asked replies s → IsServedBy asked replies (Some h)
    served_by h s e p =
        sym (ap (λ n. list_any (is_number n) (active_helpers asked replies)) (zero-add h))
        ∙ ap (list_any (is_number (0 + h))) (sym p.active) ∙ active_has 0 h s.helpers e

    done_asked : (h : ℕ) (s : State) → is_active (helper_at h s) ≡ true → IsInStep askers asked replies s
        → IsAskable askers asked replies (ask.HelperEnd h) (helper_ended h s)
    done_asked h s e p =
        let a : Ask = ask.HelperEnd h
        in let last : HelperState = record (helper_at h s) { ended = true }
        in (
          served_by h s e p,
          helper_said a Done (outside_of s) (set s.helpers h last) refl refl refl refl (λ n. refl)
              (length-set s.helpers h last ∙ p.helpers ∙ sym (none_longer helper_in asked a refl))
              (active_ended 0 h s.helpers e
              ∙ ap (filter (is_other_helper (0 + h))) p.active ∙ ap (λ n. filter (is_other_helper n) (active_helpers asked replies)) (zero-add h)) p,
        )

    -- ---- a work that is handed in
    helped : (helper : Option ℕ) (s : State) → IsHelped helper s → IsInStep askers asked replies s → IsServedBy asked replies helper
    helped None s h p = tt
    helped (Some n) s h p = served_by n s h p

    later_works : (n : ℕ) (works : List (ℕ × Option ℕ)) → AllByRecursion (λ (w : ℕ × Option ℕ). w.0 < n) works
        → AllByRecursion (λ (w : ℕ × Option ℕ). w.0 < n + 1) works
    later_works n [] h = tt
    later_works n (w ∷ works) h = (omega (arith, h.0), later_works n works h.1)

    later_pairs : (n : ℕ) (pairs : List (ℕ × Outcome)) → AllByRecursion (λ (pair : ℕ × Outcome). pair.0 < n) pairs
        → AllByRecursion (λ (pair : ℕ × Outcome). pair.0 < n + 1) pairs
    later_pairs n [] h = tt
    later_pairs n (pair ∷ pairs) h = (omega (arith, h.0), later_pairs n pairs h.1)

    work_asked : (ctx : Ctx) (to : ℕ) (work : Work) (helper : Option ℕ) (s : State) → IsHelped helper s → IsInStep askers asked replies s
        → IsAskable askers asked replies (ask.Submit s.next_work work helper) (submitted ctx to work helper s)
    work_asked ctx to work helper s served p =
        let a : Ask = ask.Submit s.next_work work helper
        in let new : Outstanding = record { number = s.next_work; to = to; ctx = ctx; helper = helper }
        in let more : map work_kept (s.works ++ new ∷ []) ≡ map work_kept s.works ++ (s.next_work, helper) ∷ [] = map-append work_kept s.works (new ∷ [])
        in (
          p.next_work,
          helped helper s served p,
          record {
            works =
                more ∙ ap (λ (l : List (ℕ × Option ℕ)). l ++ (s.next_work, helper) ∷ []) p.works
                ∙ sym (map-append work_handed (outstanding asked replies) (record { id = s.next_work; work = work; helper = helper } ∷ []))
                ∙ sym (ap (map work_handed) (outstanding_more asked replies s.next_work work helper p.brought));
            next_work = ap (λ n. n + 1) p.next_work ∙ sym (one_longer handed_by asked a (record { id = s.next_work; work = work; helper = helper }) refl);
            below =
                subst (AllByRecursion (λ (w : ℕ × Option ℕ). w.0 < s.next_work + 1)) (sym more)
                (all_push (λ (w : ℕ × Option ℕ). w.0 < s.next_work + 1) (map work_kept s.works) (s.next_work, helper)
                (later_works s.next_work (map work_kept s.works) p.below) (omega arith));
            brought =
                subst (AllByRecursion (λ (pair : ℕ × Outcome). pair.0 < s.next_work + 1)) (sym (nothing_behind pairs_in replies Done refl))
                (later_pairs s.next_work (flat_map pairs_in replies) p.brought);
            helpers = p.helpers ∙ sym (none_longer helper_in asked a refl);
            active = p.active ∙ sym (active_next asked replies a Done even);
            requests = p.requests ∙ sym (ap length (came_same replies Done refl));
            unanswered = p.unanswered ∙ sym (ap (map (λ (x : ℕ × ℤ). x.0)) (unanswered_same asked replies a Done refl refl));
            answered =
                subst (AllByRecursion (λ q. q < length (map request_kept s.requests))) (sym (none_more answered_by asked a refl)) p.answered;
            left = p.left ∙ sym (left_same askers replies Done (λ n. refl));
          },
        )

    pub asks_well : AsksWell (IsInStep askers asked replies) (IsAskable askers asked replies)
    asks_well = record {
      work = work_asked;
      helper = helper_asked;
      done = done_asked;
      new_pipe = λ room s h. h;
      other_pipe = λ i x s h. h;
    }
