-- What comes of one step: a drain has something to tell, or one thread more runs.
use Rattle.std.proofs.Common.{◌≡◌, ◌⊎◌, inl, inr, ℕ, ℤ, ◌+◌, ◌*◌, ◌<◌, Bool, true, false, cond, List, [], ◌∷◌, ◌++◌, length, refl, sym, ap, subst, ◌∙◌}
use Rattle.std.specs.Prelude.{◌||◌, ◌&&◌, not, pos, map, count_by, nat_lt, Option, Some, None, is_some}
use Rattle.std.specs.List.{list_any, flat_map}
use Rattle.std.proofs.lemmas.Bool.{ne_eqb}
use Rattle.ak_base.specs.Lists.{is_empty_list}
use Rattle.ak_labor.specs.declared.work.Outcome.{Outcome}
use Rattle.ak_labor.specs.Value.{value_of}
use Rattle.ak_labor.specs.Waits.{Handed}
use Rattle.ak_labor.specs.Arrived.{Arrived}
use Rattle.ak_history.specs.declared.event.Event.{Event}
use Rattle.ak_history.specs.declared.event.Event.TheVariants as event
use Rattle.ak_history.specs.Events.{asked, begun, finished, drained_in, is_among, is_asker_end, is_begun, is_drain, is_finished, numbers_below, owed, unfetched, work_at}
use Rattle.ak_history.specs.Legal.{Legal, IsLegalAfter, Starts}
use Rattle.ak_pool.specs.Pools.{IsOpen, owed_pairs, request_pairs, owes, has_untold_end}
use Rattle.ak_pool.proofs.Helpers.{map_filter}
use Rattle.ak_pool.proofs.Noting.{legal_next}
use Rattle.ak_pool.proofs.Starts.{unfinished}
use Rattle.ak_history_laws.proofs.Brought.{brought_next}
use Rattle.ak_history_laws.proofs.Legals.{left_by}
use Rattle.ak_history_laws.proofs.Parts.{or_true}
use Rattle.ak_history_laws.proofs.Requests.{same_numbers}
use Rattle.ak_next.specs.Next.{Crowd, work_on, helper_on, work_for, thread_acts, asker_acts}
use Rattle.ak_next.proofs.Doing.{Happens, happens_own, may_begin, asker_idle}
use Rattle.ak_next.proofs.Going.{runs_on, runs_begun}
use Rattle.ak_next.proofs.Lists.{count_up, mapped_some}

-- ---- a drain has something to tell
some_last : {A : Type 0} (f : A → ℕ) (xs : List A) (x : A) → not (is_empty_list (map f (xs ++ x ∷ []))) ≡ true
some_last f [] x = refl
some_last f (y ∷ xs) x = refl

module _ (threads askers : ℕ) (xs : List Event) (legal : Legal threads askers xs) where
  finished_owed : (t id : ℕ) (outcome : Outcome) → IsLegalAfter threads askers xs (event.Finish t id outcome)
      → owes (xs ++ event.Finish t id outcome ∷ []) ≡ true
  finished_owed t id outcome is =
      let all = xs ++ event.Finish t id outcome ∷ [] in
      let first = λ (f : ℕ × Outcome). f.0 in
      let pairs : owed_pairs all ≡ owed_pairs xs ++ (id, outcome) ∷ [] =
      ap (λ (a : Arrived). a.works) (brought_next threads askers xs (event.Finish t id outcome) legal is) in
      let some : not (is_empty_list (owed all)) ≡ true =
      ap (λ l. not (is_empty_list l)) (sym (map_filter (λ (n : ℕ). not (is_among (flat_map drained_in all) n)) (finished all)))
      ∙ (ap (λ l. not (is_empty_list (map first l))) pairs ∙ some_last first (owed_pairs xs) (id, outcome)) in
      ap (λ b. b || not (is_empty_list (unfetched all)) || has_untold_end all) some

  requested_owed : (q a : ℕ) (n : ℤ) → IsLegalAfter threads askers xs (event.Request q a n) → owes (xs ++ event.Request q a n ∷ []) ≡ true
  requested_owed q a n is =
      let all = xs ++ event.Request q a n ∷ [] in
      let first = λ (r : ℕ × ℤ). r.0 in
      let pairs : request_pairs all ≡ request_pairs xs ++ (q, n) ∷ [] =
      ap (λ (b : Arrived). b.requests) (brought_next threads askers xs (event.Request q a n) legal is) in
      let some : not (is_empty_list (unfetched all)) ≡ true =
      ap (λ l. not (is_empty_list l)) (sym (same_numbers threads askers all (legal_next threads askers xs (event.Request q a n) legal is)))
      ∙ (ap (λ l. not (is_empty_list (map first l))) pairs ∙ some_last first (request_pairs xs) (q, n)) in
      ap (λ b. b || has_untold_end all) (or_true (not (is_empty_list (owed all))) (not (is_empty_list (unfetched all))) some)

ended_untold : (xs : List Event) (a : ℕ) → has_untold_end (xs ++ event.AskerEnd a ∷ []) ≡ true
ended_untold [] a = refl
ended_untold (x ∷ xs) a =
    or_true (is_asker_end x && not (list_any is_drain (xs ++ event.AskerEnd a ∷ []))) (has_untold_end (xs ++ event.AskerEnd a ∷ []))
    (ended_untold xs a)

ended_owed : (xs : List Event) (a : ℕ) → owes (xs ++ event.AskerEnd a ∷ []) ≡ true
ended_owed xs a =
    let all = xs ++ event.AskerEnd a ∷ [] in
    or_true (not (is_empty_list (owed all)) || not (is_empty_list (unfetched all))) (has_untold_end all) (ended_untold xs a)

-- ---- how many threads run
abbrev pub running_count : ℕ → List Event → ℕ
running_count threads xs = count_by (λ t. is_some (work_on xs t)) (numbers_below threads)

-- a step brings something to tell, or sets one thread more to work
abbrev pub Steps : Crowd → List Event → Event → Type 0
Steps crowd xs e =
    (owes (xs ++ e ∷ []) ≡ true) ⊎ (running_count crowd.threads (xs ++ e ∷ []) ≡ running_count crowd.threads xs + 1)

module _ (crowd : Crowd) (xs : List Event) (legal : Legal crowd.threads crowd.askers xs) (unclosed : IsOpen xs) where
  starts : (t id : ℕ) → t < crowd.threads → work_on xs t ≡ None → work_for xs (helper_on xs t) ≡ Some id
      → IsLegalAfter crowd.threads crowd.askers xs (event.Start t id)
      → running_count crowd.threads (xs ++ event.Start t id ∷ []) ≡ running_count crowd.threads xs + 1
  starts t id lt idle next is =
      let k = left_by crowd.threads crowd.askers xs legal in
      let may_start = may_begin crowd.threads crowd.askers xs legal t lt idle unclosed id next in
      let open_yet : is_finished xs id ≡ false =
      unfinished (begun xs) (finished xs) id k.stands.begun_first (not_begun (work_at xs id) may_start.1) in
      count_up (λ u. is_some (work_on xs u)) (λ u. is_some (work_on (xs ++ event.Start t id ∷ []) u)) t crowd.threads lt (ap is_some idle)
      (ap is_some (runs_begun xs t id idle open_yet))
      (λ u ne. sym (ap is_some (runs_on crowd.threads crowd.askers xs (event.Start t id) u legal is (ne_eqb t u (λ e. ne (sym e))))))
    where
      not_begun : (o : Option Handed) → Starts crowd.threads xs t id o → is_begun xs id ≡ false
      not_begun None h = absurd h
      not_begun (Some w) h = h.0

  of_thread : (t : ℕ) (e : Event) → t < crowd.threads → IsLegalAfter crowd.threads crowd.askers xs e → (o : Option ℕ) → work_on xs t ≡ o
      → thread_acts xs t o ≡ Some e → Steps crowd xs e
  of_thread t e lt is None idle acts =
      let k = mapped_some (λ (id : ℕ). event.Start t id) (work_for xs (helper_on xs t)) e acts in
      inr (subst (λ (x : Event). running_count crowd.threads (xs ++ x ∷ []) ≡ running_count crowd.threads xs + 1) k.2
      (starts t k.0 lt idle k.1 (subst (IsLegalAfter crowd.threads crowd.askers xs) (sym k.2) is)))
  of_thread t e lt is (Some id) runs acts =
      let k = mapped_some (λ (w : Handed). event.Finish t id (value_of w.work)) (work_at xs id) e acts in
      inl (subst (λ (x : Event). owes (xs ++ x ∷ []) ≡ true) k.2
      (finished_owed crowd.threads crowd.askers xs legal t id (value_of k.0.work) (subst (IsLegalAfter crowd.threads crowd.askers xs) (sym k.2) is)))

  of_asker : (a made : ℕ) → IsLegalAfter crowd.threads crowd.askers xs (asker_acts crowd xs a made)
      → owes (xs ++ asker_acts crowd xs a made ∷ []) ≡ true
  of_asker a made is = one (nat_lt made crowd.each) is
    where
      request : Event
      request = event.Request (length (asked xs)) a (pos (a * 1000 + made))

      one : (b : Bool) → IsLegalAfter crowd.threads crowd.askers xs (cond b request (event.AskerEnd a))
          → owes (xs ++ cond b request (event.AskerEnd a) ∷ []) ≡ true
      one true k = requested_owed crowd.threads crowd.askers xs legal _ a _ k
      one false k = ended_owed xs a

  -- LAW. After a step a drain has something to tell, or one thread more runs.
  pub one_step : (e : Event) → Happens crowd xs e → Steps crowd xs e
  one_step e (inl g) =
      of_thread g.0 e g.1 (happens_own crowd xs legal unclosed e (inl g)).legal (work_on xs g.0) refl g.2
  one_step e (inr g) =
      let k = asker_idle crowd xs g.0 e g.1 g.2 in
      let is = (happens_own crowd xs legal unclosed e (inr g)).legal in
      inl (subst (λ (x : Event). owes (xs ++ x ∷ []) ≡ true) k.1
      (of_asker g.0 _ (subst (IsLegalAfter crowd.threads crowd.askers xs) (sym k.1) is)))
