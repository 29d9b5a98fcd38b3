-- Where the scheduler may wait, something happens until a drain has something to tell.
use Rattle.std.proofs.Common.{◌≡◌, inl, inr, false, List, [], ◌∷◌, refl}
use Rattle.std.specs.Prelude.{◌||◌, not}
use Rattle.std.specs.List.{filter_map}
use Rattle.ak_base.specs.Lists.{is_empty_list}
use Rattle.ak_labor.specs.Waits.{CanWait}
use Rattle.ak_history.specs.declared.event.Event.{Event}
use Rattle.ak_history.specs.Events.{numbers_below, owed, unfetched}
use Rattle.ak_history.specs.Legal.{Legal}
use Rattle.ak_history.specs.Scheduler.{asks, replies}
use Rattle.ak_pool.specs.Pools.{owes, has_untold_end}
use Rattle.ak_history_laws.proofs.Legals.{left_by}
use Rattle.ak_history_laws.proofs.Parts.{or_parts}
use Rattle.ak_next.specs.Next.{Crowd, thread_next, asker_next, may_happen}
use Rattle.ak_next.proofs.Asking.{no_asker_asks}
use Rattle.ak_next.proofs.Lists.{append_none, none_mapped}
use Rattle.ak_next.proofs.Waiting.{no_work}

empty_is : {A : Type 0} (xs : List A) → not (is_empty_list xs) ≡ false → xs ≡ []
empty_is [] e = refl
empty_is (x ∷ xs) e = absurd (cc e)

-- LAW. Where the scheduler may wait and a drain has nothing to tell, something happens next.
pub something_happens : (crowd : Crowd) (xs : List Event) → Legal crowd.threads crowd.askers xs
    → CanWait crowd.threads crowd.askers (asks xs) (replies crowd.askers xs) → owes xs ≡ false → may_happen crowd xs ≡ [] → ⊥
something_happens crowd xs legal can quiet nothing =
    let k = left_by crowd.threads crowd.askers xs legal in
    let both = append_none (filter_map (thread_next xs) (numbers_below crowd.threads)) (filter_map (asker_next crowd xs) (numbers_below crowd.askers)) nothing in
    let ends = or_parts (not (is_empty_list (owed xs)) || not (is_empty_list (unfetched xs))) (has_untold_end xs) quiet in
    let works = or_parts (not (is_empty_list (owed xs))) (not (is_empty_list (unfetched xs))) ends.0 in
    elim can [
      | inl work ↦
          no_work crowd.threads crowd.askers xs legal k.desk k.stands (none_mapped (thread_next xs) crowd.threads both.0)
          (empty_is (owed xs) works.0) work
      | inr asks_one ↦
          no_asker_asks crowd.threads crowd.askers xs legal k.requests k.asked crowd (none_mapped (asker_next crowd xs) crowd.askers both.1)
          (empty_is (unfetched xs) works.1) ends.1 asks_one
    ]
