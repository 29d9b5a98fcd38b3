-- Askers at their plan. Own.
use Rattle.std.specs.Prelude.{ℕ, ℤ, pos, zero, suc, ◌+◌, ◌*◌, ◌≡◌, ◌==◌, false, true, Bool, List, [], ◌∷◌, ◌++◌, find, Option}
use Rattle.std.specs.List.{list_all, filter_map, AllByRecursion}
use Rattle.ak_history.specs.declared.event.Event.{Event}
use Rattle.ak_history.specs.Events.{Asking, answers, is_answered, has_left}
use Rattle.ak_history_laws.specs.Asked.{requests_of, nums_of}
use Rattle.ak_turn.specs.Seen.{PassView}
use Rattle.ak_hub.specs.Hubs.{HubState, IsPassOf, seen_by}
use Rattle.ak_hub.specs.Outsides.{IsByAsker, GoesOnFrom, HasActed}
use Rattle.ak_askers.specs.declared.asking.Step.{Step}
use Rattle.ak_askers.specs.declared.asking.Step.TheVariants.{Told, Closed, Short}

-- the first numbers of an asker's plan: a thousand times the asker, and on by one
abbrev pub planned : ℕ → ℕ → List ℤ
planned asker zero = []
planned asker (suc k) = planned asker k ++ pos (asker * 1000 + k) ∷ []

-- ---- one request after the other
-- the answer to a request
abbrev pub answer_in : List Event → Asking → Option (ℕ × ℤ)
answer_in history r = find (λ x. x.0 == r.no) (answers history)

-- The asker has asked with these numbers and no others, and was told each answer. It has not ended.
pub record IsAsking (h : HubState) (asker : ℕ) (nums : List ℤ) (p q : PassView Event) (heard : List (ℕ × ℤ)) : Type 0 where
  pub pass : IsPassOf h (33 + asker) q
  pub spare : q.spare ≡ p.spare
  pub seen : GoesOnFrom p.seen q.seen
  pub own : AllByRecursion (IsByAsker asker) q.mine
  pub asked : nums_of asker q.mine ≡ nums
  pub stays : has_left q.mine asker ≡ false
  pub served : list_all (λ r. is_answered (seen_by q) r.no) (requests_of asker q.mine) ≡ true
  pub told : heard ≡ filter_map (answer_in (seen_by q)) (requests_of asker q.mine)

-- the same, whatever it has asked with and whichever pass it began with
abbrev pub IsAtPlan : HubState → ℕ → PassView Event → List (ℕ × ℤ) → Type 0
IsAtPlan h asker q told = (nums : List ℤ) × (p : PassView Event) × IsAsking h asker nums p q told

-- how one more request went: it has its answer; or the pool was closed, and the asker stops, whatever was planned behind it; or
-- it was not made
abbrev pub Steps : HubState → ℕ → List ℤ → ℤ → PassView Event → PassView Event → List (ℕ × ℤ) → Step → Type 0
Steps h asker nums num p q told Told = IsAsking h asker (nums ++ num ∷ []) p q told
Steps h asker nums num p q told Closed =
    (plan : List ℤ) → GoesOnFrom (nums ++ num ∷ []) plan → HasActed h asker plan p q told false
Steps h asker nums num p q told Short = IsAsking h asker nums p q told

-- so it went from wherever the asker was
abbrev pub StepsOn : HubState → ℕ → ℤ → PassView Event → List (ℕ × ℤ) → PassView Event → List (ℕ × ℤ) → Step → Type 0
StepsOn h asker num q told q' told' step =
    (nums : List ℤ) → (p : PassView Event) → IsAsking h asker nums p q told → Steps h asker nums num p q' told' step

-- an asker that stops has acted by each plan that goes on from what it has asked with, and is that where memory was not wanting
abbrev pub Finishes : HubState → ℕ → PassView Event → List (ℕ × ℤ) → PassView Event → List (ℕ × ℤ) → Bool → Type 0
Finishes h asker q told q' told' short =
    (nums plan : List ℤ) → (p : PassView Event) → IsAsking h asker nums p q told → GoesOnFrom nums plan → (short ≡ false → nums ≡ plan)
    → HasActed h asker plan p q' told' short
