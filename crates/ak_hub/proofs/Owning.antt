-- What an asker asked, and whether it ended, is what its own pass gave.
use Rattle.std.proofs.Common.{◌≡◌, ℕ, ℤ, ◌+◌, Bool, true, false, cond, List, [], ◌∷◌, ◌++◌, refl, sym, ap, subst, ◌∙◌}
use Rattle.std.specs.Prelude.{◌||◌, ◌==◌, filter}
use Rattle.ak_history.specs.declared.event.Event.{Event}
use Rattle.ak_history.specs.declared.event.Event.TheVariants as event
use Rattle.ak_history.specs.Events.{has_left}
use Rattle.ak_history_laws.specs.Asked.{requests_of}
use Rattle.ak_asker_laws.proofs.Staying.{requests_more, left_more}
use Rattle.ak_turn.specs.Entries.{Each, events, events_by, IsAllowed}
use Rattle.ak_turn.specs.Seen.{PassView}
use Rattle.ak_hub.specs.Guards.{MayGive}
use Rattle.ak_hub.specs.Hubs.{HubState, IsHold}
use Rattle.ak_hub.proofs.Rests.{other_asker}

-- ---- entry by entry
one_none : (n a : ℕ) (e : Event) → MayGive n e → (n == 33 + a) ≡ false → (requests_of a (e ∷ []) ≡ []) × (has_left (e ∷ []) a ≡ false)
one_none n a (event.Submit id work helper) may other = (refl, refl)
one_none n a (event.Start thread id) may other = (refl, refl)
one_none n a (event.Finish thread id outcome) may other = (refl, refl)
one_none n a (event.Request q asker num) may other =
    (ap (λ c. cond c (record { no = q; asker = asker; num = num } ∷ []) []) (other_asker n a asker (asker == a) refl may other), refl)
one_none n a (event.AskerEnd asker) may other = (refl, ap (λ c. c || false) (other_asker n a asker (asker == a) refl may other))
one_none n a (event.Drain ids requests) may other = (refl, refl)
one_none n a (event.Answered q v) may other = (refl, refl)
one_none n a (event.HelperNew h answer) may other = (refl, refl)
one_none n a (event.HelperEnd h) may other = (refl, refl)
one_none n a event.Close may other = (refl, refl)

-- the asker asked the same in both, and ended in both or in none
abbrev pub AreOwn : ℕ → List Event → List Event → Type 0
AreOwn a xs ys = (requests_of a xs ≡ requests_of a ys) × (has_left xs a ≡ has_left ys a)

own_entries : (numbers : List ℕ) (a : ℕ) (whole : List (ℕ × Event)) → Each (IsAllowed MayGive numbers) whole
    → AreOwn a (events whole) (events_by (33 + a) whole)
own_entries numbers a [] all = (refl, refl)
own_entries numbers a (x ∷ rest) all = one (x.0 == 33 + a) refl (own_entries numbers a rest all.1)
  where
    one : (b : Bool) → (x.0 == 33 + a) ≡ b → AreOwn a (events rest) (events (filter (λ (y : ℕ × Event). y.0 == 33 + a) rest))
        → AreOwn a (x.1 ∷ events rest) (events (cond b (x ∷ filter (λ (y : ℕ × Event). y.0 == 33 + a) rest) (filter (λ (y : ℕ × Event). y.0 == 33 + a) rest)))
    one true is later = (
      requests_more a (x.1 ∷ []) (events rest)
          ∙ (ap (λ l. requests_of a (x.1 ∷ []) ++ l) later.0 ∙ sym (requests_more a (x.1 ∷ []) (events (filter (λ (y : ℕ × Event). y.0 == 33 + a) rest)))),
      left_more a (x.1 ∷ []) (events rest)
          ∙ (ap (λ b. has_left (x.1 ∷ []) a || b) later.1 ∙ sym (left_more a (x.1 ∷ []) (events (filter (λ (y : ℕ × Event). y.0 == 33 + a) rest)))),
    )
    one false is later =
        let none = one_none x.0 a x.1 all.0.1 is in (
          requests_more a (x.1 ∷ []) (events rest) ∙ (λ i. none.0 i ++ later.0 i),
          left_more a (x.1 ∷ []) (events rest) ∙ (λ i. none.1 i || later.1 i),
        )

-- the requests and the end of an asker are those that its pass gave
pub own_then : (h : HubState) (a : ℕ) (p : PassView Event) (was : List (ℕ × Event)) → IsHold h p was → p.number ≡ 33 + a → AreOwn a (events was) p.mine
own_then h a p was hold number =
    subst (AreOwn a (events was)) (subst (λ n. events_by n was ≡ p.mine) number hold.extends.own) (own_entries h.turn.numbers a was hold.log.0)
