-- Laws of all legal histories, by the last event.
use Rattle.std.proofs.Common.{ℕ, List, [], ◌∷◌, ◌++◌, subst, append-nil, append_assoc}
use Rattle.ak_history.specs.declared.event.Event.{Event}
use Rattle.ak_history.specs.Legal.{Legal, AreLegalAfter, IsLegalAfter}
use Rattle.ak_pool.specs.Desks.{DeskState, no_works}
use Rattle.ak_pool.specs.Askers.{RequestsState, nothing_asked}
use Rattle.ak_pool.specs.AskersStand.{AskersStand, request_facts}
use Rattle.ak_pool.specs.Judged.{noted, requests_noted}
use Rattle.ak_pool.specs.Facts.{facts_of}
use Rattle.ak_pool.specs.Stands.{Stands}
use Rattle.ak_pool.proofs.Askers.{asked_first, asked_next}
use Rattle.ak_pool.proofs.AskedRules.{legal_requests}
use Rattle.ak_pool.proofs.Helpers.{stands_first}
use Rattle.ak_pool.proofs.Legality.{legal_fits}
use Rattle.ak_pool.proofs.Noting.{stands_next}

-- the events behind some of a legal list
pub legal_behind : (threads askers : ℕ) (before xs ys : List Event) → AreLegalAfter threads askers before (xs ++ ys)
    → AreLegalAfter threads askers (before ++ xs) ys
legal_behind threads askers before [] ys h = rw append-nil h
legal_behind threads askers before (x ∷ xs) ys h =
    subst (λ l. AreLegalAfter threads askers l ys) (append_assoc before (x ∷ []) xs) (legal_behind threads askers (before ++ x ∷ []) xs ys h.1)

-- the front of a legal list
pub legal_front : (threads askers : ℕ) (before xs ys : List Event) → AreLegalAfter threads askers before (xs ++ ys) → AreLegalAfter threads askers before xs
legal_front threads askers before [] ys h = tt
legal_front threads askers before (x ∷ xs) ys h = (h.0, legal_front threads askers (before ++ x ∷ []) xs ys h.1)

keeps_from : (threads askers : ℕ) (P : List Event → Type 0)
    → ((xs : List Event) (e : Event) → P xs → IsLegalAfter threads askers xs e → P (xs ++ e ∷ [])) → (before ys : List Event) → P before
    → AreLegalAfter threads askers before ys → P (before ++ ys)
keeps_from threads askers P step before [] start h = rw append-nil start
keeps_from threads askers P step before (y ∷ ys) start h =
    subst P (append_assoc before (y ∷ []) ys) (keeps_from threads askers P step (before ++ y ∷ []) ys (step before y start h.0) h.1)

-- what holds at the start and is kept by each legal event holds of each legal history
pub legal_keeps : (threads askers : ℕ) (P : List Event → Type 0) → P []
    → ((xs : List Event) (e : Event) → P xs → IsLegalAfter threads askers xs e → P (xs ++ e ∷ [])) → (history : List Event)
    → Legal threads askers history → P history
legal_keeps threads askers P start step history h = keeps_from threads askers P step [] history start h

-- what a legal history leaves
pub record Left (threads askers : ℕ) (history : List Event) : Type 0 where
  pub desk : DeskState
  pub stands : Stands threads (facts_of history) desk
  pub requests : RequestsState
  pub asked : AskersStand askers (request_facts history) requests

pub left_by : (threads askers : ℕ) (history : List Event) → Legal threads askers history → Left threads askers history
left_by threads askers history h =
    legal_keeps threads askers (Left threads askers) (record {
      desk = no_works threads;
      stands = stands_first threads;
      requests = nothing_asked askers;
      asked
          = asked_first askers;
    })
    (λ xs e k is. record {
      desk = noted e k.desk;
      stands = stands_next threads xs k.desk e k.stands (legal_fits threads askers xs k.desk e k.stands is);
      requests = requests_noted e k.requests;
      asked = asked_next askers xs k.requests e k.asked (legal_requests threads askers xs k.requests e k.asked is);
    }) history h
