-- What the rule of a turn comes to: laws of each state in which it holds. The sums of the rule are read as facts of single views.
use Rattle.std.proofs.Common.{◌≡◌, ℕ, ◌+◌, ◌^◌, ◌<◌, ◌≤◌, true, List, [], Option, Some, None, refl, ap, arith}
use Rattle.std.specs.Prelude.{Contains}
use mathlib.Core.Option.{some}
use mathlib.Core.Logic.{dite}
use native.Mathlib.Decide.{ℕ_discrete}
use lib.ListN.{get_elem?}
use Rattle.atomic_table.specs.Table.{State}
use Rattle.ak_turn.specs.declared.view.View.{View}
use Rattle.ak_turn.specs.Entries.{total, times}
use Rattle.ak_turn.specs.Rule.{ticket_count, tickets, tickets_at, share, shares, times_in, TurnKept}
use Rattle.ak_turn.proofs.Lists.{total_has, total_two, total_some}
use Rattle.ak_turn.proofs.Entries.{times_contains}
use Rattle.ak_turn.proofs.Views.{ticket_is, drawn, one_seat}
use Rattle.ak_turn.proofs.Keeps.{in_one_turn}

no_ticket : (o : Option ℕ) → ticket_count o ≡ 0 → o ≡ None
no_ticket None h = refl
no_ticket (Some t) h = absurd (omega arith)

module _ {G E : Type 0} (log_of : G → List E) (may : ℕ → E → Type 0) (fits : G → List ℕ → Type 0) (key : List ℕ)
    (s : State (Option G) (View E)) (r : TurnKept log_of may fits key s) where
  -- some view has each ticket from the one served to the last one drawn
  pub each_ticket_waits : (t : ℕ) → r.served ≤ t → t < r.next → (j : ℕ) × (v : View E) × (get_elem? s.views j ≡ some v) × (v.ticket ≡ Some t)
  each_ticket_waits t low high =
      let one : total (tickets_at t) s.views ≡ 1 = r.queue.one t low high in
      let found = total_some (tickets_at t) s.views (omega arith) in (found.0, found.1, found.2, ticket_is found.1 t found.3)

  -- no second view has it
  pub one_view_each : (i j : ℕ) (v w : View E) (t : ℕ) → get_elem? s.views i ≡ some v → get_elem? s.views j ≡ some w → v.ticket ≡ Some t
      → w.ticket ≡ Some t → i ≡ j
  one_view_each = one_seat r.served r.next s.views r.queue

  -- no view has a ticket beyond these
  pub no_other_ticket : (j : ℕ) (v : View E) (t : ℕ) → get_elem? s.views j ≡ some v → v.ticket ≡ Some t → (r.served ≤ t) × (t < r.next)
  no_other_ticket = drawn r.served r.next s.views r.queue

  -- fewer than 2^32 are out, so no two of them are the same modulo 2^64
  pub no_full_turn : r.next < r.served + 2 ^ 32
  no_full_turn = in_one_turn log_of may fits key s r

  -- one view at most has the turn
  pub one_holder : (i j : ℕ) (v w : View E) → get_elem? s.views i ≡ some v → get_elem? s.views j ≡ some w → v.has_turn ≡ true → w.has_turn ≡ true → i ≡ j
  one_holder i j v w a b has its = one_view_each i j v w r.served a b ((r.each i v a).holder has).0 ((r.each j w b).holder its).0

  -- a view without a pass has no ticket
  pub spent_has_no_ticket : (j : ℕ) (v : View E) → get_elem? s.views j ≡ some v → v.passes ≡ [] → v.ticket ≡ None
  spent_has_no_ticket j v at bare = let w : tickets v ≤ shares v = (r.each j v at).waits in
      let z : shares v ≡ 0 = ap (total share) bare in no_ticket v.ticket (omega arith)

  -- a number stands in one view at most, once at most, and then in the list of numbers
  pub one_view_a_number : (i j : ℕ) (v w : View E) (n : ℕ) → get_elem? s.views i ≡ some v → get_elem? s.views j ≡ some w
      → 1 ≤ times_in n v → 1 ≤ times_in n w → i ≡ j
  one_view_a_number i j v w n a b has its = dite (ℕ_discrete i j) (λ e. e) (λ ne.
      let two : times_in n v + times_in n w ≤ total (times_in n) s.views = total_two (times_in n) s.views i j v w ne a b in
      let all : total (times_in n) s.views ≡ times n key = r.book.numbers n in let once : times n key ≤ 1 = r.book.distinct n in absurd (omega arith))

  pub each_number_once : (j : ℕ) (v : View E) (n : ℕ) → get_elem? s.views j ≡ some v → times_in n v ≤ 1
  each_number_once j v n at =
      let has : times_in n v ≤ total (times_in n) s.views = total_has (times_in n) s.views j v at in
      let all : total (times_in n) s.views ≡ times n key = r.book.numbers n in let once : times n key ≤ 1 = r.book.distinct n in omega arith

  pub each_number_listed : (j : ℕ) (v : View E) (n : ℕ) → get_elem? s.views j ≡ some v → 1 ≤ times_in n v → Contains key n
  each_number_listed j v n at has =
      let most : times_in n v ≤ total (times_in n) s.views = total_has (times_in n) s.views j v at in
      let all : total (times_in n) s.views ≡ times n key = r.book.numbers n in times_contains n key (omega arith)
