-- The views of a turn's seats: their tickets, and what stays where one view changes.
use Rattle.std.proofs.Common.{◌≡◌, ◌≢◌, ℕ, zero, suc, ◌+◌, ◌<◌, ◌≤◌, cond, false, List, [], ◌∷◌, set, Option, Some, None, sym, refl, ap, ◌∙◌, subst, arith, eq-eqb, ne_eqb, ⊎_elim}
use Rattle.std.proofs.lemmas.Bool.{false≢true}
use mathlib.Core.Option.{some, some-injective, some-ne-none}
use mathlib.Core.Option as maybe
use mathlib.Core.Logic.{dite}
use native.Mathlib.Decide.{ℕ_discrete, dec_le}
use lib.ListN.{get_elem?}
use Rattle.atomic_table.proofs.Lists.{at_set, set_else}
use Rattle.ak_turn.specs.declared.view.View.{View}
use Rattle.ak_turn.specs.Entries.{Each, SomeOf, total, times}
use Rattle.ak_turn.specs.Rule.{ticket_count, ticket_count_at, tickets, tickets_at, numbers_of, times_in, TicketsKept, KnowsLog, IsSeenWhole, LogKept, IsAway}
use Rattle.ak_turn.proofs.Lists.{total-set, total_has, total_two}

value : Option ℕ → ℕ
value None = 0
value (Some t) = t

pub some_is : (t u : ℕ) → Some t ≡ Some u → t ≡ u
unfolding value
some_is t u e = ap value e

pub none_some : (t : ℕ) → None ≡ Some t → ⊥
none_some t e = cc

pub ticket_same : (t : ℕ) (o : Option ℕ) → o ≡ Some t → ticket_count_at t o ≡ 1
ticket_same t o e = ap (ticket_count_at t) e ∙ ap (λ b. cond b 1 0) (eq-eqb t t refl)

pub ticket_other : (t u : ℕ) → u ≢ t → ticket_count_at t (Some u) ≡ 0
ticket_other t u n = ap (λ b. cond b 1 0) (ne_eqb u t n)

pub one_ticket : (o : Option ℕ) → ticket_count o ≤ 1
one_ticket None = omega arith
one_ticket (Some t) = omega arith

counted : (t : ℕ) (o : Option ℕ) → 1 ≤ ticket_count_at t o → o ≡ Some t
counted t None h = absurd (omega arith)
counted t (Some u) h = dite (ℕ_discrete u t) (λ e. ap Some e) (λ ne. let z : ticket_count_at t (Some u) ≡ 0 = ticket_other t u ne in absurd (omega arith))

module _ {E : Type 0} where
  pub has_ticket : (v : View E) (t : ℕ) → v.ticket ≡ Some t → tickets v ≡ 1
  has_ticket v t e = ap ticket_count e

  pub ticket_is : (v : View E) (t : ℕ) → 1 ≤ tickets_at t v → v.ticket ≡ Some t
  ticket_is v t h = counted t v.ticket h

  module _ (served next : ℕ) (vs : List (View E)) (q : TicketsKept served next vs) where
    -- no two views have one ticket
    pub at_most_one : (t : ℕ) → total (tickets_at t) vs ≤ 1
    at_most_one t = dite (dec_le served t)
        (λ low. dite (dec_le next t)
        (λ high. let z : total (tickets_at t) vs ≡ 0 = q.above t high in omega arith)
        (λ high. let z : total (tickets_at t) vs ≡ 1 = q.one t low (omega arith) in omega arith))
        (λ low. let z : total (tickets_at t) vs ≡ 0 = q.below t (omega arith) in omega arith)

    -- a ticket that a view has was drawn and not yet handed on
    pub drawn : (j : ℕ) (v : View E) (t : ℕ) → get_elem? vs j ≡ some v → v.ticket ≡ Some t → (served ≤ t) × (t < next)
    drawn j v t at mine =
        let has : tickets_at t v ≤ total (tickets_at t) vs = total_has (tickets_at t) vs j v at in
        let is : tickets_at t v ≡ 1 = ticket_same t v.ticket mine in (
          dite (dec_le served t) (λ low. low) (λ low. let z : total (tickets_at t) vs ≡ 0 = q.below t (omega arith) in absurd (omega arith)),
          dite (dec_le next t) (λ high. let z : total (tickets_at t) vs ≡ 0 = q.above t high in absurd (omega arith)) (λ high. omega arith),
        )

    -- two seats with one ticket are one seat
    pub one_seat : (i j : ℕ) (v w : View E) (t : ℕ) → get_elem? vs i ≡ some v → get_elem? vs j ≡ some w → v.ticket ≡ Some t → w.ticket ≡ Some t → i ≡ j
    one_seat i j v w t a b c d = dite (ℕ_discrete i j) (λ e. e) (λ n.
        let two : tickets_at t v + tickets_at t w ≤ total (tickets_at t) vs = total_two (tickets_at t) vs i j v w n a b in
        let one : total (tickets_at t) vs ≤ 1 = at_most_one t in
        let x : tickets_at t v ≡ 1 = ticket_same t v.ticket c in
        let y : tickets_at t w ≡ 1 = ticket_same t w.ticket d in
        absurd (omega arith))

    -- views that have the same tickets
    pub same_tickets : (ws : List (View E)) → ((t : ℕ) → total (tickets_at t) ws ≡ total (tickets_at t) vs)
        → total tickets ws ≡ total tickets vs → TicketsKept served next ws
    same_tickets ws at all = record {
      one = λ t low high. at t ∙ q.one t low high;
      below = λ t low. at t ∙ q.below t low;
      above = λ t high. at t ∙ q.above t high;
      all = let e : served + total tickets vs ≡ next = q.all in omega arith;
    }

    -- one view changes, and has the same ticket
    pub ticket_stays : (id : ℕ) (v w : View E) → get_elem? vs id ≡ some v → w.ticket ≡ v.ticket → TicketsKept served next (set vs id w)
    ticket_stays id v w at same = same_tickets (set vs id w)
        (λ t. let m : total (tickets_at t) (set vs id w) + tickets_at t v ≡ total (tickets_at t) vs + tickets_at t w = total-set (tickets_at t) vs id v w at in
        let e : tickets_at t w ≡ tickets_at t v = ap (ticket_count_at t) same in omega arith)
        (let m : total tickets (set vs id w) + tickets v ≡ total tickets vs + tickets w = total-set tickets vs id v w at in
        let e : tickets w ≡ tickets v = ap ticket_count same in omega arith)

    -- a view that has no ticket draws the next
    pub ticket_drawn : (id : ℕ) (v w : View E) → get_elem? vs id ≡ some v → v.ticket ≡ None → w.ticket ≡ Some next → TicketsKept served (next + 1) (set vs id w)
    ticket_drawn id v w at bare has =
        let sum_up : (t : ℕ) → total (tickets_at t) (set vs id w) ≡ total (tickets_at t) vs + ticket_count_at t (Some next) = λ t.
        let m : total (tickets_at t) (set vs id w) + tickets_at t v ≡ total (tickets_at t) vs + tickets_at t w = total-set (tickets_at t) vs id v w at in
        let a : tickets_at t v ≡ 0 = ap (ticket_count_at t) bare in
        let b : tickets_at t w ≡ ticket_count_at t (Some next) = ap (ticket_count_at t) has in omega arith in
        let same : (t : ℕ) → next ≢ t → total (tickets_at t) (set vs id w) ≡ total (tickets_at t) vs = λ t ne. let a = sum_up t in
        let b : ticket_count_at t (Some next) ≡ 0 = ticket_other t next ne in omega arith in
        let all : served + total tickets vs ≡ next = q.all in record {
          one = λ t low high. dite (ℕ_discrete next t)
              (λ e. let a = sum_up t in let b : ticket_count_at t (Some next) ≡ 1 = ticket_same t (Some next) (ap Some e) in
              let c : total (tickets_at t) vs ≡ 0 = q.above t (omega arith) in omega arith)
              (λ ne. same t ne ∙ q.one t low (omega arith));
          below = λ t low. same t (λ e. omega arith) ∙ q.below t low;
          above = λ t high. same t (λ e. omega arith) ∙ q.above t (omega arith);
          all = let m : total tickets (set vs id w) + tickets v ≡ total tickets vs + tickets w = total-set tickets vs id v w at in
              let a : tickets v ≡ 0 = ap ticket_count bare in let b : tickets w ≡ 1 = ap ticket_count has in omega arith;
        }

    -- the view with the ticket served gives it up
    pub ticket_served : (id : ℕ) (v w : View E) → get_elem? vs id ≡ some v → v.ticket ≡ Some served → w.ticket ≡ None
        → TicketsKept (served + 1) next (set vs id w)
    ticket_served id v w at has bare =
        let sum_up : (t : ℕ) → total (tickets_at t) (set vs id w) + ticket_count_at t (Some served) ≡ total (tickets_at t) vs = λ t.
        let m : total (tickets_at t) (set vs id w) + tickets_at t v ≡ total (tickets_at t) vs + tickets_at t w = total-set (tickets_at t) vs id v w at in
        let a : tickets_at t w ≡ 0 = ap (ticket_count_at t) bare in
        let b : tickets_at t v ≡ ticket_count_at t (Some served) = ap (ticket_count_at t) has in omega arith in
        let same : (t : ℕ) → served ≢ t → total (tickets_at t) (set vs id w) ≡ total (tickets_at t) vs = λ t ne. let a = sum_up t in
        let b : ticket_count_at t (Some served) ≡ 0 = ticket_other t served ne in omega arith in
        let first : total (tickets_at served) vs ≡ 1 = let d = drawn id v served at has in q.one served d.0 d.1 in
        let all : served + total tickets vs ≡ next = q.all in record {
          one = λ t low high. same t (λ e. omega arith) ∙ q.one t (omega arith) high;
          below = λ t low. dite (ℕ_discrete served t)
              (λ e. let gone : total (tickets_at served) (set vs id w) ≡ 0 = let a = sum_up served in
              let b : ticket_count_at served (Some served) ≡ 1 = ticket_same served (Some served) refl in omega arith in
              subst (λ k. total (tickets_at k) (set vs id w) ≡ 0) e gone)
              (λ ne. same t ne ∙ q.below t (omega arith));
          above = λ t high. same t (λ e. let d = drawn id v served at has in let l : served < next = d.1 in omega arith) ∙ q.above t high;
          all = let m : total tickets (set vs id w) + tickets v ≡ total tickets vs + tickets w = total-set tickets vs id v w at in
              let a : tickets v ≡ 1 = ap ticket_count has in let b : tickets w ≡ 0 = ap ticket_count bare in omega arith;
        }

  -- of all views, where one has changed
  pub each_stays : (K L : ℕ → View E → Type 0) (vs : List (View E)) (id : ℕ) (w : View E) → L id w
      → ((j : ℕ) (v : View E) → j ≢ id → get_elem? vs j ≡ some v → L j v)
      → (j : ℕ) (v : View E) → get_elem? (set vs id w) j ≡ some v → L j v
  each_stays K L vs id w mine others j v e = ⊎_elim (λ (t : (j ≡ id) × (w ≡ v)). subst (λ (x : ℕ × View E). L x.0 x.1) (λ i. (sym t.0 i, t.1 i)) mine)
      (λ (t : (j ≢ id) × (get_elem? vs j ≡ some v)). others j v t.0 t.1) (at_set vs id j w v e)

  pub at_changed : (vs : List (View E)) (id : ℕ) (v w : View E) → get_elem? vs id ≡ some v → get_elem? (set vs id w) id ≡ some w
  at_changed [] id v w e = absurd (some-ne-none v (sym e))
  at_changed (x ∷ xs) zero v w e = refl
  at_changed (x ∷ xs) (suc i) v w e = at_changed xs i v w e

  pub same_view : (vs : List (View E)) (i j : ℕ) (v w : View E) → i ≡ j → get_elem? vs i ≡ some v → get_elem? vs j ≡ some w → v ≡ w
  same_view vs i j v w e a b = some-injective v w (sym a ∙ (ap (get_elem? vs) e ∙ b))

  whole_stays : (f : List (ℕ × E)) (vs : List (View E)) (id : ℕ) (v w : View E) → get_elem? vs id ≡ some v → w.passes ≡ v.passes
      → IsSeenWhole f vs → IsSeenWhole f (set vs id w)
  whole_stays f vs id v w at same h = dite (ℕ_discrete h.0 id)
      (λ e. (
        id,
        w,
        at_changed vs id v w at,
        subst (SomeOf (λ k. k.seen ≡ f)) (ap (λ (z : View E). z.passes) (same_view vs h.0 id h.1 v e h.2 at) ∙ sym same) h.3,
      ))
      (λ ne. (h.0, h.1, set_else vs id h.0 w ne ∙ h.2, h.3))

  -- a step that leaves the passes of each view as they are
  pub book_stays : (may : ℕ → E → Type 0) (key : List ℕ) (f : List (ℕ × E)) (vs : List (View E)) (id : ℕ) (v w : View E)
      → get_elem? vs id ≡ some v → w.passes ≡ v.passes → LogKept may key f vs → LogKept may key f (set vs id w)
  book_stays may key f vs id v w at same b = record {
    numbers = λ n. let m : total (times_in n) (set vs id w) + times_in n v ≡ total (times_in n) vs + times_in n w = total-set (times_in n) vs id v w at in
        let e : times_in n w ≡ times_in n v = ap (total (λ k. times n (numbers_of k))) same in
        let c : total (times_in n) vs ≡ times n key = b.numbers n in omega arith;
    distinct = b.distinct;
    allowed = b.allowed;
    short = b.short;
    whole = whole_stays f vs id v w at same b.whole;
    known = let K : ℕ → View E → Type 0 = λ j x. Each (KnowsLog f) x.passes in
        each_stays K K vs id w (subst (Each (KnowsLog f)) (sym same) (b.known id v at)) (λ j x _ e. b.known j x e);
  }

module _ {G E : Type 0} where
  -- a seat that has not the turn changes, or one that keeps it
  pub away_stays : (homes : List (maybe.Option (Option G))) (vs : List (View E)) (id : ℕ) (v w : View E) → get_elem? vs id ≡ some v
      → v.has_turn ≡ false → IsAway homes vs → IsAway homes (set vs id w)
  away_stays homes vs id v w at free h = (
    h.0,
    (
      h.1.0,
      h.1.1,
      set_else vs id h.1.0 w
          (λ e. false≢true (sym free ∙ (ap (λ (z : View E). z.has_turn)
          (some-injective v h.1.1 (sym at ∙ (ap (get_elem? vs) (sym e) ∙ h.1.2))) ∙ h.1.3))) ∙ h.1.2,
      h.1.3,
    ),
  )

  pub away_with : (homes : List (maybe.Option (Option G))) (vs : List (View E)) (id : ℕ) (v w : View E) → get_elem? vs id ≡ some v
      → w.has_turn ≡ v.has_turn → IsAway homes vs → IsAway homes (set vs id w)
  away_with homes vs id v w at same h = dite (ℕ_discrete h.1.0 id)
      (λ e. (h.0, (id, w, at_changed vs id v w at, same ∙ (ap (λ (z : View E). z.has_turn) (same_view vs id h.1.0 v h.1.1 (sym e) at h.1.2) ∙ h.1.3))))
      (λ ne. (h.0, (h.1.0, h.1.1, set_else vs id h.1.0 w ne ∙ h.1.2, h.1.3)))
