-- Making a turn, splitting a pass, joining two and dissolving the turn keep the rule.
use Rattle.std.proofs.Common.{◌≡◌, ◌≢◌, ℕ, zero, suc, ◌+◌, ◌^◌, ◌<◌, ◌≤◌, false, List, [], ◌∷◌, ◌++◌, length, set, Option, Some, None, sym, refl, ap, ◌∙◌, subst, inl, inr, ⊎_elim, arith}
use Rattle.std.specs.Prelude.{nat_eq}
use Rattle.std.specs.List.{IsDistinct}
use Rattle.std.proofs.lemmas.Bool.{false≢true}
use mathlib.Core.Option.{some, some-injective, some-ne-none}
use mathlib.Core.Logic.{dite}
use native.Mathlib.Decide.{ℕ_discrete}
use lib.ListN.{get_elem?}
use Rattle.atomic_table.specs.Table.{State, Splits, Joins, Final, Seen, opening}
use Rattle.atomic_table.proofs.Lists.{set_again, set_else, at_longer, at_snoc}
use Rattle.ak_turn.specs.declared.view.View.{View}
use Rattle.ak_turn.specs.declared.view.PassState.{PassState}
use Rattle.ak_turn.specs.Entries.{Each, SomeOf, total, times, events_by}
use Rattle.ak_turn.specs.Rule.{ticket_count, ticket_count_at, tickets, tickets_at, share, shares, numbers_of, times_in, KnowsLog, ViewKept, TurnKept, idle, without_pass, new_pass, newcomer}
use Rattle.ak_turn.specs.Steps.{kept_passes, given_passes, keeper, taker, shown, gathered, IsAll}
use Rattle.ak_turn.proofs.Lists.{total-set, total-push, total-append, total_two, each-append, some_left, some_right}
use Rattle.ak_turn.proofs.Entries.{distinct_times, keeper_knows, taker_knows}
use Rattle.ak_turn.proofs.Views.{has_ticket, one_ticket, same_tickets, each_stays, at_changed, same_view, away_stays, away_with}

module _ {G E : Type 0} (log_of : G → List E) (may : ℕ → E → Type 0) (fits : G → List ℕ → Type 0) (key : List ℕ) where
  abbrev St : Type 0
  St = State (Option G) (View E)

  abbrev Kept : St → Type 0
  Kept = TurnKept log_of may fits key

  only : (K : ℕ → View E → Type 0) (v : View E) → K 0 v → (j : ℕ) (w : View E) → get_elem? (v ∷ []) j ≡ some w → K j w
  only K v h zero w e = subst (K 0) (some-injective v w e) h
  only K v h (suc j) w e = absurd (some-ne-none w (sym e))

  new_shares : (ns : List ℕ) → 0 < length ns → total (shares {E = E}) (newcomer ns ∷ []) ≡ length ns
  new_shares [] h = absurd (omega arith)
  new_shares (n ∷ ns) h = grind arith

  new_times : (m : ℕ) (ns : List ℕ) → 0 < length ns → total (times_in {E = E} m) (newcomer ns ∷ []) ≡ times m ns
  new_times m [] h = absurd (omega arith)
  new_times m (n ∷ ns) h = grind arith

  new_whole : (ns : List ℕ) → 0 < length ns → SomeOf (λ (q : PassState E). q.seen ≡ []) (new_pass ns [])
  new_whole [] h = absurd (omega arith)
  new_whole (n ∷ ns) h = inl refl

  no_entries : (ns : List ℕ) → Each (λ m. events_by {E = E} m [] ≡ []) ns
  no_entries [] = tt
  no_entries (n ∷ ns) = (refl, no_entries ns)

  new_knows : (ns : List ℕ) → Each (KnowsLog {E = E} []) (new_pass ns [])
  new_knows [] = tt
  new_knows (n ∷ ns) = (record { rest = []; begins = refl; own = refl; own_seen = refl; spares = no_entries ns }, tt)

  none_shared : (ks : List (PassState E)) (P : PassState E → Type 0) → total share ks ≡ 0 → SomeOf P ks → ⊥
  none_shared [] P z h = h
  none_shared (k ∷ ks) P z h = omega arith

  pub opens : (x : G) → fits x key → log_of x ≡ [] → 0 < length key → length key < 2 ^ 32 → IsDistinct nat_eq key
      → Kept (opening (0 ∷ 0 ∷ 0 ∷ []) (Some x ∷ []) (newcomer key))
  opens x fit empty some_key few distinct =
      let v : View E = newcomer key in let K : ℕ → View E → Type 0 = λ j y. ViewKept key [] 0 (some (Some x) ∷ []) y in
      let KB : ℕ → View E → Type 0 = λ j y. Each (KnowsLog []) y.passes in record {
        log = [];
        next = 0;
        served = 0;
        words = refl;
        few = few;
        shared = new_shares key some_key;
        queue = record { one = λ t low high. absurd (omega arith); below = λ t low. refl; above = λ t high. refl; all = refl };
        each = only K v record { numbers = λ _. refl; waits = omega arith; holder = λ e. absurd (false≢true e) };
        book = record {
          numbers = λ n. new_times n key some_key;
          distinct = distinct_times key distinct;
          allowed = tt;
          short = omega arith;
          whole = (0, v, refl, new_whole key some_key);
          known = only KB v (new_knows key);
        };
        slot = inl (x, refl, fit, empty);
      }

  pub splits_keep : (id : ℕ) (v : View E) (k : PassState E) (n : ℕ) (ns : List ℕ) → v.passes ≡ k ∷ [] → k.spare ≡ n ∷ ns → Splits Kept id v (keeper v) (taker v)
  splits_keep id v k n ns single spare s r at =
      let mine = r.each id v at in let b = r.book in
      let kl : PassState E = record { number = k.number; spare = ns; seen = k.seen; mine = k.mine } in
      let kr : PassState E = record { number = n; spare = []; seen = k.seen; mine = [] } in
      let k0 : PassState E = record { number = k.number; spare = n ∷ ns; seen = k.seen; mine = k.mine } in
      let p : v.passes ≡ k0 ∷ [] = single ∙ (λ i. record { number = k.number; spare = spare i; seen = k.seen; mine = k.mine } ∷ []) in
      let lp : kept_passes v.passes ≡ kl ∷ [] = ap kept_passes p in let rp : given_passes v.passes ≡ kr ∷ [] = ap given_passes p in
      let left : View E = keeper v in let right : View E = taker v in
      let vs : List (View E) = set s.views id left in
      let sum_up : (f : View E → ℕ) → total f (vs ++ right ∷ []) + f v ≡ total f s.views + f left + f right =
      λ f. let a : total f vs + f v ≡ total f s.views + f left = total-set f s.views id v left at in
      let c : total f (vs ++ right ∷ []) ≡ total f vs + f right = total-push f vs right in omega arith in
      let v_share : shares v ≡ 2 + length ns = ap (total share) p ∙ grind arith in
      let l_share : shares left ≡ 1 + length ns = ap (total share) lp ∙ grind arith in
      let r_share : shares right ≡ 1 = ap (total share) rp in
      let numbers : v.numbers ≡ key = mine.numbers (omega arith) in
      let knows_k : KnowsLog r.log k = (subst (Each (KnowsLog r.log)) single (b.known id v at)).0 in
      let K : ℕ → View E → Type 0 = λ j y. ViewKept key r.log r.served s.homes y in
      let KB : ℕ → View E → Type 0 = λ j y. Each (KnowsLog r.log) y.passes in
      let one_waits : ticket_count v.ticket ≤ 1 = one_ticket v.ticket in record {
        log = r.log;
        next = r.next;
        served = r.served;
        words = r.words;
        few = r.few;
        shared = let m : total shares (vs ++ right ∷ []) + shares v ≡ total shares s.views + shares left + shares right = sum_up shares in
            let c : total shares s.views ≡ length key = r.shared in omega arith;
        queue = same_tickets r.served r.next s.views r.queue (vs ++ right ∷ [])
            (λ t. let m : total (tickets_at t) (vs ++ right ∷ []) + tickets_at t v ≡ total (tickets_at t) s.views + tickets_at t v + 0 =
            sum_up (tickets_at t) in omega arith)
            (let m : total tickets (vs ++ right ∷ []) + tickets v ≡ total tickets s.views + tickets v + 0 = sum_up tickets in omega arith);
        each = λ j y e. ⊎_elim
            (each_stays K K s.views id left record { numbers = λ _. numbers; waits = omega arith; holder = mine.holder } (λ i x _ d. r.each i x d) j y)
            (λ (is : right ≡ y). subst (ViewKept key r.log r.served s.homes) is record {
              numbers = λ _. numbers;
              waits = omega arith;
              holder = λ c. absurd (false≢true c);
            })
            (at_snoc vs right y j e);
        book = record {
          numbers = λ m. let t : total (times_in m) (vs ++ right ∷ []) + times_in m v ≡ total (times_in m) s.views + times_in m left
              + times_in m right = sum_up (times_in m) in
              let x : times_in m v ≡ times_in m (idle key (k0 ∷ [])) = ap (total (λ q. times m (numbers_of q))) p in
              let y : times_in m left ≡ times_in m (idle key (kl ∷ [])) = ap (total (λ q. times m (numbers_of q))) lp in
              let z : times_in m right ≡ times_in m (idle key (kr ∷ [])) = ap (total (λ q. times m (numbers_of q))) rp in
              let c : total (times_in m) s.views ≡ times m key = b.numbers m in omega arith;
          distinct = b.distinct;
          allowed = b.allowed;
          short = b.short;
          whole = let h = b.whole in dite (ℕ_discrete h.0 id)
              (λ e. let has : SomeOf (λ q. q.seen ≡ r.log) (k0 ∷ []) =
              subst (SomeOf (λ q. q.seen ≡ r.log)) (ap (λ (z : View E). z.passes) (same_view s.views h.0 id h.1 v e h.2 at) ∙ p) h.3 in (
                id,
                left,
                at_longer vs (right ∷ []) id left (at_changed s.views id v left at),
                subst (SomeOf (λ q. q.seen ≡ r.log)) (sym lp) (⊎_elim inl inr has),
              ))
              (λ ne. (h.0, h.1, at_longer vs (right ∷ []) h.0 h.1 (set_else s.views id h.0 left ne ∙ h.2), h.3));
          known = λ j y e. ⊎_elim
              (each_stays KB KB s.views id left (subst (Each (KnowsLog r.log)) (sym lp) (keeper_knows r.log k n ns spare knows_k, tt))
              (λ i x _ d. b.known i x d) j y)
              (λ (is : right ≡ y). subst (λ (z : View E). Each (KnowsLog r.log) z.passes) is
              (subst (Each (KnowsLog r.log)) (sym rp) (taker_knows r.log k n ns spare knows_k, tt)))
              (at_snoc vs right y j e);
        };
        slot = ⊎_elim inl (λ h. inr (let a = away_with s.homes s.views id v left at refl h in
            (a.0, (a.1.0, a.1.1, at_longer vs (right ∷ []) a.1.0 a.1.1 a.1.2, a.1.3)))) r.slot;
      }

  -- a new view with no pass
  shows_bare : (id : ℕ) (v w : View E) → w.passes ≡ [] → w.ticket ≡ None → w.has_turn ≡ false → Splits Kept id v v w
  shows_bare id v w bare idle free s r at =
      let b = r.book in let vs : List (View E) = s.views in
      let no_share : shares w ≡ 0 = ap (total share) bare in let no_ticket : tickets w ≡ 0 = ap ticket_count idle in
      let grown_by : (f : View E → ℕ) → f w ≡ 0 → total f (vs ++ w ∷ []) ≡ total f vs =
      λ f z. let c : total f (vs ++ w ∷ []) ≡ total f vs + f w = total-push f vs w in omega arith in
      let Q : List (View E) → Type 0 = λ l. Kept record { words = s.words; homes = s.homes; views = l ++ w ∷ [] } in
      subst Q (sym (set_again vs id v at)) record {
        log = r.log;
        next = r.next;
        served = r.served;
        words = r.words;
        few = r.few;
        shared = grown_by shares no_share ∙ r.shared;
        queue = same_tickets r.served r.next vs r.queue (vs ++ w ∷ []) (λ t. grown_by (tickets_at t) (ap (ticket_count_at t) idle))
            (grown_by tickets no_ticket);
        each = λ j y e. ⊎_elim (r.each j y)
            (λ (is : w ≡ y). subst (ViewKept key r.log r.served s.homes) is record {
              numbers = λ c. absurd (omega arith);
              waits = omega arith;
              holder = λ c. absurd (false≢true (sym free ∙ c));
            })
            (at_snoc vs w y j e);
        book = record {
          numbers = λ m. grown_by (times_in m) (ap (total (λ q. times m (numbers_of q))) bare) ∙ b.numbers m;
          distinct = b.distinct;
          allowed = b.allowed;
          short = b.short;
          whole = let h = b.whole in (h.0, h.1, at_longer vs (w ∷ []) h.0 h.1 h.2, h.3);
          known = λ j y e. ⊎_elim (b.known j y)
              (λ (is : w ≡ y). subst (λ (z : View E). Each (KnowsLog r.log) z.passes) is (subst (Each (KnowsLog r.log)) (sym bare) tt))
              (at_snoc vs w y j e);
        };
        slot = ⊎_elim inl (λ h. inr (h.0, (h.1.0, h.1.1, at_longer vs (w ∷ []) h.1.0 h.1.1 h.1.2, h.1.3))) r.slot;
      }

  pub shows_keep : (id : ℕ) (v : View E) → Splits Kept id v v (shown v)
  shows_keep id v = shows_bare id v (shown v) refl refl refl

  pub joins_keep : (id : ℕ) (v : View E) (other : ℕ) (w : View E) → 1 ≤ shares v → w.ticket ≡ None → w.has_turn ≡ false
      → Joins Kept id v other w (gathered v w) (without_pass [])
  joins_keep id v other w some_share bare free s r at ne there =
      let mine = r.each id v at in let b = r.book in
      let both : View E = gathered v w in let spent : View E = without_pass [] in
      let vs : List (View E) = set s.views id both in let ws : List (View E) = set vs other spent in
      let there' : get_elem? s.views other ≡ some w = sym (set_else s.views id other both ne) ∙ there in
      let sum_up : (f : View E → ℕ) → total f ws + f v + f w ≡ total f s.views + f both + f spent =
      λ f. let x : total f vs + f v ≡ total f s.views + f both = total-set f s.views id v both at in
      let y : total f ws + f w ≡ total f vs + f spent = total-set f vs other w spent there in omega arith in
      let K : ℕ → View E → Type 0 = λ j y. ViewKept key r.log r.served s.homes y in
      let KB : ℕ → View E → Type 0 = λ j y. Each (KnowsLog r.log) y.passes in
      let both_share : shares both ≡ shares v + shares w = total-append share v.passes w.passes in
      let w_waits : tickets w ≡ 0 = ap ticket_count bare in
      let id_other : ¬ (id ≡ other) = λ e. ne (sym e) in
      let here : get_elem? ws id ≡ some both = set_else vs other id spent id_other ∙ at_changed s.views id v both at in record {
        log = r.log;
        next = r.next;
        served = r.served;
        words = r.words;
        few = r.few;
        shared = let m : total shares ws + shares v + shares w ≡ total shares s.views + shares both + 0 = sum_up shares in
            let c : total shares s.views ≡ length key = r.shared in omega arith;
        queue = same_tickets r.served r.next s.views r.queue ws
            (λ t. let m : total (tickets_at t) ws + tickets_at t v + tickets_at t w ≡ total (tickets_at t) s.views + tickets_at t v + 0 =
            sum_up (tickets_at t) in let z : tickets_at t w ≡ 0 = ap (ticket_count_at t) bare in omega arith)
            (let m : total tickets ws + tickets v + tickets w ≡ total tickets s.views + tickets v + 0 = sum_up tickets in omega arith);
        each = each_stays K K vs other spent record { numbers = λ c. absurd (omega arith); waits = omega arith; holder = λ c. absurd (false≢true c) }
            (λ i x _ d. each_stays K K s.views id both record {
              numbers = λ _. mine.numbers some_share;
              waits = let c = mine.waits in
                  omega arith;
              holder = mine.holder;
            } (λ j y _ e. r.each j y e) i x d);
        book = record {
          numbers = λ m. let t : total (times_in m) ws + times_in m v + times_in m w ≡ total (times_in m) s.views + times_in m both + 0 = sum_up (times_in m) in
              let a : times_in m both ≡ times_in m v + times_in m w = total-append (λ q. times m (numbers_of q)) v.passes w.passes in
              let c : total (times_in m) s.views ≡ times m key = b.numbers m in omega arith;
          distinct = b.distinct;
          allowed = b.allowed;
          short = b.short;
          whole = let h = b.whole in let H : PassState E → Type 0 = λ q. q.seen ≡ r.log in dite (ℕ_discrete h.0 id)
              (λ e. (
                id,
                both,
                here,
                some_left H v.passes w.passes (subst (SomeOf H)
                    (ap (λ (z : View E). z.passes) (same_view s.views h.0 id h.1 v e h.2 at)) h.3),
              ))
              (λ far. dite (ℕ_discrete h.0 other)
              (λ e. (
                id,
                both,
                here,
                some_right H v.passes w.passes
                    (subst (SomeOf H) (ap (λ (z : View E). z.passes) (same_view s.views h.0 other h.1 w e h.2 there')) h.3),
              ))
              (λ off. (h.0, h.1, set_else vs other h.0 spent off ∙ (set_else s.views id h.0 both far ∙ h.2), h.3)));
          known = each_stays KB KB vs other spent tt
              (λ i x _ d. each_stays KB KB s.views id both
              (each-append (KnowsLog r.log) v.passes w.passes (b.known id v at) (b.known other w there'))
              (λ j y _ e. b.known j y e) i x d);
        };
        slot = ⊎_elim inl (λ h. inr (away_stays s.homes vs other w spent there free (away_with s.homes s.views id v both at refl h))) r.slot;
      }

  -- what is left when one seat has all passes
  pub ends : (id : ℕ) (v : View E) (ws : List ℕ) (xs : List (Option G)) → Final (Seen Kept id v) ws xs → shares v ≡ length key
      → v.has_turn ≡ false → (y : Option G) → get_elem? xs 0 ≡ some y → (x : G) × (y ≡ Some x) × IsAll log_of may fits key v.passes x
  ends id v ws xs h all free y is =
      let s : St = h.0 in let r = h.1.0 in let at = h.1.1 in let b = r.book in
      let bare : (j : ℕ) (w : View E) → j ≢ id → get_elem? s.views j ≡ some w → shares w ≡ 0 =
      λ j w ne e. let two : shares w + shares v ≤ total shares s.views = total_two shares s.views j id w v ne e at in
      let c : total shares s.views ≡ length key = r.shared in omega arith in
      ⊎_elim
      (λ home. let k = h.4 0 (Some home.0) (ap (λ hs. get_elem? hs 0) home.1) in (
        home.0,
        some-injective y (Some home.0) (sym is ∙ k),
        (
          r.log,
          home.2,
          home.3,
          (b.allowed, b.short),
          (let l = b.whole in dite (ℕ_discrete l.0 id)
              (λ e. subst (SomeOf (λ q. q.seen ≡ r.log)) (ap (λ (z : View E). z.passes) (same_view s.views l.0 id l.1 v e l.2 at)) l.3)
              (λ ne. absurd (none_shared l.1.passes (λ q. q.seen ≡ r.log) (bare l.0 l.1 ne l.2) l.3))),
          b.known id v at,
        ),
      ))
      (λ away. let j = away.1.0 in let w = away.1.1 in let there = away.1.2 in let has = away.1.3 in dite (ℕ_discrete j id)
      (λ e. absurd (false≢true (sym free ∙ (ap (λ (z : View E). z.has_turn) (same_view s.views id j v w (sym e) at there) ∙ has))))
      (λ ne. let z = bare j w ne there in let k = (r.each j w there).waits in
      let q : tickets w ≡ 1 = has_ticket w r.served ((r.each j w there).holder has).0 in absurd (omega arith)))
      r.slot

pub same_value : {X : Type 0} (o : Option X) (x y : X) → o ≡ Some x → o ≡ Some y → x ≡ y
same_value o x y a b = cc

pub no_value : {X : Type 0} (o : Option X) (x : X) → o ≡ Some x → o ≡ None → ⊥
no_value o x a b = cc
