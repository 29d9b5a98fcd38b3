-- Drawing, looking, logging and handing on keep the rule.
use Rattle.std.proofs.Common.{◌≡◌, ℕ, ◌+◌, ◌%◌, ◌^◌, ◌<◌, ◌≤◌, cond, true, false, List, [], ◌∷◌, ◌++◌, length, drop, get_or, set, Option, Some, None, sym, refl, ap, ◌∙◌, subst, inl, inr, ⊎_elim, arith, eq-eqb}
use Rattle.std.proofs.lemmas.Bool.{false≢true}
use Rattle.std.proofs.Math.Nat.{mod-add-mod}
use mathlib.Core.Option.{some, none}
use mathlib.Core.Logic.{dite}
use native.Mathlib.Decide.{ℕ_discrete}
use lib.ListN.{get_elem?}
use lib.Seq.{set-get_or}
use Rattle.atomic_table.specs.Table.{State, Me, step, Act, keeps, takes, gives, stepped, Allows, Valid, carried_after, put_back}
use Rattle.atomic_table.proofs.Lists.{set_again, one_turn}
use Rattle.ak_turn.specs.declared.view.View.{View}
use Rattle.ak_turn.specs.declared.view.PassState.{PassState}
use Rattle.ak_turn.specs.Entries.{Each, total, times, events, entries, IsAllowed}
use Rattle.ak_turn.specs.Rule.{tickets, share, shares, numbers_of, times_in, KnowsLog, ViewKept, IsHome, TurnKept}
use Rattle.ak_turn.specs.Steps.{with_ticket, with_turn, handed_on, with_events, grown, logged, Draws, HandsOn, news, Logs, Entered, Looks}
use Rattle.ak_turn.proofs.Lists.{total-set, total_has, total_two, total_le, each-append}
use Rattle.ak_turn.proofs.Entries.{drop_events, length_grown, allowed_entries, times_contains, own_knows, others_know}
use Rattle.ak_turn.proofs.Views.{some_is, has_ticket, drawn, one_seat, ticket_stays, ticket_drawn, ticket_served, each_stays, at_changed, same_view, book_stays, away_stays}

module _ {G E : Type 0} (log_of : G → List E) (may : ℕ → E → Type 0) (fits : G → List ℕ → Type 0) (key : List ℕ) where
  abbrev St : Type 0
  St = State (Option G) (View E)

  abbrev M : Type 0
  M = Me (Option G) (View E)

  abbrev Kept : St → Type 0
  Kept = TurnKept log_of may fits key

  -- all tickets lie within one turn of the count
  pub in_one_turn : (s : St) (r : Kept s) → r.next < r.served + 2 ^ 32
  in_one_turn s r =
      let a : total tickets s.views ≤ total shares s.views = total_le tickets shares s.views (λ i v e. (r.each i v e).waits) in
      let b : total shares s.views ≡ length key = r.shared in
      let c : length key < 2 ^ 32 = r.few in
      let d : r.served + total tickets s.views ≡ r.next = r.queue.all in omega arith

  -- a view changes, and has as many numbers
  shares_stay : (s : St) (r : Kept s) (id : ℕ) (v w : View E) → get_elem? s.views id ≡ some v → shares w ≡ shares v
      → total shares (set s.views id w) ≡ length key
  shares_stay s r id v w at same = let m : total shares (set s.views id w) + shares v ≡ total shares s.views + shares w =
      total-set shares s.views id v w at in let b : total shares s.views ≡ length key = r.shared in omega arith

  pub draws_keep : (slots id : ℕ) (me : M) → me.0.ticket ≡ None → me.0.has_turn ≡ false → 1 ≤ shares me.0
      → Allows Kept slots id me 0 (λ n. (n + 1) % 2 ^ 64) (Draws (step slots 0 1 0 none) me)
  draws_keep slots id me bare free share s r _ at _ =
      let v : View E = me.0 in let n : ℕ = r.next in let w : View E = with_ticket v n in
      let K : ℕ → View E → Type 0 = λ j x. ViewKept key r.log r.served s.homes x in (
        w,
        keeps,
        tt,
        record {
          log = r.log;
          next = n + 1;
          served = r.served;
          words = ap (λ ws. set ws 0 ((get_or ws 0 0 + 1) % 2 ^ 64)) r.words ∙ ap (λ (k : ℕ). k ∷ r.served % 2 ^ 64 ∷ length r.log ∷ [])
              (mod-add-mod n (2 ^ 64) 1);
          few = r.few;
          shared = shares_stay s r id v w at refl;
          queue = ticket_drawn r.served n s.views r.queue id v w at bare refl;
          each = each_stays K K s.views id w record {
            numbers = (r.each id v at).numbers;
            waits = share;
            holder = λ e. absurd (false≢true (sym free ∙ e));
          } (λ j x _ e. r.each j x e);
          book = book_stays may key r.log s.views id v w at refl r.book;
          slot = ⊎_elim inl (λ h. inr (away_stays s.homes s.views id v w at free h)) r.slot;
        },
        (n, refl, ap (λ ws. get_or ws 0 0) r.words),
      )

  -- a step that changes nothing
  unmoved : (s : St) (r : Kept s) (i id : ℕ) (me : M) → get_elem? s.views id ≡ some me.0 → Kept (stepped s i (get_or s.words i 0) id me.1 me.0 keeps)
  unmoved s r i id me at = subst (λ (x : List ℕ × List (View E)). Kept record { words = x.0; homes = s.homes; views = x.1 })
      (λ k. (sym (set-get_or s.words i 0) k, sym (set_again s.views id me.0 at) k)) r

  takes_turn : (slots id : ℕ) (me : M) (t : ℕ) → me.0.ticket ≡ Some t → me.0.has_turn ≡ false → (s : St) (r : Kept s)
      → get_elem? s.views id ≡ some me.0 → t ≡ r.served → IsHome log_of may fits key r.log s.homes
      → (w : View E) × (a : Act (Option G)) × Valid s.homes me.1 a × Kept (stepped s 1 (get_or s.words 1 0) id me.1 w a)
      × Entered log_of may fits me (w, carried_after me.1 a)
  takes_turn slots id me t mine free s r at is home =
      let v : View E = me.0 in let w : View E = with_turn v r.log in let x : G = home.0 in
      let gone : set s.homes 0 none ≡ none ∷ [] = ap (λ hs. set hs 0 none) home.1 in
      let ticket : v.ticket ≡ Some r.served = mine ∙ ap Some is in
      let some_share : 1 ≤ shares v = let k = (r.each id v at).waits in let q : tickets v ≡ 1 = has_ticket v t mine in omega arith in
      let numbers : v.numbers ≡ key = (r.each id v at).numbers some_share in
      let K : ℕ → View E → Type 0 = λ j y. ViewKept key r.log r.served s.homes y in
      let L : ℕ → View E → Type 0 = λ j y. ViewKept key r.log r.served (set s.homes 0 none) y in (
        w,
        takes 0 (Some x),
        ap (λ hs. get_elem? hs 0) home.1,
        record {
          log = r.log;
          next = r.next;
          served = r.served;
          words = set-get_or s.words 1 0 ∙ r.words;
          few = r.few;
          shared = shares_stay s r id v w at refl;
          queue = ticket_stays r.served r.next s.views r.queue id v w at refl;
          each = each_stays K L s.views id w (let k = r.each id v at in record { numbers = k.numbers; waits = k.waits; holder = λ _. (ticket, gone, refl) })
              (λ j y other e. let k = r.each j y e in record {
                numbers = k.numbers;
                waits = k.waits;
                holder = λ has. absurd (other (one_seat r.served r.next s.views r.queue j id y v r.served e at (k.holder has).0 ticket));
              });
          book = book_stays may key r.log s.views id v w at refl r.book;
          slot = inr (gone, (id, w, at_changed s.views id v w at, refl));
        },
        (
          x,
          r.log,
          refl,
          subst (fits x) (sym numbers) home.2,
          home.3,
          (subst (λ l. Each (IsAllowed may l) r.log) (sym numbers) r.book.allowed, r.book.short),
          r.book.known id v at,
        ),
      )

  pub looks_keep : (slots id : ℕ) (me : M) (t : ℕ) → me.0.ticket ≡ Some t → me.0.has_turn ≡ false
      → Allows Kept slots id me 1 (λ n. n) (Looks log_of may fits (step slots 1 0 0 none) me)
  looks_keep slots id me t mine free s r _ at _ =
      let v : View E = me.0 in let n : ℕ = get_or s.words 1 0 in let found : n ≡ r.served % 2 ^ 64 = ap (λ ws. get_or ws 1 0) r.words in
      dite (ℕ_discrete n (t % 2 ^ 64))
      (λ e. let near = in_one_turn s r in let d = drawn r.served r.next s.views r.queue id v t at mine in let low : r.served ≤ t = d.0 in
      let high : t < r.next = d.1 in
      let is : r.served ≡ t = one_turn r.served t (2 ^ 64) low (omega arith) (sym found ∙ e) in
      ⊎_elim
      (λ home. let k = takes_turn slots id me t mine free s r at (sym is) home in
      (k.0, k.1, k.2, k.3, λ u c. (λ _. k.4, λ ne. absurd (ne (e ∙ ap (λ (z : ℕ). z % 2 ^ 64) (some_is t u (sym mine ∙ c)))))))
      (λ away. let j = away.1.0 in let w = away.1.1 in let there = away.1.2 in let has = away.1.3 in
      let ticket = ((r.each j w there).holder has).0 in
      let same : id ≡ j = one_seat r.served r.next s.views r.queue id j v w r.served at there (mine ∙ ap Some (sym is)) ticket in
      absurd (false≢true (sym free ∙ (ap (λ (z : View E). z.has_turn) (same_view s.views id j v w same at there) ∙ has))))
      r.slot)
      (λ ne. (v, keeps, tt, unmoved s r 1 id me at, λ u c. (λ e. absurd (ne (e ∙ ap (λ (z : ℕ). z % 2 ^ 64) (some_is u t (sym c ∙ mine)))), λ _. refl)))

  pub hands_keep : (slots id : ℕ) (me : M) (x : G) (t new : ℕ) → me.0.has_turn ≡ true → me.0.ticket ≡ Some t → new ≡ (t + 1) % 2 ^ 64
      → me.1 ≡ (0, Some x) ∷ [] → fits x me.0.numbers → log_of x ≡ events me.0.was
      → Allows Kept slots id me 1 (λ _. new) (λ _. HandsOn (step slots 1 new 0 none) me new)
  hands_keep slots id me x t new has its next slot fit logs s r _ at _ =
      let v : View E = me.0 in let w : View E = handed_on v in let mine = r.each id v at in let held = mine.holder has in let ticket = held.0 in
      let is : t ≡ r.served = some_is t r.served (sym its ∙ ticket) in
      let back : put_back s.homes me.1 ≡ some (Some x) ∷ [] = ap (put_back s.homes) slot ∙ ap (λ hs. set hs 0 (some (Some x))) held.1 in
      let some_share : 1 ≤ shares v = let k = mine.waits in let q : tickets v ≡ 1 = has_ticket v r.served ticket in omega arith in
      let K : ℕ → View E → Type 0 = λ j y. ViewKept key r.log r.served s.homes y in
      let L : ℕ → View E → Type 0 = λ j y. ViewKept key r.log (r.served + 1) (put_back s.homes me.1) y in (
        w,
        gives,
        tt,
        record {
          log = r.log;
          next = r.next;
          served = r.served + 1;
          words = ap (λ ws. set ws 1 new) r.words ∙ ap (λ (k : ℕ). r.next % 2 ^ 64 ∷ k ∷ length r.log ∷ []) (next ∙ ap (λ (z : ℕ). (z + 1) % 2 ^ 64) is);
          few = r.few;
          shared = shares_stay s r id v w at refl;
          queue = ticket_served r.served r.next s.views r.queue id v w at ticket refl;
          each = each_stays K L s.views id w record {
            numbers = mine.numbers;
            waits = omega arith;
            holder = λ e. absurd (false≢true e);
          } (λ j y other e. let k = r.each j y e in record {
            numbers = k.numbers;
            waits = k.waits;
            holder = λ its. absurd (other (one_seat r.served r.next s.views r.queue j id y v r.served e at (k.holder its).0 ticket));
          });
          book = book_stays may key r.log s.views id v w at refl r.book;
          slot = inl (x, back, subst (fits x) (mine.numbers some_share) fit, logs ∙ ap events held.2);
        },
        refl,
      )

  -- the holder writes the length of the log, which is now that of the value in its slot
  pub logs_keep : (slots id : ℕ) (me : M) (x : G) (k : PassState E) (es : List E) (new : ℕ) → me.0.has_turn ≡ true
      → me.1 ≡ (0, Some x) ∷ [] → me.0.passes ≡ k ∷ [] → log_of x ≡ events me.0.was ++ es
      → Each (may k.number) es → new ≡ length (log_of x) → new < 2 ^ 63
      → Allows Kept slots id me 2 (λ _. new) (λ _. Logs log_of may (step slots 2 new 0 none) me new)
  logs_keep slots id me x k es new has slot single are fair count short s r _ at _ =
      let v : View E = me.0 in let mine = r.each id v at in let held = mine.holder has in let ticket = held.0 in let n : ℕ = k.number in
      let f : List (ℕ × E) = v.was ++ entries n es in
      let k' : PassState E = record { number = n; spare = k.spare; seen = f; mine = k.mine ++ es } in
      let w : View E = record { numbers = v.numbers; passes = k' ∷ []; ticket = v.ticket; has_turn = v.has_turn; was = f } in
      let new_is : news log_of v.was me.1 ≡ es = ap (news log_of v.was) slot ∙ (ap (drop (length v.was)) are ∙ drop_events v.was es) in
      let same : w ≡ logged v
      (news log_of v.was me.1) = (λ i. record {
        numbers = v.numbers;
        passes = with_events (sym single i) v.was es;
        ticket = v.ticket;
        has_turn = v.has_turn;
        was = grown (sym single i) v.was es;
      }) ∙ ap (logged v) (sym new_is) in
      let share_is : shares v ≡ shares w = ap (total share) single in
      let grows : r.log ++ entries n es ≡ f = ap (λ l. l ++ entries n es) (sym held.2) in
      let length_is : new ≡ length f = count ∙ (ap length are ∙ length_grown n v.was es) in
      let b = r.book in
      let in_is : (m : ℕ) → times_in m v ≡ times_in m w = λ m. ap (total (λ q. times m (numbers_of q))) single in
      let near : times_in n v ≤ times n key = let a : times_in n v ≤ total (times_in n) s.views =
      total_has (times_in n) s.views id v at in let c = b.numbers n in omega arith in
      let once : times n (numbers_of k) ≡ 1 + times n k.spare = ap (λ z. cond z 1 0 + times n k.spare) (eq-eqb n n refl) in
      let mine_is : times_in n v ≡ 1 + times n k.spare = let a : times_in n v ≡ times_in n w = in_is n in
      let c : times_in n w ≡ times n (numbers_of k) + 0 = refl in omega arith in
      let spare_free : times n k.spare ≡ 0 = let d = b.distinct n in omega arith in
      let allowed : Each (IsAllowed may key) f =
      subst (Each (IsAllowed may key)) grows
      (each-append (IsAllowed may key) r.log (entries n es) b.allowed
      (allowed_entries may key n es (times_contains n key (omega arith)) fair)) in
      let short' : length f < 2 ^ 63 = omega arith in
      let numbers : v.numbers ≡ key = mine.numbers (let a = mine.waits in let q : tickets v ≡ 1 = has_ticket v r.served ticket in omega arith) in
      let knows_k : KnowsLog r.log k = (subst (Each (KnowsLog r.log)) single (b.known id v at)).0 in
      let K : ℕ → View E → Type 0 = λ j y. ViewKept key r.log r.served s.homes y in
      let L : ℕ → View E → Type 0 = λ j y. ViewKept key f r.served s.homes y in
      let KB : ℕ → View E → Type 0 = λ j y. Each (KnowsLog r.log) y.passes in
      let LB : ℕ → View E → Type 0 = λ j y. Each (KnowsLog f) y.passes in (
        w,
        keeps,
        tt,
        record {
          log = f;
          next = r.next;
          served = r.served;
          words = ap (λ ws. set ws 2 new) r.words ∙ ap (λ (z : ℕ). r.next % 2 ^ 64 ∷ r.served % 2 ^ 64 ∷ z ∷ []) length_is;
          few = r.few;
          shared = shares_stay s r id v w at (sym share_is);
          queue = ticket_stays r.served r.next s.views r.queue id v w at refl;
          each = each_stays K L s.views id w record {
            numbers = λ l. mine.numbers (let c = share_is in omega arith);
            waits = let c = mine.waits in let d = share_is in omega arith;
            holder = λ _. (ticket, held.1, refl);
          } (λ j y other e. let q = r.each j y e in record {
            numbers = q.numbers;
            waits = q.waits;
            holder = λ its. absurd (other (one_seat r.served r.next s.views r.queue j id y v r.served e at (q.holder its).0 ticket));
          });
          book = record {
            numbers = λ m. let t : total (times_in m) (set s.views id w) + times_in m v ≡ total (times_in m) s.views + times_in m w =
                total-set (times_in m) s.views id v w at in
                let e : times_in m v ≡ times_in m w = in_is m in let c : total (times_in m) s.views ≡ times m key = b.numbers m in omega arith;
            distinct = b.distinct;
            allowed = allowed;
            short = short';
            whole = (id, w, at_changed s.views id v w at, inl refl);
            known = each_stays KB LB s.views id w
                (subst (λ l. KnowsLog l k') grows (own_knows r.log k es knows_k spare_free f (ap (λ l. l ++ entries n es) held.2)), tt)
                (λ j y other e. subst (λ l. Each (KnowsLog l) y.passes) grows (others_know r.log n es y.passes (b.known j y e)
                (let two : times_in n y + times_in n v ≤ total (times_in n) s.views = total_two
                (times_in n) s.views j id y v other e at in let c = b.numbers n in let d = b.distinct n in omega arith)));
          };
          slot = inr (held.1, (id, w, at_changed s.views id v w at, has));
        },
        ((λ i. (same i, me.1)), (subst (λ l. Each (IsAllowed may l) f) (sym numbers) allowed, short')),
      )

  pub hands_after : (slots id : ℕ) (me : M) (ticket new : ℕ) → me.0.has_turn ≡ true
      → ((t : ℕ) × (me.0.ticket ≡ Some t) × (ticket ≡ t % 2 ^ 64))
      → ((x : G) × (me.1 ≡ (0, Some x) ∷ []) × fits x me.0.numbers × (log_of x ≡ events me.0.was)) → new ≡ (ticket + 1) % 2 ^ 64
      → Allows Kept slots id me 1 (λ _. new) (λ _. HandsOn (step slots 1 new 0 none) me new)
  hands_after slots id me ticket new has its h next =
      hands_keep slots id me h.0 its.0 new has its.1 (next ∙ (ap (λ (z : ℕ). (z + 1) % 2 ^ 64) its.2 ∙ mod-add-mod its.0 (2 ^ 64) 1)) h.1
      h.2 h.3
