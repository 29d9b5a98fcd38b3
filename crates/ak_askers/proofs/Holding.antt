-- What the holds of an asker's pass leave of its requests.
use Rattle.std.proofs.Common.{◌≡◌, ℕ, ℤ, zero, suc, pos, ◌+◌, ◌-◌, ◌*◌, ◌≤◌, Bool, true, false, cond, List, [], ◌∷◌, ◌++◌, refl, sym, ap, subst, ◌∙◌, append-nil, append_assoc, inl, inr, arith}
use Rattle.std.specs.Prelude.{◌||◌, ◌&&◌, ◌==◌, not, map, filter, find, Option, Some, None, is_some}
use Rattle.std.specs.Option.{option_map}
use Rattle.std.specs.List.{list_any, list_all, filter_map, cons_option, AllByRecursion}
use Rattle.std.proofs.lemmas.Bool.{eq-eqb, eqb-true}
use Rattle.std.proofs.lemmas.List.{map-append}
use Rattle.std.proofs.lemmas.List.Folds.{list_any-append}
use Rattle.std.proofs.lemmas.List.Elements.{filter_map-append, filter-append}
use Rattle.ak_history.specs.declared.event.Event.{Event}
use Rattle.ak_history.specs.declared.event.Event.TheVariants as event
use Rattle.ak_history.specs.Events.{Asking, asked, asked_in, answers, answered_in, left_in, is_among, is_answered, is_close, is_of_asker, has_left}
use Rattle.ak_history.specs.Legal.{Legal}
use Rattle.ak_pool.specs.Pools.{answer_to, waiting_for}
use Rattle.ak_history_laws.specs.Asked.{requests_of, nums_of, told_to}
use Rattle.ak_history_laws.specs.Behind.{Behind, IsNotByAsker}
use Rattle.ak_history_laws.proofs.Requests.{answered_stays}
use Rattle.ak_history_laws.proofs.Told.{told_in_order}
use Rattle.ak_turn.specs.Entries.{events, entries}
use Rattle.ak_turn.specs.Seen.{PassView}
use Rattle.ak_hub.specs.Askings.{is_made, CannotEnd}
use Rattle.ak_hub.specs.Calls.{EndsAsker}
use Rattle.ak_asker_laws.proofs.Staying.{requests_more, left_more, answers_on, and_parts}
use Rattle.ak_hub.proofs.Owning.{own_then}
use Rattle.ak_hub.specs.Hubs.{HubState, IsPassOf, IsHold, Gave, seen_by}
use Rattle.ak_hub.specs.Outsides.{IsByAsker, GoesOnFrom, HasActed}
use Rattle.ak_askers.specs.Plans.{IsAsking, answer_in, planned}

-- ---- what a hold adds
each_more : {A : Type 0} (P : A → Type 0) (xs ys : List A) → AllByRecursion P xs → AllByRecursion P ys → AllByRecursion P (xs ++ ys)
each_more P [] ys h k = k
each_more P (x ∷ xs) ys h k = (h.0, each_more P xs ys h.1 k)

-- the pass after a hold, beside what it was before
record Went (h : HubState) (a : ℕ) (p q : PassView Event) (was : List (ℕ × Event)) (es : List Event) : Type 0 where
  pub seen : GoesOnFrom p.seen q.seen
  pub mine : q.mine ≡ p.mine ++ es
  pub events_are : GoesOnFrom (seen_by p) (seen_by q)
  pub requests : requests_of a (seen_by q) ≡ requests_of a q.mine
  pub left : has_left (seen_by q) a ≡ has_left q.mine a

went : (h : HubState) (a : ℕ) (p q : PassView Event) (was : List (ℕ × Event)) (es : List Event) → p.number ≡ 33 + a → Gave h p was es q → Went h a p q was es
went h a p q was es number gave =
    let b = gave.hold.askers a number in
    let o = own_then h a p was gave.hold number in
    let mine : q.mine ≡ p.mine ++ es = ap (λ k. k.mine) gave.now in
    record {
      seen = (
        gave.hold.extends.rest ++ entries p.number es,
        ap (λ k. k.seen) gave.now
            ∙ (ap (λ l. l ++ entries p.number es) gave.hold.extends.begins ∙ append_assoc p.seen gave.hold.extends.rest (entries p.number es)),
      );
      mine = mine;
      events_are = (b.rest ++ es, gave.seen ∙ (ap (λ l. l ++ es) b.whole_is ∙ append_assoc (seen_by p) b.rest es));
      requests =
          ap (requests_of a) gave.seen
          ∙ (requests_more a (events was) es ∙ (ap (λ l. l ++ requests_of a es) o.0 ∙ (sym (requests_more a p.mine es) ∙ ap (requests_of a) (sym mine))));
      left =
          ap (λ l. has_left l a) gave.seen
          ∙ (left_more a (events was) es ∙ (ap (λ c. c || has_left es a) o.1 ∙ (sym (left_more a p.mine es) ∙ ap (λ l. has_left l a) (sym mine))));
    }

on_from : {A : Type 0} (xs ys zs : List A) → GoesOnFrom xs ys → GoesOnFrom ys zs → GoesOnFrom xs zs
on_from xs ys zs one two = (one.0 ++ two.0, two.1 ∙ (ap (λ l. l ++ two.0) one.1 ∙ append_assoc xs one.0 two.0))

module _ (h : HubState) (a : ℕ) (nums : List ℤ) (p q : PassView Event) (told : List (ℕ × ℤ)) (is : IsAsking h a nums p q told) where
  -- a hold in which nothing was given
  pub asking_stays : (q' : PassView Event) (was : List (ℕ × Event)) → IsPassOf h (33 + a) q' × (q'.spare ≡ q.spare) → Gave h q was [] q'
      → IsAsking h a nums p q' told
  asking_stays q' was of gave =
      let w = went h a q q' was [] is.pass.1 gave in
      let same : q'.mine ≡ q.mine = w.mine ∙ append-nil q.mine in
      let on = answers_on (seen_by q) w.events_are.0 (requests_of a q.mine) is.served in
      record {
        pass = of.0;
        spare = of.1 ∙ is.spare;
        seen = on_from p.seen q.seen q'.seen is.seen w.seen;
        own = subst (AllByRecursion (IsByAsker a)) (sym same) is.own;
        asked = ap (nums_of a) same ∙ is.asked;
        stays = ap (λ l. has_left l a) same ∙ is.stays;
        served =
            (λ i. list_all (λ (r : Asking). is_answered (w.events_are.1 i) r.no) (requests_of a (same i))) ∙ on.0;
        told = is.told ∙ (sym on.1 ∙ (λ i. filter_map (answer_in (sym w.events_are.1 i)) (requests_of a (sym same i))));
      }

  -- what the asker was told is what the history says
  pub all_told : (threads askers : ℕ) (xs : List Event) → Legal threads askers xs → requests_of a xs ≡ requests_of a q.mine → GoesOnFrom (seen_by q) xs
      → told ≡ told_to a xs
  all_told threads askers xs legal own on =
      let more = answers_on (seen_by q) on.0 (requests_of a q.mine) is.served in
      is.told
      ∙ (sym more.1
      ∙ ((λ i. filter_map (answer_in (sym on.1 i)) (sym own i)) ∙ sym (told_in_order threads askers a xs legal)))

  -- the asker was refused after a close
  pub stops_closed : (plan : List ℤ) (short : Bool) (q' : PassView Event) (was : List (ℕ × Event)) → IsPassOf h (33 + a) q' × (q'.spare ≡ q.spare)
      → Gave h q was [] q' → list_any is_close (events was) ≡ true → GoesOnFrom nums plan → HasActed h a plan p q' told short
  stops_closed plan short q' was of gave closed on =
      let w = went h a q q' was [] is.pass.1 gave in
      let same : q'.mine ≡ q.mine = w.mine ∙ append-nil q.mine in
      let k = asking_stays q' was of gave in
      let stays : has_left (seen_by q') a ≡ false = w.left ∙ k.stays in
      record {
        pass = k.pass;
        spare = k.spare;
        seen = k.seen;
        own = k.own;
        asked = subst (λ l. GoesOnFrom l plan) (sym k.asked) on;
        told = all_told h.threads h.askers (seen_by q') gave.legal (w.requests ∙ ap (requests_of a) same) w.events_are;
        over = inr (ap (list_any is_close) (gave.seen ∙ append-nil (events was)) ∙ closed);
        whole = λ left. absurd (cc (left, stays));
      }

  -- the asker has ended
  pub ends : (plan : List ℤ) (short : Bool) (q' : PassView Event) (was : List (ℕ × Event)) → IsPassOf h (33 + a) q' × (q'.spare ≡ q.spare)
      → Gave h q was (event.AskerEnd a ∷ []) q' → GoesOnFrom nums plan → (short ≡ false → nums ≡ plan) → HasActed h a plan p q' told short
  ends plan short q' was of gave on all =
      let w = went h a q q' was (event.AskerEnd a ∷ []) is.pass.1 gave in
      let requests : requests_of a q'.mine ≡ requests_of a q.mine =
      ap (requests_of a) w.mine ∙ (requests_more a q.mine (event.AskerEnd a ∷ []) ∙ append-nil (requests_of a q.mine)) in
      let asked : nums_of a q'.mine ≡ nums = ap (map (λ (r : Asking). r.num)) requests ∙ is.asked in
      record {
        pass = of.0;
        spare = of.1 ∙ is.spare;
        seen = on_from p.seen q.seen q'.seen is.seen w.seen;
        own = subst (AllByRecursion (IsByAsker a)) (sym w.mine) (each_more (IsByAsker a) q.mine (event.AskerEnd a ∷ []) is.own (refl, tt));
        asked = subst (λ l. GoesOnFrom l plan) (sym asked) on;
        told = all_told h.threads h.askers (seen_by q') gave.legal (w.requests ∙ requests) w.events_are;
        over = inl (w.left ∙ (ap (λ l. has_left l a) w.mine ∙ (left_more a q.mine (event.AskerEnd a ∷ []) ∙ last_left (has_left q.mine a))));
        whole = λ left not_short. asked ∙ all not_short;
      }
    where
      last_left : (b : Bool) → (b || has_left (event.AskerEnd a ∷ []) a) ≡ true
      last_left true = refl
      last_left false = ap (λ c. c || false) (eq-eqb a a refl)

-- ---- a request, and what came of it
found_pair : (vs : List (ℕ × ℤ)) (q : ℕ) (v : ℤ) → option_map (λ (x : ℕ × ℤ). x.1) (find (λ (x : ℕ × ℤ). x.0 == q) vs) ≡ Some v
    → (find (λ (x : ℕ × ℤ). x.0 == q) vs ≡ Some (q, v)) × (list_any (λ (x : ℕ × ℤ). x.0 == q) vs ≡ true)
found_pair [] q v e = absurd (cc e)
found_pair (x ∷ vs) q v e = one (x.0 == q) refl e (found_pair vs q v)
  where
    one : (b : Bool) → (x.0 == q) ≡ b → option_map (λ (y : ℕ × ℤ). y.1) (cond b (Some x) (find (λ (y : ℕ × ℤ). y.0 == q) vs)) ≡ Some v
        → (option_map (λ (y : ℕ × ℤ). y.1) (find (λ (y : ℕ × ℤ). y.0 == q) vs) ≡ Some v
        → (find (λ (y : ℕ × ℤ). y.0 == q) vs ≡ Some (q, v)) × (list_any (λ (y : ℕ × ℤ). y.0 == q) vs ≡ true))
        → (cond b (Some x) (find (λ (y : ℕ × ℤ). y.0 == q) vs) ≡ Some (q, v)) × ((b || list_any (λ (y : ℕ × ℤ). y.0 == q) vs) ≡ true)
    one true is e later =
        let value : x.1 ≡ v = some_one x.1 v e in
        ((λ i. Some (eqb-true x.0 q is i, value i)), refl)
      where
        some_one : (m n : ℤ) → Some m ≡ Some n → m ≡ n
        some_one m n k = cc
    one false is e later = later e

none_of_map : {A B : Type 0} (f : A → B) (o : Option A) → option_map f o ≡ None → o ≡ None
none_of_map f None e = refl
none_of_map f (Some x) e = absurd (cc e)

all_last : (p : Asking → Bool) (xs : List Asking) (x : Asking) → list_all p xs ≡ true → p x ≡ true → list_all p (xs ++ x ∷ []) ≡ true
all_last p [] x all is = ap (λ b. b && true) is
all_last p (z ∷ xs) x all is = let k = and_parts (p z) (list_all p xs) all in λ i. k.0 i && all_last p xs x k.1 is i

-- the request of an asker
abbrev pub asking : ℕ → ℕ → ℤ → Asking
asking a q num = record { no = q; asker = a; num = num }

-- a pass that has made one request more, and has given nothing since
record Asked (h : HubState) (a : ℕ) (nums : List ℤ) (p q q2 : PassView Event) (no : ℕ) (num : ℤ) : Type 0 where
  pub seen : GoesOnFrom p.seen q2.seen
  pub events_are : GoesOnFrom (seen_by q) (seen_by q2)
  pub own : AllByRecursion (IsByAsker a) q2.mine
  pub made : requests_of a q2.mine ≡ requests_of a q.mine ++ asking a no num ∷ []
  pub requests : requests_of a (seen_by q2) ≡ requests_of a q2.mine
  pub asked : nums_of a q2.mine ≡ nums ++ num ∷ []
  pub stays : has_left q2.mine a ≡ false
  pub left : has_left (seen_by q2) a ≡ has_left q2.mine a

or_no : (b : Bool) → (b || false) ≡ b
or_no true = refl
or_no false = refl

module _ (h : HubState) (a : ℕ) (nums : List ℤ) (p q : PassView Event) (told : List (ℕ × ℤ)) (is : IsAsking h a nums p q told) (q1 q2 : PassView Event) (w1 w2 : List (ℕ × Event)) (no' : ℕ) (num : ℤ) (of1 : IsPassOf h (33 + a) q1 × (q1.spare ≡ q.spare)) (gave1 : Gave h q w1 (event.Request no' a num ∷ []) q1) (of2 : IsPassOf h (33 + a) q2 × (q2.spare ≡ q1.spare)) (gave2 : Gave h q1 w2 [] q2) where
  after_request : Asked h a nums p q q2 no' num
  after_request =
      let one = went h a q q1 w1 (event.Request no' a num ∷ []) is.pass.1 gave1 in
      let two = went h a q1 q2 w2 [] of1.0.1 gave2 in
      let mine : q2.mine ≡ q.mine ++ event.Request no' a num ∷ [] = two.mine ∙ (append-nil q1.mine ∙ one.mine) in
      let made : requests_of a q2.mine ≡ requests_of a q.mine ++ asking a no' num ∷ [] =
      ap (requests_of a) mine
      ∙ (requests_more a q.mine (event.Request no' a num ∷ []) ∙ (λ i. requests_of a q.mine ++ cond (eq-eqb a a refl i) (asking a no' num ∷ []) [])) in
      record {
        seen = on_from p.seen q.seen q2.seen is.seen (on_from q.seen q1.seen q2.seen one.seen two.seen);
        events_are = on_from (seen_by q) (seen_by q1) (seen_by q2) one.events_are two.events_are;
        own = subst (AllByRecursion (IsByAsker a)) (sym mine) (each_more (IsByAsker a) q.mine (event.Request no' a num ∷ []) is.own (refl, tt));
        made = made;
        requests = two.requests;
        asked =
            ap (map (λ (r : Asking). r.num)) made
            ∙ (map-append (λ (r : Asking). r.num) (requests_of a q.mine) (asking a no' num ∷ []) ∙ ap (λ l. l ++ num ∷ []) is.asked);
        stays =
            ap (λ l. has_left l a) mine
            ∙ (left_more a q.mine (event.Request no' a num ∷ []) ∙ (or_no (has_left q.mine a) ∙ is.stays));
        left = two.left;
      }

  -- it was told its answer
  pub asking_more : (v : ℤ) (told' : List (ℕ × ℤ)) → answer_to (events w2) no' ≡ Some v → told' ≡ told ++ (no', v) ∷ []
      → IsAsking h a (nums ++ num ∷ []) p q2 told'
  asking_more v told' says now =
      let k = after_request in
      let on = answers_on (seen_by q) k.events_are.0 (requests_of a q.mine) is.served in
      let then : seen_by q2 ≡ events w2 = gave2.seen ∙ append-nil (events w2) in
      let pair = found_pair (answers (seen_by q2)) no' v (ap (λ l. answer_to l no') then ∙ says) in
      let old : filter_map (answer_in (seen_by q2)) (requests_of a q.mine) ≡ told =
      ap (λ l. filter_map (answer_in l) (requests_of a q.mine)) k.events_are.1 ∙ (on.1 ∙ sym is.told) in
      record {
        pass = of2.0;
        spare = of2.1 ∙ (of1.1 ∙ is.spare);
        seen = k.seen;
        own = k.own;
        asked = k.asked;
        stays = k.stays;
        served =
            ap (list_all (λ (r : Asking). is_answered (seen_by q2) r.no)) k.made
            ∙ all_last (λ (r : Asking). is_answered (seen_by q2) r.no) (requests_of a q.mine) (asking a no' num)
            (ap (λ l. list_all (λ (r : Asking). is_answered l r.no) (requests_of a q.mine)) k.events_are.1 ∙ on.0) pair.1;
        told =
            now
            ∙ sym (ap (filter_map (answer_in (seen_by q2))) k.made
            ∙ (filter_map-append (answer_in (seen_by q2)) (requests_of a q.mine) (asking a no' num ∷ [])
            ∙ (λ i. old i ++ cons_option (pair.0 i) [])));
      }

  -- the pool was closed before it was told
  pub stops_untold : (plan : List ℤ) (short : Bool) → list_any is_close (events w2) ≡ true → answer_to (events w2) no' ≡ None
      → GoesOnFrom (nums ++ num ∷ []) plan → HasActed h a plan p q2 told short
  stops_untold plan short closed says on =
      let k = after_request in
      let then : seen_by q2 ≡ events w2 = gave2.seen ∙ append-nil (events w2) in
      let more = answers_on (seen_by q) k.events_are.0 (requests_of a q.mine) is.served in
      let old : filter_map (answer_in (seen_by q2)) (requests_of a q.mine) ≡ told =
      ap (λ l. filter_map (answer_in l) (requests_of a q.mine)) k.events_are.1 ∙ (more.1 ∙ sym is.told) in
      let bare : answer_in (seen_by q2) (asking a no' num) ≡ None =
      none_of_map (λ (x : ℕ × ℤ). x.1) (answer_in (seen_by q2) (asking a no' num)) (ap (λ l. answer_to l no') then ∙ says) in
      let stays : has_left (seen_by q2) a ≡ false = k.left ∙ k.stays in
      record {
        pass = of2.0;
        spare = of2.1 ∙ (of1.1 ∙ is.spare);
        seen = k.seen;
        own = k.own;
        asked = subst (λ l. GoesOnFrom l plan) (sym k.asked) on;
        told =
            sym (told_in_order h.threads h.askers a (seen_by q2) gave2.legal
            ∙ (ap (filter_map (answer_in (seen_by q2))) (k.requests ∙ k.made)
            ∙ (filter_map-append (answer_in (seen_by q2)) (requests_of a q.mine) (asking a no' num ∷ [])
            ∙ ((λ i. old i ++ cons_option (bare i) []) ∙ append-nil told))));
        over = inr (ap (list_any is_close) then ∙ closed);
        whole = λ left. absurd (cc (left, stays));
      }

-- ---- what cannot be: the asker has not ended, and waits for nothing
pub not_left : (h : HubState) (a : ℕ) (nums : List ℤ) (p q : PassView Event) (told : List (ℕ × ℤ)) (was : List (ℕ × Event)) → IsAsking h a nums p q told
    → IsHold h q was → has_left (events was) a ≡ true → ⊥
not_left h a nums p q told was is hold left = absurd (cc (left, (own_then h a q was hold is.pass.1).1 ∙ is.stays))

none_waits : (xs : List Event) (a : ℕ) (rs : List Asking) → list_all (λ (r : Asking). is_answered xs r.no) (filter (is_of_asker a) rs) ≡ true
    → find (λ (r : Asking). r.asker == a && not (is_answered xs r.no)) rs ≡ None
none_waits xs a [] h = refl
none_waits xs a (r ∷ rs) h = one (r.asker == a) (is_answered xs r.no) refl h (none_waits xs a rs)
  where
    one : (b d : Bool) → is_answered xs r.no ≡ d
        → list_all (λ (s : Asking). is_answered xs s.no) (cond b (r ∷ filter (is_of_asker a) rs) (filter (is_of_asker a) rs)) ≡ true
        → (list_all (λ (s : Asking). is_answered xs s.no) (filter (is_of_asker a) rs) ≡ true
        → find (λ (s : Asking). s.asker == a && not (is_answered xs s.no)) rs ≡ None)
        → cond (b && not d) (Some r) (find (λ (s : Asking). s.asker == a && not (is_answered xs s.no)) rs) ≡ None
    one true true is h later = later (and_parts (is_answered xs r.no) (list_all (λ (s : Asking). is_answered xs s.no) (filter (is_of_asker a) rs)) h).1
    one true false is h later =
        absurd (cc (is, (and_parts (is_answered xs r.no) (list_all (λ (s : Asking). is_answered xs s.no) (filter (is_of_asker a) rs)) h).0))
    one false d is h later = later h

pub not_waiting : (h : HubState) (a : ℕ) (nums : List ℤ) (p q : PassView Event) (told : List (ℕ × ℤ)) (was : List (ℕ × Event)) → IsAsking h a nums p q told
    → IsHold h q was → waiting_for (events was) a ≡ None
not_waiting h a nums p q told was is hold =
    let b = hold.askers a is.pass.1 in
    let on = answers_on (seen_by q) b.rest (requests_of a q.mine) is.served in
    let all : list_all (λ (r : Asking). is_answered (events was) r.no) (requests_of a (events was)) ≡ true =
    ap (list_all (λ (r : Asking). is_answered (events was) r.no)) (own_then h a q was hold is.pass.1).0
    ∙ (ap (λ l. list_all (λ (r : Asking). is_answered l r.no) (requests_of a q.mine)) b.whole_is ∙ on.0) in
    ap (option_map (λ (r : Asking). r.no)) (none_waits (events was) a (asked (events was)) all)

-- a request that was made is one of those made
pub made_then : (xs : List Event) (a q : ℕ) (num : ℤ) → is_made (xs ++ event.Request q a num ∷ []) q ≡ true
made_then xs a q num =
    ap (list_any (λ (r : Asking). r.no == q)) (filter_map-append asked_in xs (event.Request q a num ∷ []))
    ∙ (list_any-append (λ (r : Asking). r.no == q) (asked xs) (asked (event.Request q a num ∷ []))
    ∙ last (list_any (λ (r : Asking). r.no == q) (asked xs)))
  where
    last : (b : Bool) → (b || ((q == q) || false)) ≡ true
    last true = refl
    last false = ap (λ c. c || false) (eq-eqb q q refl)

-- the asker ends, or the pool was closed
pub finishes : (h : HubState) (a : ℕ) (nums plan : List ℤ) (p q q' : PassView Event) (told : List (ℕ × ℤ)) (short b : Bool) → IsAsking h a nums p q told
    → IsPassOf h (33 + a) q' × (q'.spare ≡ q.spare) → EndsAsker h q a b q' → GoesOnFrom nums plan → (short ≡ false → nums ≡ plan)
    → HasActed h a plan p q' told short
finishes h a nums plan p q q' told short true is of ended on all = ends h a nums p q told is plan short q' ended.0 of ended.1 on all
finishes h a nums plan p q q' told short false is of ended on all = by ended.2
  where
    by : CannotEnd a (events ended.0) → HasActed h a plan p q' told short
    by (inl closed) = stops_closed h a nums p q told is plan short q' ended.0 of ended.1 closed on
    by (inr (inl left)) = absurd (not_left h a nums p q told ended.0 is ended.1.hold left)
    by (inr (inr waits)) =
        absurd (cc (waits, ap is_some (not_waiting h a nums p q told ended.0 is ended.1.hold)))

-- an asker that has asked nothing
pub asks_nothing : (h : HubState) (a : ℕ) (p : PassView Event) → IsPassOf h (33 + a) p → p.mine ≡ [] → IsAsking h a [] p p []
asks_nothing h a p of none =
    record {
      pass = of;
      spare = refl;
      seen = ([], sym (append-nil p.seen));
      own = subst (AllByRecursion (IsByAsker a)) (sym none) tt;
      asked = ap (nums_of a) none;
      stays = ap (λ l. has_left l a) none;
      served = ap (λ l. list_all (λ (r : Asking). is_answered (seen_by p) r.no) (requests_of a l)) none;
      told = sym (ap (λ l. filter_map (answer_in (seen_by p)) (requests_of a l)) none);
    }

-- ---- a plan
planned_more : (asker k n : ℕ) → GoesOnFrom (planned asker k) (planned asker (n + k))
planned_more asker k zero = let same : zero + k ≡ k = omega arith in ([], ap (planned asker) same ∙ sym (append-nil (planned asker k)))
planned_more asker k (suc n) =
    let up : suc n + k ≡ suc (n + k) = omega arith in
    let later = planned_more asker k n in
    let last = pos (asker * 1000 + (n + k)) ∷ [] in
    (later.0 ++ last, ap (planned asker) up ∙ (ap (λ l. l ++ last) later.1 ∙ append_assoc (planned asker k) later.0 last))

-- the first numbers of a plan go on to all of it
pub planned_on : (asker k each : ℕ) → k ≤ each → GoesOnFrom (planned asker k) (planned asker each)
planned_on asker k each le =
    let whole : (each - k) + k ≡ each = omega (arith, le) in
    subst (λ n. GoesOnFrom (planned asker k) (planned asker n)) whole (planned_more asker k (each - k))

pub planned_next : (asker k : ℕ) (num : ℤ) → num ≡ pos (asker * 1000 + k) → planned asker k ++ num ∷ [] ≡ planned asker (k + 1)
planned_next asker k num is =
    let up : suc k ≡ k + 1 = omega arith in
    ap (λ z. planned asker k ++ z ∷ []) is ∙ ap (planned asker) up
