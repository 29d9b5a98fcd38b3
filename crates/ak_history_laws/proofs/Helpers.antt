-- Helpers and numbers, by the scheduler's calls and replies.
use Rattle.std.proofs.Common.{◌≡◌, ℕ, ◌<◌, Bool, true, false, cond, List, [], ◌∷◌, ◌++◌, length, refl, sym, ap, ◌∙◌, append-nil, arith}
use Rattle.std.specs.Prelude.{◌||◌, ◌&&◌, not, ◌==◌, filter, fold, count_by, Option, Some, None}
use Rattle.std.specs.List.{list_any, filter_map, zip}
use Rattle.std.proofs.lemmas.Bool.{eq-eqb, eqb-true, ne_eqb}
use Rattle.std.proofs.lemmas.List.{length-append}
use Rattle.std.proofs.lemmas.List.Folds.{list_any-append}
use Rattle.std.proofs.lemmas.List.Sums.{fold-append}
use Rattle.std.proofs.lemmas.List.Elements.{filter_map-append}
use Rattle.ak_labor.specs.declared.ask.Ask.{Ask}
use Rattle.ak_labor.specs.declared.ask.Ask.TheVariants as ask
use Rattle.ak_labor.specs.Calls.{Reply, Granted, Done}
use Rattle.ak_labor.specs.Waits.{handed_by, helper_in, helped, helped_by, active_helpers, is_number, is_other_helper, IsServedBy}
use Rattle.ak_history.specs.declared.event.Event.{Event}
use Rattle.ak_history.specs.declared.event.Event.TheVariants as event
use Rattle.ak_history.specs.Events.{Reserved, reserved_in, ended_in, is_active, is_among, is_submit, is_helper_new}
use Rattle.ak_history.specs.Legal.{Legal, IsLegalAfter, IsServed}
use Rattle.ak_history.specs.Scheduler.{ask_of, asks, replies_after, replies}
use Rattle.ak_pool.proofs.Noting.{legal_next}
use Rattle.ak_pool.proofs.Items.{each_map, none_any}
use Rattle.ak_history_laws.proofs.Legals.{legal_keeps, left_by}
use Rattle.ak_history_laws.proofs.Replies.{replies_more}
use Rattle.ak_history_laws.proofs.Arrivals.{handed_alike}
use Rattle.ak_history_laws.proofs.Parts.{and_no, count_cons}

-- how many works were handed in
pub submits_alike : (threads askers : ℕ) (xs : List Event) → Legal threads askers xs → count_by is_submit xs ≡ length (filter_map handed_by (asks xs))
submits_alike threads askers xs h = (left_by threads askers xs h).stands.handed_all ∙ ap length (sym (handed_alike xs))

zip_last : {A B : Type 0} (xs : List A) (ys : List B) (x : A) (y : B) → length xs ≡ length ys → zip (xs ++ x ∷ []) (ys ++ y ∷ []) ≡ zip xs ys ++ (x, y) ∷ []
zip_last [] [] x y e = refl
zip_last [] (z ∷ ys) x y e = absurd (omega (arith, e))
zip_last (z ∷ xs) [] x y e = absurd (omega (arith, e))
zip_last (z ∷ xs) (w ∷ ys) x y e = ap (λ l. (z, w) ∷ l) (zip_last xs ys x y (omega (arith, e)))

active_next : (asked : List Ask) (rs : List Reply) (a : Ask) (r : Reply) → length asked ≡ length rs
    → active_helpers (asked ++ a ∷ []) (rs ++ r ∷ []) ≡ helped_by (active_helpers asked rs) a r
active_next asked rs a r e = ap (fold helped []) (zip_last asked rs a r e) ∙ fold-append helped [] (zip asked rs) ((a, r) ∷ [])

gone : (c x : Bool) → (x && not c) ≡ ((c || x) && not c)
gone true x = and_no x
gone false x = refl

stays : (a c x : Bool) → (a ≡ true → c ≡ true → ⊥) → (a || (x && not c)) ≡ ((a || x) && not c)
stays true true x f = absurd (f refl refl)
stays true false x f = refl
stays false c x f = refl

one_kept : (h n k : ℕ) (ks : List ℕ) (b : Bool) → (k == n) ≡ b
    → list_any (is_number h) (filter (is_other_helper n) ks) ≡ (list_any (is_number h) ks && not (n == h))
    → list_any (is_number h) (cond (not b) (k ∷ filter (is_other_helper n) ks) (filter (is_other_helper n) ks))
    ≡ (((k == h) || list_any (is_number h) ks) && not (n == h))
one_kept h n k ks true is later =
    later ∙ (gone (n == h) (list_any (is_number h) ks) ∙ ap (λ m. ((m == h) || list_any (is_number h) ks) && not (n == h)) (sym (eqb-true k n is)))
one_kept h n k ks false is later =
    ap (λ b. (k == h) || b) later
    ∙ stays (k == h) (n == h) (list_any (is_number h) ks) (λ e f. absurd (cc (eq-eqb k n (eqb-true k h e ∙ sym (eqb-true n h f)), is)))

-- without the one that is ended
any_kept : (h n : ℕ) (ks : List ℕ) → list_any (is_number h) (filter (is_other_helper n) ks) ≡ (list_any (is_number h) ks && not (n == h))
any_kept h n [] = refl
any_kept h n (k ∷ ks) = one_kept h n k ks (k == n) refl (any_kept h n ks)

begins : (g e c : Bool) → (c ≡ true → e ≡ false) → ((g && not e) || (c || false)) ≡ ((g || (c || false)) && not e)
begins g true true f = absurd (cc (f refl))
begins true false true f = refl
begins false false true f = refl
begins true true false f = refl
begins true false false f = refl
begins false e false f = refl

ends : (g e c : Bool) → ((g && not e) && not c) ≡ (g && not (e || (c || false)))
ends true true c = refl
ends true false true = refl
ends true false false = refl
ends false e c = refl

abbrev names : ℕ → Reserved → Bool
names h r = r.helper == h

active_parts : (xs : List Event) (e : Event) (h : ℕ)
    → is_active (xs ++ e ∷ []) h ≡ (list_any (names h) (filter_map reserved_in xs ++ filter_map reserved_in (e ∷ [])) && not
    (is_among (filter_map ended_in xs ++ filter_map ended_in (e ∷ [])) h))
active_parts xs e h = λ i. list_any (names h) (filter_map-append reserved_in xs (e ∷ []) i) && not (is_among (filter_map-append ended_in xs (e ∷ []) i) h)

-- an event that is no helper's leaves which are active
active_same : (xs : List Event) (e : Event) (h : ℕ) → filter_map reserved_in (e ∷ []) ≡ [] → filter_map ended_in (e ∷ []) ≡ []
    → is_active (xs ++ e ∷ []) h ≡ is_active xs h
active_same xs e h g k =
    active_parts xs e h
    ∙ (λ i. list_any (names h) ((ap (λ l. filter_map reserved_in xs ++ l) g ∙ append-nil (filter_map reserved_in xs)) i) && not
    (is_among ((ap (λ l. filter_map ended_in xs ++ l) k ∙ append-nil (filter_map ended_in xs)) i) h))

pub record Alike (threads askers : ℕ) (xs : List Event) : Type 0 where
  pub legal : Legal threads askers xs
  pub same : length (asks xs) ≡ length (replies askers xs)
  pub active : (h : ℕ) → list_any (is_number h) (active_helpers (asks xs) (replies askers xs)) ≡ is_active xs h

-- a new helper was not ended before
not_ended : (threads askers : ℕ) (xs : List Event) (n : ℕ) → Legal threads askers xs → n ≡ count_by is_helper_new xs
    → is_among (filter_map ended_in xs) n ≡ false
not_ended threads askers xs n h is =
    none_any (λ k. k == n) (filter_map ended_in xs)
    (each_map (λ k. k < count_by is_helper_new xs) (λ k. (k == n) ≡ false) (λ k less. ne_eqb k n (λ e. absurd (omega (arith, e, less, is))))
    (filter_map ended_in xs) (left_by threads askers xs h).stands.ended_known)

-- a call and its reply
called : (threads askers : ℕ) (xs : List Event) (e : Event) (a : Ask) (r : Reply) → Alike threads askers xs → IsLegalAfter threads askers xs e
    → asks (e ∷ []) ≡ a ∷ [] → replies_after askers xs (e ∷ []) ≡ r ∷ []
    → ((h : ℕ) → list_any (is_number h) (helped_by (active_helpers (asks xs) (replies askers xs)) a r) ≡ is_active (xs ++ e ∷ []) h)
    → Alike threads askers (xs ++ e ∷ [])
called threads askers xs e a r k is ask reply goes =
    let asked : asks (xs ++ e ∷ []) ≡ asks xs ++ a ∷ [] = filter_map-append ask_of xs (e ∷ []) ∙ ap (λ l. asks xs ++ l) ask in
    let replied : replies askers (xs ++ e ∷ []) ≡ replies askers xs ++ r ∷ [] = replies_more askers xs (e ∷ []) ∙ ap (λ l. replies askers xs ++ l) reply in
    record {
      legal = legal_next threads askers xs e k.legal is;
      same = omega (arith, ap length asked, ap length replied, length-append (asks xs) (a ∷ []), length-append (replies askers xs) (r ∷ []), k.same);
      active = λ h. (λ i. list_any (is_number h) (active_helpers (asked i) (replied i)))
          ∙ (ap (list_any (is_number h)) (active_next (asks xs) (replies askers xs) a r k.same) ∙ goes h);
    }

-- an event of a thread or an asker
uncalled : (threads askers : ℕ) (xs : List Event) (e : Event) → Alike threads askers xs → IsLegalAfter threads askers xs e → asks (e ∷ []) ≡ []
    → replies_after askers xs (e ∷ []) ≡ [] → filter_map reserved_in (e ∷ []) ≡ [] → filter_map ended_in (e ∷ []) ≡ []
    → Alike threads askers (xs ++ e ∷ [])
uncalled threads askers xs e k is ask reply g d =
    let asked : asks (xs ++ e ∷ []) ≡ asks xs = filter_map-append ask_of xs (e ∷ []) ∙ (ap (λ l. asks xs ++ l) ask ∙ append-nil (asks xs)) in
    let replied : replies askers (xs ++ e ∷ []) ≡ replies askers xs = replies_more askers xs (e ∷ [])
    ∙ (ap (λ l. replies askers xs ++ l) reply ∙ append-nil (replies askers xs)) in
    record {
      legal = legal_next threads askers xs e k.legal is;
      same = omega (arith, ap length asked, ap length replied, k.same);
      active = λ h. (λ i. list_any (is_number h) (active_helpers (asked i) (replied i))) ∙ (k.active h ∙ sym (active_same xs e h g d));
    }

one_more : (threads askers : ℕ) (xs : List Event) (e : Event) → Alike threads askers xs → IsLegalAfter threads askers xs e → Alike threads askers (xs ++ e ∷ [])
one_more threads askers xs (event.Submit id work helper) k is =
    called threads askers xs (event.Submit id work helper) (ask.Submit id work helper) Done k is refl refl
    (λ h. k.active h ∙ sym (active_same xs (event.Submit id work helper) h refl refl))
one_more threads askers xs (event.Start thread id) k is = uncalled threads askers xs (event.Start thread id) k is refl refl refl refl
one_more threads askers xs (event.Finish thread id outcome) k is = uncalled threads askers xs (event.Finish thread id outcome) k is refl refl refl refl
one_more threads askers xs (event.Request q asker n) k is = uncalled threads askers xs (event.Request q asker n) k is refl refl refl refl
one_more threads askers xs (event.AskerEnd asker) k is = uncalled threads askers xs (event.AskerEnd asker) k is refl refl refl refl
one_more threads askers xs (event.Drain ids requests) k is =
    called threads askers xs (event.Drain ids requests) ask.Drain _ k is refl refl
    (λ h. k.active h ∙ sym (active_same xs (event.Drain ids requests) h refl refl))
one_more threads askers xs (event.Answered q v) k is =
    called threads askers xs (event.Answered q v) (ask.Answer q v) Done k is refl refl (λ h. k.active h ∙ sym (active_same xs (event.Answered q v) h refl refl))
one_more threads askers xs (event.HelperNew n None) k is =
    called threads askers xs (event.HelperNew n None) (ask.HelperNew n) (Granted false) k is refl refl
    (λ h. k.active h ∙ sym (active_same xs (event.HelperNew n None) h refl refl))
one_more threads askers xs (event.HelperNew n (Some t)) k is =
    called threads askers xs (event.HelperNew n (Some t)) (ask.HelperNew n) (Granted true) k is refl refl
    (λ h.
    let g = list_any (names h) (filter_map reserved_in xs) in
    let d = is_among (filter_map ended_in xs) h in
    list_any-append (is_number h) (active_helpers (asks xs) (replies askers xs)) (n ∷ [])
    ∙ (ap (λ b. b || ((n == h) || false)) (k.active h)
    ∙ (begins g d (n == h) (λ e. ap (is_among (filter_map ended_in xs)) (sym (eqb-true n h e)) ∙ not_ended threads askers xs n k.legal is.rule.0)
    ∙ sym
    (active_parts xs (event.HelperNew n (Some t)) h
    ∙ (λ i. list_any-append (names h) (filter_map reserved_in xs) (record { helper = n; thread = t } ∷ []) i && not
    (is_among (append-nil (filter_map ended_in xs) i) h))))))
one_more threads askers xs (event.HelperEnd n) k is =
    called threads askers xs (event.HelperEnd n) (ask.HelperEnd n) Done k is refl refl
    (λ h.
    let g = list_any (names h) (filter_map reserved_in xs) in
    let d = is_among (filter_map ended_in xs) h in
    any_kept h n (active_helpers (asks xs) (replies askers xs))
    ∙ (ap (λ b. b && not (n == h)) (k.active h)
    ∙ (ends g d (n == h)
    ∙ sym
    (active_parts xs (event.HelperEnd n) h
    ∙ (λ i. list_any (names h) (append-nil (filter_map reserved_in xs) i) && not
    (list_any-append (λ (other : ℕ). other == h) (filter_map ended_in xs) (n ∷ []) i))))))
one_more threads askers xs event.Close k is =
    called threads askers xs event.Close ask.Close Done k is refl refl (λ h. k.active h ∙ sym (active_same xs event.Close h refl refl))

-- the scheduler's calls and replies tell which helpers are active
pub alike : (threads askers : ℕ) (xs : List Event) → Legal threads askers xs → Alike threads askers xs
alike threads askers xs h = legal_keeps threads askers (Alike threads askers) (record { legal = tt; same = refl; active = λ h. refl })
    (λ ys e k is. one_more threads askers ys e k is) xs h

pub served_alike : (threads askers : ℕ) (xs : List Event) (helper : Option ℕ) → Legal threads askers xs
    → IsServedBy (asks xs) (replies askers xs) helper → IsServed xs helper
served_alike threads askers xs None h is = tt
served_alike threads askers xs (Some n) h is = sym ((alike threads askers xs h).active n) ∙ is

-- how many helpers were asked for
pub helpers_alike : (xs : List Event) → count_by is_helper_new xs ≡ length (filter_map helper_in (asks xs))
helpers_alike [] = refl
helpers_alike (event.Submit id work helper ∷ xs) = omega (arith, count_cons is_helper_new (event.Submit id work helper) xs, helpers_alike xs)
helpers_alike (event.Start thread id ∷ xs) = omega (arith, count_cons is_helper_new (event.Start thread id) xs, helpers_alike xs)
helpers_alike (event.Finish thread id outcome ∷ xs) = omega (arith, count_cons is_helper_new (event.Finish thread id outcome) xs, helpers_alike xs)
helpers_alike (event.Request req asker num ∷ xs) = omega (arith, count_cons is_helper_new (event.Request req asker num) xs, helpers_alike xs)
helpers_alike (event.AskerEnd asker ∷ xs) = omega (arith, count_cons is_helper_new (event.AskerEnd asker) xs, helpers_alike xs)
helpers_alike (event.Drain ids requests ∷ xs) = omega (arith, count_cons is_helper_new (event.Drain ids requests) xs, helpers_alike xs)
helpers_alike (event.Answered req num ∷ xs) = omega (arith, count_cons is_helper_new (event.Answered req num) xs, helpers_alike xs)
helpers_alike (event.HelperNew h answer ∷ xs) = omega (arith, count_cons is_helper_new (event.HelperNew h answer) xs, helpers_alike xs)
helpers_alike (event.HelperEnd h ∷ xs) = omega (arith, count_cons is_helper_new (event.HelperEnd h) xs, helpers_alike xs)
helpers_alike (event.Close ∷ xs) = omega (arith, count_cons is_helper_new event.Close xs, helpers_alike xs)
