-- What a drain of a legal history brings: works that are out, each once, with its value.
use Rattle.std.proofs.Common.{◌≡◌, ℕ, zero, suc, Bool, true, false, cond, List, [], ◌∷◌, ◌++◌, refl, sym, ap, subst, ◌∙◌, append-nil, arith}
use Rattle.std.specs.Prelude.{◌||◌, not, ◌==◌, map, filter, find, Option, Some, None, Contains}
use Rattle.std.specs.List.{list_any, filter_map, flat_map}
use Rattle.std.proofs.lemmas.Bool.{eqb-true}
use Rattle.std.proofs.lemmas.Grind.{flat_map-append}
use Rattle.std.proofs.lemmas.List.Folds.{list_any-append}
use Rattle.std.proofs.lemmas.List.Elements.{filter_map-append}
use Rattle.ak_labor.specs.declared.work.Work.{Work}
use Rattle.ak_labor.specs.declared.work.Outcome.{Outcome}
use Rattle.ak_labor.specs.Value.{value_of}
use Rattle.ak_labor.specs.Waits.{Handed, handed_by, pairs_in, is_pair_of, is_out, outstanding, is_other, Arrive}
use Rattle.ak_history.specs.declared.event.Event.{Event}
use Rattle.ak_history.specs.declared.event.Event.TheVariants as event
use Rattle.ak_history.specs.Events.{handed, handed_in, finished, drained_in, is_among, work_at, owed}
use Rattle.ak_history.specs.Legal.{Legal, IsLegalAfter, HasValue}
use Rattle.ak_history.specs.Scheduler.{asks, finish_in, replies_after, replies}
use Rattle.ak_pool.specs.Pools.{owed_pairs}
use Rattle.ak_pool.specs.Stands.{Each}
use Rattle.ak_pool.proofs.Helpers.{map_filter}
use Rattle.ak_pool.proofs.Noting.{legal_next}
use Rattle.ak_pool.proofs.Items.{each_map, each_append, each_both, each_filter, each_passes, find_passes, some_same}
use Rattle.ak_history_laws.proofs.Legals.{legal_keeps}
use Rattle.ak_history_laws.proofs.Threads.{finished_append, value_more}
use Rattle.ak_history_laws.proofs.Replies.{AreApart, finished_apart, replies_more, works_fetched}

-- the works that the scheduler asked for are those of the history
pub handed_alike : (xs : List Event) → filter_map handed_by (asks xs) ≡ handed xs
handed_alike [] = refl
handed_alike (event.Submit id work helper ∷ xs) = ap (λ l. record { id = id; work = work; helper = helper } ∷ l) (handed_alike xs)
handed_alike (event.Start thread id ∷ xs) = handed_alike xs
handed_alike (event.Finish thread id outcome ∷ xs) = handed_alike xs
handed_alike (event.Request req asker num ∷ xs) = handed_alike xs
handed_alike (event.AskerEnd asker ∷ xs) = handed_alike xs
handed_alike (event.Drain ids requests ∷ xs) = handed_alike xs
handed_alike (event.Answered req num ∷ xs) = handed_alike xs
handed_alike (event.HelperNew h answer ∷ xs) = handed_alike xs
handed_alike (event.HelperEnd h ∷ xs) = handed_alike xs
handed_alike (event.Close ∷ xs) = handed_alike xs

any_pair : (id : ℕ) (fs : List (ℕ × Outcome)) → list_any (is_pair_of id) fs ≡ is_among (map (λ (f : ℕ × Outcome). f.0) fs) id
any_pair id [] = refl
any_pair id (f ∷ fs) = ap (λ c. (f.0 == id) || c) (any_pair id fs)

-- the works that replies have brought
abbrev brings : ℕ → List Event → ℕ → Bool
brings askers xs id = list_any (is_pair_of id) (flat_map pairs_in (replies askers xs))

-- an event whose reply brings no work, and which drains none
nothing_brought : (askers : ℕ) (xs : List Event) (e : Event) (id : ℕ) → flat_map pairs_in (replies_after askers xs (e ∷ [])) ≡ []
    → flat_map drained_in (e ∷ []) ≡ []
    → brings askers xs id ≡ is_among (flat_map drained_in xs) id → brings askers (xs ++ e ∷ []) id ≡ is_among (flat_map drained_in (xs ++ e ∷ [])) id
nothing_brought askers xs e id none drained k =
    let replied : flat_map pairs_in (replies askers (xs ++ e ∷ [])) ≡ flat_map pairs_in (replies askers xs) =
    ap (flat_map pairs_in) (replies_more askers xs (e ∷ []))
    ∙ (flat_map-append pairs_in (replies askers xs) (replies_after askers xs (e ∷ []))
    ∙ (ap (λ l. flat_map pairs_in (replies askers xs) ++ l) none ∙ append-nil (flat_map pairs_in (replies askers xs)))) in
    let fetched : flat_map drained_in (xs ++ e ∷ []) ≡ flat_map drained_in xs =
    flat_map-append drained_in xs (e ∷ []) ∙ (ap (λ l. flat_map drained_in xs ++ l) drained ∙ append-nil (flat_map drained_in xs)) in
    ap (list_any (is_pair_of id)) replied ∙ (k ∙ sym (ap (λ l. is_among l id) fetched))

drain_brought : (threads askers : ℕ) (xs : List Event) (ids requests : List ℕ) (id : ℕ) → Legal threads askers xs → ids ≡ owed xs
    → brings askers xs id ≡ is_among (flat_map drained_in xs) id
    → brings askers (xs ++ event.Drain ids requests ∷ []) id ≡ is_among (flat_map drained_in (xs ++ event.Drain ids requests ∷ [])) id
drain_brought threads askers xs ids requests id legal is k =
    let e = event.Drain ids requests in
    let pairs : filter_map (finish_in xs) ids ≡ owed_pairs xs = ap (filter_map (finish_in xs)) is ∙ works_fetched threads askers xs legal in
    let these : map (λ (f : ℕ × Outcome). f.0) (filter_map (finish_in xs) ids) ≡ ids =
    ap (map (λ (f : ℕ × Outcome). f.0)) pairs ∙ (map_filter (λ n. not (is_among (flat_map drained_in xs) n)) (finished xs) ∙ sym is) in
    let replied : flat_map pairs_in (replies askers (xs ++ e ∷ [])) ≡ flat_map pairs_in (replies askers xs) ++ filter_map (finish_in xs) ids =
    ap (flat_map pairs_in) (replies_more askers xs (e ∷ []))
    ∙ (flat_map-append pairs_in (replies askers xs) (replies_after askers xs (e ∷ []))
    ∙ ap (λ l. flat_map pairs_in (replies askers xs) ++ l) (append-nil (filter_map (finish_in xs) ids))) in
    let fetched : flat_map drained_in (xs ++ e ∷ []) ≡ flat_map drained_in xs ++ ids =
    flat_map-append drained_in xs (e ∷ []) ∙ ap (λ l. flat_map drained_in xs ++ l) (append-nil ids) in
    ap (list_any (is_pair_of id)) replied
    ∙ (list_any-append (is_pair_of id) (flat_map pairs_in (replies askers xs)) (filter_map (finish_in xs) ids)
    ∙ ((λ i. k i || (any_pair id (filter_map (finish_in xs) ids) ∙ ap (λ l. is_among l id) these) i)
    ∙ (sym (list_any-append (λ n. n == id) (flat_map drained_in xs) ids) ∙ sym (ap (λ l. is_among l id) fetched))))

one_brought : (threads askers : ℕ) (xs : List Event) (e : Event) (id : ℕ) → Legal threads askers xs
    → brings askers xs id ≡ is_among (flat_map drained_in xs) id → IsLegalAfter threads askers xs e
    → brings askers (xs ++ e ∷ []) id ≡ is_among (flat_map drained_in (xs ++ e ∷ [])) id
one_brought threads askers xs (event.Submit n work helper) id legal k is = nothing_brought askers xs (event.Submit n work helper) id refl refl k
one_brought threads askers xs (event.Start thread n) id legal k is = nothing_brought askers xs (event.Start thread n) id refl refl k
one_brought threads askers xs (event.Finish thread n outcome) id legal k is = nothing_brought askers xs (event.Finish thread n outcome) id refl refl k
one_brought threads askers xs (event.Request q asker n) id legal k is = nothing_brought askers xs (event.Request q asker n) id refl refl k
one_brought threads askers xs (event.AskerEnd asker) id legal k is = nothing_brought askers xs (event.AskerEnd asker) id refl refl k
one_brought threads askers xs (event.Drain ids requests) id legal k is = drain_brought threads askers xs ids requests id legal is.rule.0 k
one_brought threads askers xs (event.Answered q v) id legal k is = nothing_brought askers xs (event.Answered q v) id refl refl k
one_brought threads askers xs (event.HelperNew h answer) id legal k is = nothing_brought askers xs (event.HelperNew h answer) id refl refl k
one_brought threads askers xs (event.HelperEnd h) id legal k is = nothing_brought askers xs (event.HelperEnd h) id refl refl k
one_brought threads askers xs event.Close id legal k is = nothing_brought askers xs event.Close id refl refl k

-- a reply has brought the work where a drain names it
pub brought_is : (threads askers : ℕ) (xs : List Event) (id : ℕ) → Legal threads askers xs
    → list_any (is_pair_of id) (flat_map pairs_in (replies askers xs)) ≡ is_among (flat_map drained_in xs) id
brought_is threads askers xs id h =
    (legal_keeps threads askers (λ ys. Legal threads askers ys × (brings askers ys id ≡ is_among (flat_map drained_in ys) id)) (tt, refl)
    (λ ys e k is. (legal_next threads askers ys e k.0 is, one_brought threads askers ys e id k.0 k.1 is)) xs h).1

contains_more : {A : Type 0} (xs : List A) (y x : A) → Contains xs x → Contains (y ∷ xs) x
contains_more xs y x h = (suc h.0, omega (arith, h.1), h.2)

contains_kept : {A : Type 0} (p : A → Bool) (xs : List A) (x : A) → p x ≡ true → Contains xs x → Contains (filter p xs) x
contains_kept p [] x ok h = absurd (omega (arith, h.1))
contains_kept p (y ∷ xs) x ok (zero, less, e) =
    subst (λ b. Contains (cond b (y ∷ filter p xs) (filter p xs)) x) (sym (ap p e ∙ ok)) (0, omega arith, e)
contains_kept p (y ∷ xs) x ok (suc k, less, e) =
    one (p y) (contains_kept p xs x ok (k, omega (arith, less), e))
  where
    one : (b : Bool) → Contains (filter p xs) x → Contains (cond b (y ∷ filter p xs) (filter p xs)) x
    one true h = contains_more (filter p xs) y x h
    one false h = h

found_at : {A : Type 0} (p : A → Bool) (xs : List A) (y x : A) (b : Bool) → p y ≡ b → (find p xs ≡ Some x → Contains xs x) → find p (y ∷ xs) ≡ Some x
    → Contains (y ∷ xs) x
found_at p xs y x true is later e = (0, omega arith, some_same y x (sym (ap (λ c. cond c (Some y) (find p xs)) is) ∙ e))
found_at p xs y x false is later e = contains_more xs y x (later (sym (ap (λ c. cond c (Some y) (find p xs)) is) ∙ e))

contains_found : {A : Type 0} (p : A → Bool) (xs : List A) (x : A) → find p xs ≡ Some x → Contains xs x
contains_found p [] x e = absurd (cc e)
contains_found p (y ∷ xs) x e = found_at p xs y x (p y) refl (λ k. contains_found p xs x k) e

-- the pair is one of these works, with its value
abbrev pub IsThere : List Handed → ℕ × Outcome → Type 0
IsThere works f = (work : Work) × (helper : Option ℕ) × Contains works (record { id = f.0; work = work; helper = helper }) × (f.1 ≡ value_of work)

still_there : (works : List Handed) (id : ℕ) (f : ℕ × Outcome) → (f.0 == id) ≡ false → IsThere works f → IsThere (filter (is_other id) works) f
still_there works id f other h =
    (h.0, h.1, contains_kept (is_other id) works (record { id = f.0; work = h.0; helper = h.1 }) (ap not other) h.2, h.3)

arrive_all : (works : List Handed) (fs : List (ℕ × Outcome)) → AreApart fs → Each (IsThere works) fs → Arrive works fs
arrive_all works [] apart h = tt
arrive_all works (f ∷ fs) apart h = (
  h.0,
  arrive_all (filter (is_other f.0) works) fs apart.1
      (each_map (λ g. IsThere works g × ((g.0 == f.0) ≡ false)) (IsThere (filter (is_other f.0) works)) (λ g k. still_there works f.0 g k.1 k.0) fs
      (each_both (IsThere works) (λ g. (g.0 == f.0) ≡ false) fs h.1 apart.0)),
)

apart_kept : (p : ℕ × Outcome → Bool) (fs : List (ℕ × Outcome)) → AreApart fs → AreApart (filter p fs)
apart_kept p [] h = tt
apart_kept p (f ∷ fs) h = one (p f) (apart_kept p fs h.1)
  where
    one : (b : Bool) → AreApart (filter p fs) → AreApart (cond b (f ∷ filter p fs) (filter p fs))
    one true k = (each_filter (λ g. (g.0 == f.0) ≡ false) p fs h.0, k)
    one false k = k

-- each finished work was handed in, and its outcome is its value
finished_values : (threads askers : ℕ) (xs : List Event) → Legal threads askers xs → Each (λ f. HasValue (work_at xs f.0) f.1) (finished xs)
finished_values threads askers xs h =
    legal_keeps threads askers (λ ys. Each (λ f. HasValue (work_at ys f.0) f.1) (finished ys)) tt
    (λ ys e k is.
    subst (λ fs. Each (λ f. HasValue (work_at (ys ++ e ∷ []) f.0) f.1) fs) (sym (finished_append ys (e ∷ [])))
    (each_append (λ f. HasValue (work_at (ys ++ e ∷ []) f.0) f.1) (finished ys) (finished (e ∷ []))
    (each_map (λ f. HasValue (work_at ys f.0) f.1) (λ f. HasValue (work_at (ys ++ e ∷ []) f.0) f.1) (λ f v. more ys e f v) (finished ys) k)
    (new ys e is)))
    xs h
  where
    more : (ys : List Event) (e : Event) (f : ℕ × Outcome) → HasValue (work_at ys f.0) f.1 → HasValue (work_at (ys ++ e ∷ []) f.0) f.1
    more ys e f v =
        subst (λ l. HasValue (find (λ (w : Handed). w.id == f.0) l) f.1) (sym (filter_map-append handed_in ys (e ∷ [])))
        (value_more (handed ys) (handed (e ∷ [])) f.0 (work_at ys f.0) f.1 refl v)

    new : (ys : List Event) (e : Event) → IsLegalAfter threads askers ys e → Each (λ f. HasValue (work_at (ys ++ e ∷ []) f.0) f.1) (finished (e ∷ []))
    new ys (event.Submit id work helper) is = tt
    new ys (event.Start thread id) is = tt
    new ys (event.Finish thread id outcome) is = (more ys (event.Finish thread id outcome) (id, outcome) is.rule.2, tt)
    new ys (event.Request req asker num) is = tt
    new ys (event.AskerEnd asker) is = tt
    new ys (event.Drain ids requests) is = tt
    new ys (event.Answered req num) is = tt
    new ys (event.HelperNew no' answer) is = tt
    new ys (event.HelperEnd no') is = tt
    new ys event.Close is = tt

there_by : (threads askers : ℕ) (xs : List Event) (f : ℕ × Outcome) (o : Option Handed) → Legal threads askers xs → work_at xs f.0 ≡ o
    → HasValue o f.1 → not (is_among (flat_map drained_in xs) f.0) ≡ true → IsThere (outstanding (asks xs) (replies askers xs)) f
there_by threads askers xs f None legal e v out = absurd v
there_by threads askers xs f (Some w) legal e v out =
    let id : w.id ≡ f.0 = eqb-true w.id f.0 (find_passes (λ (x : Handed). x.id == f.0) (handed xs) w e) in
    let is : is_out (replies askers xs) w ≡ true = ap not (brought_is threads askers xs w.id legal ∙ ap (is_among (flat_map drained_in xs)) id) ∙ out in
    let there : Contains (outstanding (asks xs) (replies askers xs)) w =
    subst (λ l. Contains (filter (is_out (replies askers xs)) l) w) (sym (handed_alike xs))
    (contains_kept (is_out (replies askers xs)) (handed xs) w is (contains_found (λ (x : Handed). x.id == f.0) (handed xs) w e)) in (
      w.work,
      w.helper,
      subst (λ n. Contains (outstanding (asks xs) (replies askers xs)) (record { id = n; work = w.work; helper = w.helper })) id there,
      v,
    )

-- a drain brings works that are out
pub arrives : (threads askers : ℕ) (xs : List Event) → Legal threads askers xs → Arrive (outstanding (asks xs) (replies askers xs)) (owed_pairs xs)
arrives threads askers xs h =
    let left = λ (f : ℕ × Outcome). not (is_among (flat_map drained_in xs) f.0) in
    arrive_all (outstanding (asks xs) (replies askers xs)) (owed_pairs xs) (apart_kept left (finished xs) (finished_apart threads askers xs h))
    (each_map (λ f. HasValue (work_at xs f.0) f.1 × (left f ≡ true)) (IsThere (outstanding (asks xs) (replies askers xs)))
    (λ f k. there_by threads askers xs f (work_at xs f.0) h refl k.0 k.1) (owed_pairs xs)
    (each_both (λ f. HasValue (work_at xs f.0) f.1) (λ f. left f ≡ true) (owed_pairs xs)
    (each_filter (λ f. HasValue (work_at xs f.0) f.1) left (finished xs) (finished_values threads askers xs h)) (each_passes left (finished xs))))
