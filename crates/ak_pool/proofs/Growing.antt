-- What one more event adds to what the rules read.
use Rattle.std.proofs.Common.{ℕ, ◌+◌, ◌≡◌, List, [], ◌∷◌, ◌++◌, Bool, true, false, cond, refl, ap, sym, ◌∙◌, append-nil, add-zero}
use Rattle.std.specs.Prelude.{◌||◌, count_by, Option, Some, None}
use Rattle.std.specs.List.{filter_map, flat_map, list_any, cons_option}
use Rattle.std.proofs.lemmas.List.Elements.{filter_map-append}
use Rattle.std.proofs.lemmas.List.Folds.{list_any-append}
use Rattle.std.proofs.lemmas.List.Sums.{sum_by_push}
use Rattle.std.proofs.lemmas.List.{flat_map_more}
use Rattle.ak_history.specs.declared.event.Event.{Event}
use Rattle.ak_history.specs.declared.event.Event.TheVariants as event
use Rattle.ak_history.specs.Events.{handed_in, begun_in, finished_in, drained_in, reserved_in, ended_in, is_submit, is_helper_new, is_close}
use Rattle.ak_pool.specs.Facts.{Facts, facts_of}

-- the facts with those of one more event
abbrev pub with_reserved : ℕ → Option ℕ → Facts → Facts
with_reserved h None f = record f { helpers = f.helpers + 1 }
with_reserved h (Some t) f = record f { reserved = f.reserved ++ record { helper = h; thread = t } ∷ []; helpers = f.helpers + 1 }

abbrev pub added : Event → Facts → Facts
added (event.Submit id work helper) f =
    record f { handed = f.handed ++ record { id = id; work = work; helper = helper } ∷ []; submits = f.submits + 1 }
added (event.Start thread id) f = record f { begun = f.begun ++ record { thread = thread; id = id } ∷ [] }
added (event.Finish thread id outcome) f = record f { finished = f.finished ++ (id, outcome) ∷ [] }
added (event.Request q asker n) f = f
added (event.AskerEnd asker) f = f
added (event.Drain ids requests) f = record f { drained = f.drained ++ ids }
added (event.Answered q v) f = f
added (event.HelperNew h answer) f = with_reserved h answer f
added (event.HelperEnd h) f = record f { ended = f.ended ++ h ∷ [] }
added event.Close f = record f { closed = true }

pub map_last : {A B : Type 0} (g : A → Option B) (xs : List A) (x : A) (y : B) → g x ≡ Some y → filter_map g (xs ++ x ∷ []) ≡ filter_map g xs ++ y ∷ []
map_last g xs x y e = filter_map-append g xs (x ∷ []) ∙ ap (λ o. filter_map g xs ++ cons_option o []) e

pub map_kept : {A B : Type 0} (g : A → Option B) (xs : List A) (x : A) → g x ≡ None → filter_map g (xs ++ x ∷ []) ≡ filter_map g xs
map_kept g xs x e =
    filter_map-append g xs (x ∷ []) ∙ ap (λ o. filter_map g xs ++ cons_option o []) e ∙ append-nil (filter_map g xs)

pub flat_last : {B : Type 0} (g : Event → List B) (xs : List Event) (x : Event) → flat_map g (xs ++ x ∷ []) ≡ flat_map g xs ++ g x
flat_last g xs x = sym (flat_map_more g [] xs x)

drained_last : (xs : List Event) (x : Event) → flat_map drained_in (xs ++ x ∷ []) ≡ flat_map drained_in xs ++ drained_in x
drained_last xs x = flat_last drained_in xs x

drained_kept : (xs : List Event) (x : Event) → drained_in x ≡ [] → flat_map drained_in (xs ++ x ∷ []) ≡ flat_map drained_in xs
drained_kept xs x e = drained_last xs x ∙ ap (λ ids. flat_map drained_in xs ++ ids) e ∙ append-nil (flat_map drained_in xs)

count_last : (p : Event → Bool) (xs : List Event) (x : Event) → p x ≡ true → count_by p (xs ++ x ∷ []) ≡ count_by p xs + 1
count_last p xs x e = sum_by_push (λ y. cond (p y) 1 0) xs x ∙ ap (λ b. count_by p xs + cond b 1 0) e

count_kept : (p : Event → Bool) (xs : List Event) (x : Event) → p x ≡ false → count_by p (xs ++ x ∷ []) ≡ count_by p xs
count_kept p xs x e =
    sum_by_push (λ y. cond (p y) 1 0) xs x ∙ ap (λ b. count_by p xs + cond b 1 0) e ∙ add-zero (count_by p xs)

or_kept : (b : Bool) → (b || (false || false)) ≡ b
or_kept true = refl
or_kept false = refl

or_last : (b : Bool) → (b || (true || false)) ≡ true
or_last true = refl
or_last false = refl

closed_last : (xs : List Event) (x : Event) → is_close x ≡ true → list_any is_close (xs ++ x ∷ []) ≡ true
closed_last xs x e =
    list_any-append is_close xs (x ∷ []) ∙ ap (λ b. list_any is_close xs || (b || false)) e ∙ or_last (list_any is_close xs)

closed_kept : (xs : List Event) (x : Event) → is_close x ≡ false → list_any is_close (xs ++ x ∷ []) ≡ list_any is_close xs
closed_kept xs x e =
    list_any-append is_close xs (x ∷ []) ∙ ap (λ b. list_any is_close xs || (b || false)) e ∙ or_kept (list_any is_close xs)

abbrev facts : Facts → Facts
facts f = f

same_facts : (f g : Facts) → f.handed ≡ g.handed → f.begun ≡ g.begun → f.finished ≡ g.finished → f.drained ≡ g.drained → f.reserved ≡ g.reserved
    → f.ended ≡ g.ended → f.submits ≡ g.submits → f.helpers ≡ g.helpers → f.closed ≡ g.closed → f ≡ g
same_facts f g a b c d e h i j k =
    ap (λ x. facts (record {
      handed = x;
      begun = f.begun;
      finished = f.finished;
      drained = f.drained;
      reserved = f.reserved;
      ended = f.ended;
      submits = f.submits;
      helpers = f.helpers;
      closed = f.closed;
    })) a
    ∙ ap (λ x. facts (record {
      handed = g.handed;
      begun = x;
      finished = f.finished;
      drained = f.drained;
      reserved = f.reserved;
      ended = f.ended;
      submits = f.submits;
      helpers = f.helpers;
      closed = f.closed;
    })) b
    ∙ ap (λ x. facts (record {
      handed = g.handed;
      begun = g.begun;
      finished = x;
      drained = f.drained;
      reserved = f.reserved;
      ended = f.ended;
      submits = f.submits;
      helpers = f.helpers;
      closed = f.closed;
    })) c
    ∙ ap (λ x. facts (record {
      handed = g.handed;
      begun = g.begun;
      finished = g.finished;
      drained = x;
      reserved = f.reserved;
      ended = f.ended;
      submits = f.submits;
      helpers = f.helpers;
      closed = f.closed;
    })) d
    ∙ ap (λ x. facts (record {
      handed = g.handed;
      begun = g.begun;
      finished = g.finished;
      drained = g.drained;
      reserved = x;
      ended = f.ended;
      submits = f.submits;
      helpers = f.helpers;
      closed = f.closed;
    })) e
    ∙ ap (λ x. facts (record {
      handed = g.handed;
      begun = g.begun;
      finished = g.finished;
      drained = g.drained;
      reserved = g.reserved;
      ended = x;
      submits = f.submits;
      helpers = f.helpers;
      closed = f.closed;
    })) h
    ∙ ap (λ x. facts (record {
      handed = g.handed;
      begun = g.begun;
      finished = g.finished;
      drained = g.drained;
      reserved = g.reserved;
      ended = g.ended;
      submits = x;
      helpers = f.helpers;
      closed = f.closed;
    })) i
    ∙ ap (λ x. facts (record {
      handed = g.handed;
      begun = g.begun;
      finished = g.finished;
      drained = g.drained;
      reserved = g.reserved;
      ended = g.ended;
      submits = g.submits;
      helpers = x;
      closed = f.closed;
    })) j
    ∙ ap (λ x. facts (record {
      handed = g.handed;
      begun = g.begun;
      finished = g.finished;
      drained = g.drained;
      reserved = g.reserved;
      ended = g.ended;
      submits = g.submits;
      helpers = g.helpers;
      closed = x;
    })) k

grown_answer : (xs : List Event) (h : ℕ) (answer : Option ℕ) → facts_of (xs ++ event.HelperNew h answer ∷ []) ≡ with_reserved h answer (facts_of xs)
grown_answer xs h None =
    let x = event.HelperNew h None in
    same_facts _ _ (map_kept handed_in xs x refl) (map_kept begun_in xs x refl) (map_kept finished_in xs x refl) (drained_kept xs x refl)
    (map_kept reserved_in xs x refl) (map_kept ended_in xs x refl) (count_kept is_submit xs x refl)
    (count_last is_helper_new xs x refl) (closed_kept xs x refl)
grown_answer xs h (Some t) =
    let x = event.HelperNew h (Some t) in
    same_facts _ _ (map_kept handed_in xs x refl) (map_kept begun_in xs x refl) (map_kept finished_in xs x refl) (drained_kept xs x refl)
    (map_last reserved_in xs x _ refl) (map_kept ended_in xs x refl) (count_kept is_submit xs x refl)
    (count_last is_helper_new xs x refl) (closed_kept xs x refl)

-- an event of no work and no helper
quiet : (xs : List Event) (x : Event) → handed_in x ≡ None → begun_in x ≡ None → finished_in x ≡ None → drained_in x ≡ [] → reserved_in x ≡ None
    → ended_in x ≡ None
    → is_submit x ≡ false → is_helper_new x ≡ false → is_close x ≡ false → facts_of (xs ++ x ∷ []) ≡ facts_of xs
quiet xs x a b c d e f g h k =
    same_facts _ _ (map_kept handed_in xs x a) (map_kept begun_in xs x b) (map_kept finished_in xs x c) (drained_kept xs x d)
    (map_kept reserved_in xs x e) (map_kept ended_in xs x f)
    (count_kept is_submit xs x g) (count_kept is_helper_new xs x h) (closed_kept xs x k)

-- the facts of one more event
pub grown : (xs : List Event) (e : Event) → facts_of (xs ++ e ∷ []) ≡ added e (facts_of xs)
grown xs (event.Submit id work helper) =
    let x = event.Submit id work helper in
    same_facts _ _ (map_last handed_in xs x _ refl) (map_kept begun_in xs x refl) (map_kept finished_in xs x refl)
    (drained_kept xs x refl) (map_kept reserved_in xs x refl) (map_kept ended_in xs x refl) (count_last is_submit xs x refl)
    (count_kept is_helper_new xs x refl) (closed_kept xs x refl)
grown xs (event.Start thread id) =
    let x = event.Start thread id in
    same_facts _ _ (map_kept handed_in xs x refl) (map_last begun_in xs x _ refl) (map_kept finished_in xs x refl)
    (drained_kept xs x refl) (map_kept reserved_in xs x refl) (map_kept ended_in xs x refl) (count_kept is_submit xs x refl)
    (count_kept is_helper_new xs x refl) (closed_kept xs x refl)
grown xs (event.Finish thread id outcome) =
    let x = event.Finish thread id outcome in
    same_facts _ _ (map_kept handed_in xs x refl) (map_kept begun_in xs x refl) (map_last finished_in xs x _ refl)
    (drained_kept xs x refl) (map_kept reserved_in xs x refl) (map_kept ended_in xs x refl) (count_kept is_submit xs x refl)
    (count_kept is_helper_new xs x refl) (closed_kept xs x refl)
grown xs (event.Request q asker n) = quiet xs (event.Request q asker n) refl refl refl refl refl refl refl refl refl
grown xs (event.AskerEnd asker) = quiet xs (event.AskerEnd asker) refl refl refl refl refl refl refl refl refl
grown xs (event.Answered q v) = quiet xs (event.Answered q v) refl refl refl refl refl refl refl refl refl
grown xs (event.Drain ids requests) =
    let x = event.Drain ids requests in
    same_facts _ _ (map_kept handed_in xs x refl) (map_kept begun_in xs x refl) (map_kept finished_in xs x refl) (drained_last xs x)
    (map_kept reserved_in xs x refl) (map_kept ended_in xs x refl) (count_kept is_submit xs x refl)
    (count_kept is_helper_new xs x refl) (closed_kept xs x refl)
grown xs (event.HelperNew h answer) = grown_answer xs h answer
grown xs (event.HelperEnd h) =
    let x = event.HelperEnd h in
    same_facts _ _ (map_kept handed_in xs x refl) (map_kept begun_in xs x refl) (map_kept finished_in xs x refl) (drained_kept xs x refl)
    (map_kept reserved_in xs x refl) (map_last ended_in xs x _ refl) (count_kept is_submit xs x refl)
    (count_kept is_helper_new xs x refl) (closed_kept xs x refl)
grown xs event.Close =
    let x = event.Close in
    same_facts _ _ (map_kept handed_in xs x refl) (map_kept begun_in xs x refl) (map_kept finished_in xs x refl) (drained_kept xs x refl)
    (map_kept reserved_in xs x refl) (map_kept ended_in xs x refl) (count_kept is_submit xs x refl)
    (count_kept is_helper_new xs x refl) (closed_last xs x refl)
