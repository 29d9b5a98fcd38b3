-- What is kept of the askers and their requests after an event that fits is what the history leaves with it.
use Rattle.std.proofs.Common.{ℕ, ℤ, zero, suc, ◌+◌, ◌*◌, ◌<◌, ◌≤◌, ◌≡◌, ◌⊎◌, List, [], ◌∷◌, ◌++◌, Bool, true, false, cond, length, get_or, set, drop, refl, ap, sym, ◌∙◌, subst, inl, inr, arith, length-set, length-append, append-nil, get_or-set_same, get_or-set_other}
use Rattle.std.specs.Prelude.{◌||◌, ◌&&◌, ◌==◌, not, map, find, sum_by, count_by, Option, Some, None, is_some, is_none}
use Rattle.std.specs.Option.{option_map, option_or}
use Rattle.std.specs.List.{list_any, flat_map, range_with_len}
use Rattle.std.proofs.Math.Seq.{get_or-append_seam}
use Rattle.std.proofs.lemmas.Bool.{eq-eqb, ne_eqb, cases_lt, cases_eq}
use Rattle.std.proofs.lemmas.List.{map-append, length-replicate, length-drop, get_or-drop, get_or_append_left}
use Rattle.std.proofs.lemmas.List.Folds.{list_any-append, find-append, sum_by-replicate}
use Rattle.std.proofs.lemmas.List.Sums.{sum_by-set, sum_by-cons, sum_by_push}
use Rattle.ak_history.specs.declared.event.Event.{Event}
use Rattle.ak_history.specs.declared.event.Event.TheVariants as event
use Rattle.ak_history.specs.Events.{Asking, asked_in, fetched_in, answered_in, left_in, is_among, is_drain, is_asker_end, numbers_below}
use Rattle.ak_pool.specs.declared.requests.Asker.{Asker}
use Rattle.ak_pool.specs.declared.requests.Made.{Made}
use Rattle.ak_pool.specs.Askers.{RequestsState, no_asker, no_request, nothing_asked, asker_at, made_at, asker_put, next_made, with_request, with_answer, with_end, all_fetched, unfetched_of, left_of, asking_of, asker_due, due_of, is_bare, is_waiting, IsFree, IsUnanswered, IsWaitedFor, IsWaiting, AreTied}
use Rattle.ak_pool.specs.AskersStand.{RequestFacts, request_facts, answer_among, AskersStand}
use Rattle.ak_pool.specs.Judged.{FitsRequests, requests_noted}
use Rattle.ak_pool.specs.Pools.{has_untold_end}
use Rattle.ak_pool.proofs.Growing.{map_last, map_kept, flat_last}
use Rattle.ak_pool.proofs.Helpers.{ended_apart, ended_now}
use Rattle.ak_pool.proofs.Items.{some_same}
use Rattle.ak_pool.proofs.Ranges.{below_range, below_then, numbers_are, map_set_same}

-- ---- what one more event adds
untold_bits : (a y d b u : Bool) → ((a && not (y || (d || false))) || (b || (not d && u))) ≡ (b || (not d && ((a && not y) || u)))
untold_bits true true true b u = refl
untold_bits true false true b u = refl
untold_bits false y true b u = refl
untold_bits true true false b u = refl
untold_bits true false false true u = refl
untold_bits true false false false u = refl
untold_bits false y false b u = refl

untold_one : (b d : Bool) → ((b && true) || false) ≡ (b || (not d && false))
untold_one true d = refl
untold_one false true = refl
untold_one false false = refl

untold_last : (xs : List Event) (e : Event) → has_untold_end (xs ++ e ∷ []) ≡ (is_asker_end e || (not (is_drain e) && has_untold_end xs))
untold_last [] e = untold_one (is_asker_end e) (is_drain e)
untold_last (x ∷ xs) e =
    (λ i. (is_asker_end x && not (list_any-append is_drain xs (e ∷ []) i)) || untold_last xs e i)
    ∙ untold_bits (is_asker_end x) (list_any is_drain xs) (is_drain e) (is_asker_end e) (has_untold_end xs)

abbrev pub request_added : Event → RequestFacts → RequestFacts
request_added (event.Request q a n) f = record f { asked = f.asked ++ record { no = q; asker = a; num = n } ∷ [] }
request_added (event.AskerEnd a) f = record f { left = f.left ++ a ∷ []; untold = true }
request_added (event.Drain ids requests) f = record f { fetched = f.fetched ++ requests; untold = false }
request_added (event.Answered q v) f = record f { answers = f.answers ++ (q, v) ∷ [] }
request_added e f = f

abbrev facts : List Asking → List ℕ → List (ℕ × ℤ) → List ℕ → Bool → RequestFacts
facts asked fetched answers left untold =
    record { asked = asked; fetched = fetched; answers = answers; left = left; untold = untold }

same_facts : (f g : RequestFacts) → f.asked ≡ g.asked → f.fetched ≡ g.fetched → f.answers ≡ g.answers → f.left ≡ g.left → f.untold ≡ g.untold → f ≡ g
same_facts f g a b c d e = λ i. facts (a i) (b i) (c i) (d i) (e i)

fetched_kept : (xs : List Event) (e : Event) → fetched_in e ≡ [] → flat_map fetched_in (xs ++ e ∷ []) ≡ flat_map fetched_in xs
fetched_kept xs e k =
    flat_last fetched_in xs e ∙ (ap (λ l. flat_map fetched_in xs ++ l) k ∙ append-nil (flat_map fetched_in xs))

quiet : (xs : List Event) (e : Event) → asked_in e ≡ None → fetched_in e ≡ [] → answered_in e ≡ None → left_in e ≡ None → is_asker_end e ≡ false
    → is_drain e ≡ false
    → request_facts (xs ++ e ∷ []) ≡ request_facts xs
quiet xs e a b c d end drain =
    same_facts _ _ (map_kept asked_in xs e a) (fetched_kept xs e b) (map_kept answered_in xs e c) (map_kept left_in xs e d)
    (untold_last xs e ∙ (λ i. end i || (not (drain i) && has_untold_end xs)))

pub request_grown : (xs : List Event) (e : Event) → request_facts (xs ++ e ∷ []) ≡ request_added e (request_facts xs)
request_grown xs (event.Submit id work helper) = quiet xs (event.Submit id work helper) refl refl refl refl refl refl
request_grown xs (event.Start thread id) = quiet xs (event.Start thread id) refl refl refl refl refl refl
request_grown xs (event.Finish thread id outcome) = quiet xs (event.Finish thread id outcome) refl refl refl refl refl refl
request_grown xs (event.Request q a n) =
    let x = event.Request q a n in
    same_facts _ _ (map_last asked_in xs x _ refl) (fetched_kept xs x refl) (map_kept answered_in xs x refl) (map_kept left_in xs x refl) (untold_last xs x)
request_grown xs (event.AskerEnd a) =
    let x = event.AskerEnd a in
    same_facts _ _ (map_kept asked_in xs x refl) (fetched_kept xs x refl) (map_kept answered_in xs x refl) (map_last left_in xs x _ refl) (untold_last xs x)
request_grown xs (event.Drain ids requests) =
    let x = event.Drain ids requests in
    same_facts _ _ (map_kept asked_in xs x refl) (flat_last fetched_in xs x) (map_kept answered_in xs x refl) (map_kept left_in xs x refl) (untold_last xs x)
request_grown xs (event.Answered q v) =
    let x = event.Answered q v in
    same_facts _ _ (map_kept asked_in xs x refl) (fetched_kept xs x refl) (map_last answered_in xs x _ refl) (map_kept left_in xs x refl) (untold_last xs x)
request_grown xs (event.HelperNew h answer) = quiet xs (event.HelperNew h answer) refl refl refl refl refl refl
request_grown xs (event.HelperEnd h) = quiet xs (event.HelperEnd h) refl refl refl refl refl refl
request_grown xs event.Close = quiet xs event.Close refl refl refl refl refl refl

-- ---- an asker that is put in
abbrev bit : Bool → ℕ
bit b = cond b 1 0

asker_same : (s : RequestsState) (a : ℕ) (x : Asker) → a < length s.askers → asker_at (asker_put a x s) a ≡ x
asker_same s a x lt = get_or-set_same s.askers a x no_asker lt

asker_other : (s : RequestsState) (a b : ℕ) (x : Asker) → (b ≡ a → ⊥) → asker_at (asker_put a x s) b ≡ asker_at s b
asker_other s a b x ne = get_or-set_other s.askers a b x no_asker ne

-- what all askers keep where the new one keeps it
put_keeps : {T : Type 0} (g : Asker → T) (s : RequestsState) (a b : ℕ) (x : Asker) → a < length s.askers → g x ≡ g (asker_at s a)
    → g (asker_at (asker_put a x s) b) ≡ g (asker_at s b)
put_keeps g s a b x lt same =
    elim (cases_eq b a) [
      | inl e ↦ ap (λ n. g (asker_at (asker_put a x s) n)) e ∙ (ap g (asker_same s a x lt) ∙ (same ∙ sym (ap (λ n. g (asker_at s n)) e)))
      | inr ne ↦ ap g (asker_other s a b x ne)
    ]

left_put : (s : RequestsState) (a : ℕ) (x : Asker) → a < length s.askers
    → left_of (asker_put a x s) + bit (not (asker_at s a).ended) ≡ left_of s + bit (not x.ended)
left_put s a x lt = sum_by-set (λ y. bit (not y.ended)) s.askers a x no_asker lt

pub due_put : (s : RequestsState) (a : ℕ) (x : Asker) → a < length s.askers → due_of (asker_put a x s) + asker_due (asker_at s a) ≡ due_of s + asker_due x
due_put s a x lt = sum_by-set asker_due s.askers a x no_asker lt

waiting_put : (s : RequestsState) (a : ℕ) (x : Asker) → a < length s.askers
    → count_by is_waiting (set s.askers a x) + bit (is_waiting (asker_at s a)) ≡ count_by is_waiting s.askers + bit (is_waiting x)
waiting_put s a x lt = sum_by-set (λ y. bit (is_waiting y)) s.askers a x no_asker lt

-- an asker that waits has not ended, where this is so of the one that is put in
lasting_put : (s : RequestsState) (a : ℕ) (x : Asker) → a < length s.askers → (is_waiting x ≡ true → x.ended ≡ false)
    → ((b : ℕ) → is_waiting (asker_at s b) ≡ true → (asker_at s b).ended ≡ false)
    → (b : ℕ) → is_waiting (asker_at (asker_put a x s) b) ≡ true → (asker_at (asker_put a x s) b).ended ≡ false
lasting_put s a x lt here others b =
    elim (cases_eq b a) [
      | inl e ↦ λ w. ap (λ n. (asker_at (asker_put a x s) n).ended) e
          ∙ (ap (λ (y : Asker). y.ended) (asker_same s a x lt)
          ∙ here (sym (ap is_waiting (asker_same s a x lt)) ∙ (sym (ap (λ n. is_waiting (asker_at (asker_put a x s) n)) e) ∙ w)))
      | inr ne ↦ λ w. ap (λ (y : Asker). y.ended) (asker_other s a b x ne) ∙ others b (sym (ap is_waiting (asker_other s a b x ne)) ∙ w)
    ]

due_small : (a : Asker) → asker_due a ≤ 2
due_small a = of a.ended (is_some a.waits_for)
  where
    of : (e w : Bool) → cond e 0 1 + cond w 1 0 ≤ 2
    of true true = omega arith
    of true false = omega arith
    of false true = omega arith
    of false false = omega arith

pub due_below : (xs : List Asker) → sum_by asker_due xs ≤ 2 * length xs
due_below [] = omega arith
due_below (x ∷ xs) = omega (arith, due_below xs, due_small x, sum_by-cons asker_due x xs)

-- ---- a request more
push_answer : (xs : List Made) (x : Made) (q : ℕ) → x.answer ≡ None → (get_or (xs ++ x ∷ []) q no_request).answer ≡ (get_or xs q no_request).answer
push_answer [] x zero e = e
push_answer [] x (suc q) e = refl
push_answer (y ∷ xs) x zero e = refl
push_answer (y ∷ xs) x (suc q) e = push_answer xs x q e

made_old : (s : RequestsState) (a : ℕ) (n : ℤ) (q : ℕ) → q < length s.made → made_at (with_request a n s) q ≡ made_at s q
made_old s a n q lt = get_or_append_left s.made (next_made a n s ∷ []) no_request q lt

made_new : (s : RequestsState) (a : ℕ) (n : ℤ) → made_at (with_request a n s) (length s.made) ≡ next_made a n s
made_new s a n = get_or-append_seam s.made (next_made a n s) [] no_request

made_more : (s : RequestsState) (a : ℕ) (n : ℤ) → length (with_request a n s).made ≡ length s.made + 1
made_more s a n = length-append s.made (next_made a n s ∷ [])

-- a request is an old one or the new one
one_of : (s : RequestsState) (a : ℕ) (n : ℤ) (q : ℕ) → q < length (with_request a n s).made → (q < length s.made) ⊎ (q ≡ length s.made)
one_of s a n q lt =
    elim (cases_lt q (length s.made)) [ inl less ↦ inl less | inr ge ↦ inr (omega (arith, made_more s a n)) ]

tied_request : (s : RequestsState) (a : ℕ) (n : ℤ) → IsFree s a → AreTied s → AreTied (with_request a n s)
tied_request s a n free tied = record { waited_for = λ q lt bare. for q (one_of s a n q lt) bare; waiting = λ b q e. on b q (cases_eq b a) e }
  where
    s' : RequestsState
    s' = with_request a n s

    x : Asker
    x = record (asker_at s a) { waits_for = Some (length s.made) }

    size : length s'.askers ≡ length s.askers
    size = length-set s.askers a x

    for : (q : ℕ) → (q < length s.made) ⊎ (q ≡ length s.made) → (made_at s' q).answer ≡ None → IsWaitedFor s' q
    for q (inl lt) bare =
        let same = made_old s a n q lt in
        let old = tied.waited_for q lt (sym (ap (λ (m : Made). m.answer) same) ∙ bare) in
        let own : (made_at s' q).asker ≡ (made_at s q).asker = ap (λ (m : Made). m.asker) same in
        let other : (made_at s q).asker ≡ a → ⊥ = λ e. absurd (cc (old.waits, ap (λ b. (asker_at s b).waits_for) e, free.2)) in
        record {
          exists = omega (arith, own, old.exists, size);
          waits = ap (λ b. (asker_at s' b).waits_for) own ∙ (ap (λ (y : Asker). y.waits_for) (asker_other s a (made_at s q).asker x other) ∙ old.waits);
        }
    for q (inr e) bare =
        let same : made_at s' q ≡ next_made a n s = ap (made_at s') e ∙ made_new s a n in
        let own : (made_at s' q).asker ≡ a = ap (λ (m : Made). m.asker) same in
        record {
          exists = omega (arith, own, free.0, size);
          waits = ap (λ b. (asker_at s' b).waits_for) own ∙ (ap (λ (y : Asker). y.waits_for) (asker_same s a x free.0) ∙ ap Some (sym e));
        }

    on : (b q : ℕ) → (b ≡ a) ⊎ (b ≡ a → ⊥) → (asker_at s' b).waits_for ≡ Some q → IsWaiting s' b q
    on b q (inl is) e =
        let new : q ≡ length s.made =
        sym (some_same (length s.made) q (sym (ap (λ (y : Asker). y.waits_for) (asker_same s a x free.0))
        ∙ (sym (ap (λ k. (asker_at s' k).waits_for) is) ∙ e))) in
        let same : made_at s' q ≡ next_made a n s = ap (made_at s') new ∙ made_new s a n in
        record {
          made = omega (arith, new, made_more s a n);
          own = ap (λ (m : Made). m.asker) same ∙ sym is;
          unanswered = ap (λ (m : Made). m.answer) same;
        }
    on b q (inr ne) e =
        let old = tied.waiting b q (sym (ap (λ (y : Asker). y.waits_for) (asker_other s a b x ne)) ∙ e) in
        let same = made_old s a n q old.made in
        record {
          made = omega (arith, old.made, made_more s a n);
          own = ap (λ (m : Made). m.asker) same ∙ old.own;
          unanswered = ap (λ (m : Made). m.answer) same ∙ old.unanswered;
        }

stands_asked : (size : ℕ) (f : RequestFacts) (s : RequestsState) (a : ℕ) (n : ℤ) → AskersStand size f s → IsFree s a
    → AskersStand size (request_added (event.Request (length s.made) a n) f) (with_request a n s)
stands_asked size f s a n st free =
    let x : Asker = record (asker_at s a) { waits_for = Some (length s.made) } in
    record {
      size = length-set s.askers a x ∙ st.size;
      asked = ap (λ l. l ++ record { no = length s.made; asker = a; num = n } ∷ []) st.asked ∙ sym (map-append asking_of s.made (next_made a n s ∷ []));
      numbered = λ q lt. elim (one_of s a n q lt) [
        | inl less ↦ ap (λ (m : Made). m.no) (made_old s a n q less) ∙ st.numbered q less
        | inr e ↦ ap (λ k. (made_at (with_request a n s) k).no) e ∙ (ap (λ (m : Made). m.no) (made_new s a n) ∙ sym e)
      ];
      answers = λ q. st.answers q ∙ sym (push_answer s.made (next_made a n s) q refl);
      fetched = st.fetched;
      few = omega (arith, st.few, made_more s a n);
      ended = λ b. st.ended b ∙ sym (put_keeps (λ (y : Asker). y.ended) s a b x free.0 refl);
      left = omega (arith, st.left, left_put s a x free.0);
      tied = tied_request s a n free st.tied;
      counted = omega (
        arith,
        st.counted,
        waiting_put s a x free.0,
        ap (λ o. bit (is_some o)) free.2,
        sum_by_push (λ (m : Made). bit (is_bare m)) s.made (next_made a n s),
      );
      lasting = lasting_put s a x free.0 (λ w. free.1) st.lasting;
      untold = st.untold;
    }

-- ---- an answer
abbrev with_it : Made → ℤ → Made
with_it m v = record m { answer = Some v }

tied_answer : (s : RequestsState) (q : ℕ) (v : ℤ) → q < length s.made → (made_at s q).answer ≡ None → AreTied s → AreTied (with_answer q v s)
tied_answer s q v lt bare tied = record { waited_for = λ k less no_answer. for k less (cases_eq k q) no_answer; waiting = λ b k e. on b k (cases_eq b a) e }
  where
    s' : RequestsState
    s' = with_answer q v s

    a : ℕ
    a = (made_at s q).asker

    x : Asker
    x = record (asker_at s a) { waits_for = None }

    was : IsWaitedFor s q
    was = tied.waited_for q lt bare

    size : length s'.askers ≡ length s.askers
    size = length-set s.askers a x

    many : length s'.made ≡ length s.made
    many = length-set s.made q (with_it (made_at s q) v)

    now : made_at s' q ≡ with_it (made_at s q) v
    now = get_or-set_same s.made q (with_it (made_at s q) v) no_request lt

    other : (k : ℕ) → (k ≡ q → ⊥) → made_at s' k ≡ made_at s k
    other k ne = get_or-set_other s.made q k (with_it (made_at s q) v) no_request ne

    for : (k : ℕ) → k < length s'.made → (k ≡ q) ⊎ (k ≡ q → ⊥) → (made_at s' k).answer ≡ None → IsWaitedFor s' k
    for k less (inl e) no_answer = absurd (cc (no_answer, ap (λ j. (made_at s' j).answer) e, ap (λ (m : Made). m.answer) now))
    for k less (inr ne) no_answer =
        let same = other k ne in
        let old = tied.waited_for k (omega (arith, less, many)) (sym (ap (λ (m : Made). m.answer) same) ∙ no_answer) in
        let own : (made_at s' k).asker ≡ (made_at s k).asker = ap (λ (m : Made). m.asker) same in
        let apart : (made_at s k).asker ≡ a → ⊥ =
        λ e. ne (some_same k q (sym old.waits ∙ (ap (λ b. (asker_at s b).waits_for) e ∙ was.waits))) in
        record {
          exists = omega (arith, own, old.exists, size);
          waits = ap (λ b. (asker_at s' b).waits_for) own ∙ (ap (λ (y : Asker). y.waits_for) (asker_other s a (made_at s k).asker x apart) ∙ old.waits);
        }

    on : (b k : ℕ) → (b ≡ a) ⊎ (b ≡ a → ⊥) → (asker_at s' b).waits_for ≡ Some k → IsWaiting s' b k
    on b k (inl is) e =
        absurd (cc (e, ap (λ j. (asker_at s' j).waits_for) is, ap (λ (y : Asker). y.waits_for) (asker_same s a x was.exists)))
    on b k (inr ne) e =
        let old = tied.waiting b k (sym (ap (λ (y : Asker). y.waits_for) (asker_other s a b x ne)) ∙ e) in
        let same = other k (λ is. ne (sym old.own ∙ ap (λ j. (made_at s j).asker) is)) in
        record {
          made = omega (arith, old.made, many);
          own = ap (λ (m : Made). m.asker) same ∙ old.own;
          unanswered = ap (λ (m : Made). m.answer) same ∙ old.unanswered;
        }

none_of : {A B : Type 0} (g : A → B) (o : Option A) → option_map g o ≡ None → o ≡ None
none_of g None e = refl
none_of g (Some x) e = absurd (cc e)

answer_now : (answers : List (ℕ × ℤ)) (q : ℕ) (v : ℤ) → answer_among answers q ≡ None → answer_among (answers ++ (q, v) ∷ []) q ≡ Some v
answer_now answers q v none =
    ap (option_map (λ (x : ℕ × ℤ). x.1))
    (find-append (λ (x : ℕ × ℤ). x.0 == q) answers ((q, v) ∷ [])
    ∙ ((λ i. option_or (none_of (λ (x : ℕ × ℤ). x.1) (find (λ (x : ℕ × ℤ). x.0 == q) answers) none i) (find (λ (x : ℕ × ℤ). x.0 == q) ((q, v) ∷ [])))
    ∙ ap (λ b. cond b (Some (q, v)) None) (eq-eqb q q refl)))

or_none : {A : Type 0} (o : Option A) → option_or o None ≡ o
or_none None = refl
or_none (Some x) = refl

answer_other : (answers : List (ℕ × ℤ)) (q k : ℕ) (v : ℤ) → (k ≡ q → ⊥) → answer_among (answers ++ (q, v) ∷ []) k ≡ answer_among answers k
answer_other answers q k v ne =
    ap (option_map (λ (x : ℕ × ℤ). x.1))
    (find-append (λ (x : ℕ × ℤ). x.0 == k) answers ((q, v) ∷ [])
    ∙ (ap (λ b. option_or (find (λ (x : ℕ × ℤ). x.0 == k) answers) (cond b (Some (q, v)) None)) (ne_eqb q k (λ e. ne (sym e)))
    ∙ or_none (find (λ (x : ℕ × ℤ). x.0 == k) answers)))

stands_answered : (size : ℕ) (f : RequestFacts) (s : RequestsState) (q : ℕ) (v : ℤ) → AskersStand size f s → IsUnanswered s q
    → AskersStand size (request_added (event.Answered q v) f) (with_answer q v s)
stands_answered size f s q v st bare =
    let lt : q < length s.made = omega (arith, bare.0, st.few) in
    let a : ℕ = (made_at s q).asker in
    let x : Asker = record (asker_at s a) { waits_for = None } in
    let y : Made = with_it (made_at s q) v in
    let was = st.tied.waited_for q lt bare.1 in
    let many : length (with_answer q v s).made ≡ length s.made = length-set s.made q y in
    record {
      size = length-set s.askers a x ∙ st.size;
      asked = st.asked ∙ sym (map_set_same asking_of s.made q y no_request refl);
      numbered = λ k less. elim (cases_eq k q) [
        | inl e ↦ ap (λ j. (made_at (with_answer q v s) j).no) e
            ∙ (ap (λ (m : Made). m.no) (get_or-set_same s.made q y no_request lt) ∙ (st.numbered q lt ∙ sym e))
        | inr ne ↦ ap (λ (m : Made). m.no) (get_or-set_other s.made q k y no_request ne) ∙ st.numbered k (omega (arith, less, many))
      ];
      answers = λ k. elim (cases_eq k q) [
        | inl e ↦ ap (answer_among (f.answers ++ (q, v) ∷ [])) e
            ∙ (answer_now f.answers q v (st.answers q ∙ bare.1)
            ∙ (sym (ap (λ (m : Made). m.answer) (get_or-set_same s.made q y no_request lt)) ∙ sym (ap (λ j. (made_at (with_answer q v s) j).answer) e)))
        | inr ne ↦ answer_other f.answers q k v ne ∙ (st.answers k ∙ sym (ap (λ (m : Made). m.answer) (get_or-set_other s.made q k y no_request ne)))
      ];
      fetched = st.fetched;
      few = omega (arith, st.few, many);
      ended = λ b. st.ended b ∙ sym (put_keeps (λ (z : Asker). z.ended) s a b x was.exists refl);
      left = omega (arith, st.left, left_put s a x was.exists);
      tied = tied_answer s q v lt bare.1 st.tied;
      counted = omega (
        arith,
        st.counted,
        waiting_put s a x was.exists,
        ap (λ o. bit (is_some o)) was.waits,
        sum_by-set (λ (m : Made). bit (is_bare m)) s.made q y no_request lt,
        ap (λ o. bit (is_none o)) bare.1,
      );
      lasting = lasting_put s a x was.exists (λ w. absurd (cc w)) st.lasting;
      untold = st.untold;
    }

-- ---- an asker ends
tied_end : (s : RequestsState) (a : ℕ) → a < length s.askers → AreTied s → AreTied (with_end a s)
tied_end s a lt tied =
    let x : Asker = record (asker_at s a) { ended = true } in
    let same = λ (b : ℕ). put_keeps (λ (y : Asker). y.waits_for) s a b x lt refl in
    record {
      waited_for = λ q less bare. let old = tied.waited_for q less bare in
          record { exists = omega (arith, old.exists, length-set s.askers a x); waits = same (made_at s q).asker ∙ old.waits };
      waiting = λ b q e. let old = tied.waiting b q (sym (same b) ∙ e) in
          record { made = old.made; own = old.own; unanswered = old.unanswered };
    }

stands_left : (size : ℕ) (f : RequestFacts) (s : RequestsState) (a : ℕ) → AskersStand size f s → IsFree s a
    → AskersStand size (request_added (event.AskerEnd a) f) (with_end a s)
stands_left size f s a st free =
    let x : Asker = record (asker_at s a) { ended = true } in
    let was : bit (not (asker_at s a).ended) ≡ 1 = ap (λ b. bit (not b)) free.1 in
    record {
      size = length-set s.askers a x ∙ st.size;
      asked = st.asked;
      numbered = st.numbered;
      answers = st.answers;
      fetched = st.fetched;
      few = st.few;
      ended = λ b. elim (cases_eq b a) [
        | inl e ↦ ap (is_among (f.left ++ a ∷ [])) e
            ∙ (ended_now f.left a ∙ (sym (ap (λ (y : Asker). y.ended) (asker_same s a x free.0)) ∙ sym (ap (λ n. (asker_at (with_end a s) n).ended) e)))
        | inr ne ↦ ended_apart f.left a b (λ e. ne (sym e)) ∙ (st.ended b ∙ sym (ap (λ (y : Asker). y.ended) (asker_other s a b x ne)))
      ];
      left = omega (arith, st.left, left_put s a x free.0, was, length-append f.left (a ∷ []));
      tied = tied_end s a free.0 st.tied;
      counted = omega (arith, st.counted, waiting_put s a x free.0);
      lasting = lasting_put s a x free.0 (λ w. absurd (cc (w, ap is_some free.2))) st.lasting;
      untold = refl;
    }

-- ---- a drain
-- the numbers of the requests that were made, and of those that were not fetched
pub made_numbers : (s : RequestsState) → ((q : ℕ) → q < length s.made → (made_at s q).no ≡ q) → map (λ (m : Made). m.no) s.made ≡ numbers_below (length s.made)
made_numbers s numbered =
    numbers_are (λ (m : Made). m.no) s.made no_request 0 (λ q lt. omega (arith, numbered q lt)) ∙ sym (below_range (length s.made))

pub unfetched_range : (s : RequestsState) → ((q : ℕ) → q < length s.made → (made_at s q).no ≡ q) → s.fetched ≤ length s.made
    → map (λ (m : Made). m.no) (unfetched_of s) ≡ range_with_len s.fetched (length (unfetched_of s))
unfetched_range s numbered few =
    numbers_are (λ (m : Made). m.no) (unfetched_of s) no_request s.fetched
    (λ i lt. ap (λ (m : Made). m.no) (get_or-drop s.fetched s.made i no_request) ∙ numbered (s.fetched + i) (omega (arith, lt, length-drop s.fetched s.made)))

pub unfetched_numbers : (s : RequestsState) → ((q : ℕ) → q < length s.made → (made_at s q).no ≡ q) → s.fetched ≤ length s.made
    → numbers_below s.fetched ++ map (λ (m : Made). m.no) (unfetched_of s) ≡ numbers_below (length s.made)
unfetched_numbers s numbered few =
    ap (λ l. numbers_below s.fetched ++ l) (unfetched_range s numbered few ∙ ap (range_with_len s.fetched) (length-drop s.fetched s.made))
    ∙ below_then s.fetched (length s.made) few

stands_told : (size : ℕ) (f : RequestFacts) (s : RequestsState) (ids requests : List ℕ) → AskersStand size f s
    → requests ≡ map (λ (m : Made). m.no) (unfetched_of s)
    → AskersStand size (request_added (event.Drain ids requests) f) (all_fetched s)
stands_told size f s ids requests st e =
    record {
      size = st.size;
      asked = st.asked;
      numbered = st.numbered;
      answers = st.answers;
      fetched = (λ i. st.fetched i ++ e i) ∙ unfetched_numbers s st.numbered st.few;
      few = omega arith;
      ended = st.ended;
      left = st.left;
      tied = record {
        waited_for = λ q less bare. let old = st.tied.waited_for q less bare in record { exists = old.exists; waits = old.waits };
        waiting = λ b q is. let old = st.tied.waiting b q is in record { made = old.made; own = old.own; unanswered = old.unanswered };
      };
      counted = st.counted;
      lasting = st.lasting;
      untold = refl;
    }

-- ---- all events
next_facts : (size : ℕ) (f : RequestFacts) (s : RequestsState) (e : Event) → AskersStand size f s → FitsRequests s e
    → AskersStand size (request_added e f) (requests_noted e s)
next_facts size f s (event.Submit id work helper) st h = st
next_facts size f s (event.Start thread id) st h = st
next_facts size f s (event.Finish thread id outcome) st h = st
next_facts size f s (event.Request q a n) st h =
    subst (λ k. AskersStand size (request_added (event.Request k a n) f) (with_request a n s)) (sym h.0) (stands_asked size f s a n st h.1)
next_facts size f s (event.AskerEnd a) st h = stands_left size f s a st h
next_facts size f s (event.Drain ids requests) st h = stands_told size f s ids requests st h
next_facts size f s (event.Answered q v) st h = stands_answered size f s q v st h
next_facts size f s (event.HelperNew asked answer) st h = st
next_facts size f s (event.HelperEnd helper) st h = st
next_facts size f s event.Close st h = st

pub asked_next : (size : ℕ) (history : List Event) (s : RequestsState) (e : Event) → AskersStand size (request_facts history) s → FitsRequests s e
    → AskersStand size (request_facts (history ++ e ∷ [])) (requests_noted e s)
asked_next size history s e st h =
    subst (λ f. AskersStand size f (requests_noted e s)) (sym (request_grown history e)) (next_facts size (request_facts history) s e st h)

-- askers that have asked nothing
default_replicate : (size a : ℕ) → asker_at (nothing_asked size) a ≡ no_asker
default_replicate zero a = refl
default_replicate (suc size) zero = refl
default_replicate (suc size) (suc a) = default_replicate size a

pub asked_first : (size : ℕ) → AskersStand size (request_facts []) (nothing_asked size)
asked_first size =
    record {
      size = length-replicate size no_asker;
      asked = refl;
      numbered = λ q lt. absurd (omega arith);
      answers = λ q. refl;
      fetched = refl;
      few = omega arith;
      ended = λ a. sym (ap (λ (y : Asker). y.ended) (default_replicate size a));
      left = omega (arith, sum_by-replicate (λ (y : Asker). bit (not y.ended)) size no_asker);
      tied = record {
        waited_for = λ q lt bare. absurd (omega arith);
        waiting = λ a q e. absurd (cc (e, ap (λ (y : Asker). y.waits_for) (default_replicate size a)));
      };
      counted = omega (arith, sum_by-replicate (λ (y : Asker). bit (is_waiting y)) size no_asker);
      lasting = λ a w. ap (λ (y : Asker). y.ended) (default_replicate size a);
      untold = refl;
    }
