-- A request that is owed an answer may be answered: the pool takes the call, and leaves the state in step.
use Rattle.std.proofs.Common.{ℕ, ℤ, zero, suc, ◌+◌, ◌≤◌, ◌<◌, ◌≡◌, List, [], ◌∷◌, ◌++◌, length, map, filter, get_or, Bool, true, false, ◌||◌, ◌&&◌, cond}
use Rattle.std.proofs.Common.{refl, sym, subst, ◌∙◌, ap, arith}
use Rattle.std.specs.Prelude.{not, ◌==◌, Contains}
use Rattle.std.specs.List.{AllByRecursion, list_any, filter_map}
use Rattle.std.proofs.lemmas.Bool.{eqb-true, eq-eqb, true≢false}
use Rattle.std.proofs.lemmas.List.{length-map}
use Rattle.std.proofs.lemmas.List.Elements.{filter_map-append}
use Rattle.std.proofs.lemmas.List.Folds.{list_any-append}
use Rattle.std.proofs.Math.ListN.{set, length-set}
use Rattle.ak_base.proofs.Lists.{all_push}
use Rattle.ak_labor.specs.declared.ask.Ask.{Ask}
use Rattle.ak_labor.specs.declared.ask.Ask.TheVariants as ask
use Rattle.ak_labor.specs.Calls.{Reply, Done}
use Rattle.ak_labor.specs.Waits.{handed_by, helper_in, pairs_in, answered_by, came, is_unanswered, unanswered}
use Rattle.ak_frames.specs.declared.frame.Frame.{Frame}
use Rattle.ak_frames.specs.declared.frame.Frame.TheVariants.{AnswerOut}
use Rattle.ak_machine.specs.declared.held.Requested.{Requested}
use Rattle.ak_machine.specs.State.{State}
use Rattle.ak_machine.specs.Works.{request_at, answered}
use Rattle.ak_ledger.specs.Outside.{work_handed, request_kept, waits_for_answer, IsInStep, IsAskable}
use Rattle.ak_ledger.specs.Answers.{NumberedFrom, AnswersAreOwed}
use Rattle.ak_ledger.proofs.Calls.{nothing_behind, none_longer, filter_same, outstanding_same, active_next, came_same, left_same}
use Rattle.ak_ledger.proofs.Owed.{absent, its_answer}

-- ---- the numbers of those that wait
abbrev pub numbers_of : List (ℕ × Bool) → List ℕ
numbers_of requests = map (λ request. request.0) (filter waits_for_answer requests)

abbrev pub numbers_waiting : List Requested → List ℕ
numbers_waiting requests = numbers_of (map request_kept requests)

-- the same of a request in front of others, by whether it is answered
abbrev pub numbers_by : Bool → Requested → List Requested → List ℕ
numbers_by b x xs =
    let rest : List (ℕ × Bool) = filter waits_for_answer (map request_kept xs)
    in map (λ request. request.0) (cond (not b) (request_kept x ∷ rest) rest)

pub contains_later : (x y : ℕ) (xs : List ℕ) → Contains xs x → Contains (y ∷ xs) x
contains_later x y xs c = (suc c.0, omega (arith, c.1), c.2)

-- a request that has no answer is among them, and there
pub waits_there : (n k : ℕ) (xs : List Requested) (d : Requested) → NumberedFrom n xs → d.answered ≡ true → (get_or xs k d).answered ≡ false
    → (k < length xs) × Contains (numbers_waiting xs) (n + k)
waits_there n k [] d h a e = absurd (true≢false (sym a ∙ e))
waits_there n zero (x ∷ xs) d h a e =
    let here : Contains (n ∷ numbers_waiting xs) n = (0, omega arith, refl)
    in let same : n ≡ n + 0 = omega arith
    in let there : Contains (x.number ∷ numbers_waiting xs) (n + 0) =
    subst (λ m. Contains (x.number ∷ numbers_waiting xs) m) same (subst (λ m. Contains (m ∷ numbers_waiting xs) n) (sym h.0) here)
    in (omega arith, subst (λ b. Contains (numbers_by b x xs) (n + 0)) (sym e) there)
waits_there n (suc k) (x ∷ xs) d h a e = by x.answered (waits_there (n + 1) k xs d h.1 a e)
  where
    by : (b : Bool) → (k < length xs) × Contains (numbers_waiting xs) (n + 1 + k)
        → (suc k < length (x ∷ xs)) × Contains (numbers_by b x xs) (n + suc k)
    by true c =
        let same : n + 1 + k ≡ n + suc k = omega arith
        in (omega (arith, c.0), subst (Contains (numbers_waiting xs)) same c.1)
    by false c =
        let same : n + 1 + k ≡ n + suc k = omega arith
        in (omega (arith, c.0), contains_later (n + suc k) x.number (numbers_waiting xs) (subst (Contains (numbers_waiting xs)) same c.1))

-- ---- one is answered
abbrev pub is_other_number : ℕ → ℕ → Bool
is_other_number q p = not (q == p)

-- no later request has its number
none_same : (q n : ℕ) (xs : List Requested) → NumberedFrom n xs → q < n → filter (is_other_number q) (numbers_waiting xs) ≡ numbers_waiting xs
none_same q n [] h l = refl
none_same q n (x ∷ xs) h l = by x.answered (none_same q (n + 1) xs h.1 (omega (arith, l)))
  where
    differs : (b : Bool) → (q == x.number) ≡ b → b ≡ false
    differs true e = let same : q ≡ x.number = eqb-true q x.number e in absurd (omega (arith, same, h.0, l))
    differs false e = refl

    by : (b : Bool) → filter (is_other_number q) (numbers_waiting xs) ≡ numbers_waiting xs
        → filter (is_other_number q) (numbers_by b x xs)
        ≡ numbers_by b x xs
    by true e = e
    by false e =
        ap (λ b. cond (not b) (x.number ∷ filter (is_other_number q) (numbers_waiting xs)) (filter (is_other_number q) (numbers_waiting xs)))
        (differs (q == x.number) refl)
        ∙ ap (λ l. x.number ∷ l) e

one_answered : (n k : ℕ) (xs : List Requested) (y : Requested) → NumberedFrom n xs → y.answered ≡ true
    → numbers_waiting (set xs k y) ≡ filter (is_other_number (n + k)) (numbers_waiting xs)
one_answered n k [] y h a = refl
one_answered n zero (x ∷ xs) y h a =
    ap (λ b. numbers_by b y xs) a
    ∙ sym (none_same n (n + 1) xs h.1 (omega arith)) ∙ by x.answered ∙ ap (λ m. filter (is_other_number m) (numbers_waiting (x ∷ xs))) here
  where
    here : n ≡ n + 0
    here = omega arith

    it : (n == x.number) ≡ true
    it = eq-eqb n x.number (sym h.0)

    by : (b : Bool) → filter (is_other_number n) (numbers_waiting xs)
        ≡ filter (is_other_number n) (numbers_by b x xs)
    by true = refl
    by false =
        sym (ap (λ b. cond (not b) (x.number ∷ filter (is_other_number n) (numbers_waiting xs)) (filter (is_other_number n) (numbers_waiting xs))) it)
one_answered n (suc k) (x ∷ xs) y h a = by x.answered (one_answered (n + 1) k xs y h.1 a)
  where
    there : n + 1 + k ≡ n + suc k
    there = omega arith

    differs : (b : Bool) → ((n + suc k) == x.number) ≡ b → b ≡ false
    differs true e = let same : n + suc k ≡ x.number = eqb-true (n + suc k) x.number e in absurd (omega (arith, same, h.0))
    differs false e = refl

    by : (b : Bool) → numbers_waiting (set xs k y) ≡ filter (is_other_number (n + 1 + k)) (numbers_waiting xs)
        → numbers_by b x (set xs k y)
        ≡ filter (is_other_number (n + suc k)) (numbers_by b x xs)
    by true e = e ∙ ap (λ m. filter (is_other_number m) (numbers_waiting xs)) there
    by false e =
        ap (λ l. x.number ∷ l) (e ∙ ap (λ m. filter (is_other_number m) (numbers_waiting xs)) there)
        ∙ sym (ap
        (λ b. cond (not b) (x.number ∷ filter (is_other_number (n + suc k)) (numbers_waiting xs)) (filter (is_other_number (n + suc k)) (numbers_waiting xs)))
        (differs ((n + suc k) == x.number) refl))

-- ---- the same by the calls
abbrev pub number_of : ℕ × ℤ → ℕ
number_of request = request.0

no_other : (b c : Bool) → not (b || (c || false)) ≡ (not b && not c)
no_other true c = refl
no_other false true = refl
no_other false false = refl

answered_too : (asked : List Ask) (q : ℕ) (v : ℤ) (request : ℕ × ℤ)
    → is_unanswered (asked ++ ask.Answer q v ∷ []) request ≡ (is_unanswered asked request && is_other_number q request.0)
answered_too asked q v request =
    ap (λ (qs : List ℕ). not (list_any (λ p. p == request.0) qs)) (filter_map-append answered_by asked (ask.Answer q v ∷ []))
    ∙ ap not (list_any-append (λ p. p == request.0) (filter_map answered_by asked) (q ∷ []))
    ∙ no_other (list_any (λ p. p == request.0) (filter_map answered_by asked)) (q == request.0)

filter_both : (p : ℕ × ℤ → Bool) (q : ℕ) (xs : List (ℕ × ℤ))
    → map number_of (filter (λ x. p x && is_other_number q x.0) xs) ≡ filter (is_other_number q) (map number_of (filter p xs))
filter_both p q [] = refl
filter_both p q (x ∷ xs) = by (p x) (is_other_number q x.0) refl (filter_both p q xs)
  where
    by : (b c : Bool) → is_other_number q x.0 ≡ c
        → map number_of (filter (λ y. p y && is_other_number q y.0) xs) ≡ filter (is_other_number q) (map number_of (filter p xs))
        → map number_of (cond (b && c) (x ∷ filter (λ y. p y && is_other_number q y.0) xs) (filter (λ y. p y && is_other_number q y.0) xs))
        ≡ filter (is_other_number q) (map number_of (cond b (x ∷ filter p xs) (filter p xs)))
    by false c f e = e
    by true true f e =
        ap (λ l. x.0 ∷ l) e
        ∙ sym (ap (λ d. cond d (x.0 ∷ filter (is_other_number q) (map number_of (filter p xs))) (filter (is_other_number q) (map number_of (filter p xs)))) f)
    by true false f e =
        e ∙ sym (ap (λ d. cond d (x.0 ∷ filter (is_other_number q) (map number_of (filter p xs))) (filter (is_other_number q) (map number_of (filter p xs)))) f)

unanswered_less : (asked : List Ask) (replies : List Reply) (q : ℕ) (v : ℤ)
    → map number_of (unanswered (asked ++ ask.Answer q v ∷ []) (replies ++ Done ∷ []))
    ≡ filter (is_other_number q) (map number_of (unanswered asked replies))
unanswered_less asked replies q v =
    ap (λ l. map number_of (filter (is_unanswered (asked ++ ask.Answer q v ∷ [])) l)) (came_same replies Done refl)
    ∙ ap (map number_of) (filter_same (is_unanswered (asked ++ ask.Answer q v ∷ [])) (λ x. is_unanswered asked x && is_other_number q x.0)
    (answered_too asked q v) (came replies))
    ∙ filter_both (is_unanswered asked) q (came replies)

-- ---- the frame of an answer may run
some_waits : (b : Bool) → 1 ≤ cond (not b) 1 0 → b ≡ false
some_waits true l = absurd (omega (arith, l))
some_waits false l = refl

pub is_waiting : (hand : List Frame) (q : ℕ) (s : State) → AnswersAreOwed (AnswerOut q ∷ hand) s
    → (q < length s.requests) × Contains (numbers_waiting s.requests) q
is_waiting hand q s h =
    let waits : (request_at q s).answered ≡ false = some_waits (request_at q s).answered (omega (arith, h.once q, its_answer q))
    in let there : (q < length s.requests) × Contains (numbers_waiting s.requests) (0 + q) = waits_there 0 q s.requests (absent q) h.numbered refl waits
    in let same : 0 + q ≡ q = omega arith
    in (there.0, subst (Contains (numbers_waiting s.requests)) same there.1)

pub answer_asked : (askers : ℕ) (asked : List Ask) (replies : List Reply) → length replies ≡ length asked
    → (hand : List Frame) (q : ℕ) (v : ℤ) (s : State) → AnswersAreOwed (AnswerOut q ∷ hand) s → IsInStep askers asked replies s
    → IsAskable askers asked replies (ask.Answer q v) (answered q v s)
answer_asked askers asked replies even hand q v s h p =
    let a : Ask = ask.Answer q v
    in let waits : (q < length s.requests) × Contains (numbers_waiting s.requests) q = is_waiting hand q s h
    in let last : Requested = record (request_at q s) { answered = true }
    in let many : length (map request_kept (set s.requests q last)) ≡ length (map request_kept s.requests) =
    length-map (set s.requests q last) request_kept ∙ length-set s.requests q last ∙ sym (length-map s.requests request_kept)
    in let same : 0 + q ≡ q = omega arith
    in (
      subst (λ (l : List ℕ). Contains l q) p.unanswered waits.1,
      record {
        works = p.works ∙ sym (ap (map work_handed) (outstanding_same asked replies a Done refl refl));
        next_work = p.next_work ∙ sym (none_longer handed_by asked a refl);
        below = p.below;
        brought = subst (AllByRecursion (λ pair. pair.0 < s.next_work)) (sym (nothing_behind pairs_in replies Done refl)) p.brought;
        helpers = p.helpers ∙ sym (none_longer helper_in asked a refl);
        active = p.active ∙ sym (active_next asked replies a Done even);
        requests = many ∙ p.requests ∙ sym (ap length (came_same replies Done refl));
        unanswered =
            one_answered 0 q s.requests last h.numbered refl
            ∙ ap (λ m. filter (is_other_number m) (numbers_waiting s.requests)) same
            ∙ ap (filter (is_other_number q)) p.unanswered
            ∙ sym (unanswered_less asked replies q v);
        answered =
            subst (λ n. AllByRecursion (λ m. m < n) (filter_map answered_by (asked ++ a ∷ []))) (sym many)
            (subst (AllByRecursion (λ m. m < length (map request_kept s.requests))) (sym (filter_map-append answered_by asked (a ∷ [])))
            (all_push (λ m. m < length (map request_kept s.requests)) (filter_map answered_by asked) q p.answered
            (omega (arith, waits.0, length-map s.requests request_kept))));
        left = p.left ∙ sym (left_same askers replies Done (λ n. refl));
      },
    )
