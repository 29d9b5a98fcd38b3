-- In the trace of every run that has ended works are numbered and arrive once, with their values where the replies bring them.
use Rattle.std.proofs.Common.{ℕ, ◌+◌, ◌<◌, ◌≡◌, List, [], ◌∷◌, ◌++◌, length, map, filter, Bool, true, false, ◌||◌, ◌==◌, cond, Option, Some, None}
use Rattle.std.proofs.Common.{refl, sym, subst, ◌∙◌, ap, arith, append_assoc}
use Rattle.std.specs.Prelude.{not, find}
use Rattle.std.specs.List.{AllByRecursion, list_any, cons_option}
use Rattle.std.specs.Option.{option_or}
use Rattle.std.proofs.lemmas.List.{append-nil, length-append}
use Rattle.std.proofs.lemmas.List.Elements.{filter_map-append}
use Rattle.std.proofs.lemmas.List.Folds.{find-append}
use Rattle.std.proofs.lemmas.Bool.{eqb-true, eq-eqb, true≢false}
use Rattle.ak_base.proofs.Lists.{all_push}
use Rattle.ak_labor.specs.declared.work.Work.{Work}
use Rattle.ak_labor.specs.declared.work.Outcome.{Outcome}
use Rattle.ak_trace.specs.declared.entry.Entry.{Entry}
use Rattle.ak_trace.specs.declared.entry.Entry.TheVariants as entry
use Rattle.ak_machine.specs.declared.held.Outstanding.{Outstanding}
use Rattle.ak_machine.specs.Mapped.{outstanding_mapped}
use Rattle.ak_machine.specs.Cycle.{is_work, is_other_work}
use Rattle.ak_laws.specs.Places.{EachAfter}
use Rattle.ak_laws.specs.Works.{submitted_by, submitted, is_arrival_of, IsValue, IsDone, IsOutcomeOf}
use Rattle.ak_holders.proofs.Carry.{all_by, all_filter, none_push}

-- whether a work that is submitted has the number
abbrev pub has_id : ℕ → ℕ × Work → Bool
has_id id w = w.0 == id

abbrev pub IsThere : Option (ℕ × Work) → Type 0
IsThere None = ⊥
IsThere (Some w) = Unit {0}

-- the law, but that an outcome is such as replies bring
abbrev pub IsBroughtOnce : (ℕ → Outcome → Type 0) → List Entry → Entry → List Entry → Type 0
IsBroughtOnce B before (entry.Submit id kind num) after = id ≡ length (submitted before)
IsBroughtOnce B before (entry.Arrive id outcome) after =
    IsThere (find (has_id id) (submitted before)) × B id outcome × (list_any (is_arrival_of id) after ≡ false)
IsBroughtOnce B before e after = Unit {0}

-- a work that is out was submitted, under a number so far
pub record IsOut (next : ℕ) (t : List Entry) (work : Outstanding) : Type 0 where
  pub below : work.number < next
  pub there : IsThere (find (has_id work.number) (submitted t))

-- what the parts of a state that concern works keep
pub record Working (B : ℕ → Outcome → Type 0) (works : List Outstanding) (next : ℕ) (t : List Entry) : Type 0 where
  pub count : length (submitted t) ≡ next
  pub out : AllByRecursion (IsOut next t) works
  pub arrived : (id : ℕ) → list_any (is_arrival_of id) t ≡ true → (id < next) × AllByRecursion (λ (x : Outstanding). (x.number == id) ≡ false) works
  pub rules : EachAfter (IsBroughtOnce B) [] t

-- ---- one more entry
submitted_same : (t : List Entry) (e : Entry) → submitted_by e ≡ None → submitted (t ++ e ∷ []) ≡ submitted t
submitted_same t e h =
    filter_map-append submitted_by t (e ∷ []) ∙ ap (λ (o : Option (ℕ × Work)). submitted t ++ cons_option o []) h ∙ append-nil (submitted t)

there_more : (id : ℕ) (xs ys : List (ℕ × Work)) → IsThere (find (has_id id) xs) → IsThere (find (has_id id) (xs ++ ys))
there_more id xs ys h = subst IsThere (sym (find-append (has_id id) xs ys)) (by (find (has_id id) xs) h)
  where
    by : (o : Option (ℕ × Work)) → IsThere o → IsThere (option_or o (find (has_id id) ys))
    by None g = absurd g
    by (Some w) g = tt

-- an entry that brings no work that these brought
abbrev IsNew : Entry → List Entry → Type 0
IsNew e es = (id : ℕ) → is_arrival_of id e ≡ true → list_any (is_arrival_of id) es ≡ false

brought_longer : (B : ℕ → Outcome → Type 0) (before : List Entry) (x : Entry) (es : List Entry) (e : Entry) → IsNew e (x ∷ es)
    → IsBroughtOnce B before x es → IsBroughtOnce B before x (es ++ e ∷ [])
brought_longer B before (entry.Arrive id outcome) es e new h = (h.0, h.1, none_push (is_arrival_of id) es e h.2 (by (is_arrival_of id e) refl))
  where
    by : (b : Bool) → is_arrival_of id e ≡ b → b ≡ false
    by true g = absurd (true≢false (sym (ap (λ b. b || list_any (is_arrival_of id) es) (eq-eqb id id refl)) ∙ new id g))
    by false g = refl
brought_longer B before x es e new h = h

rest_new : (x : Entry) (es : List Entry) (e : Entry) → IsNew e (x ∷ es) → IsNew e es
rest_new x es e new id g = by (is_arrival_of id x) (new id g)
  where
    by : (b : Bool) → (b || list_any (is_arrival_of id) es) ≡ false → list_any (is_arrival_of id) es ≡ false
    by true h = absurd (true≢false h)
    by false h = h

brought_push : (B : ℕ → Outcome → Type 0) (before es : List Entry) (e : Entry) → IsNew e es → IsBroughtOnce B (before ++ es) e []
    → EachAfter (IsBroughtOnce B) before es → EachAfter (IsBroughtOnce B) before (es ++ e ∷ [])
brought_push B before [] e new rule h = (subst (λ t. IsBroughtOnce B t e []) (append-nil before) rule, tt)
brought_push B before (x ∷ es) e new rule h = (
  brought_longer B before x es e new h.0,
  brought_push B (before ++ x ∷ []) es e (rest_new x es e new)
      (subst (λ t. IsBroughtOnce B t e []) (sym (append_assoc before (x ∷ []) es)) rule) h.1,
)

any_last : (test : Entry → Bool) (es : List Entry) (e : Entry) → test e ≡ false → list_any test (es ++ e ∷ []) ≡ list_any test es
any_last test [] e h = ap (λ b. b || false) h
any_last test (x ∷ es) e h = ap (λ b. test x || b) (any_last test es e h)

-- an entry that submits nothing and brings nothing
abbrev pub IsIdle : Entry → Type 0
IsIdle (entry.Submit id kind num) = ⊥
IsIdle (entry.Arrive id outcome) = ⊥
IsIdle e = Unit {0}

idle_submits : (e : Entry) → IsIdle e → submitted_by e ≡ None
idle_submits (entry.Submit id kind num) h = absurd h
idle_submits (entry.Arrive id outcome) h = absurd h
idle_submits e h = refl

idle_brings : (id : ℕ) (e : Entry) → IsIdle e → is_arrival_of id e ≡ false
idle_brings id (entry.Submit n kind num) h = absurd h
idle_brings id (entry.Arrive n outcome) h = absurd h
idle_brings id e h = refl

idle_rule : (B : ℕ → Outcome → Type 0) (before : List Entry) (e : Entry) → IsIdle e → IsBroughtOnce B before e []
idle_rule B before (entry.Submit id kind num) h = absurd h
idle_rule B before (entry.Arrive id outcome) h = absurd h
idle_rule B before e h = tt

pub idle_works : (B : ℕ → Outcome → Type 0) (works : List Outstanding) (next : ℕ) (t : List Entry) (e : Entry) → IsIdle e
    → Working B works next t → Working B works next (t ++ e ∷ [])
idle_works B works next t e i h =
    let same : submitted (t ++ e ∷ []) ≡ submitted t = submitted_same t e (idle_submits e i)
    in record {
      count = ap length same ∙ h.count;
      out = all_by (IsOut next t) (IsOut next (t ++ e ∷ []))
          (λ x k. record { below = k.below; there = subst (λ xs. IsThere (find (has_id x.number) xs)) (sym same) k.there }) works h.out;
      arrived = λ id a. h.arrived id (sym (any_last (is_arrival_of id) t e (idle_brings id e i)) ∙ a);
      rules = brought_push B [] t e (λ id a. absurd (true≢false (sym a ∙ idle_brings id e i))) (idle_rule B t e i) h.rules;
    }

-- ---- a work is submitted
less_than : (m n : ℕ) → m < n → (n == m) ≡ false
less_than m n h = by (n == m) refl
  where
    by : (b : Bool) → (n == m) ≡ b → b ≡ false
    by true e = let same : n ≡ m = eqb-true n m e in absurd (omega (arith, same, h))
    by false e = refl

pub submit_works : (B : ℕ → Outcome → Type 0) (works : List Outstanding) (next : ℕ) (t : List Entry) (work : Work) (x : Outstanding)
    → x.number ≡ next → Working B works next t
    → Working B (works ++ x ∷ []) (next + 1) (t ++ entry.Submit next work.kind work.num ∷ [])
submit_works B works next t work x e h =
    let last : Entry = entry.Submit next work.kind work.num
    in let more : submitted (t ++ last ∷ []) ≡ submitted t ++ (next, work) ∷ [] = filter_map-append submitted_by t (last ∷ [])
    in record {
      count = omega (arith, ap length more, length-append (submitted t) ((next, work) ∷ []), h.count);
      out = all_push (IsOut (next + 1) (t ++ last ∷ [])) works x
          (all_by (IsOut next t) (IsOut (next + 1) (t ++ last ∷ []))
          (λ y k. record {
            below = omega (arith, k.below);
            there = subst (λ xs. IsThere (find (has_id y.number) xs)) (sym more) (there_more y.number (submitted t) ((next, work) ∷ []) k.there);
          }) works h.out)
          (record {
            below = omega (arith, e);
            there = subst (λ xs. IsThere (find (has_id x.number) xs)) (sym more) (here x.number e (submitted t));
          });
      arrived = λ id a.
          let old : (id < next) × AllByRecursion (λ (y : Outstanding). (y.number == id) ≡ false) works =
          h.arrived id (sym (any_last (is_arrival_of id) t last refl) ∙ a)
          in (
            omega (arith, old.0),
            all_push (λ (y : Outstanding). (y.number == id) ≡ false) works x old.1 (subst (λ n. (n == id) ≡ false) (sym e) (less_than id next old.0)),
          );
      rules = brought_push B [] t last (λ id a. absurd (true≢false (sym a))) (sym h.count) h.rules;
    }
  where
    here : (id : ℕ) → id ≡ next → (xs : List (ℕ × Work)) → IsThere (find (has_id id) (xs ++ (next, work) ∷ []))
    here id same xs = subst IsThere (sym (find-append (has_id id) xs ((next, work) ∷ []))) (by (find (has_id id) xs))
      where
        by : (o : Option (ℕ × Work)) → IsThere (option_or o (find (has_id id) ((next, work) ∷ [])))
        by (Some w) = tt
        by None = subst (λ b. IsThere (cond b (Some (next, work)) None)) (sym (eq-eqb next id (sym same))) tt

-- ---- a work arrives
found_is : (P : Outstanding → Type 0) (w : ℕ) (works : List Outstanding) (x : Outstanding) → find (is_work w) works ≡ Some x
    → AllByRecursion P works → P x × (x.number ≡ w)
found_is P w [] x e h = absurd (cc)
found_is P w (y ∷ works) x e h = by (y.number == w) refl e (λ k. found_is P w works x k h.1)
  where
    by : (b : Bool) → (y.number == w) ≡ b → cond b (Some y) (find (is_work w) works) ≡ Some x
        → (find (is_work w) works ≡ Some x → P x × (x.number ≡ w)) → P x × (x.number ≡ w)
    by true f k r = let same : y ≡ x = cc in subst (λ z. P z × (z.number ≡ w)) same (h.0, eqb-true y.number w f)
    by false f k r = r k

none_left : (w : ℕ) (works : List Outstanding) → AllByRecursion (λ (x : Outstanding). (x.number == w) ≡ false) (filter (is_other_work w) works)
none_left w [] = tt
none_left w (x ∷ works) = by (x.number == w) refl (none_left w works)
  where
    by : (b : Bool) → (x.number == w) ≡ b → AllByRecursion (λ (y : Outstanding). (y.number == w) ≡ false) (filter (is_other_work w) works)
        → AllByRecursion (λ (y : Outstanding). (y.number == w) ≡ false) (cond (not b) (x ∷ filter (is_other_work w) works) (filter (is_other_work w) works))
    by true e rest = rest
    by false e rest = (e, rest)

either_last : (test : Entry → Bool) (es : List Entry) (e : Entry) → list_any test (es ++ e ∷ []) ≡ true → (test e ≡ false → list_any test es ≡ true)
either_last test es e h f = sym (any_last test es e f) ∙ h

-- it is out no more
gone_by : (works : List Outstanding) (id : ℕ) → AllByRecursion (λ (x : Outstanding). (x.number == id) ≡ false) works → find (is_work id) works ≡ None
gone_by [] id h = refl
gone_by (x ∷ works) id h = ap (λ b. cond b (Some x) (find (is_work id) works)) h.0 ∙ gone_by works id h.1

pub arrive_works : (B : ℕ → Outcome → Type 0) (works : List Outstanding) (next : ℕ) (t : List Entry) (w : ℕ) (outcome : Outcome) (x : Outstanding)
    → B w outcome → find (is_work w) works ≡ Some x → Working B works next t
    → Working B (filter (is_other_work w) works) next (t ++ entry.Arrive w outcome ∷ [])
arrive_works B works next t w outcome x b e h =
    let last : Entry = entry.Arrive w outcome
    in let same : submitted (t ++ last ∷ []) ≡ submitted t = submitted_same t last refl
    in let found : IsOut next t x × (x.number ≡ w) = found_is (IsOut next t) w works x e h.out
    in record {
      count = ap length same ∙ h.count;
      out = all_by (IsOut next t) (IsOut next (t ++ last ∷ []))
          (λ y k. record { below = k.below; there = subst (λ xs. IsThere (find (has_id y.number) xs)) (sym same) k.there })
          (filter (is_other_work w) works) (all_filter (IsOut next t) (is_other_work w) works h.out);
      arrived = λ id a. by id (w == id) refl a found.0.below found.1;
      rules = brought_push B [] t last (λ id a. first id (eqb-true w id a) (list_any (is_arrival_of id) t) refl)
          (subst (λ n. IsThere (find (has_id n) (submitted t))) found.1 found.0.there, b, refl) h.rules;
    }
  where
    by : (id : ℕ) (c : Bool) → (w == id) ≡ c → list_any (is_arrival_of id) (t ++ entry.Arrive w outcome ∷ []) ≡ true → x.number < next → x.number ≡ w
        → (id < next) × AllByRecursion (λ (y : Outstanding). (y.number == id) ≡ false) (filter (is_other_work w) works)
    by id true f a l n =
        let here : w ≡ id = eqb-true w id f
        in (
          omega (arith, here, l, n),
          subst (λ k. AllByRecursion (λ (y : Outstanding). (y.number == k) ≡ false) (filter (is_other_work w) works)) here (none_left w works),
        )
    by id false f a l n =
        let old : (id < next) × AllByRecursion (λ (y : Outstanding). (y.number == id) ≡ false) works =
        h.arrived id (either_last (is_arrival_of id) t (entry.Arrive w outcome) a f)
        in (old.0, all_filter (λ (y : Outstanding). (y.number == id) ≡ false) (is_other_work w) works old.1)

    -- it did not arrive before, since it is out
    first : (id : ℕ) → w ≡ id → (c : Bool) → list_any (is_arrival_of id) t ≡ c → c ≡ false
    first id here true a =
        let none : find (is_work id) works ≡ None = gone_by works id (h.arrived id a).1
        in let some : find (is_work id) works ≡ Some x = subst (λ k. find (is_work k) works ≡ Some x) here e
        in absurd (cc)
    first id here false a = refl

-- ---- other names
pub renamed_works : (B : ℕ → Outcome → Type 0) (m : ℕ → ℕ) (works : List Outstanding) (next : ℕ) (t : List Entry) → Working B works next t
    → Working B (map (outstanding_mapped m) works) next t
renamed_works B m works next t h = record {
  count = h.count;
  out = outs works h.out;
  arrived = λ id a. ((h.arrived id a).0, others id works (h.arrived id a).1);
  rules = h.rules;
}
  where
    outs : (xs : List Outstanding) → AllByRecursion (IsOut next t) xs → AllByRecursion (IsOut next t) (map (outstanding_mapped m) xs)
    outs [] k = tt
    outs (x ∷ xs) k = (record { below = k.0.below; there = k.0.there }, outs xs k.1)

    others : (id : ℕ) (xs : List Outstanding) → AllByRecursion (λ (x : Outstanding). (x.number == id) ≡ false) xs
        → AllByRecursion (λ (x : Outstanding). (x.number == id) ≡ false) (map (outstanding_mapped m) xs)
    others id [] k = tt
    others id (x ∷ xs) k = (k.0, others id xs k.1)

-- ---- with the values
value_there : (id : ℕ) (outcome : Outcome) (xs ys : List (ℕ × Work)) → IsThere (find (has_id id) xs)
    → IsOutcomeOf (find (has_id id) (xs ++ ys)) outcome → IsValue (find (has_id id) xs) outcome
value_there id outcome xs ys t h = by (find (has_id id) xs) t (subst (λ o. IsOutcomeOf o outcome) (find-append (has_id id) xs ys) h)
  where
    by : (o : Option (ℕ × Work)) → IsThere o → IsOutcomeOf (option_or o (find (has_id id) ys)) outcome → IsValue o outcome
    by None g k = absurd g
    by (Some w) g k = k

-- an outcome is that of the work that a trace submits under its number
abbrev pub of_trace : List Entry → ℕ → Outcome → Type 0
of_trace trace id outcome = IsOutcomeOf (find (has_id id) (submitted trace)) outcome

pub works_done : (trace before es : List Entry) → before ++ es ≡ trace → EachAfter (IsBroughtOnce (of_trace trace)) before es → EachAfter IsDone before es
works_done trace before [] e h = tt
works_done trace before (entry.Arrive id outcome ∷ es) e h =
    let parts : submitted trace ≡ submitted before ++ submitted (entry.Arrive id outcome ∷ es) =
    ap submitted (sym e) ∙ filter_map-append submitted_by before (entry.Arrive id outcome ∷ es)
    in (
      (
        value_there id outcome (submitted before) (submitted (entry.Arrive id outcome ∷ es)) h.0.0
            (subst (λ xs. IsOutcomeOf (find (has_id id) xs) outcome) parts h.0.1),
        h.0.2,
      ),
      works_done trace (before ++ entry.Arrive id outcome ∷ []) es (append_assoc before (entry.Arrive id outcome ∷ []) es ∙ e) h.1,
    )
works_done trace before (x ∷ es) e h = (h.0, works_done trace (before ++ x ∷ []) es (append_assoc before (x ∷ []) es ∙ e) h.1)
