-- The works that are not begun, as works are handed in and begun.
use Rattle.std.proofs.Common.{ℕ, ◌+◌, ◌≤◌, ◌≡◌, List, [], ◌∷◌, ◌++◌, Bool, true, false, cond, length, refl, ap, sym, ◌∙◌, subst, arith}
use Rattle.std.specs.Prelude.{not, ◌&&◌, ◌||◌, ◌==◌, filter, find, map, count_by, Option, Some, None, is_none}
use Rattle.std.proofs.lemmas.Bool.{eq-eqb, ne_eqb, eqb-true}
use Rattle.std.proofs.lemmas.List.{map_push}
use Rattle.std.proofs.lemmas.List.Sums.{sum_by-cons}
use Rattle.ak_labor.specs.Waits.{Handed}
use Rattle.ak_history.specs.Events.{Begun, Reserved, is_that}
use Rattle.ak_pool.specs.declared.task.Task.{Task}
use Rattle.ak_pool.specs.Facts.{has_begun, work_in, is_of, task_of, unbegun}
use Rattle.ak_pool.specs.Stands.{Each, AreNumbered, IsBegunOnce}
use Rattle.ak_pool.proofs.Items.{some_same, each_map, each_both, each_one, filter_same, filter_filter, filter_last, filter_kept, none_any, any_last}
use Rattle.ak_pool.proofs.Numbers.{Grow, grow_filter, grow_each, numbered_grow, front_left, only, findable, found_below}

-- a test of one work and of whether it is begun
abbrev pub waits : List Begun → Option ℕ → Handed → Bool
waits begun o w = is_of o w && not (has_begun begun w.id)

-- a work with a new number is not begun
pub fresh_unbegun : (handed : List Handed) (reserved : List Reserved) (begun : List Begun) (id : ℕ) → AreNumbered 0 handed → length handed ≤ id
    → Each (IsBegunOnce handed reserved begun) begun → has_begun begun id ≡ false
fresh_unbegun handed reserved begun id h le each =
    none_any (λ (b : Begun). b.id == id) begun
    (each_map (IsBegunOnce handed reserved begun) (λ b. (b.id == id) ≡ false)
    (λ b k. ne_eqb b.id id (λ e. absurd (omega (arith, e, le, found_below b.id k.work handed h k.is)))) begun each)

and_true : (b : Bool) → (b && true) ≡ b
and_true true = refl
and_true false = refl

waits_fresh : (begun : List Begun) (o : Option ℕ) (w : Handed) → has_begun begun w.id ≡ false → waits begun o w ≡ is_of o w
waits_fresh begun o w e = ap (λ b. is_of o w && not b) e ∙ and_true (is_of o w)

-- one more work that is not begun: for this helper, and for another
pub unbegun_last : (handed : List Handed) (begun : List Begun) (o : Option ℕ) (w : Handed) → has_begun begun w.id ≡ false → is_of o w ≡ true
    → unbegun (handed ++ w ∷ []) begun o ≡ unbegun handed begun o ++ task_of w ∷ []
unbegun_last handed begun o w e k =
    ap (map task_of) (filter_last (waits begun o) handed w (waits_fresh begun o w e ∙ k)) ∙ map_push task_of (filter (waits begun o) handed) w

pub unbegun_kept : (handed : List Handed) (begun : List Begun) (o : Option ℕ) (w : Handed) → is_of o w ≡ false
    → unbegun (handed ++ w ∷ []) begun o ≡ unbegun handed begun o
unbegun_kept handed begun o w k =
    ap (map task_of) (filter_kept (waits begun o) handed w (ap (λ b. b && not (has_begun begun w.id)) k))

-- what is known of the first work of a helper, or the first general one, that is not begun
pub record IsFront (handed : List Handed) (begun : List Begun) (o : Option ℕ) (task : Task) (rest : List Task) : Type 0 where
  pub work : Handed
  pub works : List Handed
  pub kept : filter (waits begun o) handed ≡ work ∷ works
  pub same : task_of work ≡ task
  pub others : map task_of works ≡ rest
  pub found : work_in handed task.id ≡ Some work
  pub of : is_of o work ≡ true
  pub unbegun : has_begun begun task.id ≡ false

pub front_at : (ws : List Handed) (task : Task) (rest : List Task) → map task_of ws ≡ task ∷ rest
    → (w : Handed) × ((vs : List Handed) × (ws ≡ w ∷ vs) × (task_of w ≡ task) × (map task_of vs ≡ rest))
front_at [] task rest e = absurd (cc)
front_at (w ∷ ws) task rest e = (w, (ws, refl, cc, cc))

pub and_both : (a b : Bool) → (a && not b) ≡ true → (a ≡ true) × (b ≡ false)
and_both true true e = absurd (cc)
and_both true false e = (refl, refl)
and_both false b e = absurd (cc)

pub front_of : (handed : List Handed) (begun : List Begun) (o : Option ℕ) (task : Task) (rest : List Task) → AreNumbered 0 handed
    → unbegun handed begun o ≡ task ∷ rest → IsFront handed begun o task rest
front_of handed begun o task rest h e =
    let k = front_at (filter (waits begun o) handed) task rest e in
    let one = each_one (λ (w : Handed). work_in handed w.id ≡ Some w) (waits begun o) handed k.1.0 k.0 (findable 0 handed (numbered_grow 0 handed h)) k.1.1 in
    let two = and_both (is_of o k.0) (has_begun begun k.0.id) one.1 in
    let id : k.0.id ≡ task.id = ap (λ (t : Task). t.id) k.1.2 in
    record {
      work = k.0;
      works = k.1.0;
      kept = k.1.1;
      same = k.1.2;
      others = k.1.3;
      found = ap (work_in handed) (sym id) ∙ one.0;
      of = two.0;
      unbegun = ap (has_begun begun) (sym id) ∙ two.1;
    }

begun_more : (begun : List Begun) (b : Begun) (id : ℕ) → has_begun (begun ++ b ∷ []) id ≡ (has_begun begun id || ((b.id == id) || false))
begun_more begun b id = any_last (λ (x : Begun). x.id == id) begun b

tests_more : (a c e : Bool) → (a && not (c || (e || false))) ≡ ((a && not c) && not e)
tests_more true true e = refl
tests_more true false true = refl
tests_more true false false = refl
tests_more false c e = refl

each_pointwise : (handed : List Handed) (begun : List Begun) (o : Option ℕ) (b : Begun)
    → Each (λ x. waits (begun ++ b ∷ []) o x ≡ (waits begun o x && not (b.id == x.id))) handed
each_pointwise [] begun o b = tt
each_pointwise (x ∷ xs) begun o b =
    (ap (λ c. is_of o x && not c) (begun_more begun b x.id) ∙ tests_more (is_of o x) (has_begun begun x.id) (b.id == x.id), each_pointwise xs begun o b)

-- the works of the helper without the one that begins
pub unbegun_front : (handed : List Handed) (begun : List Begun) (o : Option ℕ) (task : Task) (rest : List Task) (b : Begun) → AreNumbered 0 handed
    → IsFront handed begun o task rest → b.id ≡ task.id → unbegun handed (begun ++ b ∷ []) o ≡ rest
unbegun_front handed begun o task rest b h front e =
    let w = front.work in
    let is_id : b.id ≡ w.id = e ∙ sym (ap (λ (t : Task). t.id) front.same) in
    let agree = filter_same (waits (begun ++ b ∷ []) o) (λ x. waits begun o x && not (b.id == x.id)) handed (each_pointwise handed begun o b) in
    let left : filter (λ x. not (b.id == x.id)) (w ∷ front.works) ≡ front.works =
    ap (λ n. filter (λ x. not (n == x.id)) (w ∷ front.works)) is_id
    ∙ front_left 0 w front.works (subst (Grow 0) front.kept (grow_filter (waits begun o) 0 handed (numbered_grow 0 handed h))) in
    ap (map task_of) (agree ∙ sym (filter_filter (waits begun o) (λ x. not (b.id == x.id)) handed) ∙ ap (filter (λ x. not (b.id == x.id))) front.kept ∙ left)
    ∙ front.others

keeps_at : (a c e : Bool) → (e ≡ true → a ≡ false) → (a && not (c || (e || false))) ≡ (a && not c)
keeps_at false c e f = refl
keeps_at true true e f = refl
keeps_at true false true f = absurd (cc (f refl))
keeps_at true false false f = refl

-- the works of another helper stay
pub unbegun_other : (handed : List Handed) (begun : List Begun) (o : Option ℕ) (work : Handed) (b : Begun) → AreNumbered 0 handed
    → work_in handed b.id ≡ Some work → is_of o work ≡ false → unbegun handed (begun ++ b ∷ []) o ≡ unbegun handed begun o
unbegun_other handed begun o work b h found other =
    ap (map task_of) (filter_same (waits (begun ++ b ∷ []) o) (waits begun o) handed
    (each_map (λ x. x.id ≡ b.id → x ≡ work) (λ x. waits (begun ++ b ∷ []) o x ≡ waits begun o x)
    (λ x same. ap (λ c. is_of o x && not c) (begun_more begun b x.id) ∙ keeps_at (is_of o x) (has_begun begun x.id) (b.id == x.id)
    (λ e. ap (is_of o) (same (sym (eqb-true b.id x.id e))) ∙ other)) handed (only 0 b.id work handed (numbered_grow 0 handed h) found)))

pub some_is : (h : ℕ) (o : Option ℕ) → is_that h o ≡ true → o ≡ Some h
some_is h None e = absurd (cc)
some_is h (Some x) e = ap Some (eqb-true x h e)

pub none_is : (o : Option ℕ) → is_none o ≡ true → o ≡ None
none_is None e = refl
none_is (Some x) e = absurd (cc)

-- for whom a work is
pub of_is : (o : Option ℕ) (w : Handed) → is_of o w ≡ true → w.helper ≡ o
of_is None w e = none_is w.helper e
of_is (Some h) w e = some_is h w.helper e

abbrev pub one_if : Bool → ℕ
one_if b = cond b 1 0

pub count_same : {A : Type 0} (p q : A → Bool) (xs : List A) → Each (λ x. p x ≡ q x) xs → count_by p xs ≡ count_by q xs
count_same p q [] h = refl
count_same p q (x ∷ xs) h =
    sum_by-cons (λ y. cond (p y) 1 0) x xs
    ∙ ap (λ n. n + count_by p xs) (ap one_if h.0)
    ∙ ap (λ n. cond (q x) 1 0 + n) (count_same p q xs h.1)
    ∙ sym (sum_by-cons (λ y. cond (q y) 1 0) x xs)

-- how a count changes at one work
count_at : (p q : Handed → Bool) (b : Bool) (n id : ℕ) (w w0 : Handed) (ws : List Handed) → (w.id == id) ≡ b → Grow (w.id + 1) ws
    → ((w.id ≡ id → ⊥) → p w ≡ q w) → Each (λ x. (x.id ≡ id → ⊥) → p x ≡ q x) ws → p w0 ≡ false → q w0 ≡ true
    → (find (λ (x : Handed). x.id == id) ws ≡ Some w0 → count_by q ws ≡ count_by p ws + 1)
    → cond b (Some w) (find (λ (x : Handed). x.id == id) ws) ≡ Some w0 → count_by q (w ∷ ws) ≡ count_by p (w ∷ ws) + 1
count_at p q true n id w w0 ws e h here each was now f k =
    let same : w ≡ w0 = some_same w w0 k in
    let rest = count_same p q ws
    (each_map (λ x. (w.id + 1 ≤ x.id) × ((x.id ≡ id → ⊥) → p x ≡ q x)) (λ x. p x ≡ q x)
    (λ x m. m.1 (λ s. absurd (omega (arith, m.0, s, eqb-true w.id id e)))) ws
    (each_both (λ x. w.id + 1 ≤ x.id) (λ x. (x.id ≡ id → ⊥) → p x ≡ q x) ws (grow_each (w.id + 1) ws h) each)) in
    omega (
      arith,
      sum_by-cons (λ x. cond (q x) 1 0) w ws,
      sum_by-cons (λ x. cond (p x) 1 0) w ws,
      rest,
      ap one_if (ap q same ∙ now),
      ap one_if (ap p same ∙ was),
    )
count_at p q false n id w w0 ws e h here each was now f k =
    let agrees = here (λ s. absurd (cc (e, eq-eqb w.id id s))) in
    omega (arith, sum_by-cons (λ x. cond (q x) 1 0) w ws, sum_by-cons (λ x. cond (p x) 1 0) w ws, f k, ap one_if agrees)

pub count_one : (p q : Handed → Bool) (n id : ℕ) (w0 : Handed) (ws : List Handed) → Grow n ws → Each (λ x. (x.id ≡ id → ⊥) → p x ≡ q x) ws
    → p w0 ≡ false → q w0 ≡ true → work_in ws id ≡ Some w0 → count_by q ws ≡ count_by p ws + 1
count_one p q n id w0 [] h each was now k = absurd (cc)
count_one p q n id w0 (w ∷ ws) h each was now k =
    count_at p q (w.id == id) n id w w0 ws refl h.1 each.0 each.1 was now (count_one p q (w.id + 1) id w0 ws h.1 each.1 was now) k
