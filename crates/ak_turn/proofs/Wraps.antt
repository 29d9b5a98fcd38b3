-- From what a seat knows to what callers see of a pass.
use Rattle.std.proofs.Common.{◌≡◌, ℕ, ◌+◌, ◌<◌, ◌≤◌, ◌-◌, Bool, false, List, [], ◌∷◌, ◌++◌, length, drop, Option, None, sym, refl, ap, ◌∙◌, subst, arith, length-append, append_assoc, sum_by, min, inl, inr, ⊎_elim}
use Rattle.std.proofs.lemmas.List.Sums.{sum_by-cons}
use Rattle.std.proofs.lemmas.Bool.{false≢true}
use Rattle.ak_turn.specs.declared.view.View.{View}
use Rattle.ak_turn.specs.declared.view.PassState.{PassState}
use Rattle.atomic_table.specs.Seated.{TableId}
use Rattle.atomic_table.specs.Table.{Me}
use Rattle.ak_turn.specs.Entries.{total, Each, SomeOf, events, events_by, entries, IsLog}
use Rattle.ak_turn.specs.Rule.{share, shares, KnowsLog}
use Rattle.ak_turn.specs.Steps.{kept_passes, keeper, logged, logged_as, handed_on, gathered, with_events, grown, MayLeave, IsAll}
use Rattle.ak_turn.specs.Seen.{TurnView, PassView, pass_view, pass_view_of, Extends, left, IsPass, number_count, IsIdleOf, idle_pass, idle_passes, IsWhole}
use Rattle.ak_turn.proofs.Lists.{each_front}
use Rattle.ak_turn.proofs.Entries.{by-append, drop_events, events_grown}

nil_of : {X : Type 0} (xs : List X) → length xs ≡ 0 → xs ≡ []
nil_of [] e = refl
nil_of (x ∷ xs) e = absurd (omega arith)

tail_nil : {X : Type 0} (xs ys : List X) → xs ++ ys ≡ xs → ys ≡ []
tail_nil xs ys e = let n : length (xs ++ ys) ≡ length xs = ap length e in nil_of ys (omega (arith, length-append xs ys))

module _ {E : Type 0} where
  extends_one : (id : TableId) (numbers : List ℕ) (has : Bool) (was f : List (ℕ × E)) (k : PassState E) → KnowsLog f k
      → Extends (pass_view_of id numbers has was (k ∷ [])) f
  extends_one id numbers has was f k h =
      let both : events_by k.number k.seen ++ events_by k.number h.rest ≡ events_by k.number k.seen =
      sym (by-append k.number k.seen h.rest) ∙ (sym (ap (events_by k.number) h.begins) ∙ (h.own ∙ sym h.own_seen)) in
      record { rest = h.rest; begins = h.begins; others = tail_nil (events_by k.number k.seen) (events_by k.number h.rest) both; own = h.own }

  -- a log that the pass knows extends what callers see of it
  pub extends : (id : TableId) (v : View E) (k : PassState E) (f : List (ℕ × E)) → v.passes ≡ k ∷ [] → Each (KnowsLog f) v.passes → Extends (pass_view id v) f
  extends id v k f single h = let P : List (PassState E) → Type 0 = λ ps. Extends (pass_view_of id v.numbers v.has_turn v.was ps) f in
      subst P (sym single) (extends_one id v.numbers v.has_turn v.was f k (subst (Each (KnowsLog f)) single h).0)

  pub numbers_is : (id : TableId) (v : View E) (k : PassState E) (p : PassView E) → v.passes ≡ k ∷ [] → pass_view id v ≡ p → v.numbers ≡ p.numbers
  numbers_is id v k p single is = ap (λ (z : PassView E). z.numbers) (sym (ap (pass_view_of id v.numbers v.has_turn v.was) single) ∙ is)

  there : (v : View E) (k : PassState E) (ns : List ℕ) → v.passes ≡ k ∷ [] → 0 < length ns → k.spare ≡ ns
      → (q : PassState E) × (n : ℕ) × (ms : List ℕ) × (v.passes ≡ q ∷ []) × (q.spare ≡ n ∷ ms)
  there v k [] single h e = absurd (omega arith)
  there v k (n ∷ ns) single h e = (k, n, ns, single, e)

  -- the pass has a spare number
  pub spare_there : (id : TableId) (v : View E) (k : PassState E) → v.passes ≡ k ∷ [] → 0 < length (pass_view id v).spare
      → (q : PassState E) × (n : ℕ) × (ns : List ℕ) × (v.passes ≡ q ∷ []) × (q.spare ≡ n ∷ ns)
  spare_there id v k single l = let P : List (PassState E) → Type 0 =
      λ ps. 0 < length (pass_view_of id v.numbers v.has_turn v.was ps).spare in there v k k.spare single (subst P single l) refl

length_rest : (ns : List ℕ) → length (drop 1 ns) ≡ length ns - 1
length_rest [] = refl
length_rest (n ∷ ns) = omega arith

module _ {G E : Type 0} where
  pub split_pass : (id id' : TableId) (m m' : Me (Option G) (View E)) (ticket n : ℕ) → IsPass m ticket
      → n ≡ length (pass_view id m.0).spare → m' ≡ (keeper m.0, m.1) → IsPass m' ticket × (n - 1 ≡ length (pass_view id' m'.0).spare)
  split_pass id id' m m' ticket n is size now =
      let k = is.only.0 in let single = is.only.1 in let v : View E = m.0 in
      let k' : PassState E = record { number = k.number; spare = drop 1 k.spare; seen = k.seen; mine = k.mine } in
      let kept : kept_passes v.passes ≡ k' ∷ [] = ap kept_passes single in
      let a : length (pass_view id v).spare ≡ length k.spare = ap (λ ps. length (pass_view_of id v.numbers v.has_turn v.was ps).spare) single in
      let b : length (pass_view id' (keeper v)).spare ≡ length (drop 1 k.spare) =
      ap (λ ps. length (pass_view_of id' v.numbers v.has_turn v.was ps).spare) kept in
      let c = length_rest k.spare in
      let P : Me (Option G) (View E) → Type 0 = λ x. IsPass x ticket × (n - 1 ≡ length (pass_view id' x.0).spare) in
      subst P (sym now) (record { only = (k', kept); idle = is.idle; holds = is.holds }, omega arith)

  module _ (log_of : G → List E) (may : ℕ → E → Type 0) (fits : G → List ℕ → Type 0) where
    -- the log of a value that may be given back is what the holder then logs
    pub logged_is : (m : Me (Option G) (View E)) (k : PassState E) (x : G) → m.0.passes ≡ k ∷ [] → MayLeave log_of may fits m k x
        → log_of x ≡ events (logged_as log_of m.0 x).was
    logged_is m k x single leaves = let es : List E = drop (length m.0.was) (log_of x) in
        leaves.1 ∙ (events_grown k.number m.0.was es ∙ (λ i. events (grown (sym single i) m.0.was es)))

    pub leave_ready : (id : TableId) (v : View E) (k : PassState E) (x : G) (numbers : List ℕ) (was : List (ℕ × E)) (es : List E)
        (p : PassView E) → v.passes ≡ k ∷ [] → pass_view id v ≡ p → p.numbers ≡ numbers → fits x numbers → was ≡ p.was
        → log_of x ≡ events was ++ es → Each (may p.number) es
        → (q : PassState E) × (v.passes ≡ q ∷ [])
        × (fits x v.numbers × (log_of x ≡ events v.was ++ drop (length v.was) (log_of x))
        × Each (may q.number) (drop (length v.was) (log_of x)))
    leave_ready id v k x numbers was es p single is nums fit same logs fair =
        let pv : pass_view_of id v.numbers v.has_turn v.was (k ∷ []) ≡ p = sym (ap (pass_view_of id v.numbers v.has_turn v.was) single) ∙ is in
        let was_is : was ≡ v.was = same ∙ sym (ap (λ (z : PassView E). z.was) pv) in
        let logs' : log_of x ≡ events v.was ++ es = logs ∙ ap (λ f. events f ++ es) was_is in
        let new_is : drop (length v.was) (log_of x) ≡ es = ap (drop (length v.was)) logs' ∙ drop_events v.was es in (
          k,
          single,
          (
            subst (fits x) (sym (ap (λ (z : PassView E). z.numbers) pv ∙ nums)) fit,
            logs' ∙ ap (λ l. events v.was ++ l) (sym new_is),
            subst (Each (may k.number)) (sym new_is) (subst (λ n. Each (may n) es) (sym (ap (λ (z : PassView E). z.number) pv)) fair),
          ),
        )

    pub leave_view : (id id' : TableId) (v : View E) (k : PassState E) (x : G) (was : List (ℕ × E)) (es : List E) (p : PassView E)
        (m' : Me (Option G) (View E)) → v.passes ≡ k ∷ [] → pass_view id v ≡ p → was ≡ p.was
        → log_of x ≡ events was ++ es → id' ≡ id → m' ≡ (handed_on (logged v (drop (length v.was) (log_of x))), []) → pass_view id' m'.0 ≡ left p was es
    leave_view id id' v k x was es p m' single is same logs table now =
        let pv : pass_view_of id v.numbers v.has_turn v.was (k ∷ []) ≡ p = sym (ap (pass_view_of id v.numbers v.has_turn v.was) single) ∙ is in
        let was_is : was ≡ v.was = same ∙ sym (ap (λ (z : PassView E). z.was) pv) in
        let logs' : log_of x ≡ events v.was ++ es = logs ∙ ap (λ f. events f ++ es) was_is in
        let new_is : drop (length v.was) (log_of x) ≡ es = ap (drop (length v.was)) logs' ∙ drop_events v.was es in
        ap (λ (z : Me (Option G) (View E)). pass_view id' z.0) now
        ∙ (λ i. pass_view_of (table i) v.numbers false [] (with_events (single i) v.was (new_is i)))
        ∙ (λ i. left (pv i) (sym was_is i) es)

    -- what the pass has seen then is the whole log
    pub leave_seen : (id id' : TableId) (v : View E) (k : PassState E) (x : G) (numbers : List ℕ) (p : PassView E)
        (m' : Me (Option G) (View E)) → v.passes ≡ k ∷ [] → pass_view id v ≡ p → p.numbers ≡ numbers
        → m' ≡ (handed_on (logged v (drop (length v.was) (log_of x))), [])
        → (log_of x ≡ events (logged v (drop (length v.was) (log_of x))).was)
        × IsLog may v.numbers (logged v (drop (length v.was) (log_of x))).was
        → IsLog may numbers (pass_view id' m'.0).seen × (events (pass_view id' m'.0).seen ≡ log_of x)
    leave_seen id id' v k x numbers p m' single is nums now log =
        let es : List E = drop (length v.was) (log_of x) in
        let Same : List (PassState E) → Type 0 = λ ps. (pass_view_of id' v.numbers false [] (with_events ps v.was es)).seen ≡ grown ps v.was es in
        let same : (pass_view id' m'.0).seen ≡ (logged v es).was =
        ap (λ (z : Me (Option G) (View E)). (pass_view id' z.0).seen) now ∙ subst Same (sym single) refl in
        let numbers_are : v.numbers ≡ numbers = numbers_is id v k p single is ∙ nums in (
          subst (IsLog may numbers) (sym same) (subst (λ ns. IsLog may ns (logged v es).was) numbers_are log.1),
          ap events same ∙ sym log.0,
        )

    pub leave_pass : (id : TableId) (v : View E) (k : PassState E) (x : G) (n ticket : ℕ) (m' : Me (Option G) (View E))
        → v.passes ≡ k ∷ [] → n ≡ length (pass_view id v).spare → m' ≡ (handed_on (logged v (drop (length v.was) (log_of x))), [])
        → (id' : TableId)
        → IsPass m' ticket × (n ≡ length (pass_view id' m'.0).spare)
    leave_pass id v k x n ticket m' single size now id' =
        let es : List E = drop (length v.was) (log_of x) in
        let k' : PassState E = record {
          number = k.number;
          spare = k.spare;
          seen = v.was ++ entries k.number es;
          mine =
              k.mine ++ es;
        } in
        let kept : with_events v.passes v.was es ≡ k' ∷ [] = ap (λ ps. with_events ps v.was es) single in
        let a : length (pass_view id v).spare ≡ length k.spare = ap (λ ps. length (pass_view_of id v.numbers v.has_turn v.was ps).spare) single in
        let b : length (pass_view id' (handed_on (logged v es))).spare ≡ length k.spare =
        ap (λ ps. length (pass_view_of id' v.numbers false [] ps).spare) kept in
        let P : Me (Option G) (View E) → Type 0 = λ z. IsPass z ticket × (n ≡ length (pass_view id' z.0).spare) in
        subst P (sym now) (record { only = (k', kept); idle = λ _. (refl, refl, refl); holds = λ e. absurd (false≢true e) }, omega arith)

module _ {E : Type 0} where
  as_is : (table : TableId) (t : TurnView) (v : View E) (k : PassState E) (p : PassView E) → v.passes ≡ k ∷ [] → pass_view table v ≡ p
      → IsIdleOf t p → (v.has_turn ≡ false → v.was ≡ [])
      → (idle_pass t k ≡ p) × (table ≡ t.id) × (v.has_turn ≡ false)
  as_is table t v k p single is w bare =
      let pv : pass_view_of table v.numbers v.has_turn v.was (k ∷ []) ≡ p = sym (ap (pass_view_of table v.numbers v.has_turn v.was) single) ∙ is in
      let a : table ≡ t.id = ap (λ (z : PassView E). z.id) pv ∙ w.0.0 in
      let b : v.numbers ≡ t.numbers = ap (λ (z : PassView E). z.numbers) pv ∙ w.0.1 in
      let c : v.has_turn ≡ false = ap (λ (z : PassView E). z.has_turn) pv ∙ w.1 in
      let d : v.was ≡ [] = bare c in
      ((λ i. pass_view_of (sym a i) (sym b i) (sym c i) (sym d i) (k ∷ [])) ∙ pv, a, c)

  count_all : (t : TurnView) (ks : List (PassState E)) → sum_by number_count (idle_passes t ks) ≡ total share ks
  count_all t [] = refl
  count_all t (k ∷ ks) = omega (arith, sum_by-cons number_count (idle_pass t k) (idle_passes t ks), count_all t ks)

  -- a seat with these passes has as many numbers
  pub shares_all : (t : TurnView) (v : View E) (ps : List (PassView E)) → idle_passes t v.passes ≡ ps → shares v ≡ sum_by number_count ps
  shares_all t v ps is = sym (count_all t v.passes) ∙ ap (sum_by number_count) is

  pub some_pass : (ps : List (PassView E)) → 0 < sum_by number_count ps → 0 < length ps
  some_pass [] h = h
  some_pass (p ∷ ps) h = omega arith

  each_as : (t : TurnView) (f : List (ℕ × E)) (ks : List (PassState E)) → Each (KnowsLog f) ks → Each (λ p. Extends p f) (idle_passes t ks)
  each_as t f [] h = tt
  each_as t f (k ∷ ks) h = (extends_one t.id t.numbers false [] f k h.0, each_as t f ks h.1)

  one_as : (t : TurnView) (f : List (ℕ × E)) (ks : List (PassState E)) → SomeOf (λ k. k.seen ≡ f) ks → SomeOf (λ p. p.seen ≡ f) (idle_passes t ks)
  one_as t f [] h = h
  one_as t f (k ∷ ks) h = ⊎_elim inl (λ q. inr (one_as t f ks q)) h

module _ {G E : Type 0} where
  pub gathers : (table : TableId) (t : TurnView) (old rest : List (PassView E)) (p : PassView E) (all : List (PassView E))
      (m m' : Me (Option G) (View E)) (ticket : ℕ) (w : View E)
      → IsPass m ticket → pass_view table m.0 ≡ p → old ≡ rest ++ p ∷ [] → old ++ idle_passes t w.passes ≡ all → Each (IsIdleOf t) old
      → m' ≡ (gathered m.0 w, m.1)
      → (rest ++ idle_passes t m'.0.passes ≡ all) × (table ≡ t.id) × (m'.0.ticket ≡ None) × (m'.0.has_turn ≡ false) × (m'.1 ≡ [])
      × (1 ≤ shares m'.0) × Each (IsIdleOf t) rest
  gathers table t old rest p all m m' ticket w is view split sofar waits now =
      let ks : List (PassState E) = w.passes in let k = is.only.0 in let single = is.only.1 in
      let both = each_front (IsIdleOf t) rest (p ∷ []) (subst (Each (IsIdleOf t)) split waits) in
      let own = as_is table t m.0 k p single view both.1.0 (λ e. (is.idle e).2) in
      let free = is.idle own.2 in
      let joined : m.0.passes ++ ks ≡ k ∷ ks = ap (λ l. l ++ ks) single in
      let P : Me (Option G) (View E) → Type 0 = λ z. (rest ++ idle_passes t z.0.passes ≡ all) × (table ≡ t.id) × (z.0.ticket ≡ None)
      × (z.0.has_turn ≡ false) × (z.1 ≡ []) × (1 ≤ shares z.0) × Each (IsIdleOf t) rest in
      let many : shares (gathered m.0 w) ≡ share k + total share ks = ap (total share) joined in
      subst P (sym now) (
        ap (λ l. rest ++ idle_passes t l) joined ∙ ap (λ q. rest ++ q ∷ idle_passes t ks) own.0
            ∙ sym (append_assoc rest (p ∷ []) (idle_passes t ks)) ∙ ap (λ l. l ++ idle_passes t ks) (sym split) ∙ sofar,
        own.1,
        free.0,
        own.2,
        free.1,
        omega arith,
        both.0,
      )

  pub whole : (log_of : G → List E) (may : ℕ → E → Type 0) (fits : G → List ℕ → Type 0) (t : TurnView) (ks : List (PassState E))
      (ps : List (PassView E)) (x : G) → idle_passes t ks ≡ ps → IsAll log_of may fits t.numbers ks x
      → IsWhole log_of may fits t.numbers ps x
  whole log_of may fits t ks ps x is h = subst (λ l. IsWhole log_of may fits t.numbers l x) is record {
    log = h.0;
    fit = h.1;
    logged = h.2;
    allowed = h.3;
    longest = one_as t h.0 ks h.4;
    known = each_as t h.0 ks h.5;
  }

pub under : (s n : ℕ) → n ≡ min s 4294967295 → n < 4294967295 → s ≡ n
under s n e l = omega arith
