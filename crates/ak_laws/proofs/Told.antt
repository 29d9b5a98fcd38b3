-- What was written to a pipe and what its reads got, by the tally of the pipe: each change of a pipe keeps it.
use Rattle.std.proofs.Common.{ℕ, ℤ, zero, suc, ◌+◌, ◌<◌, ◌≤◌, ◌≡◌, ◌⊎◌, inl, inr, List, [], ◌∷◌, ◌++◌, length, map, take, drop, get_or, set, Bool, true, false, cond, ◌&&◌}
use Rattle.std.proofs.Common.{refl, sym, subst, ap, ◌∙◌, arith, length-append, length-drop}
use Rattle.std.specs.Prelude.{not, ◌==◌, nat_lt, if◌then◌else◌}
use Rattle.std.proofs.lemmas.Bool.{true≢false, eqb-true, eqb-false, ltb-true, ltb-false}
use Rattle.std.proofs.lemmas.List.{take-append-le, take_all, take_more, drop_more, append-nil, append_assoc, map-append}
use Rattle.std.proofs.lemmas.List.{set_past, get_or-set_same, get_or-set_other}
use Rattle.ak_pipe.specs.Pipe as pipe
use Rattle.ak_machine.specs.declared.held.Read.{Read}
use Rattle.ak_machine.specs.State.{State}
use Rattle.ak_machine.specs.Pipes.{pipe_at, with_pipe_at}
use Rattle.ak_ledger.specs.Tallies.{proc_of, Tally, tally_of}
use Rattle.ak_laws.specs.Reads.{is_meant, is_open, served, front_taken, written, taken}

abbrev pub Gets : Type 0
Gets = ℕ × ℤ

abbrev pub procs_in : List Gets → List ℕ
procs_in g = map (λ (got : Gets). got.0) g

abbrev pub numbers_in : List Gets → List ℤ
numbers_in g = map (λ (got : Gets). got.1) g

-- that nothing is left to be read
abbrev NoneLeft : Tally → Type 0
NoneLeft t = (t.reader_closed ≡ true) ⊎ (length t.written ≤ t.consumed)

-- the numbers that were written, the reads that were made, and those that got a number. No more is consumed than was written, and
-- all of it where a read waits. The reads that got none wait, or learned of the end
pub record Told (w : List ℤ) (rs : List ℕ) (g : List Gets) (t : Tally) : Type 0 where
  pub written : t.written ≡ w
  pub got : take t.consumed t.written ≡ numbers_in g
  pub within : t.consumed ≤ length t.written
  pub hungry : 0 < length t.waiting → length t.written ≤ t.consumed
  pub both : t.reader_closed ≡ true → t.closed ≡ true
  pub ended : List ℕ
  pub made : rs ≡ procs_in g ++ (t.waiting ++ ended)
  pub over : 0 < length ended → (t.closed ≡ true) × NoneLeft t

-- nothing is added
pub none_told : (w : List ℤ) (rs : List ℕ) (g : List Gets) (t : Tally) → Told w rs g t → Told (w ++ []) (rs ++ []) (g ++ []) t
none_told w rs g t h =
    subst (λ l. Told l (rs ++ []) (g ++ []) t) (sym (append-nil w))
    (subst (λ l. Told w l (g ++ []) t) (sym (append-nil rs)) (subst (λ l. Told w rs l t) (sym (append-nil g)) h))

-- ---- a pipe by itself
none_ended : (w : List ℤ) (rs : List ℕ) (g : List Gets) (t : Tally) (h : Told w rs g t) → ((t.closed ≡ true) × NoneLeft t → ⊥) → h.ended ≡ []
none_ended w rs g t h not = by h.ended h.over
  where
    by : (l : List ℕ) → (0 < length l → (t.closed ≡ true) × NoneLeft t) → l ≡ []
    by [] o = refl
    by (x ∷ l) o = absurd (not (o (omega arith)))

one_more : (g : List Gets) (n : ℕ) (v : ℤ) → (procs_in g ++ n ∷ [] ≡ procs_in (g ++ (n, v) ∷ [])) × (numbers_in g ++ v ∷ [] ≡ numbers_in (g ++ (n, v) ∷ []))
one_more g n v = (
  sym (map-append (λ (got : Gets). got.0) g ((n, v) ∷ [])),
  sym (map-append (λ (got : Gets). got.1) g ((n, v) ∷ [])),
)

-- more is written to an open pipe
put_told : (w : List ℤ) (rs : List ℕ) (g : List Gets) (waiting : List Read) (v : ℤ) (x : pipe.Pipe Read) → x.reads ≡ waiting → x.closed ≡ false
    → Told w rs g (tally_of x) → Told (w ++ v ∷ []) (rs ++ []) (g ++ served waiting v) (tally_of (pipe.put_before waiting v x))
put_told w rs g [] v x e c h =
    let none : h.ended ≡ [] = none_ended w rs g (tally_of x) h (λ o. true≢false (sym o.0 ∙ c))
    in record {
      written = ap (λ l. l ++ v ∷ []) h.written;
      got = take-append-le x.consumed x.written (v ∷ []) h.within ∙ h.got ∙ sym (ap numbers_in (append-nil g));
      within = omega (arith, h.within, length-append x.written (v ∷ []));
      hungry = λ l. absurd (omega (arith, l, ap (λ (l : List Read). length (map proc_of l)) e));
      both = h.both;
      ended = [];
      made =
          append-nil rs ∙ h.made ∙ ap (λ l. procs_in g ++ (map proc_of x.reads ++ l)) none
          ∙ ap (λ l. procs_in l ++ (map proc_of x.reads ++ [])) (sym (append-nil g));
      over = λ l. absurd (omega (arith, l));
    }
put_told w rs g (r ∷ waiting) v x e c h =
    let all : length x.written ≤ x.consumed = h.hungry (omega (arith, ap (λ (l : List Read). length (map proc_of l)) e))
    in let none : h.ended ≡ [] = none_ended w rs g (tally_of x) h (λ o. true≢false (sym o.0 ∙ c))
    in record {
      written = ap (λ l. l ++ v ∷ []) h.written;
      got =
          take_all (x.consumed + 1) (x.written ++ v ∷ []) (omega (arith, all, length-append x.written (v ∷ [])))
          ∙ ap (λ l. l ++ v ∷ []) (sym (take_all x.consumed x.written all) ∙ h.got)
          ∙ (one_more g (proc_of r) v).1;
      within = omega (arith, h.within, length-append x.written (v ∷ []));
      hungry = λ l. omega (arith, all, length-append x.written (v ∷ []));
      both = h.both;
      ended = [];
      made =
          append-nil rs ∙ h.made ∙ ap (λ l. procs_in g ++ (map proc_of x.reads ++ l)) none
          ∙ ap (λ (l : List Read). procs_in g ++ (map proc_of l ++ [])) e
          ∙ sym (append_assoc (procs_in g) (proc_of r ∷ []) (map proc_of waiting ++ []))
          ∙ ap (λ l. l ++ (map proc_of waiting ++ [])) (one_more g (proc_of r) v).0;
      over = λ l. absurd (omega (arith, l));
    }

pub put_is_told : (w : List ℤ) (rs : List ℕ) (g : List Gets) (v : ℤ) (x : pipe.Pipe Read) → x.closed ≡ false → Told w rs g (tally_of x)
    → Told (w ++ v ∷ []) (rs ++ []) (g ++ served x.reads v) (tally_of (pipe.put v x))
put_is_told w rs g v x c h = put_told w rs g x.reads v x refl c h

pub write_is_told : (w : List ℤ) (rs : List ℕ) (g : List Gets) (v : ℤ) (i : ℕ) (x : pipe.Pipe Read) → x.closed ≡ false → Told w rs g (tally_of x)
    → Told (w ++ v ∷ []) (rs ++ []) (g ++ served x.reads v) (tally_of (pipe.after_write v i x))
write_is_told w rs g v i x c h = by (pipe.is_free (pipe.put v x)) (put_is_told w rs g v x c h)
  where
    by : (b : Bool) → Told (w ++ v ∷ []) (rs ++ []) (g ++ served x.reads v) (tally_of (pipe.put v x))
        → Told (w ++ v ∷ []) (rs ++ []) (g ++ served x.reads v) (tally_of (cond b (pipe.put v x) (pipe.with_pushback i (pipe.put v x))))
    by true k = k
    by false k = k

-- what the items say
items_by : (b : Bool) (x : pipe.Pipe Read) → x.reader_closed ≡ b → pipe.items_of x ≡ cond b [] (drop x.consumed x.written)
items_by b x e = ap (λ c. cond c [] (drop x.consumed x.written)) e

reader_open : (x : pipe.Pipe Read) (v : ℤ) (rest : List ℤ) → pipe.items_of x ≡ v ∷ rest → x.reader_closed ≡ true → ⊥
reader_open x v rest e c = none (sym (items_by true x c) ∙ e)
  where
    none : [] ≡ v ∷ rest → ⊥
    none q = cc

items_left : (b : Bool) (x : pipe.Pipe Read) (v : ℤ) (rest : List ℤ) → x.reader_closed ≡ b → pipe.items_of x ≡ v ∷ rest
    → drop x.consumed x.written ≡ v ∷ rest
items_left true x v rest c e = absurd (reader_open x v rest e c)
items_left false x v rest c e = sym (items_by false x c) ∙ e

none_left : (b : Bool) (x : pipe.Pipe Read) → x.reader_closed ≡ b → pipe.items_of x ≡ [] → NoneLeft (tally_of x)
none_left true x c e = inl c
none_left false x c e = inr (omega (arith, ap length (sym (items_by false x c) ∙ e), length-drop x.consumed x.written))

all_consumed : (x : pipe.Pipe Read) → x.closed ≡ false → (x.reader_closed ≡ true → x.closed ≡ true) → NoneLeft (tally_of x)
    → length x.written ≤ x.consumed
all_consumed x c both (inl e) = absurd (true≢false (sym (both e) ∙ c))
all_consumed x c both (inr l) = l

-- a read of a pipe
read_told : (w : List ℤ) (rs : List ℕ) (g : List Gets) (items : List ℤ) (closed : Bool) (r : Read) (x : pipe.Pipe Read)
    → pipe.items_of x ≡ items → x.closed ≡ closed → Told w rs g (tally_of x)
    → Told (w ++ []) (rs ++ proc_of r ∷ []) (g ++ front_taken (proc_of r) items) (tally_of (pipe.read_from items closed r x))
read_told w rs g (v ∷ rest) closed r x e f h =
    let left : drop x.consumed x.written ≡ v ∷ rest = items_left x.reader_closed x v rest refl e
    in let some : x.consumed < length x.written = omega (arith, ap length left, length-drop x.consumed x.written)
    in let first : get_or x.written x.consumed v ≡ v = same (sym (drop_more x.written x.consumed v some) ∙ left)
    in let none : h.ended ≡ [] = none_ended w rs g (tally_of x) h (λ o. not_none some o.1)
    in let awake : map proc_of x.reads ≡ [] = no_waiting (map proc_of x.reads) (λ l. omega (arith, h.hungry l, some))
    in record {
      written = h.written ∙ sym (append-nil w);
      got =
          take_more x.written x.consumed v some ∙ ap (λ (l : List ℤ). l ++ get_or x.written x.consumed v ∷ []) h.got
          ∙ ap (λ (z : ℤ). numbers_in g ++ z ∷ []) first ∙ (one_more g (proc_of r) v).1;
      within = omega (arith, some);
      hungry = λ l. omega (arith, h.hungry l, some);
      both = h.both;
      ended = [];
      made =
          ap (λ l. l ++ proc_of r ∷ [])
          (h.made ∙ ap (λ l. procs_in g ++ (map proc_of x.reads ++ l)) none ∙ ap (λ l. procs_in g ++ (l ++ [])) awake ∙ append-nil (procs_in g))
          ∙ (one_more g (proc_of r) v).0 ∙ sym (append-nil (procs_in (g ++ (proc_of r, v) ∷ [])))
          ∙ ap (λ l. procs_in (g ++ (proc_of r, v) ∷ []) ++ (l ++ [])) (sym awake);
      over = λ l. absurd (omega (arith, l));
    }
  where
    same : {a : ℤ} {l : List ℤ} → a ∷ l ≡ v ∷ rest → a ≡ v
    same q = cc

    not_none : x.consumed < length x.written → NoneLeft (tally_of x) → ⊥
    not_none some (inl c) = reader_open x v rest e c
    not_none some (inr l) = omega (arith, some, l)

    no_waiting : (l : List ℕ) → (0 < length l → ⊥) → l ≡ []
    no_waiting [] n = refl
    no_waiting (y ∷ l) n = absurd (n (omega arith))
read_told w rs g [] true r x e f h = record {
  written = h.written ∙ sym (append-nil w);
  got = h.got ∙ sym (ap numbers_in (append-nil g));
  within = h.within;
  hungry = h.hungry;
  both = h.both;
  ended = h.ended ++ proc_of r ∷ [];
  made =
      ap (λ l. l ++ proc_of r ∷ []) h.made
      ∙ append_assoc (procs_in g) (map proc_of x.reads ++ h.ended) (proc_of r ∷ [])
      ∙ ap (λ l. procs_in g ++ l) (append_assoc (map proc_of x.reads) h.ended (proc_of r ∷ []))
      ∙ ap (λ l. procs_in l ++ (map proc_of x.reads ++ (h.ended ++ proc_of r ∷ []))) (sym (append-nil g));
  over = λ l. (f, none_left x.reader_closed x refl e);
}
read_told w rs g [] false r x e f h =
    let none : h.ended ≡ [] = none_ended w rs g (tally_of x) h (λ o. true≢false (sym o.0 ∙ f))
    in record {
      written = h.written ∙ sym (append-nil w);
      got = h.got ∙ sym (ap numbers_in (append-nil g));
      within = h.within;
      hungry = λ l. all_consumed x f h.both (none_left x.reader_closed x refl e);
      both = h.both;
      ended = [];
      made =
          ap (λ l. l ++ proc_of r ∷ []) (h.made ∙ ap (λ l. procs_in g ++ (map proc_of x.reads ++ l)) none)
          ∙ append_assoc (procs_in g) (map proc_of x.reads ++ []) (proc_of r ∷ [])
          ∙ ap (λ l. procs_in g ++ (l ++ proc_of r ∷ [])) (append-nil (map proc_of x.reads))
          ∙ ap (λ l. procs_in g ++ l) (sym (map-append proc_of x.reads (r ∷ [])) ∙ sym (append-nil (map proc_of (x.reads ++ r ∷ []))))
          ∙ ap (λ l. procs_in l ++ (map proc_of (x.reads ++ r ∷ []) ++ [])) (sym (append-nil g));
      over = λ l. absurd (omega (arith, l));
    }

pub read_is_told : (w : List ℤ) (rs : List ℕ) (g : List Gets) (r : Read) (x : pipe.Pipe Read) → Told w rs g (tally_of x)
    → Told (w ++ []) (rs ++ proc_of r ∷ []) (g ++ front_taken (proc_of r) (pipe.items_of x)) (tally_of (pipe.after_read r x))
read_is_told w rs g r x h = read_told w rs g (pipe.items_of x) x.closed r x refl refl h

-- an end is closed, and the reads that wait learn of it
ends_told : (w : List ℤ) (rs : List ℕ) (g : List Gets) (b : Bool) (x : pipe.Pipe Read) → (x.reader_closed ≡ true → b ≡ true) → Told w rs g (tally_of x)
    → Told w rs g (tally_of (pipe.reads_owed (record x { closed = true; reader_closed = b })))
ends_told w rs g b x keeps h = record {
  written = h.written;
  got = h.got;
  within = h.within;
  hungry = λ l. absurd (omega (arith, l));
  both = λ e. refl;
  ended = map proc_of x.reads ++ h.ended;
  made = h.made;
  over = λ l. (refl, by (map proc_of x.reads) h.ended l h.hungry h.over);
}
  where
    still : NoneLeft (tally_of x) → (b ≡ true) ⊎ (length x.written ≤ x.consumed)
    still (inl e) = inl (keeps e)
    still (inr l) = inr l

    by : (waiting ended : List ℕ) → 0 < length (waiting ++ ended) → (0 < length waiting → length x.written ≤ x.consumed)
        → (0 < length ended → (x.closed ≡ true) × NoneLeft (tally_of x)) → (b ≡ true) ⊎ (length x.written ≤ x.consumed)
    by [] ended l hungry over = still (over l).1
    by (y ∷ waiting) ended l hungry over = inr (hungry (omega arith))

pub close_is_told : (w : List ℤ) (rs : List ℕ) (g : List Gets) (x : pipe.Pipe Read) → Told w rs g (tally_of x)
    → Told w rs g (tally_of (pipe.after_close x))
close_is_told w rs g x h = by x.closed
  where
    by : (b : Bool) → Told w rs g (tally_of (cond b x (pipe.reads_owed (record x { closed = true }))))
    by true = h
    by false = ends_told w rs g x.reader_closed x (λ e. e) h

pub close_read_is_told : (w : List ℤ) (rs : List ℕ) (g : List Gets) (x : pipe.Pipe Read) → Told w rs g (tally_of x)
    → Told w rs g (tally_of (pipe.after_close_read x))
close_read_is_told w rs g x h = by x.reader_closed
  where
    by : (b : Bool) → Told w rs g (tally_of (cond b x (pipe.reads_owed (record x { closed = true; reader_closed = true }))))
    by true = h
    by false = ends_told w rs g true x (λ e. refl) h

-- ---- a pipe of the state
abbrev pub tally_at : ℕ → State → Tally
tally_at p s = tally_of (pipe_at p s)

-- pipe q is changed: this is a change of pipe p where it is that one and is there
changed : (p q : ℕ) (x : pipe.Pipe Read) (s : State) (R : Bool → Tally → Type 0) → R false (tally_at p s) → (q ≡ p → R true (tally_of x))
    → R (is_meant p q s) (tally_at p (with_pipe_at q x s))
changed p q x s R aside meant = by (q == p) (nat_lt p (length s.pipes)) refl refl
  where
    by : (b c : Bool) → (q == p) ≡ b → nat_lt p (length s.pipes) ≡ c → R (b && c) (tally_at p (with_pipe_at q x s))
    by false c e f =
        subst (λ y. R false (tally_of y)) (sym (get_or-set_other s.pipes q p x (pipe.fresh_pipe 0) (λ g. eqb-false q p e (sym g)))) aside
    by true false e f =
        let past : length s.pipes ≤ q = subst (λ n. length s.pipes ≤ n) (sym (eqb-true q p e)) (ltb-false p (length s.pipes) f)
        in subst (λ l. R false (tally_of (get_or l p (pipe.fresh_pipe 0)))) (sym (set_past s.pipes q x past)) aside
    by true true e f =
        let there : q < length s.pipes = subst (λ n. n < length s.pipes) (sym (eqb-true q p e)) (ltb-true p (length s.pipes) f)
        in let same : get_or (set s.pipes q x) p (pipe.fresh_pipe 0) ≡ x =
        subst (λ n. get_or (set s.pipes q x) n (pipe.fresh_pipe 0) ≡ x) (eqb-true q p e) (get_or-set_same s.pipes q x (pipe.fresh_pipe 0) there)
        in subst (λ y. R true (tally_of y)) (sym same) (meant (eqb-true q p e))

-- a pipe that is meant is the one that is named
pub closed_same : (p q : ℕ) (s : State) (b : Bool) → (pipe_at q s).closed ≡ b → is_open p q s ≡ (is_meant p q s && not b)
closed_same p q s b e = by (q == p) refl
  where
    by : (c : Bool) → (q == p) ≡ c
        → ((c && nat_lt p (length s.pipes)) && not (pipe_at p s).closed) ≡ ((c && nat_lt p (length s.pipes)) && not b)
    by false f = refl
    by true f = ap (λ d. nat_lt p (length s.pipes) && not d) (subst (λ n. (pipe_at n s).closed ≡ b) (eqb-true q p f) e)

and_true : (b : Bool) → b ≡ (b && true)
and_true true = refl
and_true false = refl

and_false : (b : Bool) → false ≡ (b && false)
and_false true = refl
and_false false = refl

-- what a write adds, by whether pipe p is meant
abbrev Added : (p : ℕ) (v : ℤ) (s : State) (w : List ℤ) (rs : List ℕ) (g : List Gets) → Bool → Tally → Type 0
Added p v s w rs g b t = Told (w ++ (if b then v ∷ [] else [])) (rs ++ []) (g ++ (if b then served (pipe_at p s).reads v else [])) t

-- what a read adds
abbrev Asked : (p : ℕ) (r : Read) (s : State) (w : List ℤ) (rs : List ℕ) (g : List Gets) → Bool → Tally → Type 0
Asked p r s w rs g b t =
    Told (w ++ []) (rs ++ (if b then proc_of r ∷ [] else [])) (g ++ (if b then front_taken (proc_of r) (pipe.items_of (pipe_at p s)) else [])) t

module _ (p q : ℕ) (s : State) (w : List ℤ) (rs : List ℕ) (g : List Gets) (h : Told w rs g (tally_at p s)) where
  at_q : q ≡ p → Told w rs g (tally_at q s)
  at_q e = subst (λ n. Told w rs g (tally_at n s)) (sym e) h

  -- nothing is written to a closed pipe
  pub refused_told : (v : ℤ) → (pipe_at q s).closed ≡ true → Told (w ++ written p q v s) (rs ++ []) (g ++ taken p q v s) (tally_at p s)
  refused_told v e =
      subst (λ b. Added p v s w rs g b (tally_at p s)) (and_false (is_meant p q s) ∙ sym (closed_same p q s true e)) (none_told w rs g (tally_at p s) h)

  -- a number is written
  pub written_told : (v : ℤ) (x : pipe.Pipe Read) → (pipe_at q s).closed ≡ false
      → (Told w rs g (tally_at q s) → Told (w ++ v ∷ []) (rs ++ []) (g ++ served (pipe_at q s).reads v) (tally_of x))
      → Told (w ++ written p q v s) (rs ++ []) (g ++ taken p q v s) (tally_at p (with_pipe_at q x s))
  written_told v x e step =
      subst (λ b. Added p v s w rs g b (tally_at p (with_pipe_at q x s))) (and_true (is_meant p q s) ∙ sym (closed_same p q s false e))
      (changed p q x s (Added p v s w rs g) (none_told w rs g (tally_at p s) h)
      (λ f. subst (λ n. Told (w ++ v ∷ []) (rs ++ []) (g ++ served (pipe_at n s).reads v) (tally_of x)) f (step (at_q f))))

  -- a read is made
  pub asked_told : (r : Read) → Asked p r s w rs g (is_meant p q s) (tally_at p (with_pipe_at q (pipe.after_read r (pipe_at q s)) s))
  asked_told r =
      let x : pipe.Pipe Read = pipe.after_read r (pipe_at q s)
      in changed p q x s (Asked p r s w rs g) (none_told w rs g (tally_at p s) h)
      (λ f. subst
      (λ n. Told (w ++ []) (rs ++ proc_of r ∷ []) (g ++ front_taken (proc_of r) (pipe.items_of (pipe_at n s))) (tally_of x)) f
      (read_is_told w rs g r (pipe_at q s) (at_q f)))

  -- an end is closed
  pub closed_told : (x : pipe.Pipe Read) → (Told w rs g (tally_at q s) → Told w rs g (tally_of x))
      → Told (w ++ []) (rs ++ []) (g ++ []) (tally_at p (with_pipe_at q x s))
  closed_told x step =
      none_told w rs g (tally_at p (with_pipe_at q x s)) (changed p q x s (λ b t. Told w rs g t) h (λ f. step (at_q f)))

-- one more pipe
pub new_told : (p room : ℕ) (xs : List (pipe.Pipe Read))
    → tally_of (get_or (xs ++ pipe.fresh_pipe room ∷ []) p (pipe.fresh_pipe 0)) ≡ tally_of (get_or xs p (pipe.fresh_pipe 0))
new_told zero room [] = refl
new_told (suc p) room [] = refl
new_told zero room (x ∷ xs) = refl
new_told (suc p) room (x ∷ xs) = new_told p room xs
