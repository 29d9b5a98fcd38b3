-- Each step of a pipe keeps what every pipe keeps.
use Rattle.std.proofs.Common.{ℕ, zero, suc, ◌+◌, ◌<◌, ◌≤◌, ◌≡◌, List, [], ◌∷◌, ◌++◌, length, drop, refl, ap, sym, ◌∙◌, subst, Bool, true, false, cond, arith, length-append, length-drop, add-one}
use Rattle.std.specs.Prelude.{ℤ, ◌||◌, nat_le, Some, None, filter}
use Rattle.std.proofs.lemmas.Bool.{true≢false, false≢true, lt-leb, leb-false}
use Rattle.std.proofs.lemmas.List.{drop-append-le, drop_all}
use Rattle.ak_base.specs.Lists.{first_of, without_first}
use Rattle.ak_pipe.specs.declared.flush.Flush.{Flush}
use Rattle.ak_pipe.specs.Pipe as plain
use Rattle.ak_pipe.specs.Kept.{waiting_of, pipe_of, AreFlushes, IsKept, is_reached, front_settled, without_settled}

raised : (low high higher : ℕ) (flushes : List Flush) → high ≤ higher → AreFlushes low high flushes → AreFlushes low higher flushes
raised low high higher [] h a = tt
raised low high higher (f ∷ fs) h a = (a.0, omega (arith, a.1, h), raised f.count high higher fs h a.2)

lowered : (lower low high : ℕ) (flushes : List Flush) → lower ≤ low → AreFlushes low high flushes → AreFlushes lower high flushes
lowered lower low high [] h a = tt
lowered lower low high (f ∷ fs) h a = (omega (arith, a.0, h), a.1, a.2)

last_flush : (low high i : ℕ) (flushes : List Flush) → low ≤ high → AreFlushes low high flushes
    → AreFlushes low high (flushes ++ record { ivar = i; count = high } ∷ [])
last_flush low high i [] h a = (h, omega arith, tt)
last_flush low high i (f ∷ fs) h a = (a.0, a.1, last_flush f.count high i fs a.1 a.2)

rest_flushes_by : (t : Bool) (high : ℕ) (f : Flush) (fs : List Flush) → AreFlushes 0 high (f ∷ fs) → AreFlushes 0 high (cond t fs (f ∷ fs))
rest_flushes_by true high f fs a = lowered 0 f.count high fs (omega arith) a.2
rest_flushes_by false high f fs a = a

rest_flushes : (k : ℕ) (rc : Bool) (high : ℕ) (flushes : List Flush) → AreFlushes 0 high flushes → AreFlushes 0 high (without_settled k rc flushes)
rest_flushes k rc high [] a = a
rest_flushes k rc high (f ∷ fs) a = rest_flushes_by (is_reached k rc f) high f fs a

-- a number is the last item
pub kept_put : {R : Type 0} (w more : List ℤ) (n k : ℕ) (closed rc : Bool) (items items' : List ℤ) (reads : List R) (flushes : List Flush)
    (v : ℤ) → IsKept w n k closed rc items reads flushes → closed ≡ false → length reads ≡ 0 → more ≡ w ++ v ∷ []
    → items' ≡ items ++ v ∷ [] → IsKept more (n + 1) k closed rc items' reads flushes
kept_put w more n k closed true items items' reads flushes v s e r m i = absurd (true≢false (sym (s.both refl) ∙ e))
kept_put w more n k closed false items items' reads flushes v s e r m i = record {
  counted = omega (arith, s.counted, ap length m, length-append w (v ∷ []));
  within = omega (arith, s.within);
  left = i ∙ ap (λ xs. xs ++ v ∷ []) s.left ∙ sym (drop-append-le k w (v ∷ []) (omega (arith, s.within, s.counted))) ∙ ap (drop k) (sym m);
  hungry = λ e h. absurd (omega (arith, h, r));
  both = λ e. absurd (false≢true e);
  ordered = raised 0 n (n + 1) flushes (omega arith) s.ordered;
}

none_left : (w : List ℤ) (k : ℕ) → [] ≡ drop k w → length w ≤ k
none_left w k e = omega (arith, ap length e, length-drop k w)

-- a waiting read takes a number
pub kept_served : {R : Type 0} (w more : List ℤ) (n k : ℕ) (closed rc : Bool) (items : List ℤ) (reads rest : List R)
    (flushes : List Flush) (v : ℤ) → IsKept w n k closed rc items reads flushes → closed ≡ false → 0 < length reads → more ≡ w ++ v ∷ []
    → IsKept more (n + 1) (k + 1) closed rc items rest flushes
kept_served w more n k closed true items reads rest flushes v s e r m = absurd (true≢false (sym (s.both refl) ∙ e))
kept_served w more n k closed false items reads rest flushes v s e r m =
    let none : items ≡ [] = s.hungry e r
    in let all : length w ≤ k = none_left w k (sym none ∙ s.left)
    in record {
      counted = omega (arith, s.counted, ap length m, length-append w (v ∷ []));
      within = omega (arith, s.within);
      left = none ∙ sym (drop_all (k + 1) more (omega (arith, all, ap length m, length-append w (v ∷ []))));
      hungry = λ e h. none;
      both = λ e. absurd (false≢true e);
      ordered = raised 0 n (n + 1) flushes (omega arith) s.ordered;
    }

drop_next : (w : List ℤ) (k : ℕ) (v : ℤ) (rest : List ℤ) → drop k w ≡ v ∷ rest → drop (suc k) w ≡ rest
drop_next [] zero v rest e = cc
drop_next (x ∷ xs) zero v rest e = cc
drop_next [] (suc k) v rest e = cc
drop_next (x ∷ xs) (suc k) v rest e = drop_next xs k v rest e

drop_rest : (w : List ℤ) (k : ℕ) (v : ℤ) (rest : List ℤ) → drop k w ≡ v ∷ rest → drop (k + 1) w ≡ rest
drop_rest w k v rest e = ap (λ n. drop n w) (add-one k) ∙ drop_next w k v rest e

-- the front item is taken
pub kept_taken : {R : Type 0} (w : List ℤ) (n k : ℕ) (closed rc : Bool) (items rest : List ℤ) (reads : List R) (flushes : List Flush)
    (v : ℤ) → IsKept w n k closed rc items reads flushes → items ≡ v ∷ rest → IsKept w n (k + 1) closed rc rest reads flushes
kept_taken w n k closed true items rest reads flushes v s i = absurd (omega (arith, ap length s.left, ap length i))
kept_taken w n k closed false items rest reads flushes v s i = record {
  counted = s.counted;
  within = omega (arith, s.counted, s.within, ap length (sym s.left ∙ i), length-drop k w);
  left = sym (drop_rest w k v rest (sym s.left ∙ i));
  hungry = λ e h. absurd (omega (arith, ap length (s.hungry e h), ap length i));
  both = λ e. absurd (false≢true e);
  ordered = s.ordered;
}

-- a flush waits
pub kept_flush : {R : Type 0} (w : List ℤ) (n k i : ℕ) (closed rc : Bool) (items : List ℤ) (reads : List R) (flushes more : List Flush)
    → IsKept w n k closed rc items reads flushes → more ≡ flushes ++ record { ivar = i; count = n } ∷ []
    → IsKept w n k closed rc items reads more
kept_flush w n k i closed rc items reads flushes more s e = record {
  counted = s.counted;
  within = s.within;
  left = s.left;
  hungry = s.hungry;
  both = s.both;
  ordered = subst (λ (fs : List Flush). AreFlushes 0 n fs) (sym e) (last_flush 0 n i flushes (omega arith) s.ordered);
}

-- a flush is settled
pub kept_settled : {R : Type 0} (w : List ℤ) (n k : ℕ) (closed rc : Bool) (items : List ℤ) (reads : List R) (flushes rest : List Flush)
    → IsKept w n k closed rc items reads flushes → rest ≡ without_settled k rc flushes → IsKept w n k closed rc items reads rest
kept_settled w n k closed rc items reads flushes rest s e = record {
  counted = s.counted;
  within = s.within;
  left = s.left;
  hungry = s.hungry;
  both = s.both;
  ordered = subst (λ (fs : List Flush). AreFlushes 0 n fs) (sym e) (rest_flushes k rc n flushes s.ordered);
}

-- no flush is settled behind one that is not
none_behind : {R : Type 0} (p : plain.Pipe R) (low high : ℕ) (flushes : List Flush) → p.reader_closed ≡ false → p.consumed < low
    → AreFlushes low high flushes → (filter (plain.is_settled p) flushes ≡ []) × (without_first (plain.is_settled p) flushes ≡ flushes)
none_behind p low high [] c l a = (refl, refl)
none_behind p low high (f ∷ fs) c l a =
    let waits_on : plain.is_settled p f ≡ false = ap (λ t. t || nat_le f.count p.consumed) c ∙ lt-leb f.count p.consumed (omega (arith, l, a.0))
    in let rest = none_behind p f.count high fs c (omega (arith, l, a.0)) a.2
    in (
      ap (λ t. cond t (f ∷ filter (plain.is_settled p) fs) (filter (plain.is_settled p) fs)) waits_on ∙ rest.0,
      ap (λ t. cond t fs (f ∷ without_first (plain.is_settled p) fs)) waits_on ∙ ap (λ r. f ∷ r) rest.1,
    )

or_false : (a b : Bool) → (a || b) ≡ false → (a ≡ false) × (b ≡ false)
or_false true b e = absurd (true≢false e)
or_false false b e = (refl, e)

settled_by : {R : Type 0} (t : Bool) (p : plain.Pipe R) (high : ℕ) (f : Flush) (fs : List Flush) → plain.is_settled p f ≡ t
    → AreFlushes f.count high fs → (plain.settlement (first_of (filter (plain.is_settled p) (f ∷ fs))) p
    ≡ cond t (Some (f.ivar, plain.flush_number p f)) None) × (without_first (plain.is_settled p) (f ∷ fs) ≡ cond t fs (f ∷ fs))
settled_by true p high f fs e a = (
  ap (λ t. plain.settlement (first_of (cond t (f ∷ filter (plain.is_settled p) fs) (filter (plain.is_settled p) fs))) p) e,
  ap (λ t. cond t fs (f ∷ without_first (plain.is_settled p) fs)) e,
)
settled_by false p high f fs e a =
    let o = or_false p.reader_closed (nat_le f.count p.consumed) e
    in let rest = none_behind p f.count high fs o.0 (leb-false f.count p.consumed o.1) a
    in (
      ap (λ t. plain.settlement (first_of (cond t (f ∷ filter (plain.is_settled p) fs) (filter (plain.is_settled p) fs))) p) e
          ∙ ap (λ r. plain.settlement (first_of r) p) rest.0,
      ap (λ t. cond t fs (f ∷ without_first (plain.is_settled p) fs)) e ∙ ap (λ r. f ∷ r) rest.1,
    )

-- the oldest settled flush is the oldest, where that is settled
pub settled_same : {R : Type 0} (p : plain.Pipe R) (high : ℕ) (flushes : List Flush) → AreFlushes 0 high flushes
    → plain.settlement (first_of (filter (plain.is_settled p) flushes)) p ≡ front_settled p.consumed p.reader_closed flushes
settled_same p high [] a = refl
settled_same p high (f ∷ fs) a = (settled_by (plain.is_settled p f) p high f fs refl a.2).0

pub without_same : {R : Type 0} (p : plain.Pipe R) (high : ℕ) (flushes : List Flush) → AreFlushes 0 high flushes
    → without_first (plain.is_settled p) flushes ≡ without_settled p.consumed p.reader_closed flushes
without_same p high [] a = refl
without_same p high (f ∷ fs) a = (settled_by (plain.is_settled p f) p high f fs refl a.2).1

-- no read is kept where none waits
pub unread : {R : Type 0} (closed : Bool) (reads : List R) → closed ≡ false → waiting_of closed reads ≡ [] → length reads ≡ 0
unread true reads e f = absurd (true≢false e)
unread false reads e f = ap length f

-- a read waits in an open pipe alone
pub read_waits : {R : Type 0} (closed : Bool) (reads : List R) → 0 < length (waiting_of closed reads) → (closed ≡ false) × (0 < length reads)
read_waits true reads h = absurd (omega (arith, h))
read_waits false reads h = (refl, h)

pushed_by : {R : Type 0} (t : Bool) (i : ℕ) (q : plain.Pipe R) → record q { pushbacks = cond t q.pushbacks (q.pushbacks ++ i ∷ []) }
    ≡ cond t q (plain.with_pushback i q)
pushed_by true i q = refl
pushed_by false i q = refl

-- a number is written where no read waits
pub write_same : {R : Type 0} (budget : ℕ) (w more : List ℤ) (k : ℕ) (closed rc : Bool) (reads : List R) (pushbacks pushed : List ℕ)
    (flushes : List Flush) (v : ℤ) (i : ℕ) (items : List ℤ) (free : Bool) → closed ≡ false → length reads ≡ 0 → more ≡ w ++ v ∷ []
    → items ≡ cond rc [] (drop k more) → free ≡ nat_le (length items) budget → pushed ≡ cond free pushbacks (pushbacks ++ i ∷ [])
    → (record { served = None; free = free } ≡ plain.wrote v (pipe_of budget w k closed rc reads pushbacks flushes))
    × (pipe_of budget more k closed rc reads pushed flushes ≡ plain.after_write v i
    (pipe_of budget w k closed rc reads pushbacks flushes))
write_same budget w more k true rc reads pushbacks pushed flushes v i items free e r m l f u = absurd (true≢false e)
write_same budget w more k false rc (x ∷ xs) pushbacks pushed flushes v i items free e r m l f u = absurd (omega (arith, r))
write_same {R} budget w more k false rc [] pushbacks pushed flushes v i items free e r m l f u =
    let none : List R = []
    in let q : plain.Pipe R = pipe_of budget (w ++ v ∷ []) k false rc none pushbacks flushes
    in let same : free ≡ plain.is_free q = f ∙ ap (λ xs. nat_le (length xs) budget) (l ∙ ap (λ xs. cond rc [] (drop k xs)) m)
    in (
      ap (λ t. record { served = None; free = t }) same,
      ap (λ xs. pipe_of budget xs k false rc none pushed flushes) m
          ∙ ap (λ ps. pipe_of budget (w ++ v ∷ []) k false rc none ps flushes) (u ∙ ap (λ t. cond t pushbacks (pushbacks ++ i ∷ [])) same)
          ∙ pushed_by (plain.is_free q) i q,
    )
