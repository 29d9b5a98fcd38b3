-- What a pipe hands out is what was written, in order.
use Rattle.std.proofs.Common.{ℕ, zero, suc, ◌+◌, ◌<◌, ◌≤◌, ◌≡◌, List, [], ◌∷◌, ◌++◌, length, take, drop, refl, ap, sym, ◌∙◌, Bool, true, false, cond, arith, length-append, length-drop, append_assoc, add-one}
use Rattle.std.specs.Prelude.{ℤ, Option, Some, None}
use Rattle.std.proofs.lemmas.Bool.{true≢false, le-leb, lt-leb}
use Rattle.std.proofs.lemmas.List.{take-append-le, take_all, append-nil}
use Rattle.ak_base.specs.Lists.{rest_of}
use Rattle.ak_pipe.specs.Pipe as plain
use Rattle.ak_pipe.specs.Runs.{Call, Put, Write, Read, Flushed, Close, CloseRead, NextFree, NextFlushed, NextEof, called, after, served, front, handed, handed_out}

-- no more is consumed than was written, and all of it where a read waits
record IsSound {R : Type 0} (p : plain.Pipe R) : Type 0 where
  pub within : p.consumed ≤ length p.written
  pub waiting : 0 < length p.reads → length p.written ≤ p.consumed
  pub both : p.reader_closed ≡ true → p.closed ≡ true

-- what was consumed
abbrev out : {R : Type 0} → plain.Pipe R → List ℤ
out p = take p.consumed p.written

-- a step keeps this, and consumes what it hands out
record IsStep {R : Type 0} (p q : plain.Pipe R) (nums : List ℤ) : Type 0 where
  pub sound : IsSound q
  pub out : out q ≡ out p ++ nums

-- a step that leaves what was written and consumed
still : {R : Type 0} (p q : plain.Pipe R) → q.written ≡ p.written → q.consumed ≡ p.consumed
    → (0 < length q.reads → length p.written ≤ p.consumed) → (q.reader_closed ≡ true → q.closed ≡ true) → IsSound p → IsStep p q []
still p q e f w b s = record {
  sound = record {
    within = omega (arith, s.within, ap length e, f);
    waiting = λ h. omega (arith, w h, ap length e, f);
    both = b;
  };
  out = ap (λ xs. take q.consumed xs) e ∙ ap (λ n. take n p.written) f ∙ sym (append-nil (out p));
}

put_step : {R : Type 0} (reads : List R) (v : ℤ) (p : plain.Pipe R) → p.reads ≡ reads → IsSound p → IsStep p (plain.put_before reads v p) (served reads v)
put_step [] v p e s = record {
  sound = record {
    within = omega (arith, s.within, length-append p.written (v ∷ []));
    waiting = λ h. absurd (omega (arith, h, ap length e));
    both = s.both;
  };
  out = take-append-le p.consumed p.written (v ∷ []) s.within ∙ sym (append-nil (out p));
}
put_step (r ∷ reads) v p e s =
    let all : length p.written ≤ p.consumed = s.waiting (omega (arith, ap length e))
    in record {
      sound = record {
        within = omega (arith, s.within, length-append p.written (v ∷ []));
        waiting = λ h. omega (arith, all, length-append p.written (v ∷ []));
        both = s.both;
      };
      out =
          take_all (p.consumed + 1) (p.written ++ v ∷ []) (omega (arith, all, length-append p.written (v ∷ [])))
          ∙ ap (λ xs. xs ++ v ∷ []) (sym (take_all p.consumed p.written all));
    }

pushed_step : {R : Type 0} (t : Bool) (p q : plain.Pipe R) (i : ℕ) (nums : List ℤ) → IsStep p q nums → IsStep p (cond t q (plain.with_pushback i q)) nums
pushed_step true p q i nums s = s
pushed_step false p q i nums s = record { sound = record { within = s.sound.within; waiting = s.sound.waiting; both = s.sound.both }; out = s.out }

closed_step : {R : Type 0} (t : Bool) (p q : plain.Pipe R) (nums : List ℤ) → IsSound p → IsStep p q nums → IsStep p (cond t p q) (cond t [] nums)
closed_step true p q nums s h = still p p refl refl s.waiting s.both s
closed_step false p q nums s h = h

first_same : (x v : ℤ) (xs rest : List ℤ) → x ∷ xs ≡ v ∷ rest → x ≡ v
first_same x v xs rest e = cc

nil_cons : {v : ℤ} {rest : List ℤ} → [] ≡ v ∷ rest → ⊥
nil_cons e = cc

not-true : (t : Bool) → (t ≡ true → ⊥) → t ≡ false
not-true true f = absurd (f refl)
not-true false f = refl

drop_front : (w : List ℤ) (k : ℕ) (v : ℤ) (rest : List ℤ) → drop k w ≡ v ∷ rest → (take (suc k) w ≡ take k w ++ v ∷ []) × (suc k ≤ length w)
drop_front [] zero v rest e = cc
drop_front (x ∷ xs) zero v rest e = (ap (λ y. y ∷ []) (first_same x v xs rest e), omega arith)
drop_front [] (suc k) v rest e = cc
drop_front (x ∷ xs) (suc k) v rest e =
    let d = drop_front xs k v rest e
    in (ap (λ r. x ∷ r) d.0, omega (arith, d.1))

-- the items of a pipe whose reader is open
items_open : {R : Type 0} (rc : Bool) (p : plain.Pipe R) (v : ℤ) (rest : List ℤ) → p.reader_closed ≡ rc → plain.items_of p ≡ v ∷ rest
    → drop p.consumed p.written ≡ v ∷ rest
items_open true p v rest e f = absurd (nil_cons (sym (ap (λ t. cond t [] (drop p.consumed p.written)) e) ∙ f))
items_open false p v rest e f = sym (ap (λ t. cond t [] (drop p.consumed p.written)) e) ∙ f

none_left : {R : Type 0} (p : plain.Pipe R) → p.reader_closed ≡ false → plain.items_of p ≡ [] → length p.written ≤ p.consumed
none_left p e f = omega (arith, ap length (sym (ap (λ t. cond t [] (drop p.consumed p.written)) e) ∙ f), length-drop p.consumed p.written)

read_step : {R : Type 0} (items : List ℤ) (closed : Bool) (r : R) (p : plain.Pipe R) → plain.items_of p ≡ items → p.closed ≡ closed
    → IsSound p → IsStep p (plain.read_from items closed r p) (front items)
read_step (v ∷ rest) closed r p e f s =
    let d = drop_front p.written p.consumed v rest (items_open p.reader_closed p v rest refl e)
    in record {
      sound = record {
        within = omega (arith, d.1);
        waiting = λ h. omega (arith, s.waiting h);
        both = s.both;
      };
      out = ap (λ n. take n p.written) (add-one p.consumed) ∙ d.0;
    }
read_step [] true r p e f s = still p p refl refl s.waiting s.both s
read_step [] false r p e f s =
    let open_end : p.reader_closed ≡ false = not-true p.reader_closed (λ t. true≢false (sym (s.both t) ∙ f))
    in still p (plain.with_read r p) refl refl (λ h. none_left p open_end e) s.both s

flush_step : {R : Type 0} (number : Option ℤ) (i : ℕ) (p : plain.Pipe R) → IsSound p → IsStep p (plain.flush_kept number i p) []
flush_step (Some v) i p s = still p p refl refl s.waiting s.both s
flush_step None i p s = still p (plain.with_flush i p) refl refl s.waiting s.both s

close_step : {R : Type 0} (t : Bool) (p : plain.Pipe R) → IsSound p → IsStep p (cond t p (plain.reads_owed (record p { closed = true }))) []
close_step true p s = still p p refl refl s.waiting s.both s
close_step false p s = still p (plain.reads_owed (record p { closed = true })) refl refl (λ h. absurd (omega (arith, h))) (λ e. refl) s

close_read_step : {R : Type 0} (t : Bool) (p : plain.Pipe R) → IsSound p
    → IsStep p (cond t p (plain.reads_owed (record p { closed = true; reader_closed = true }))) []
close_read_step true p s = still p p refl refl s.waiting s.both s
close_read_step false p s = still p (plain.reads_owed (record p { closed = true; reader_closed = true })) refl refl
    (λ h. absurd (omega (arith, h))) (λ e. refl) s

freed_step : {R : Type 0} (t : Bool) (p : plain.Pipe R) → IsSound p → IsStep p (cond t (record p { pushbacks = rest_of p.pushbacks }) p) []
freed_step true p s = still p (record p { pushbacks = rest_of p.pushbacks }) refl refl s.waiting s.both s
freed_step false p s = still p p refl refl s.waiting s.both s

call_step : {R : Type 0} (call : Call R) (p : plain.Pipe R) → IsSound p → IsStep p (called call p) (handed call p)
call_step (Put v) p s = closed_step p.closed p (plain.put v p) (served p.reads v) s (put_step p.reads v p refl s)
call_step (Write v i) p s =
    closed_step p.closed p (plain.after_write v i p) (served p.reads v) s
    (pushed_step (plain.is_free (plain.put v p)) p (plain.put v p) i (served p.reads v) (put_step p.reads v p refl s))
call_step (Read r) p s = read_step (plain.items_of p) p.closed r p refl refl s
call_step (Flushed i) p s = flush_step (plain.flushed_at_once p) i p s
call_step Close p s = close_step p.closed p s
call_step CloseRead p s = close_read_step p.reader_closed p s
call_step NextFree p s = freed_step (plain.is_free p) p s
call_step NextFlushed p s = still p (plain.settled_taken p) refl refl s.waiting s.both s
call_step NextEof p s = still p (plain.owed_taken p) refl refl s.waiting s.both s

in_order_from : {R : Type 0} (calls : List (Call R)) (p : plain.Pipe R) → IsSound p → out p ++ handed_out calls p ≡ out (after calls p)
in_order_from [] p s = append-nil (out p)
in_order_from (call ∷ calls) p s =
    let step = call_step call p s
    in sym (append_assoc (out p) (handed call p) (handed_out calls (called call p)))
    ∙ ap (λ xs. xs ++ handed_out calls (called call p)) (sym step.out)
    ∙ in_order_from calls (called call p) step.sound

pub in_order : {R : Type 0} (budget : ℕ) (calls : List (Call R)) → handed_out calls (plain.fresh_pipe budget)
    ≡ take (after calls (plain.fresh_pipe budget)).consumed (after calls (plain.fresh_pipe budget)).written
in_order budget calls =
    in_order_from calls (plain.fresh_pipe budget) (record { within = omega arith; waiting = λ h. absurd (omega (arith, h)); both = λ e. e })

pub freed_within : {R : Type 0} (p : plain.Pipe R) → length (plain.items_of p) ≤ p.budget → plain.freed_pushbacks p ≡ p.pushbacks
freed_within p h = ap (λ t. cond t p.pushbacks []) (le-leb (length (plain.items_of p)) p.budget h)

pub kept_above : {R : Type 0} (p : plain.Pipe R) → p.budget < length (plain.items_of p) → plain.freed_pushbacks p ≡ []
kept_above p h = ap (λ t. cond t p.pushbacks []) (lt-leb (length (plain.items_of p)) p.budget h)
