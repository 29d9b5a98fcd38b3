-- Three texts that go through a buffer in which nothing waited, where a write fails.
use Rattle.std.proofs.Common.{◌≡◌, ℕ, List, [], ◌++◌, subst}
use Rattle.std.specs.Prelude.{Option}
use Rattle.ak_base.specs.Streams.{TookBeginning, Passes}
use Rattle.ak_base.proofs.Passing.{passes-then, passes-then_fault, passes-flush_fault, beginning-of_more}

-- at the second text
pub begins_at_second : (t0 t1 t2 : Option (List ℕ)) (w0 w1 a b c : List ℕ) → w0 ≡ [] → Passes t0 t1 w0 w1 a
    → TookBeginning t1 t2 (w1 ++ b) → TookBeginning t0 t2 (a ++ b ++ c)
begins_at_second t0 t1 t2 w0 w1 a b c empty first fault =
    beginning-of_more t0 t2 (a ++ b) c
    (passes-then_fault t0 t1 t2 [] w1 a b (subst (λ (w : List ℕ). Passes t0 t1 w w1 a) empty first) fault)

-- at the third text
pub begins_at_third : (t0 t1 t2 t3 : Option (List ℕ)) (w0 w1 w2 a b c : List ℕ) → w0 ≡ [] → Passes t0 t1 w0 w1 a → Passes t1 t2 w1 w2 b
    → TookBeginning t2 t3 (w2 ++ c) → TookBeginning t0 t3 (a ++ b ++ c)
begins_at_third t0 t1 t2 t3 w0 w1 w2 a b c empty first second fault =
    passes-then_fault t0 t2 t3 [] w2 (a ++ b) c
    (passes-then t0 t1 t2 [] w1 w2 a b (subst (λ (w : List ℕ). Passes t0 t1 w w1 a) empty first) second) fault

-- as what waits is written
pub begins_at_flush : (t0 t1 t2 t3 t4 : Option (List ℕ)) (w0 w1 w2 w3 a b c : List ℕ) → w0 ≡ [] → Passes t0 t1 w0 w1 a
    → Passes t1 t2 w1 w2 b → Passes t2 t3 w2 w3 c → TookBeginning t3 t4 w3 → TookBeginning t0 t4 (a ++ b ++ c)
begins_at_flush t0 t1 t2 t3 t4 w0 w1 w2 w3 a b c empty first second third fault =
    passes-flush_fault t0 t3 t4 [] w3 (a ++ b ++ c)
    (passes-then t0 t2 t3 [] w2 w3 (a ++ b) c
    (passes-then t0 t1 t2 [] w1 w2 a b (subst (λ (w : List ℕ). Passes t0 t1 w w1 a) empty first) second) third)
    fault
