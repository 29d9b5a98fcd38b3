-- Calls that take one thing each, made until one finds none: what they give, and the pipe that they leave. Own.
use Rattle.std.specs.Prelude.{ℕ, ℤ, ◌≡◌, List, [], ◌∷◌, Option, Some, None, map}
use Rattle.ak_base.specs.Lists.{first_of}
use Rattle.ak_pipe.specs.Pipe.{Pipe, freed_pushbacks, freed_taken, flush_number, settled_flushes, settled_taken, next_settlement, owed_taken}

-- calls from one pipe give these things and then none, and leave another pipe
abbrev pub Give : {R X : Type 0} → (Pipe R → Option X) → (Pipe R → Pipe R) → List X → Pipe R → Pipe R → Type 0
Give given taken [] before after = (given before ≡ None) × (after ≡ before)
Give given taken (x ∷ xs) before after = (given before ≡ Some x) × Give given taken xs (taken before) after

-- the deferred that a call of `next_free` gives
abbrev pub free_given : {R : Type 0} → Pipe R → Option ℕ
free_given p = first_of (freed_pushbacks p)

-- calls of `next_free`
abbrev pub FreeGiven : {R : Type 0} → List ℕ → Pipe R → Pipe R → Type 0
FreeGiven ivars before after = Give free_given freed_taken ivars before after

-- the deferreds of the settled flushes, oldest first, each with what it learns
abbrev pub settlements : {R : Type 0} → Pipe R → List (ℕ × ℤ)
settlements p = map (λ flush. (flush.ivar, flush_number p flush)) (settled_flushes p)

-- calls of `next_flushed`
abbrev pub FlushedGiven : {R : Type 0} → List (ℕ × ℤ) → Pipe R → Pipe R → Type 0
FlushedGiven settled before after = Give next_settlement settled_taken settled before after

-- the read that a call of `next_eof` gives
abbrev pub eof_given : {R : Type 0} → Pipe R → Option R
eof_given p = first_of p.owed

-- calls of `next_eof`
abbrev pub EofGiven : {R : Type 0} → List R → Pipe R → Pipe R → Type 0
EofGiven reads before after = Give eof_given owed_taken reads before after
