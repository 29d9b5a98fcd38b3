-- What leaves the tallies of the pipes as they are.
use Rattle.std.proofs.Common.{ℕ, ◌≡◌, List, [], ◌∷◌, Bool, true, false, cond, Option, Some, None, map, refl, ap, ◌∙◌}
use Rattle.std.specs.Prelude.{ℤ}
use Rattle.ak_pipe.specs.Pipe as pipe
use Rattle.ak_machine.specs.declared.held.Read.{Read}
use Rattle.ak_machine.specs.Mapped.{read_mapped, pipe_mapped}
use Rattle.ak_ledger.specs.Tallies.{proc_of, tally_of}

-- other names
procs_mapped : (f : ℕ → ℕ) (reads : List Read) → map proc_of (map (read_mapped f) reads) ≡ map proc_of reads
procs_mapped f [] = refl
procs_mapped f (r ∷ reads) = ap (λ l. proc_of r ∷ l) (procs_mapped f reads)

pub tallies_mapped : (f : ℕ → ℕ) (xs : List (pipe.Pipe Read)) → map tally_of (map (pipe_mapped f) xs) ≡ map tally_of xs
tallies_mapped f [] = refl
tallies_mapped f (x ∷ xs) =
    ap (λ procs. record (tally_of x) { waiting = procs } ∷ map tally_of (map (pipe_mapped f) xs)) (procs_mapped f x.reads)
    ∙ ap (λ l. tally_of x ∷ l) (tallies_mapped f xs)

-- pushbacks that are freed, and a flush that waits
pub tally_freed : (x : pipe.Pipe Read) → tally_of (pipe.without_freed x) ≡ tally_of x
tally_freed x = by (pipe.is_free x)
  where
    by : (b : Bool) → tally_of (cond b (record x { pushbacks = [] }) x) ≡ tally_of x
    by true = refl
    by false = refl

pub tally_flushed : (i : ℕ) (x : pipe.Pipe Read) → tally_of (pipe.after_flushed i x) ≡ tally_of x
tally_flushed i x = by (pipe.flushed_at_once x)
  where
    by : (o : Option ℤ) → tally_of (pipe.flush_kept o i x) ≡ tally_of x
    by (Some v) = refl
    by None = refl
