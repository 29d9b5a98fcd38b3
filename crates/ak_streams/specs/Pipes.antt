-- The pipes of a run by their numbers. Own.
use Rattle.std.specs.Prelude.{ℕ, List, [], ◌∷◌, ◌++◌, slice_index_or, slice_set}
use Rattle.ak_pipe.specs.Pipe.{Pipe, fresh_pipe}
use Rattle.ak_machine.specs.declared.held.Read.{Read}

-- one more pipe, into which nothing was written
abbrev pub with_fresh : ℕ → List (Pipe Read) → List (Pipe Read)
with_fresh budget pipes = pipes ++ fresh_pipe budget ∷ []

-- the pipe of a number
abbrev pub pipe_in : ℕ → List (Pipe Read) → Pipe Read
pipe_in p pipes = slice_index_or pipes p (fresh_pipe 0)

-- another pipe in its place
abbrev pub with_pipe_in : ℕ → Pipe Read → List (Pipe Read) → List (Pipe Read)
with_pipe_in p pipe pipes = slice_set pipes p pipe
