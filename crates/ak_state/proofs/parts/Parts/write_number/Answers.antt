use Rattle.std.proofs.Common.{◌≡◌, ap, sym, ◌∙◌, w64, to_z, of_z}
use Rattle.std.proofs.lemmas.Int.{to_z-of_z}
use Rattle.ak_pipe.specs.Pipe.{wrote, after_write}
use Rattle.ak_state.specs.Streams.{wrote_mapped}
use Rattle.ak_cells.specs.Names.{name_in, trimmed}
use Rattle.ak_streams.specs.Pipes.{pipe_in}
use Rattle.ak_state.specs.Seen.{other_lists}
use Rattle.ak_state.proofs.Pipes.{seen_piped, pipe_seen, wrote_same, write_mapped}
use Rattle.ak_state.proofs.parts.Parts.write_number.Goals as goal

pub returns-clause-wrote : goal.returns-clause-wrote
returns-clause-wrote c =
    let f = name_in (trimmed c.self.inside.cells.named.names)
    in let e = c.args.num
    in let z : to_z w64 (of_z w64 e) ≡ e = to_z-of_z w64 e c.ranges.num
    in let all = c.self.inside.lists.pipes
    in rw (← c.self.view_is)
    (ap (wrote_mapped f) (c.in_ok-wrote.ensures.wrote ∙ ap (λ n. wrote n (pipe_in c.args.p all)) z)
    ∙ wrote_same f e (pipe_in c.args.p all)
    ∙ ap (wrote e) (sym (pipe_seen f all c.args.p)))

pub returns-clause-written : goal.returns-clause-written
returns-clause-written c =
    let f = name_in (trimmed c.self.inside.cells.named.names)
    in let e = c.args.num
    in let z : to_z w64 (of_z w64 e) ≡ e = to_z-of_z w64 e c.ranges.num
    in rw (← c.self.view_is, c.in_ok-wrote.ensures.written, z)
    (seen_piped c.self.inside.cells.named c.self.inside.queues.queues c.self.inside.trace
    (other_lists c.self.inside.lists) c.args.p (after_write e c.args.i)
    (after_write e (f c.args.i)) (write_mapped f e c.args.i))
