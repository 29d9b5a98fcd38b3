use Rattle.std.proofs.Common.{◌≡◌, ap, sym, ◌∙◌, w64, to_z, of_z}
use Rattle.std.proofs.lemmas.Int.{to_z-of_z}
use Rattle.ak_pipe.specs.Pipe.{put, taker_of}
use Rattle.ak_cells.specs.Names.{name_in, trimmed}
use Rattle.ak_streams.specs.Pipes.{pipe_in}
use Rattle.ak_state.specs.Seen.{other_lists}
use Rattle.ak_state.proofs.Pipes.{seen_piped, pipe_seen, put_mapped, taker_mapped}
use Rattle.ak_state.proofs.parts.Parts.put_number.Goals as goal

pub returns-clause-served : goal.returns-clause-served
returns-clause-served c =
    let f = name_in (trimmed c.self.inside.cells.named.names)
    in let all = c.self.inside.lists.pipes
    in rw (← c.self.view_is, c.in_ok-served.ensures.served)
    (taker_mapped f (pipe_in c.args.p all) ∙ ap taker_of (sym (pipe_seen f all c.args.p)))

pub returns-clause-put : goal.returns-clause-put
returns-clause-put c =
    let e = c.args.num
    in let z : to_z w64 (of_z w64 e) ≡ e = to_z-of_z w64 e c.ranges.num
    in rw (← c.self.view_is, c.in_ok-served.ensures.put, z)
    (seen_piped c.self.inside.cells.named c.self.inside.queues.queues c.self.inside.trace
    (other_lists c.self.inside.lists) c.args.p (put e) (put e)
    (put_mapped (name_in (trimmed c.self.inside.cells.named.names)) e))
