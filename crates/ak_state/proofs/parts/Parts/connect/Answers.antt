use Rattle.std.proofs.Common.{◌≡◌, ◌<◌, length, ◌++◌, ◌∷◌, [], fold, rules, arith, ◌∙◌}
use Rattle.ak_cells.specs.Names.{name_in}
use Rattle.ak_cells.specs.Rooms.{NamedCells, connected, connection_of}
use Rattle.ak_cells.specs.declared.registration.Connected.TheVariants.{Same, ResultFull, Filled, Joined}
use Rattle.ak_frames.specs.declared.frame.Frame.{Frame}
use Rattle.ak_trace.specs.declared.entry.Entry.TheVariants as entry
use Rattle.ak_machine.specs.State.{State}
use Rattle.ak_state.specs.Seen.{other_lists, enqueued_for, with_jobs}
use Rattle.ak_state.proofs.Stands.{never_full, connected_is, connect_is, seen_taken, seen_join}
use Rattle.ak_state.proofs.parts.Parts.connect.Goals as goal

pub returns-in-Same : goal.returns-in-Same
returns-in-Same c =
    let cells : NamedCells Frame = c.self.inside.cells.named
    in let told : connection_of c.args.r c.args.i cells ≡ Same = search rules
    in let is : c.connect.new.cells.named ≡ connected c.args.r c.args.i cells = search rules
    in rw (← c.self.view_is, is ∙ connected_is cells c.args.r c.args.i Same told)
    (connect_is cells c.self.inside.queues.queues c.self.inside.trace (other_lists c.self.inside.lists) c.args.r c.args.i Same told)

-- the result is empty
pub unreachable-requires : goal.unreachable-requires
unreachable-requires c =
    let cells : NamedCells Frame = c.self.inside.cells.named
    in let told : connection_of c.args.r c.args.i cells ≡ ResultFull = search rules
    in never_full cells c.self.inside.queues.queues c.self.inside.trace (other_lists c.self.inside.lists) c.args.r c.args.i
    (rw (← c.self.view_is) at c.requires.empty) told

pub returns-in_ok-note_fill-in-Filled : goal.returns-in_ok-note_fill-in-Filled
returns-in_ok-note_fill-in-Filled c =
    let cells : NamedCells Frame = c.self.inside.cells.named
    in let told : connection_of c.args.r c.args.i cells ≡ Filled c.in-Filled.num = search rules
    in let is : c.connect.new.cells.named ≡ connected c.args.r c.args.i cells = search rules
    in let jobs : (s : State) → with_jobs c.note_fill.new.queues.queues c.note_fill.new.trace s ≡ fold enqueued_for
    (with_jobs c.self.inside.queues.queues (c.self.inside.trace ++ entry.Fill (name_in cells.names c.args.r) c.in-Filled.num ∷ []) s)
    (connected c.args.r c.args.i cells).woken = λ s. rw (c.in_ok-note_fill-in-Filled.ensures.jobs s, is, c.name-result.ensures.name) (search rules)
    in rw (← c.self.view_is, c.note_fill.ensures.cells, is)
    (seen_taken cells c.self.inside.queues.queues c.note_fill.new.queues.queues c.self.inside.trace c.note_fill.new.trace
    (other_lists c.self.inside.lists) c.args.r
    c.args.i c.in-Filled.num told jobs)

pub returns-in_ok-push-in-Joined : goal.returns-in_ok-push-in-Joined
returns-in_ok-push-in-Joined c =
    let cells : NamedCells Frame = c.self.inside.cells.named
    in let told : connection_of c.args.r c.args.i cells ≡ Joined = search rules
    in let is : c.connect.new.cells.named ≡ connected c.args.r c.args.i cells = search rules
    in let noted : c.push.new.self ≡ c.self.inside.trace ++ entry.Join (name_in cells.names c.args.r) (name_in cells.names c.args.i) ∷ [] = search rules
    in let right : c.name-right.result ≡ name_in cells.names c.args.i = search rules
    in let below : c.name-right.result < length cells.cells.ivars = search rules
    in rw (← c.self.view_is, is, noted)
    (seen_join cells c.self.inside.queues.queues c.self.inside.trace (other_lists c.self.inside.lists) c.args.r c.args.i told
    (omega (arith, right, below, c.self.invariant.named)))
