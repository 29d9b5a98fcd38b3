use Rattle.std.proofs.Common.{◌≡◌, ◌++◌, ◌∷◌, [], fold, rules, None}
use Rattle.ak_cells.specs.Names.{name_in}
use Rattle.ak_cells.specs.Rooms.{NamedCells, filled_named, number_of}
use Rattle.ak_frames.specs.declared.frame.Frame.{Frame}
use Rattle.ak_trace.specs.declared.entry.Entry.TheVariants as entry
use Rattle.ak_machine.specs.State.{State}
use Rattle.ak_state.specs.Seen.{other_lists, enqueued_for, with_jobs}
use Rattle.ak_state.proofs.Stands.{seen_filled, seen_unfilled, empty_seen, full_seen}
use Rattle.ak_state.proofs.parts.Parts.fill.Goals as goal

pub returns-in_ok-note_fill-in-Ok-clause-empty : goal.returns-in_ok-note_fill-in-Ok-clause-empty
returns-in_ok-note_fill-in-Ok-clause-empty c =
    let e : number_of c.args.i c.self.inside.cells.named ≡ None = search rules
    in rw (← c.self.view_is) (empty_seen c.self.inside.cells.named c.self.inside.queues.queues c.self.inside.trace (other_lists c.self.inside.lists) c.args.i e)

pub returns-in_ok-note_fill-in-Ok-clause-filled : goal.returns-in_ok-note_fill-in-Ok-clause-filled
returns-in_ok-note_fill-in-Ok-clause-filled c =
    let cells : NamedCells Frame = c.self.inside.cells.named
    in let e : number_of c.args.i cells ≡ None = search rules
    in let filled_is : c.fill.new.cells.named ≡ filled_named c.args.i c.args.num cells = search rules
    in let jobs : (s : State) → with_jobs c.note_fill.new.queues.queues c.note_fill.new.trace s ≡ fold enqueued_for
    (with_jobs c.self.inside.queues.queues (c.self.inside.trace ++ entry.Fill (name_in cells.names c.args.i) c.args.num ∷ []) s)
    (filled_named c.args.i c.args.num cells).woken = λ s. rw (c.in_ok-note_fill-in-Ok.ensures.jobs s, filled_is, c.name-ivar.ensures.name) (search rules)
    in rw (← c.self.view_is, c.note_fill.ensures.cells, filled_is)
    (seen_filled cells c.self.inside.queues.queues c.note_fill.new.queues.queues c.self.inside.trace c.note_fill.new.trace
    (other_lists c.self.inside.lists) c.args.i
    c.args.num e jobs)

pub returns-in-Err-clause-empty : goal.returns-in-Err-clause-empty
returns-in-Err-clause-empty c =
    let e : number_of c.args.i c.self.inside.cells.named ≡ None → ⊥ = search rules
    in rw (← c.self.view_is) (full_seen c.self.inside.cells.named c.self.inside.queues.queues c.self.inside.trace (other_lists c.self.inside.lists) c.args.i e)

pub returns-in-Err-clause-filled : goal.returns-in-Err-clause-filled
returns-in-Err-clause-filled c =
    let cells : NamedCells Frame = c.self.inside.cells.named
    in let e : number_of c.args.i cells ≡ None → ⊥ = search rules
    in let same : c.fill.new.cells.named ≡ cells = search rules
    in rw (← c.self.view_is, same) (seen_unfilled cells c.self.inside.queues.queues c.self.inside.trace (other_lists c.self.inside.lists) c.args.i c.args.num e)
