use Rattle.std.proofs.Common.{◌≡◌, ◌∙◌, ap, sym, arith, rules, w64, to_z, of_z, SFits}
use Rattle.std.specs.Prelude.{ℤ}
use Rattle.std.proofs.lemmas.Int.{to_z-of_z}
use Rattle.ak_cells.specs.Names.{name_in}
use Rattle.ak_pipe.specs.declared.answer.Got.{Got}
use Rattle.ak_pipe.specs.declared.answer.Got.TheVariants.{Item}
use Rattle.ak_pipe.specs.Pipe as part
use Rattle.ak_machine.specs.declared.held.Read.{Read}
use Rattle.ak_machine.specs.Mapped.{read_mapped}
use Rattle.ak_machine.specs.Pipes.{pipe_at, pushbacks_freed, flushes_settled, item_called, got_for}
use Rattle.ak_state.specs.Seen.{Seen, doing}
use Rattle.ak_state.specs.Streams.{piped, got_mapped}
use Rattle.ak_state.proofs.Fitting.{then_grows}
use Rattle.ak_state.proofs.Errors.{some_grown}
use Rattle.ak_state.proofs.Streams.{item_left_grows, freed_grows}
use Rattle.ak_state.proofs.parts.Parts.read.Goals as goal

pub free_pushbacks-requires-clause-pipe : goal.free_pushbacks-requires-clause-pipe
free_pushbacks-requires-clause-pipe c =
    let p = c.args.p
    in let s = c.args.self.now
    in let f = c.requires.fits
    in let r : Read = read_mapped (name_in s.names) c.args.read
    in let taken : Read = read_mapped (name_in s.names) c.in-Item.r
    in let e : part.got r (pipe_at p s.plain) ≡ Item c.in-Item.num taken =
    sym c.in_ok-num.ensures.got ∙ ap (got_mapped (name_in s.names)) c.in-Item.is
    in let one = item_left_grows f.program p r taken c.in-Item.num s.plain f.fits e
    in rw c.in_ok-num.ensures.read (omega (arith, c.requires.pipe, one.more.pipes))

pub free_pushbacks-requires-clause-fits : goal.free_pushbacks-requires-clause-fits
free_pushbacks-requires-clause-fits c =
    let p = c.args.p
    in let s = c.args.self.now
    in let f = c.requires.fits
    in let r : Read = read_mapped (name_in s.names) c.args.read
    in let taken : Read = read_mapped (name_in s.names) c.in-Item.r
    in let e : part.got r (pipe_at p s.plain) ≡ Item c.in-Item.num taken =
    sym c.in_ok-num.ensures.got ∙ ap (got_mapped (name_in s.names)) c.in-Item.is
    in let one = item_left_grows f.program p r taken c.in-Item.num s.plain f.fits e
    in rw c.in_ok-num.ensures.read (some_grown s.plain (piped (part.after_read r) p s.plain) f one)

pub settle_flushes-requires-clause-pipe : goal.settle_flushes-requires-clause-pipe
settle_flushes-requires-clause-pipe c =
    let p = c.args.p
    in let s = c.args.self.now
    in let f = c.requires.fits
    in let r : Read = read_mapped (name_in s.names) c.args.read
    in let taken : Read = read_mapped (name_in s.names) c.in-Item.r
    in let e : part.got r (pipe_at p s.plain) ≡ Item c.in-Item.num taken =
    sym c.in_ok-num.ensures.got ∙ ap (got_mapped (name_in s.names)) c.in-Item.is
    in let freed : c.free_pushbacks.new.self ≡ doing (pushbacks_freed p) (doing (piped (part.after_read r) p) s) =
    c.in_ok-free_pushbacks-in-Item.ensures ∙ ap (doing (pushbacks_freed p)) c.in_ok-num.ensures.read
    in let one = item_left_grows f.program p r taken c.in-Item.num s.plain f.fits e
    in let two = freed_grows f.program p (piped (part.after_read r) p s.plain) one.fits
    in rw freed (omega (arith, c.requires.pipe, one.more.pipes, two.more.pipes))

pub settle_flushes-requires-clause-fits : goal.settle_flushes-requires-clause-fits
settle_flushes-requires-clause-fits c =
    let p = c.args.p
    in let s = c.args.self.now
    in let f = c.requires.fits
    in let r : Read = read_mapped (name_in s.names) c.args.read
    in let taken : Read = read_mapped (name_in s.names) c.in-Item.r
    in let e : part.got r (pipe_at p s.plain) ≡ Item c.in-Item.num taken =
    sym c.in_ok-num.ensures.got ∙ ap (got_mapped (name_in s.names)) c.in-Item.is
    in let freed : c.free_pushbacks.new.self ≡ doing (pushbacks_freed p) (doing (piped (part.after_read r) p) s) =
    c.in_ok-free_pushbacks-in-Item.ensures ∙ ap (doing (pushbacks_freed p)) c.in_ok-num.ensures.read
    in let t = piped (part.after_read r) p s.plain
    in let one = item_left_grows f.program p r taken c.in-Item.num s.plain f.fits e
    in rw freed (some_grown s.plain (pushbacks_freed p t) f
    (then_grows f.program s.plain t (pushbacks_freed p t) one (freed_grows f.program p t one.fits)))

pub returns-in_ok-call_item-in-Item : goal.returns-in_ok-call_item-in-Item
returns-in_ok-call_item-in-Item c =
    let p = c.args.p
    in let s = c.args.self.now
    in let v : ℤ = c.in-Item.num
    in let r : Read = read_mapped (name_in s.names) c.args.read
    in let taken : Read = read_mapped (name_in s.names) c.in-Item.r
    in let e : part.got r (pipe_at p s.plain) ≡ Item v taken =
    sym c.in_ok-num.ensures.got ∙ ap (got_mapped (name_in s.names)) c.in-Item.is
    in let fits : SFits w64 v = search rules
    in let z : to_z w64 (of_z w64 v) ≡ v = to_z-of_z w64 v fits
    in let settled : c.settle_flushes.new.self ≡ doing (flushes_settled p) (doing (pushbacks_freed p) (doing (piped (part.after_read r) p) s)) =
    c.in_ok-settle_flushes-in-Item.ensures
    ∙ ap (doing (flushes_settled p)) (c.in_ok-free_pushbacks-in-Item.ensures ∙ ap (doing (pushbacks_freed p)) c.in_ok-num.ensures.read)
    in c.in_ok-call_item-in-Item.ensures
    ∙ ap (λ (n : ℤ). doing (item_called (read_mapped (name_in c.settle_flushes.new.self.names) c.in-Item.r) n) c.settle_flushes.new.self) z
    ∙ ap (λ (x : Seen). doing (item_called (read_mapped (name_in x.names) c.in-Item.r) v) x) settled
    ∙ ap (λ (got : Got Read). record s { plain = got_for got p (piped (part.after_read r) p s.plain) }) (sym e)
