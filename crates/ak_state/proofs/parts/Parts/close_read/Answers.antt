use Rattle.std.proofs.Common.{◌≡◌, ◌∙◌, ap, arith}
use Rattle.ak_pipe.specs.Pipe.{after_close_read}
use Rattle.ak_machine.specs.Pipes.{pushbacks_freed, flushes_settled}
use Rattle.ak_state.specs.Seen.{doing}
use Rattle.ak_state.specs.Streams.{piped}
use Rattle.ak_state.proofs.Fitting.{then_grows}
use Rattle.ak_state.proofs.Errors.{some_grown}
use Rattle.ak_state.proofs.Streams.{reader_closed_grows, freed_grows, settled_grows}
use Rattle.ak_state.proofs.parts.Parts.close_read.Goals as goal

pub free_pushbacks-requires-clause-pipe : goal.free_pushbacks-requires-clause-pipe
free_pushbacks-requires-clause-pipe c =
    let p = c.args.p
    in let s = c.args.self.now
    in let f = c.requires.fits
    in rw c.end_reads.ensures (omega (arith, c.requires.pipe, (reader_closed_grows f.program p s.plain f.fits).more.pipes))

pub free_pushbacks-requires-clause-fits : goal.free_pushbacks-requires-clause-fits
free_pushbacks-requires-clause-fits c =
    let p = c.args.p
    in let s = c.args.self.now
    in let f = c.requires.fits
    in rw c.end_reads.ensures (some_grown s.plain (piped after_close_read p s.plain) f (reader_closed_grows f.program p s.plain f.fits))

pub settle_flushes-requires-clause-pipe : goal.settle_flushes-requires-clause-pipe
settle_flushes-requires-clause-pipe c =
    let p = c.args.p
    in let s = c.args.self.now
    in let f = c.requires.fits
    in let freed : c.free_pushbacks.new.self ≡ doing (pushbacks_freed p) (doing (piped after_close_read p) s) =
    c.in_ok-free_pushbacks.ensures ∙ ap (doing (pushbacks_freed p)) c.end_reads.ensures
    in let one = reader_closed_grows f.program p s.plain f.fits
    in let two = freed_grows f.program p (piped after_close_read p s.plain) one.fits
    in rw freed (omega (arith, c.requires.pipe, one.more.pipes, two.more.pipes))

pub settle_flushes-requires-clause-fits : goal.settle_flushes-requires-clause-fits
settle_flushes-requires-clause-fits c =
    let p = c.args.p
    in let s = c.args.self.now
    in let f = c.requires.fits
    in let freed : c.free_pushbacks.new.self ≡ doing (pushbacks_freed p) (doing (piped after_close_read p) s) =
    c.in_ok-free_pushbacks.ensures ∙ ap (doing (pushbacks_freed p)) c.end_reads.ensures
    in let t = piped after_close_read p s.plain
    in let one = reader_closed_grows f.program p s.plain f.fits
    in rw freed (some_grown s.plain (pushbacks_freed p t) f (then_grows f.program s.plain t (pushbacks_freed p t) one (freed_grows f.program p t one.fits)))

pub call_eofs-requires : goal.call_eofs-requires
call_eofs-requires c =
    let p = c.args.p
    in let s = c.args.self.now
    in let f = c.requires.fits
    in let t = piped after_close_read p s.plain
    in let settled : c.settle_flushes.new.self ≡ doing (flushes_settled p) (doing (pushbacks_freed p) (doing (piped after_close_read p) s)) =
    c.in_ok-settle_flushes.ensures ∙ ap (doing (flushes_settled p)) (c.in_ok-free_pushbacks.ensures ∙ ap (doing (pushbacks_freed p)) c.end_reads.ensures)
    in let one = reader_closed_grows f.program p s.plain f.fits
    in let two = freed_grows f.program p t one.fits
    in let three = settled_grows f.program p (pushbacks_freed p t) two.fits
    in rw settled (omega (arith, c.requires.pipe, one.more.pipes, two.more.pipes, three.more.pipes))
