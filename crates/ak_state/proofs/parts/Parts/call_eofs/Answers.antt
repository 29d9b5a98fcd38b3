use Rattle.std.proofs.Common.{◌≡◌, ◌∙◌, ap, sym, arith, rules}
use Rattle.std.specs.Prelude.{Some, None}
use Rattle.std.proofs.lemmas.List.{length-set}
use Rattle.ak_cells.specs.Names.{name_in}
use Rattle.ak_pipe.specs.Pipe.{owed_taken}
use Rattle.ak_machine.specs.Mapped.{read_mapped}
use Rattle.ak_machine.specs.Pipes.{pipe_at, eof_called}
use Rattle.ak_state.specs.Seen.{Seen, doing}
use Rattle.ak_state.specs.Streams.{piped, first_owed}
use Rattle.ak_state.proofs.Errors.{seen_is}
use Rattle.ak_state.proofs.Streams.{eof_next, eof_over, fewer_owed}
use Rattle.ak_state.proofs.parts.Parts.call_eofs.Goals as goal

pub loop-read-smaller : goal.loop-read-smaller
loop-read-smaller c =
    let s = c.loop-read.self
    in let r = read_mapped (name_in s.names) c.in-Some.read
    in let first : first_owed c.args.p s.plain ≡ Some r = sym c.in-Some.ensures.first
    in let done : c.call_eof.new.self ≡ doing (λ x. eof_called x r) (doing (piped owed_taken c.args.p) s) =
    c.in_ok-call_eof.ensures
    ∙ ap (λ (y : Seen). doing (λ x. eof_called x (read_mapped (name_in y.names) c.in-Some.read)) y) c.next_eof.ensures.rest
    in rw done (fewer_owed c.ends_one_at_a_time_are_all_that_are_owed.ensures c.args.p r s.plain c.loop-read.invariant.pipe first)

pub loop-read-preserved : goal.loop-read-preserved
loop-read-preserved c =
    let s = c.loop-read.self
    in let inv = c.loop-read.invariant
    in let r = read_mapped (name_in s.names) c.in-Some.read
    in let first : first_owed c.args.p s.plain ≡ Some r = sym c.in-Some.ensures.first
    in let done : c.call_eof.new.self ≡ doing (λ x. eof_called x r) (doing (piped owed_taken c.args.p) s) =
    c.in_ok-call_eof.ensures
    ∙ ap (λ (y : Seen). doing (λ x. eof_called x (read_mapped (name_in y.names) c.in-Some.read)) y) c.next_eof.ensures.rest
    in rw done (record {
      pipe = omega (arith, inv.pipe, length-set s.plain.pipes c.args.p (owed_taken (pipe_at c.args.p s.plain)));
      names = inv.names;
      called = eof_next c.ends_one_at_a_time_are_all_that_are_owed.ensures c.args.p r s.plain inv.pipe first ∙ inv.called;
    })

pub returns : goal.returns
returns c =
    let s = c.loop-read.self
    in let inv = c.loop-read.invariant
    in let none : first_owed c.args.p s.plain ≡ None = sym c.in_default.ensures.first ∙ (search rules)
    in c.next_eof.ensures.rest
    ∙ seen_is (doing (piped owed_taken c.args.p) s) _
    (eof_over c.ends_one_at_a_time_are_all_that_are_owed.ensures c.args.p s.plain none ∙ inv.called) inv.names
