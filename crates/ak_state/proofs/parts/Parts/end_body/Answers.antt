use Rattle.std.proofs.Common.{◌≡◌, ◌<◌, ◌∙◌, length, ap, sym, subst, arith, w64, to_z, of_z}
use Rattle.ak_cells.specs.Names.{name_in}
use Rattle.ak_machine.specs.declared.held.Started.{Started}
use Rattle.ak_machine.specs.Deferred.{fill}
use Rattle.ak_machine.specs.Mapped.{started_mapped}
use Rattle.ak_machine.specs.Throttles.{body_left}
use Rattle.ak_state.specs.Seen.{Seen, doing}
use Rattle.ak_state.proofs.Fitting.{then_grows}
use Rattle.ak_state.proofs.Bodies.{throttles_paired, left_grows}
use Rattle.ak_state.proofs.Errors.{some_grown}
use Rattle.ak_state.proofs.Ends.{undecided_is, there_fits, leaving, result_filled}
use Rattle.ak_state.proofs.parts.Parts.end_body.Goals as goal

pub fill-requires : goal.fill-requires
fill-requires c =
    let b = c.args.b.now
    in let s = c.args.self.now
    in let x : Started = started_mapped (name_in s.names) c.in-Some.body
    in let u = undecided_is b s.plain x (sym c.in-Some.ensures)
    in let f = c.requires
    in c.check_drawn.ensures
    (subst (λ (y : Seen). name_in y.names c.in-Some.body.to < length y.plain.cells.ivars) (sym c.set_fate.ensures)
    (subst (λ (z : Started). z.to < length s.plain.cells.ivars) u.is (there_fits f.program b s.plain f.fits u.there).result))

pub leave_body-requires-clause-runs : goal.leave_body-requires-clause-runs
leave_body-requires-clause-runs c =
    let b = c.args.b.now
    in let s = c.args.self.now
    in let x : Started = started_mapped (name_in s.names) c.in-Some.body
    in let u = undecided_is b s.plain x (sym c.in-Some.ensures)
    in let f = c.requires
    in let e = to_z w64 (of_z w64 c.args.num)
    in let filled : c.fill.new.self ≡ doing (result_filled b x.to e) s =
    c.in_ok-fill.ensures.filled ∙ ap (λ (y : Seen). doing (fill (name_in y.names c.in-Some.body.to) e) y) c.set_fate.ensures
    in rw filled (leaving f.program b x.to e s.plain f.fits u.fate).runs

pub leave_body-requires-clause-throttle : goal.leave_body-requires-clause-throttle
leave_body-requires-clause-throttle c =
    let b = c.args.b.now
    in let s = c.args.self.now
    in let x : Started = started_mapped (name_in s.names) c.in-Some.body
    in let u = undecided_is b s.plain x (sym c.in-Some.ensures)
    in let f = c.requires
    in let e = to_z w64 (of_z w64 c.args.num)
    in let filled : c.fill.new.self ≡ doing (result_filled b x.to e) s =
    c.in_ok-fill.ensures.filled ∙ ap (λ (y : Seen). doing (fill (name_in y.names c.in-Some.body.to) e) y) c.set_fate.ensures
    in rw filled (omega (
      arith,
      (leaving f.program b x.to e s.plain f.fits u.fate).same,
      throttles_paired f.program s.plain f.fits,
      u.there.throttle,
    ))

pub leave_body-requires-clause-fits : goal.leave_body-requires-clause-fits
leave_body-requires-clause-fits c =
    let b = c.args.b.now
    in let s = c.args.self.now
    in let x : Started = started_mapped (name_in s.names) c.in-Some.body
    in let u = undecided_is b s.plain x (sym c.in-Some.ensures)
    in let f = c.requires
    in let e = to_z w64 (of_z w64 c.args.num)
    in let filled : c.fill.new.self ≡ doing (result_filled b x.to e) s =
    c.in_ok-fill.ensures.filled ∙ ap (λ (y : Seen). doing (fill (name_in y.names c.in-Some.body.to) e) y) c.set_fate.ensures
    in rw filled (some_grown s.plain (result_filled b x.to e s.plain) f (leaving f.program b x.to e s.plain f.fits u.fate).grows)

pub fill_marks-requires-clause-throttle : goal.fill_marks-requires-clause-throttle
fill_marks-requires-clause-throttle c =
    let b = c.args.b.now
    in let s = c.args.self.now
    in let x : Started = started_mapped (name_in s.names) c.in-Some.body
    in let u = undecided_is b s.plain x (sym c.in-Some.ensures)
    in let f = c.requires
    in let e = to_z w64 (of_z w64 c.args.num)
    in let filled : c.fill.new.self ≡ doing (result_filled b x.to e) s =
    c.in_ok-fill.ensures.filled ∙ ap (λ (y : Seen). doing (fill (name_in y.names c.in-Some.body.to) e) y) c.set_fate.ensures
    in let left : c.leave_body.new.self ≡ doing (body_left b) (doing (result_filled b x.to e) s) = c.in_ok-leave_body.ensures ∙ ap (doing (body_left b)) filled
    in let t = result_filled b x.to e s.plain
    in let one = leaving f.program b x.to e s.plain f.fits u.fate
    in let two = left_grows f.program b t one.grows.fits one.runs one.over
    in rw left (omega (arith, one.same, two.more.throttles, throttles_paired f.program s.plain f.fits, u.there.throttle))

pub fill_marks-requires-clause-fits : goal.fill_marks-requires-clause-fits
fill_marks-requires-clause-fits c =
    let b = c.args.b.now
    in let s = c.args.self.now
    in let x : Started = started_mapped (name_in s.names) c.in-Some.body
    in let u = undecided_is b s.plain x (sym c.in-Some.ensures)
    in let f = c.requires
    in let e = to_z w64 (of_z w64 c.args.num)
    in let filled : c.fill.new.self ≡ doing (result_filled b x.to e) s =
    c.in_ok-fill.ensures.filled ∙ ap (λ (y : Seen). doing (fill (name_in y.names c.in-Some.body.to) e) y) c.set_fate.ensures
    in let left : c.leave_body.new.self ≡ doing (body_left b) (doing (result_filled b x.to e) s) = c.in_ok-leave_body.ensures ∙ ap (doing (body_left b)) filled
    in let t = result_filled b x.to e s.plain
    in let one = leaving f.program b x.to e s.plain f.fits u.fate
    in rw left (some_grown s.plain (body_left b t) f
    (then_grows f.program s.plain t (body_left b t) one.grows (left_grows f.program b t one.grows.fits one.runs one.over)))
