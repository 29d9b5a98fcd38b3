-- Works that are handed in and that arrive, step by step.
use Rattle.std.specs.Prelude.{ℕ, ◌+◌, [], ◌∷◌, ◌++◌, filter, Option}
use Rattle.ak_base.specs.declared.number.Ctx.{Ctx}
use Rattle.ak_labor.specs.declared.work.Work.{Work}
use Rattle.ak_machine.specs.State.{State, next_ivar}
use Rattle.ak_machine.specs.Deferred.{with_ivar}
use Rattle.ak_machine.specs.Works.{submitted}
use Rattle.ak_machine.specs.Cycle.{is_other_work}

-- a work is submitted for a fresh deferred
abbrev pub with_submit : Ctx → Work → Option ℕ → State → State
with_submit ctx work helper s = submitted ctx (next_ivar s) work helper (with_ivar s)

-- one more work is out, for a deferred
abbrev pub with_work_for : Ctx → ℕ → Option ℕ → State → State
with_work_for ctx to helper s =
    record s {
      works = s.works ++ record { number = s.next_work; to = to; ctx = ctx; helper = helper } ∷ [];
      next_work = s.next_work + 1;
    }

-- a work is out no longer
abbrev pub without_work : ℕ → State → State
without_work w s = record s { works = filter (is_other_work w) s.works }
