use Rattle.std.proofs.Common.{ℕ, suc, ◌≡◌, ◌+◌, ◌-◌, ap, sym, ◌∙◌, arith}
use Rattle.ak_labor.specs.Value.{mixed}
use Rattle.ak_labor.proofs.labor.after_steps.Goals as goal

-- one step first, and then the others
mixed_first : (left rest s : ℕ) → left ≡ suc rest → mixed left s ≡ mixed rest (mixed 1 s)
mixed_first left rest s e = ap (λ n. mixed n s) e

-- no step is left
mixed_none : (left s : ℕ) → left ≡ 0 → mixed left s ≡ s
mixed_none left s e = ap (λ n. mixed n s) e

pub loop-preserved : goal.loop-preserved
loop-preserved c =
    let left = c.args.steps - (c.loop.counter + 1) in
    ap (mixed left) c.step-state.ensures
    ∙ sym (mixed_first (c.args.steps - c.loop.counter) left c.loop.state (omega arith))
    ∙ c.loop.invariant

pub returns : goal.returns
returns c =
    sym (mixed_none (c.args.steps - c.loop.counter) c.loop.state (omega arith)) ∙ c.loop.invariant
