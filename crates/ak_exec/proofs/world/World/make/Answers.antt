use Rattle.std.proofs.Common.{◌≡◌, [], false, sym, subst, rules}
use Rattle.ak_exec.specs.Worlds.{first_state}
use Rattle.ak_holders.specs.Held.{HeldBy}
use Rattle.ak_holders.proofs.Carry.{first_held}
use Rattle.ak_frames.specs.declared.frame.Ret.TheVariants.{Drop}
use Rattle.ak_ledger.specs.Answers.{AnswersAreOwed}
use Rattle.ak_ledger.proofs.Owing.{first_owed}
use Rattle.ak_exec.proofs.world.World.make.Goals as goal

pub invariant_of-result : goal.invariant_of-result
invariant_of-result c =
    let e : c.enqueue.new.self.plain ≡ first_state c.args.program c.args.config = search rules
    in record {
      limit = search rules;
      askers = search rules;
      fits = search rules;
      picked = tt;
      held =
          subst (HeldBy c.args.program.procs []) (sym e)
          (first_held c.args.program.procs c.args.program.main c.args.program.ask c.main.ensures.sound
          (record { mon = 0; low = false }) c.args.config.limit c.args.config.askers);
      owed =
          subst (AnswersAreOwed []) (sym e)
          (first_owed c.args.config.limit c.args.config.askers (record { mon = 0; low = false }) c.args.program.main [] Drop);
    }
