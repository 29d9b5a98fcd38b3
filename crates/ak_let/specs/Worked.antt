-- A source worked by hand: a work in an await, and an error in a try.
use Rattle.std.specs.Prelude.{pos, List, [], ◌∷◌, None}
use Rattle.ak_labor.specs.declared.work.WorkKind.TheVariants.{Square}
use Rattle.ak_labor.specs.declared.work.Outcome.TheVariants.{Good}
use Rattle.ak_labor.specs.Calls.{Reply, Done}
use Rattle.ak_let.specs.Correct.{brings}
use Rattle.ak_script.specs.declared.statement.Operator.TheVariants.{Div}
use Rattle.ak_labor.specs.declared.config.Config.{Config}
use Rattle.ak_let.specs.declared.source.Atom.TheVariants.{Given, Known}
use Rattle.ak_let.specs.declared.source.Line.TheVariants.{Compute, Print, Return, Await, AwaitWork, Try}
use Rattle.ak_let.specs.declared.source.Source.{Source}

-- fun main: await x = sq 3, print x, try y = bad 1 else fix, print y. fun sq n: await r = work square n, return r.
-- fun bad n: let z = n / 0, return z. fun fix e: return e
abbrev pub worked : Source
worked =
    record {
      funs =
          record {
            params = 0;
            lines = Await 1 (Given (pos 3) ∷ []) ∷ Print None (Known 0) ∷ Try 2 (Given (pos 1) ∷ []) 3
                ∷ Print None (Known 0) ∷ [];
          }
          ∷ record { params = 1; lines = AwaitWork Square (Known 0) ∷ Return None (Known 0) ∷ [] }
          ∷ record { params = 1; lines = Compute (Known 0) Div (Given (pos 0)) ∷ Return None (Known 0) ∷ [] }
          ∷ record { params = 1; lines = Return None (Known 0) ∷ [] }
          ∷ [];
      main = 0;
    }

abbrev pub usual : Config
usual = record { threads = 2; limit = 500; jobs = 100; askers = 0 }

abbrev pub nothing : Reply
nothing = brings []

abbrev pub its_replies : List Reply
its_replies =
    nothing ∷ nothing ∷ nothing ∷ Done ∷ nothing ∷ brings ((0, Good (pos 9)) ∷ []) ∷ nothing ∷ nothing
    ∷ nothing ∷ nothing ∷ nothing ∷ Done ∷ []
