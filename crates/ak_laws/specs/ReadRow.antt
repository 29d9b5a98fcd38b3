-- A worked run of a pipe: what is written to it and what its reads get.
use Rattle.std.specs.Prelude.{ℕ, pos, List, [], ◌∷◌, None, replicate}
use Rattle.ak_labor.specs.declared.config.Config.{Config}
use Rattle.ak_labor.specs.Calls.{Reply, Drained}
use Rattle.ak_program.specs.declared.statement.NumAtom.TheVariants.{Literal, Local}
use Rattle.ak_program.specs.declared.statement.NumStmt.{NumStmt}
use Rattle.ak_program.specs.declared.statement.NumStmt.TheVariants as stmt
use Rattle.ak_program.specs.declared.program.NumProc.{NumProc}
use Rattle.ak_program.specs.declared.program.NumStatement.{NumStatement}
use Rattle.ak_program.specs.Programs.{NumProgram}
use Rattle.ak_laws.specs.Executed.{Executed, executed}

-- a statement without a prefix
abbrev pub line : NumStmt → NumStatement
line s = record { line = 0; prefix = None; stmt = s }

-- a procedure; the machine reads no name, line or parameter
abbrev pub proc : List NumStatement → NumProc
proc body = record { name = 0; line = 0; params = []; body = body }

-- proc main; pipe p 1; pipe q 1; rd a p G else H; rd b p K else H; put p 5; put p 6; put p 7; write c p 8; put q 9; sched R p;
-- sched W p; close p; end; proc G v:num; print v; end; proc H; print 0; end; proc R p:pipe; rd c p G else H; end; proc W p:pipe; put p
-- 10; end; proc K v:num; print v; end
abbrev pub two_pipes : NumProgram
two_pipes = record {
  procs =
      proc
      (line (stmt.Pipe 0 1) ∷
      line (stmt.Pipe 1 1) ∷
      line (stmt.Read 2 0 1 [] 2 []) ∷
      line (stmt.Read 3 0 5 [] 2 []) ∷
      line (stmt.Put 0 (Literal (pos 5))) ∷
      line (stmt.Put 0 (Literal (pos 6))) ∷
      line (stmt.Put 0 (Literal (pos 7))) ∷
      line (stmt.Write 4 0 (Literal (pos 8))) ∷
      line (stmt.Put 1 (Literal (pos 9))) ∷
      line (stmt.Sched 3 (Local 0 ∷ [])) ∷
      line (stmt.Sched 4 (Local 0 ∷ [])) ∷
      line (stmt.Close 0) ∷
      []) ∷
      proc (line (stmt.Print (Local 0)) ∷ []) ∷
      proc (line (stmt.Print (Literal (pos 0))) ∷ []) ∷
      proc (line (stmt.Read 1 0 1 [] 2 []) ∷ []) ∷
      proc (line (stmt.Put 0 (Literal (pos 10))) ∷ []) ∷
      proc (line (stmt.Print (Local 0)) ∷ []) ∷
      [];
  main = 0;
  ask = None;
}

abbrev pub usual : Config
usual = record { threads = 4; limit = 500; jobs = 100000; askers = 0 }

-- so many drains that bring nothing
abbrev pub empty_drains : ℕ → List Reply
empty_drains n = replicate n (Drained (record { works = []; requests = []; left = 0 }))

-- what was executed by then
abbrev pub executed_after : ℕ → List Executed
executed_after n = executed two_pipes usual (empty_drains n)
