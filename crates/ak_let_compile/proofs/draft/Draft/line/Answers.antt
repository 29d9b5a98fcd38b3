use Rattle.std.proofs.Common.{IfOk, ap, ap₂, sym, subst, ◌∙◌}
use Rattle.ak_let.specs.declared.source.Line.{Line}
use Rattle.ak_program.specs.declared.statement.NumAtom.{NumAtom}
use Rattle.ak_program.specs.declared.statement.NumStmt.TheVariants as stmt
use Rattle.std.proofs.Common.{None}
use Rattle.ak_let_compile.specs.Drafts.{Steps, entry_at, with_statement, called_in, attempted_in}
use Rattle.ak_let_compile.proofs.Written.{await_done, work_done, try_done}
use Rattle.ak_let_compile.proofs.draft.Draft.line.Goals as goal

pub returns-in_ok-call-in-Await : goal.returns-in_ok-call-in-Await
returns-in_ok-call-in-Await c =
    subst
    (λ (walked : Line). IfOk c.resume.result (λ next. Steps (entry_at c.args.entries.now) c.args.self walked c.args.procs.now c.resume.new.procs next))
    (sym c.in-Await.is)
    (await_done (entry_at c.args.entries.now) c.args.self c.call.new.self c.in-Await.function c.in-Await.args c.args.procs.now c.resume.new.procs
    c.resume.result c.requires.lined
    (c.in_ok-call-in-Await.ensures ∙ ap₂ (called_in c.args.self) c.entry.ensures c.as_slice.ensures)
    c.resume.ensures.ended c.resume.ensures.next)

pub returns-in_ok-put-in-AwaitWork : goal.returns-in_ok-put-in-AwaitWork
returns-in_ok-put-in-AwaitWork c =
    subst
    (λ (walked : Line). IfOk c.resume-in-AwaitWork.result
    (λ next. Steps (entry_at c.args.entries.now) c.args.self walked c.args.procs.now c.resume-in-AwaitWork.new.procs next))
    (sym c.in-AwaitWork.is)
    (work_done (entry_at c.args.entries.now) c.args.self c.put-in-AwaitWork.new.self c.in-AwaitWork.kind c.in-AwaitWork.value c.args.procs.now
    c.resume-in-AwaitWork.new.procs c.resume-in-AwaitWork.result c.requires.lined
    (c.in_ok-put-in-AwaitWork.ensures
    ∙ ap (λ (a : NumAtom). with_statement c.args.self None (stmt.Work c.args.self.size c.in-AwaitWork.kind a)) c.atom-a-in-AwaitWork.ensures)
    c.resume-in-AwaitWork.ensures.ended c.resume-in-AwaitWork.ensures.next)

pub returns-in_ok-attempt-in-Try : goal.returns-in_ok-attempt-in-Try
returns-in_ok-attempt-in-Try c =
    subst
    (λ (walked : Line). IfOk c.resume-in-Try.result
    (λ next. Steps (entry_at c.args.entries.now) c.args.self walked c.args.procs.now c.resume-in-Try.new.procs next))
    (sym c.in-Try.is)
    (try_done (entry_at c.args.entries.now) c.args.self c.attempt.new.self c.in-Try.function c.in-Try.args c.in-Try.handler c.args.procs.now
    c.resume-in-Try.new.procs c.resume-in-Try.result c.requires.lined
    (c.in_ok-attempt-in-Try.ensures
    ∙ ap (λ h. attempted_in c.args.self c.entry-in-Try.result c.as_slice-in-Try.result.now h) c.entry-handler.ensures
    ∙ ap₂ (λ f args. attempted_in c.args.self f args (entry_at c.args.entries.now c.in-Try.handler)) c.entry-in-Try.ensures c.as_slice-in-Try.ensures)
    c.resume-in-Try.ensures.ended c.resume-in-Try.ensures.next)
