use Rattle.std.proofs.Common.{ℕ, List, subst}
use Rattle.ak_let.specs.declared.source.Source.{Source}
use Rattle.ak_let_syntax.specs.declared.refusal.LetFault.{LetFault}
use Rattle.ak_let_syntax.specs.Faults.{kind_number}
use Rattle.ak_let_reader.specs.Answers.{HasFault, IsSource}
use Rattle.ak_tools.specs.Stops.{Accepts, Refuses}
use Rattle.ak_tools.proofs.Scripts.{source_accepts, source_refuses}
use Rattle.ak_tools.proofs.compiling.script_from.Goals as goal

pub returns-in-Whole-clause-refuses : goal.returns-in-Whole-clause-refuses
returns-in-Whole-clause-refuses g c line kind tells =
    let read = rw c.in-Whole.is at c.in_ok-bytes.ensures.read in
    source_refuses (g.S.Source.left c.args.source.now) c.in-Whole.bytes.items c.script_of_text.result read.0 read.1
    (subst
    (λ (bytes : List ℕ). (at : ℕ) (fault : LetFault) → HasFault bytes at fault → Refuses at (kind_number fault) c.script_of_text.result)
    c.as_slice.ensures.value c.script_of_text.ensures.refuses)
    line kind tells

pub returns-in-Whole-clause-accepts : goal.returns-in-Whole-clause-accepts
returns-in-Whole-clause-accepts g c tells =
    let read = rw c.in-Whole.is at c.in_ok-bytes.ensures.read in
    source_accepts (g.S.Source.left c.args.source.now) c.in-Whole.bytes.items c.script_of_text.result read.0
    (subst
    (λ (bytes : List ℕ). (source : Source) → IsSource bytes source → Accepts c.script_of_text.result)
    c.as_slice.ensures.value c.script_of_text.ensures.accepts)
    tells
