-- A text that is that of the compiled source is its script.
use Rattle.std.proofs.Common.{ℕ, suc, ◌+◌, ◌*◌, ◌≤◌, ◌≡◌, List, [], ◌∷◌, length, Result, Ok, Err, IfOk, refl, ap, sym, subst, arith}
use Rattle.std.specs.declared.alloc.AllocError.{AllocError}
use Rattle.ak_program.specs.declared.program.NumProc.{NumProc}
use Rattle.ak_syntax.specs.Grammar.{Reads}
use Rattle.ak_valid.specs.Valid.{Valid}
use Rattle.ak_let.specs.declared.source.Source.{Source}
use Rattle.ak_let.specs.Compile.{compiled, program_of}
use Rattle.ak_let.specs.Correct.{IsCorrect, text_lines}
use Rattle.ak_let_text.specs.Compiles.{IsNumberedTo}
use Rattle.ak_let_text.specs.Named.{named}
use Rattle.ak_let_text.specs.Text.{script_text}
use Rattle.ak_let_script.specs.Script.{IsScriptOf}

named_many : (procs : List NumProc) → length (named procs) ≡ length procs
named_many [] = refl
named_many (proc ∷ procs) = ap suc (named_many procs)

pub translated : (source : Source) (bytes : List ℕ) → bytes ≡ script_text (named (compiled source))
    → Reads (script_text (named (compiled source))) (named (compiled source)) → Valid (named (compiled source))
    → IsNumberedTo (named (compiled source)) (program_of source) → IsCorrect source (program_of source)
    → length (compiled source) ≤ 2 * text_lines source.funs + 8 → IsScriptOf source bytes
translated source bytes e reads valid program correct few =
    record {
      script = named (compiled source);
      reads = subst (λ b. Reads b (named (compiled source))) (sym e) reads;
      valid = valid;
      program = program;
      correct = correct;
      few = omega (arith, few, named_many (compiled source));
    }

-- where it did not want for memory
pub if_ok : {T : Type 0} {P Q : T → Type 0} (r : Result T AllocError) → ((x : T) → P x → Q x) → IfOk r P → IfOk r Q
if_ok (Ok x) f h = f x h
if_ok (Err e) f h = tt
