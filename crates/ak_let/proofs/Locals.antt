-- The values of a job read as the locals of the walk.
use Rattle.std.proofs.Common.{ℕ, ℤ, zero, suc, pos, ◌+◌, ◌≡◌, List, [], ◌∷◌, ◌++◌, map, length, refl, ap, sym, ◌∙◌, subst, not, Option, Some, None, slice_index_or, arith, append-nil, append_assoc, length-append}
use Rattle.std.proofs.Math.Seq.{get_or-append_seam}
use Rattle.std.proofs.lemmas.List.{map-append}
use Rattle.ak_frames.specs.declared.value.Value.{Value}
use Rattle.ak_frames.specs.declared.value.Value.TheVariants.{Num, Ivar}
use Rattle.ak_program.specs.declared.statement.NumAtom.{NumAtom}
use Rattle.ak_program.specs.declared.statement.NumAtom.TheVariants.{Literal, Local}
use Rattle.ak_machine.specs.Number.{is_zero}
use Rattle.ak_machine.specs.Effect.{local, value_of, number_of, number_in, args_of, holds}
use Rattle.ak_let.specs.declared.source.Atom.{Atom}
use Rattle.ak_let.specs.declared.source.Atom.TheVariants.{Given, Known}
use Rattle.ak_let.specs.Eval.{value, acts}
use Rattle.ak_let.specs.Compile.{Piece, atom, when_holds, locals_from, begin}
use Rattle.ak_let.proofs.Related.{piece_vals}

-- whatever is bound behind these values
pub record Reads (vals : List Value) (x : Piece) (r : ℕ) (locals : List ℤ) : Type 0 where
  pub atoms : (more : List Value) → map (value_of (vals ++ more)) x.atoms ≡ map Num locals
  pub answer : (more : List Value) → local (vals ++ more) x.answer ≡ Ivar r
  pub size : length vals ≡ x.size

abbrev zero_value : Value
zero_value = Num (pos 0)

-- the k-th atom reads as the k-th local
nth_reads : (vals : List Value) (atoms : List NumAtom) (locals : List ℤ) (k : ℕ) → map (value_of vals) atoms ≡ map Num locals
    → value_of vals (slice_index_or atoms k (Literal (pos 0))) ≡ Num (slice_index_or locals k (pos 0))
nth_reads vals [] [] k e = refl
nth_reads vals [] (z ∷ locals) k e = cc
nth_reads vals (a ∷ atoms) [] k e = cc
nth_reads vals (a ∷ atoms) (z ∷ locals) zero e = cc
nth_reads vals (a ∷ atoms) (z ∷ locals) (suc k) e = nth_reads vals atoms locals k cc

value_reads : (vals : List Value) (atoms : List NumAtom) (locals : List ℤ) → map (value_of vals) atoms ≡ map Num locals → (a : Atom)
    → value_of vals (atom atoms a) ≡ Num (value locals a)
value_reads vals atoms locals e (Given z) = refl
value_reads vals atoms locals e (Known k) = nth_reads vals atoms locals k e

args_read : (vals : List Value) (atoms : List NumAtom) (locals : List ℤ) → map (value_of vals) atoms ≡ map Num locals → (args : List Atom)
    → map (value_of vals) (map (atom atoms) args) ≡ map Num (map (value locals) args)
args_read vals atoms locals e [] = refl
args_read vals atoms locals e (a ∷ args) =
    ap (λ v. v ∷ map (value_of vals) (map (atom atoms) args)) (value_reads vals atoms locals e a)
    ∙ ap (λ l. Num (value locals a) ∷ l) (args_read vals atoms locals e args)

atoms_now : {vals : List Value} {x : Piece} {r : ℕ} {locals : List ℤ} → Reads vals x r locals → map (value_of vals) x.atoms ≡ map Num locals
atoms_now {vals} {x} {r} {locals} h = subst (λ l. map (value_of l) x.atoms ≡ map Num locals) (append-nil vals) (h.atoms [])

pub number_reads : {vals : List Value} {x : Piece} {r : ℕ} {locals : List ℤ} → Reads vals x r locals → (a : Atom)
    → number_in vals (atom x.atoms a) ≡ value locals a
number_reads {vals} {x} {r} {locals} h a = ap number_of (value_reads vals x.atoms locals (atoms_now h) a)

pub answer_now : {vals : List Value} {x : Piece} {r : ℕ} {locals : List ℤ} → Reads vals x r locals → local vals x.answer ≡ Ivar r
answer_now {vals} {x} {r} {locals} h = subst (λ l. local l x.answer ≡ Ivar r) (append-nil vals) (h.answer [])

pub holds_as : {vals : List Value} {x : Piece} {r : ℕ} {locals : List ℤ} → Reads vals x r locals → (when : Option Atom)
    → holds (when_holds x.atoms when) vals ≡ acts locals when
holds_as h None = refl
holds_as h (Some b) = ap (λ z. not (is_zero z)) (number_reads h b)

-- the arguments of a call, behind which further values may be bound
pub args_as : {vals : List Value} {x : Piece} {r : ℕ} {locals : List ℤ} → Reads vals x r locals → (more : List Value) (i : ℕ) (args : List Atom)
    → local (vals ++ more) x.size ≡ Ivar i → args_of (vals ++ more) (map (atom x.atoms) args ++ Local x.size ∷ []) ≡ piece_vals (map (value locals) args) i
args_as {vals} {x} {r} {locals} h more i args e =
    map-append (value_of (vals ++ more)) (map (atom x.atoms) args) (Local x.size ∷ [])
    ∙ ap (λ l. l ++ local (vals ++ more) x.size ∷ []) (args_read (vals ++ more) x.atoms locals (h.atoms more) args)
    ∙ ap (λ v. map Num (map (value locals) args) ++ v ∷ []) e

-- the arguments of a handler: all locals and the answer's ivar
pub kept_as : {vals : List Value} {x : Piece} {r : ℕ} {locals : List ℤ} → Reads vals x r locals → (more : List Value)
    → args_of (vals ++ more) (x.atoms ++ Local x.answer ∷ []) ≡ piece_vals locals r
kept_as {vals} {x} {r} {locals} h more =
    map-append (value_of (vals ++ more)) x.atoms (Local x.answer ∷ [])
    ∙ ap (λ l. l ++ local (vals ++ more) x.answer ∷ []) (h.atoms more)
    ∙ ap (λ v. map Num locals ++ v ∷ []) (h.answer more)

-- the value that is bound next
pub next_value : (vals : List Value) (v : Value) (more : List Value) (size : ℕ) → length vals ≡ size → local (vals ++ v ∷ more) size ≡ v
next_value vals v more size e = subst (λ k. local (vals ++ v ∷ more) k ≡ v) e (get_or-append_seam vals v more zero_value)

-- a line that costs no statement
pub reads_let : {vals : List Value} {x : Piece} {r : ℕ} {locals : List ℤ} → Reads vals x r locals → (a : Atom)
    → Reads vals (record x { atoms = atom x.atoms a ∷ x.atoms }) r (value locals a ∷ locals)
reads_let {vals} {x} {r} {locals} h a =
    record {
      atoms = λ more.
          ap (λ v. v ∷ map (value_of (vals ++ more)) x.atoms) (value_reads (vals ++ more) x.atoms locals (h.atoms more) a)
          ∙ ap (λ l. Num (value locals a) ∷ l) (h.atoms more);
      answer = h.answer;
      size = h.size;
    }

-- a statement that binds a number
pub reads_set : {vals : List Value} {x : Piece} {r : ℕ} {locals : List ℤ} → Reads vals x r locals → (z : ℤ) (line : ℕ)
    → Reads (vals ++ Num z ∷ []) (record { atoms = Local x.size ∷ x.atoms; answer = x.answer; size = x.size + 1; line = line }) r (z ∷ locals)
reads_set {vals} {x} {r} {locals} h z line =
    record {
      atoms = λ more.
          let e : (vals ++ Num z ∷ []) ++ more ≡ vals ++ Num z ∷ more = append_assoc vals (Num z ∷ []) more
          in subst (λ (l : List Value). map (value_of l) (Local x.size ∷ x.atoms) ≡ map Num (z ∷ locals)) (sym e)
          (ap (λ v. v ∷ map (value_of (vals ++ Num z ∷ more)) x.atoms) (next_value vals (Num z) more x.size h.size)
          ∙ ap (λ l. Num z ∷ l) (h.atoms (Num z ∷ more)));
      answer = λ more.
          subst (λ (l : List Value). local l x.answer ≡ Ivar r) (sym (append_assoc vals (Num z ∷ []) more)) (h.answer (Num z ∷ more));
      size = length-append vals (Num z ∷ []) ∙ ap (λ n. n + 1) h.size;
    }

-- another line of the script
pub reads_line : {vals : List Value} {x : Piece} {r : ℕ} {locals : List ℤ} → Reads vals x r locals → (line : ℕ)
    → Reads vals (record x { line = line }) r locals
reads_line h line = record { atoms = h.atoms; answer = h.answer; size = h.size }

-- the begin of a piece
locals_read : (before : List Value) (locals : List ℤ) (more : List Value) (k : ℕ) → length before ≡ k
    → map (value_of (before ++ (map Num locals ++ more))) (locals_from k (length locals)) ≡ map Num locals
locals_read before [] more k e = refl
locals_read before (z ∷ locals) more k e =
    let f : (before ++ Num z ∷ []) ++ (map Num locals ++ more) ≡ before ++ Num z ∷ (map Num locals ++ more) =
    append_assoc before (Num z ∷ []) (map Num locals ++ more)
    in ap (λ v. v ∷ map (value_of (before ++ Num z ∷ (map Num locals ++ more))) (locals_from (suc k) (length locals)))
    (next_value before (Num z) (map Num locals ++ more) k e)
    ∙ ap (λ l. Num z ∷ l)
    (subst (λ (l : List Value). map (value_of l) (locals_from (suc k) (length locals)) ≡ map Num locals) f
    (locals_read (before ++ Num z ∷ []) locals more (suc k) (omega (arith, e, length-append before (Num z ∷ [])))))

length_nums : (locals : List ℤ) → length (map Num locals) ≡ length locals
length_nums [] = refl
length_nums (z ∷ locals) = ap suc (length_nums locals)

pub reads_begin : (locals : List ℤ) (r line : ℕ) → Reads (piece_vals locals r) (begin (length locals) line) r locals
reads_begin locals r line =
    record {
      atoms = λ more.
          subst (λ (l : List Value). map (value_of l) (locals_from 0 (length locals)) ≡ map Num locals)
          (sym (append_assoc (map Num locals) (Ivar r ∷ []) more))
          (locals_read [] locals (Ivar r ∷ more) 0 refl);
      answer = λ more.
          subst (λ (l : List Value). local l (length locals) ≡ Ivar r) (sym (append_assoc (map Num locals) (Ivar r ∷ []) more))
          (next_value (map Num locals) (Ivar r) more (length locals) (length_nums locals));
      size = length-append (map Num locals) (Ivar r ∷ []) ∙ ap (λ n. n + 1) (length_nums locals);
    }
