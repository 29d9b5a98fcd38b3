-- The words of a line are put one by one.
use Rattle.std.proofs.Common.{ℕ, zero, suc, codes, ◌+◌, ◌≤◌, ◌≡◌, List, [], ◌∷◌, ◌++◌, map, length, drop, Option, Some, None, Result, Ok, Err, OnOk, flat_map, append_assoc, refl, ap, ap₂, sym, ◌∙◌, arith}
use Rattle.std.proofs.lemmas.List.{append-nil}
use Rattle.std.proofs.lemmas.Grind.{flat_map-append}
use Rattle.std.specs.declared.alloc.AllocError.{AllocError}
use Rattle.ak_print.specs.Line.{line_text}
use Rattle.ak_program.specs.declared.program.NumPrefix.{NumPrefix}
use Rattle.ak_program.specs.declared.program.NumPrefix.TheVariants.{If, Unless}
use Rattle.ak_row.specs.Plain.{place_word, row_text}
use Rattle.ak_program.specs.declared.program.NumParam.{NumParam}
use Rattle.ak_program.specs.declared.program.NumProc.{NumProc}
use Rattle.ak_program.specs.declared.program.NumStatement.{NumStatement}
use Rattle.ak_syntax.specs.declared.line_form.Form.{Form}
use Rattle.ak_syntax.specs.declared.line_form.Form.TheVariants.{Head, Body, End}
use Rattle.ak_syntax.specs.Grammar.{forms}
use Rattle.ak_syntax.specs.Table.{Place, Exactly, Typed}
use Rattle.ak_let_text.specs.declared.word.ScriptWord.TheVariants.{Atom}
use Rattle.ak_let_text.specs.Text.{as_row, form_row, script_text}
use Rattle.ak_let_text.specs.Named.{named, named_param, named_statement, proc_name}
use Rattle.ak_let_text.specs.Words.{spaced, head_bytes, prefix_bytes, proc_bytes, statement_bytes, line_bytes, word_bytes}

-- so many of the words are put, and what is left comes to the whole
pub record ArePut {X : Type 0} (f : X → Place) (xs : List X) (before now : List ℕ) (i : ℕ) : Type 0 where
  pub same : now ++ spaced (map f (drop i xs)) ≡ before ++ spaced (map f xs)

pub none_put : {X : Type 0} (f : X → Place) (xs : List X) (before : List ℕ) → ArePut f xs before before 0
none_put f xs before = record { same = refl }

pub one_put : {X : Type 0} (f : X → Place) (xs : List X) (before now next : List ℕ) (i : ℕ) (x : X)
    → drop i xs ≡ x ∷ drop (i + 1) xs → next ≡ (now ++ 32 ∷ []) ++ place_word (as_row (f x))
    → ArePut f xs before now i → ArePut f xs before next (i + 1)
one_put f xs before now next i x e n h =
    let rest : List ℕ = spaced (map f (drop (i + 1) xs))
    in let word : List ℕ = place_word (as_row (f x))
    in record {
      same = ap (λ l. l ++ rest) n
          ∙ append_assoc (now ++ 32 ∷ []) word rest
          ∙ append_assoc now (32 ∷ []) (word ++ rest)
          ∙ ap (λ l. now ++ spaced (map f l)) (sym e)
          ∙ h.same;
    }

drop_past : {X : Type 0} (xs : List X) (i : ℕ) → length xs ≤ i → drop i xs ≡ []
drop_past [] zero l = refl
drop_past [] (suc i) l = refl
drop_past (x ∷ xs) zero l = absurd (omega (arith, l))
drop_past (x ∷ xs) (suc i) l = drop_past xs i (omega (arith, l))

pub all_put : {X : Type 0} (f : X → Place) (xs : List X) (before now : List ℕ) (i : ℕ) → length xs ≤ i → ArePut f xs before now i
    → now ≡ before ++ spaced (map f xs)
all_put f xs before now i l h = sym (append-nil now) ∙ ap (λ r. now ++ spaced (map f r)) (sym (drop_past xs i l)) ∙ h.same

-- ---- lines
spaced_line : (word : List ℕ) (places : List Place) → line_text (word ∷ map place_word (map as_row places)) ≡ word ++ (spaced places ++ 10 ∷ [])
spaced_line word [] = refl
spaced_line word (place ∷ places) =
    let next : List ℕ = place_word (as_row place)
    in ap (λ l. word ++ 32 ∷ l) (spaced_line next places ∙ sym (append_assoc next (spaced places) (10 ∷ [])))

behind : (first a rest : List ℕ) → (first ++ 32 ∷ (a ++ 32 ∷ [])) ++ rest ≡ first ++ 32 ∷ (a ++ 32 ∷ rest)
behind first a rest = append_assoc first (32 ∷ (a ++ 32 ∷ [])) rest ∙ ap (λ l. first ++ 32 ∷ l) (append_assoc a (32 ∷ []) rest)

line_is : (prefix : Option NumPrefix) (first : List ℕ) (rest : List Place)
    → line_bytes prefix (Exactly first ∷ rest) ≡ prefix_bytes prefix ++ (first ++ (spaced rest ++ 10 ∷ []))
line_is None first rest = spaced_line first rest
line_is (Some (If a)) first rest =
    ap (λ l. codes "if" ++ 32 ∷ (word_bytes (Atom a) ++ 32 ∷ l)) (spaced_line first rest)
    ∙ sym (behind (codes "if") (word_bytes (Atom a)) (first ++ (spaced rest ++ 10 ∷ [])))
line_is (Some (Unless a)) first rest =
    ap (λ l. codes "unless" ++ 32 ∷ (word_bytes (Atom a) ++ 32 ∷ l)) (spaced_line first rest)
    ∙ sym (behind (codes "unless") (word_bytes (Atom a)) (first ++ (spaced rest ++ 10 ∷ [])))

regrouped : (before a b c d e : List ℕ) → ((((before ++ a) ++ b) ++ c) ++ d) ++ e ≡ before ++ (a ++ (b ++ ((c ++ d) ++ e)))
regrouped before a b c d e = simp append_assoc

-- a line is its condition, its first word, its words and its arguments, put one after another
pub line_put : (prefix : Option NumPrefix) (first : List ℕ) (words args : List Place) (before a b c d e : List ℕ)
    → a ≡ before ++ prefix_bytes prefix → b ≡ a ++ first → c ≡ b ++ spaced words → d ≡ c ++ spaced args → e ≡ d ++ 10 ∷ []
    → e ≡ before ++ line_bytes prefix (Exactly first ∷ (words ++ args))
line_put prefix first words args before a b c d e p q r s t =
    let all : e ≡ ((((before ++ prefix_bytes prefix) ++ first) ++ spaced words) ++ spaced args) ++ 10 ∷ [] =
    t ∙ ap (λ l. l ++ 10 ∷ []) (s ∙ ap (λ l. l ++ spaced args) (r ∙ ap (λ l. l ++ spaced words) (q ∙ ap (λ l. l ++ first) p)))
    in all
    ∙ regrouped before (prefix_bytes prefix) first (spaced words) (spaced args) (10 ∷ [])
    ∙ ap (λ l. before ++ (prefix_bytes prefix ++ (first ++ (l ++ 10 ∷ []))))
    (sym (flat_map-append (λ place. 32 ∷ place_word (as_row place)) words args))
    ∙ ap (λ l. before ++ l) (sym (line_is prefix first (words ++ args)))

-- ---- the first line of a procedure, and all its lines
pub head_put : (name : ℕ) (params : List NumParam) (before a b c d : List ℕ)
    → a ≡ before ++ codes "proc " → b ≡ a ++ proc_name name → c ≡ b ++ spaced (map Typed (map named_param params)) → d ≡ c ++ 10 ∷ []
    → d ≡ before ++ head_bytes name params
head_put name params before a b c d p q r s =
    let rest : List Place = map Typed (map named_param params)
    in let all : d ≡ (((before ++ codes "proc ") ++ proc_name name) ++ spaced rest) ++ 10 ∷ [] =
    s ∙ ap (λ l. l ++ 10 ∷ []) (r ∙ ap (λ l. l ++ spaced rest) (q ∙ ap (λ l. l ++ proc_name name) p))
    in let grouped : (((before ++ codes "proc ") ++ proc_name name) ++ spaced rest) ++ 10 ∷ []
    ≡ before ++ (codes "proc " ++ (proc_name name ++ (spaced rest ++ 10 ∷ []))) =
    append_assoc ((before ++ codes "proc ") ++ proc_name name) (spaced rest) (10 ∷ [])
    ∙ append_assoc (before ++ codes "proc ") (proc_name name) (spaced rest ++ 10 ∷ [])
    ∙ append_assoc before (codes "proc ") (proc_name name ++ (spaced rest ++ 10 ∷ []))
    in all ∙ grouped ∙ ap (λ l. before ++ (codes "proc " ++ l)) (sym (spaced_line (proc_name name) rest))

script_append : (body : List NumStatement) (rest : List Form)
    → flat_map row_text (map form_row (map Body (map named_statement body) ++ rest)) ≡ flat_map statement_bytes body ++ flat_map row_text (map form_row rest)
script_append [] rest = refl
script_append (s ∷ body) rest =
    ap (λ l. statement_bytes s ++ l) (script_append body rest)
    ∙ sym (append_assoc (statement_bytes s) (flat_map statement_bytes body) (flat_map row_text (map form_row rest)))

proc_is : (proc : NumProc) (rest : List Form)
    → flat_map row_text
    (map form_row (Head (proc_name proc.name) proc.line (map named_param proc.params) ∷ (map Body (map named_statement proc.body) ++ End ∷ rest)))
    ≡ head_bytes proc.name proc.params ++ (flat_map statement_bytes proc.body ++ (codes "end\n" ++ flat_map row_text (map form_row rest)))
proc_is proc rest = ap (λ l. head_bytes proc.name proc.params ++ l) (script_append proc.body (End ∷ rest))

pub proc_put : (proc : NumProc) (before a b c : List ℕ) → a ≡ before ++ head_bytes proc.name proc.params
    → b ≡ a ++ flat_map statement_bytes proc.body → c ≡ b ++ codes "end\n" → c ≡ before ++ proc_bytes proc
proc_put proc before a b c p q r =
    let all : c ≡ ((before ++ head_bytes proc.name proc.params) ++ flat_map statement_bytes proc.body) ++ codes "end\n" =
    r ∙ ap (λ l. l ++ codes "end\n") (q ∙ ap (λ l. l ++ flat_map statement_bytes proc.body) p)
    in all
    ∙ append_assoc (before ++ head_bytes proc.name proc.params) (flat_map statement_bytes proc.body) (codes "end\n")
    ∙ append_assoc before (head_bytes proc.name proc.params) (flat_map statement_bytes proc.body ++ codes "end\n")
    ∙ ap (λ l. before ++ l) (sym (proc_is proc []))

-- the text of procedures is that of each, one after another
pub text_of_each : (procs : List NumProc) → flat_map proc_bytes procs ≡ script_text (named procs)
text_of_each [] = refl
text_of_each (proc ∷ procs) =
    ap₂ (λ a b. a ++ b) (proc_is proc []) (text_of_each procs)
    ∙ append_assoc (head_bytes proc.name proc.params) (flat_map statement_bytes proc.body ++ codes "end\n") (script_text (named procs))
    ∙ ap (λ l. head_bytes proc.name proc.params ++ l) (append_assoc (flat_map statement_bytes proc.body) (codes "end\n") (script_text (named procs)))
    ∙ sym (proc_is proc (forms (named procs)))

-- where it did not want for memory
pub on_ok : {T P Q : Type 0} (r : Result T AllocError) → (P → Q) → OnOk r P → OnOk r Q
on_ok (Ok x) f h = f h
on_ok (Err e) f h = tt
