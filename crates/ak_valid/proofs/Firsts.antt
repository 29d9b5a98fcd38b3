-- Of each name the first procedure, and the lines of procedures by their names.
use Rattle.std.proofs.Common.{◌≡◌, ◌≢◌, ℕ, ◌+◌, ◌<◌, Bool, true, false, ◌||◌, cond, List, [], ◌∷◌, ◌++◌, length, take, drop, get_or, Option, Some, None, is_some, refl, sym, ap, ◌∙◌, subst, codes}
use Rattle.std.proofs.lemmas.List.{map-append}
use Rattle.std.proofs.lemmas.Slice.Eq.{bytes_eq-Decides}
use Rattle.std.specs.List.{AllByRecursion, list_any, flat_map}
use Rattle.std.specs.Option.{option_or, option_map_or}
use Rattle.std.specs.Str.{bytes_eq}
use Rattle.ak_script.specs.declared.script.Param.{Param}
use Rattle.ak_script.specs.declared.script.Statement.{Statement}
use Rattle.ak_script.specs.declared.script.Proc.{Proc}
use Rattle.ak_script.specs.Statements.{binds}
use Rattle.ak_valid.specs.declared.refusal.FaultKind.TheVariants.{UnknownName, NoMain}
use Rattle.ak_valid.specs.declared.refusal.ValidRefused.{ValidRefused}
use Rattle.ak_valid.specs.Numbered.{proc_names, param_names}
use Rattle.ak_valid.specs.Uses.{Callee, uses, callees}
use Rattle.ak_valid.specs.Valid.{AreDistinct, proc_named, prefix_uses}
use Rattle.ak_valid.specs.Faults.{twice_named, use_faults, unknown_faults, takes_faults, callee_faults, statement_faults, body_lines, head_faults, proc_lines, procs_lines, line_zero, first_fault}
use Rattle.ak_valid.specs.Firsts.{AreFirsts}
use Rattle.ak_valid.specs.Refusals.{Refuses}
use Rattle.ak_valid.proofs.Naming.{take_next, distinct_refused}
use Rattle.ak_valid.proofs.LeastKinds.{drop_next}
use Rattle.ak_valid.proofs.Lines.{first_append, refused_append}

-- ---- a procedure that is put last
pub any_found : (procs : List Proc) (name : List ℕ) → list_any (bytes_eq name) (proc_names procs) ≡ is_some (proc_named procs name)
any_found [] name = refl
any_found (proc ∷ procs) name = of (bytes_eq name proc.name) (any_found procs name)
  where
    of : (b : Bool) → list_any (bytes_eq name) (proc_names procs) ≡ is_some (proc_named procs name)
        → (b || list_any (bytes_eq name) (proc_names procs)) ≡ is_some (cond b (Some proc) (proc_named procs name))
    of true ih = refl
    of false ih = ih

named_push : (procs : List Proc) (proc : Proc) (name : List ℕ) → proc_named (procs ++ proc ∷ []) name
    ≡ option_or (proc_named procs name) (cond (bytes_eq name proc.name) (Some proc) None)
named_push [] proc name = refl
named_push (x ∷ procs) proc name = of (bytes_eq name x.name) (named_push procs proc name)
  where
    of : (b : Bool) → proc_named (procs ++ proc ∷ []) name ≡ option_or (proc_named procs name) (cond (bytes_eq name proc.name) (Some proc) None)
        → cond b (Some x) (proc_named (procs ++ proc ∷ []) name) ≡ option_or (cond b (Some x) (proc_named procs name))
        (cond (bytes_eq name proc.name) (Some proc) None)
    of true ih = refl
    of false ih = ih

or_none : {A : Type 0} (o : Option A) → o ≡ option_or o None
or_none None = refl
or_none (Some x) = refl

or_some : {A : Type 0} (o other : Option A) → is_some o ≡ true → o ≡ option_or o other
or_some None other h = cc
or_some (Some x) other h = refl

same_again : (procs : List Proc) (proc : Proc) (name : List ℕ) → list_any (bytes_eq proc.name) (proc_names procs) ≡ true
    → proc_named procs name ≡ option_or (proc_named procs name) (cond (bytes_eq name proc.name) (Some proc) None)
same_again procs proc name there = of (bytes_eq name proc.name) refl
  where
    of : (b : Bool) → bytes_eq name proc.name ≡ b → proc_named procs name ≡ option_or (proc_named procs name) (cond b (Some proc) None)
    of true e =
        let same : name ≡ proc.name = (bytes_eq-Decides name proc.name).0 e in
        or_some (proc_named procs name) _ (sym (any_found procs name) ∙ ap (λ (n : List ℕ). list_any (bytes_eq n) (proc_names procs)) same ∙ there)
    of false e = or_none (proc_named procs name)

pub distinct_front : (xs ys : List (List ℕ)) → AreDistinct (xs ++ ys) → AreDistinct xs
distinct_front [] ys h = tt
distinct_front (x ∷ xs) ys h = (front xs h.0, distinct_front xs ys h.1)
  where
    front : (zs : List (List ℕ)) → AllByRecursion (λ other. x ≢ other) (zs ++ ys) → AllByRecursion (λ other. x ≢ other) zs
    front [] h = tt
    front (z ∷ zs) h = (h.0, front zs h.1)

pub absent_before : (front rest : List (List ℕ)) (name : List ℕ) → AreDistinct (front ++ name ∷ rest) → list_any (bytes_eq name) front ≡ false
absent_before front rest name h = of (list_any (bytes_eq name) front) refl
  where
    of : (b : Bool) → list_any (bytes_eq name) front ≡ b → b ≡ false
    of true e = absurd (distinct_refused front rest name e h)
    of false e = refl

pub firsts_next : (named now procs : List Proc) (i : ℕ) (proc : Proc) → i < length procs → proc ≡ get_or procs i proc → AreFirsts named (take i procs)
    → now ≡ cond (list_any (bytes_eq proc.name) (proc_names named)) named (named ++ proc ∷ []) → AreFirsts now (take (i + 1) procs)
firsts_next named now procs i proc below is h put = rw (take_next procs i proc below is) (of (list_any (bytes_eq proc.name) (proc_names named)) refl put)
  where
    push : (name : List ℕ) → option_or (proc_named named name) (cond (bytes_eq name proc.name) (Some proc) None) ≡ proc_named (take i procs ++ proc ∷ []) name
    push name = ap (λ (o : Option Proc). option_or o (cond (bytes_eq name proc.name) (Some proc) None)) (h.named name)
        ∙ sym (named_push (take i procs) proc name)

    names : proc_names (take i procs ++ proc ∷ []) ≡ proc_names (take i procs) ++ proc.name ∷ []
    names = map-append (λ (p : Proc). p.name) (take i procs) (proc ∷ [])

    front : AreDistinct (proc_names (take i procs ++ proc ∷ [])) → named ≡ take i procs
    front distinct = h.places (distinct_front (proc_names (take i procs)) (proc.name ∷ []) (subst AreDistinct names distinct))

    new : AreDistinct (proc_names (take i procs ++ proc ∷ [])) → list_any (bytes_eq proc.name) (proc_names named) ≡ false
    new distinct = ap (λ (ps : List Proc). list_any (bytes_eq proc.name) (proc_names ps)) (front distinct)
        ∙ absent_before (proc_names (take i procs)) [] proc.name (subst AreDistinct names distinct)

    of : (b : Bool) → list_any (bytes_eq proc.name) (proc_names named) ≡ b → now ≡ cond b named (named ++ proc ∷ []) → AreFirsts now (take i procs ++ proc ∷ [])
    of true e put = record {
      named = λ name. ap (λ (ps : List Proc). proc_named ps name) put ∙ same_again named proc name e ∙ push name;
      places = λ distinct. let absent : list_any (bytes_eq proc.name) (proc_names named) ≡ false = new distinct in cc;
    }
    of false e put = record {
      named = λ name. ap (λ (ps : List Proc). proc_named ps name) put ∙ named_push named proc name ∙ push name;
      places = λ distinct. put ∙ ap (λ (ps : List Proc). ps ++ proc ∷ []) (front distinct);
    }

-- ---- procedures one after another
pub procs_refused : (named : List Proc) (seen : List (List ℕ)) (procs : List Proc) (i : ℕ) (proc : Proc) (all : Option (ℕ × ℕ))
    (e : ValidRefused) → i < length procs → proc ≡ get_or procs i proc
    → first_fault (procs_lines named seen (drop i procs)) ≡ all → Refuses (first_fault (proc_lines named seen proc)) e → Refuses all e
procs_refused named seen procs i proc all e below is so_far h =
    let opened : first_fault (proc_lines named seen proc ++ procs_lines named (seen ++ proc.name ∷ []) (drop (i + 1) procs)) ≡ all =
    rw (drop_next procs i proc below is) at so_far in
    subst (λ (fault : Option (ℕ × ℕ)). Refuses fault e) opened
    (refused_append (proc_lines named seen proc) (procs_lines named (seen ++ proc.name ∷ []) (drop (i + 1) procs)) e h)

pub procs_walked : (named : List Proc) (seen now : List (List ℕ)) (procs : List Proc) (i : ℕ) (proc : Proc) (all : Option (ℕ × ℕ))
    → i < length procs → proc ≡ get_or procs i proc
    → first_fault (procs_lines named seen (drop i procs)) ≡ all → first_fault (proc_lines named seen proc) ≡ None
    → now ≡ seen ++ proc.name ∷ [] → first_fault (procs_lines named now (drop (i + 1) procs)) ≡ all
procs_walked named seen now procs i proc all below is so_far none grown =
    let opened : first_fault (proc_lines named seen proc ++ procs_lines named (seen ++ proc.name ∷ []) (drop (i + 1) procs)) ≡ all =
    rw (drop_next procs i proc below is) at so_far in
    rw grown (sym (first_append (proc_lines named seen proc) (procs_lines named (seen ++ proc.name ∷ []) (drop (i + 1) procs)) none) ∙ opened)

-- ---- lists in which each name leads to the same procedure
same_callee : (a b : List Proc) → ((name : List ℕ) → proc_named a name ≡ proc_named b name) → (known : List Param) (callee : Callee)
    → callee_faults a known callee ≡ callee_faults b known callee
same_callee a b same known callee =
    ap (λ (o : Option Proc). flat_map (unknown_faults known) callee.args ++ option_map_or
    (λ (proc : Proc). takes_faults known proc.params callee) o (UnknownName ∷ [])) (same callee.name)

same_statement : (a b : List Proc) → ((name : List ℕ) → proc_named a name ≡ proc_named b name)
    → (known : List Param) (statement : Statement) → statement_faults a known statement ≡ statement_faults b known statement
same_statement a b same known statement =
    λ i. twice_named (param_names known) (param_names (binds statement.stmt)) ++ flat_map (use_faults known)
    (prefix_uses statement.prefix) ++ flat_map (use_faults known) (uses statement.stmt)
    ++ flat_map (λ callee. same_callee a b same known callee i) (callees statement.stmt)

same_body : (a b : List Proc) → ((name : List ℕ) → proc_named a name ≡ proc_named b name) → (known : List Param) (body : List Statement)
    → body_lines a known body ≡ body_lines b known body
same_body a b same known [] = refl
same_body a b same known (statement ∷ body) = λ i. record { number = statement.line; faults = same_statement a b same known statement i }
    ∷ same_body a b same (known ++ binds statement.stmt) body i

pub same_procs : (a b : List Proc) → ((name : List ℕ) → proc_named a name ≡ proc_named b name)
    → (before : List (List ℕ)) (procs : List Proc) → procs_lines a before procs ≡ procs_lines b before procs
same_procs a b same before [] = refl
same_procs a b same before (proc ∷ procs) = λ i. (record { number = proc.line; faults = head_faults before proc }
    ∷ same_body a b same proc.params proc.body i) ++ same_procs a b same (before ++ proc.name ∷ []) procs i

pub same_zero : (a b : List Proc) → ((name : List ℕ) → proc_named a name ≡ proc_named b name) → line_zero a ≡ line_zero b
same_zero a b same = λ i. record { number = 0; faults = option_map_or (λ (proc : Proc). []) (same (codes "main") i) (NoMain ∷ []) }
