-- The first line with a fault, line by line.
use Rattle.std.proofs.Common.{◌≡◌, ℕ, zero, suc, ◌+◌, ◌<◌, ◌≤◌, Bool, true, false, ◌||◌, cond, nat_lt, codes, Bor, Option, Some, None, is_none, List, [], ◌∷◌, ◌++◌, map, length, take, drop, get_or, refl, sym, ap, ◌∙◌, subst, arith, append_assoc}
use Rattle.std.specs.List.{list_any}
use Rattle.std.specs.Option.{option_copied, option_map_or}
use Rattle.std.specs.Str.{bytes_eq}
use Rattle.ak_valid.specs.Kinds.{lesser_by, least_by}
use Rattle.ak_valid.specs.Numbered.{at}
use Rattle.ak_valid.proofs.LeastKinds.{drop_next}
use Rattle.ak_let.specs.declared.source.Line.{Line}
use Rattle.ak_let_syntax.specs.declared.named.NamedLine.{NamedLine}
use Rattle.ak_let_syntax.specs.declared.named.NamedFun.{NamedFun}
use Rattle.ak_let_syntax.specs.declared.refusal.LetFault.{LetFault}
use Rattle.ak_let_syntax.specs.declared.refusal.LetFault.TheVariants.{NoMain, TwiceNamed}
use Rattle.ak_let_syntax.specs.declared.refusal.LetRefused.{LetRefused}
use Rattle.ak_let_syntax.specs.declared.refusal.LetRefused.TheVariants.{At, NoMemory}
use Rattle.ak_let_syntax.specs.Faults.{kind_number}
use Rattle.ak_let_syntax.specs.Grammar.{binds}
use Rattle.ak_let_reader.specs.NameFaults.{Judged, body_judged, first_fault, fun_judged, fun_named, funs_judged, head_faults, least, name_fault, stmt_faults, twice_faults}
use Rattle.ak_let_reader.specs.Numbered.{fun_names, numbered_fun, numbered_lines, numbered_stmt}
use Rattle.ak_let_reader.specs.Refusals.{AreBefore, RefusesFor, line_fault}
use Rattle.ak_let_reader.proofs.Positions.{any_moved, before_next, before_told}

-- the fault of a line that has one, and else that of the lines behind it
abbrev told : ℕ → Option LetFault → Option (ℕ × LetFault) → Option (ℕ × LetFault)
told number fault rest = option_map_or (λ kind. Some (number, kind)) fault rest

told_none : (number : ℕ) (fault : Option LetFault) (rest : Option (ℕ × LetFault)) → fault ≡ None → told number fault rest ≡ rest
told_none number None rest h = refl
told_none number (Some kind) rest h = cc

pub told_refuses : (number : ℕ) (fault : Option LetFault) (rest : Option (ℕ × LetFault)) (e : LetRefused) → RefusesFor (line_fault number fault) e
    → RefusesFor (told number fault rest) e
told_refuses number None rest (At line kind) h = let wrong : None ≡ Some (line, h.0) = h.2 in absurd cc
told_refuses number (Some kind) rest (At line n) h = h
told_refuses number fault rest NoMemory h = tt

first_append : (xs ys : List Judged) → first_fault xs ≡ None → first_fault (xs ++ ys) ≡ first_fault ys
first_append [] ys none = refl
first_append (x ∷ xs) ys none = of (least x.faults) none (λ h. first_append xs ys h)
  where
    of : (o : Option LetFault) → told x.number o (first_fault xs) ≡ None
        → (first_fault xs ≡ None → first_fault (xs ++ ys) ≡ first_fault ys) → told x.number o (first_fault (xs ++ ys)) ≡ first_fault ys
    of None none later = later none
    of (Some kind) none later = cc

some_append : (xs ys : List Judged) (p : ℕ × LetFault) → first_fault xs ≡ Some p → first_fault (xs ++ ys) ≡ Some p
some_append [] ys p h = cc
some_append (x ∷ xs) ys p h = of (least x.faults) h (λ t. some_append xs ys p t)
  where
    of : (o : Option LetFault) → told x.number o (first_fault xs) ≡ Some p
        → (first_fault xs ≡ Some p → first_fault (xs ++ ys) ≡ Some p) → told x.number o (first_fault (xs ++ ys)) ≡ Some p
    of None t later = later t
    of (Some kind) t later = t

refused_append : (xs ys : List Judged) (e : LetRefused) → RefusesFor (first_fault xs) e → RefusesFor (first_fault (xs ++ ys)) e
refused_append xs ys (At line number) h = (h.0, h.1, some_append xs ys (line, h.0) h.2)
refused_append xs ys NoMemory h = tt

-- ---- the lines of a function
-- what is left behind the lines so far gives the same fault and the same lines
pub record Walked (funs : List NamedFun) (known now : List (List ℕ)) (lines : List NamedLine) (i : ℕ) (done : List Line) : Type 0 where
  pub fault : first_fault (body_judged funs known lines) ≡ first_fault (body_judged funs now (drop i lines))
  pub rest : numbered_lines (fun_names funs) known lines ≡ done ++ numbered_lines (fun_names funs) now (drop i lines)

pub line_walked : (funs : List NamedFun) (known now next : List (List ℕ)) (lines : List NamedLine) (i : ℕ) (done new : List Line) (line : NamedLine)
    (one : Line) → i < length lines → line ≡ get_or lines i line → Walked funs known now lines i done
    → least (stmt_faults funs now line.stmt) ≡ None → one ≡ numbered_stmt (fun_names funs) now line.stmt → next ≡ binds line.stmt ++ now
    → new ≡ done ++ one ∷ [] → Walked funs known next lines (i + 1) new
line_walked funs known now next lines i done new line one below is h none numbered bound pushed =
    let left : drop i lines ≡ line ∷ drop (i + 1) lines = drop_next lines i line below is in
    record {
      fault = h.fault ∙ ap (λ (ls : List NamedLine). first_fault (body_judged funs now ls)) left
          ∙ told_none line.number (least (stmt_faults funs now line.stmt)) _ none
          ∙ ap (λ (k : List (List ℕ)). first_fault (body_judged funs k (drop (i + 1) lines))) (sym bound);
      rest = h.rest ∙ ap (λ (ls : List NamedLine). done ++ numbered_lines (fun_names funs) now ls) left
          ∙ sym (append_assoc done (numbered_stmt (fun_names funs) now line.stmt ∷ []) _)
          ∙ ap (λ (l : Line). (done ++ l ∷ []) ++ numbered_lines (fun_names funs) (binds line.stmt ++ now) (drop (i + 1) lines)) (sym numbered)
          ∙ ap (λ (ls : List Line). ls ++ numbered_lines (fun_names funs) (binds line.stmt ++ now) (drop (i + 1) lines)) (sym pushed)
          ∙ ap (λ (k : List (List ℕ)). new ++ numbered_lines (fun_names funs) k (drop (i + 1) lines)) (sym bound);
    }

pub line_refused : (funs : List NamedFun) (known now : List (List ℕ)) (lines : List NamedLine) (i : ℕ) (done : List Line) (line : NamedLine)
    (e : LetRefused) → i < length lines → line ≡ get_or lines i line → Walked funs known now lines i done
    → RefusesFor (line_fault line.number (least (stmt_faults funs now line.stmt))) e → RefusesFor (first_fault (body_judged funs known lines)) e
line_refused funs known now lines i done line e below is h refuses =
    subst (λ (o : Option (ℕ × LetFault)). RefusesFor o e)
    (sym (h.fault ∙ ap (λ (ls : List NamedLine). first_fault (body_judged funs now ls)) (drop_next lines i line below is)))
    (told_refuses line.number (least (stmt_faults funs now line.stmt)) (first_fault (body_judged funs (binds line.stmt ++ now) (drop (i + 1) lines))) e refuses)

-- ---- the functions of a source
-- what is left behind the functions so far gives the same fault
pub record Gone (funs : List NamedFun) (i : ℕ) : Type 0 where
  pub before : List (List ℕ)
  pub are : AreBefore funs i before
  pub fault : first_fault (funs_judged funs [] funs) ≡ first_fault (funs_judged funs before (drop i funs))

pub fun_gone : (funs : List NamedFun) (i : ℕ) (fun : NamedFun) → i < length funs → fun ≡ get_or funs i fun → Gone funs i
    → ((before : List (List ℕ)) → AreBefore funs i before → first_fault (fun_judged funs before fun) ≡ None) → Gone funs (i + 1)
fun_gone funs i fun below is h none =
    record {
      before = fun.name ∷ h.before;
      are = before_next funs i fun h.before below is h.are;
      fault = h.fault ∙ ap (λ (fs : List NamedFun). first_fault (funs_judged funs h.before fs)) (drop_next funs i fun below is)
          ∙ first_append (fun_judged funs h.before fun) (funs_judged funs (fun.name ∷ h.before) (drop (i + 1) funs)) (none h.before h.are);
    }

pub fun_refused : (funs : List NamedFun) (i : ℕ) (fun : NamedFun) (e : LetRefused) → i < length funs → fun ≡ get_or funs i fun → Gone funs i
    → ((before : List (List ℕ)) → AreBefore funs i before → RefusesFor (first_fault (fun_judged funs before fun)) e)
    → RefusesFor (first_fault (funs_judged funs [] funs)) e
fun_refused funs i fun e below is h refuses =
    subst (λ (o : Option (ℕ × LetFault)). RefusesFor o e)
    (sym (h.fault ∙ ap (λ (fs : List NamedFun). first_fault (funs_judged funs h.before fs)) (drop_next funs i fun below is)))
    (refused_append (fun_judged funs h.before fun) (funs_judged funs (fun.name ∷ h.before) (drop (i + 1) funs)) e (refuses h.before h.are))

-- ---- parameters that are named twice
twice_only : (known names : List (List ℕ)) → lesser_by kind_number (Some TwiceNamed) (least (twice_faults known names)) ≡ Some TwiceNamed
twice_only known [] = refl
twice_only known (name ∷ names) = of (list_any (bytes_eq name) known) (twice_only (name ∷ known) names)
  where
    of : (b : Bool) → lesser_by kind_number (Some TwiceNamed) (least (twice_faults (name ∷ known) names)) ≡ Some TwiceNamed
        → lesser_by kind_number (Some TwiceNamed) (least (cond b (TwiceNamed ∷ []) [] ++ twice_faults (name ∷ known) names)) ≡ Some TwiceNamed
    of true ih = ap (lesser_by kind_number (Some TwiceNamed)) ih
    of false ih = ih

-- no parameter so far is named twice
pub record OnceSo (params : List (List ℕ)) (i : ℕ) : Type 0 where
  pub seen : List (List ℕ)
  pub are : (name : List ℕ) → list_any (bytes_eq name) seen ≡ list_any (bytes_eq name) (take i params)
  pub fault : least (twice_faults [] params) ≡ least (twice_faults seen (drop i params))

name_faults : (seen : List (List ℕ)) (name : List ℕ) (rest : List (List ℕ)) (b : Bool) → list_any (bytes_eq name) seen ≡ b
    → least (twice_faults seen (name ∷ rest)) ≡ cond b (Some TwiceNamed) (least (twice_faults (name ∷ seen) rest))
name_faults seen name rest true h = rw h (twice_only (name ∷ seen) rest)
name_faults seen name rest false h = rw h refl

pub once_next : (params : List (List ℕ)) (i : ℕ) (name : List ℕ) → i < length params → name ≡ get_or params i name → OnceSo params i
    → list_any (bytes_eq name) (take i params) ≡ false → take (i + 1) params ≡ take i params ++ name ∷ [] → OnceSo params (i + 1)
once_next params i name below is h new next =
    record {
      seen = name ∷ h.seen;
      are = λ other. any_moved h.seen (take i params) name h.are other ∙ ap (list_any (bytes_eq other)) (sym next);
      fault = h.fault ∙ ap (λ (ns : List (List ℕ)). least (twice_faults h.seen ns)) (drop_next params i name below is)
          ∙ name_faults h.seen name (drop (i + 1) params) false (h.are name ∙ new);
    }

pub twice_told : (params : List (List ℕ)) (i : ℕ) (name : List ℕ) → i < length params → name ≡ get_or params i name → OnceSo params i
    → list_any (bytes_eq name) (take i params) ≡ true → Some TwiceNamed ≡ least (twice_faults [] params)
twice_told params i name below is h there =
    sym (h.fault ∙ ap (λ (ns : List (List ℕ)). least (twice_faults h.seen ns)) (drop_next params i name below is)
    ∙ name_faults h.seen name (drop (i + 1) params) true (h.are name ∙ there))

-- ---- a name that stands before
pub before_fault : (funs : List NamedFun) (place : ℕ) (before : List (List ℕ)) (name : List ℕ) (b : Bool) → place ≤ length funs
    → AreBefore funs place before → nat_lt (at (fun_names funs) name) place ≡ b
    → least (twice_faults before (name ∷ [])) ≡ cond b (Some TwiceNamed) None
before_fault funs place before name b h are is = of b (before_told funs place before name h are ∙ is)
  where
    of : (b : Bool) → list_any (bytes_eq name) before ≡ b → least (twice_faults before (name ∷ [])) ≡ cond b (Some TwiceNamed) None
    of true e = rw e refl
    of false e = rw e refl

-- ---- no function is named `main`
pub none_copied : {A : Type 0} (o : Option (Bor A)) (b : Bool) → is_none o ≡ b → is_none (option_copied o) ≡ b
none_copied None b h = h
none_copied (Some x) b h = h

pub none_refused : (funs : List NamedFun) (o : Option NamedFun) → o ≡ fun_named funs (codes "main") → is_none o ≡ true
    → name_fault funs ≡ Some (0, NoMain)
none_refused funs None is none = rw (sym is) refl
none_refused funs (Some fun) is none = cc

pub some_main : (funs : List NamedFun) (o : Option NamedFun) → o ≡ fun_named funs (codes "main") → is_none o ≡ false
    → name_fault funs ≡ first_fault (funs_judged funs [] funs)
some_main funs None is some = cc
some_main funs (Some fun) is some = rw (sym is) refl

-- ---- a function behind others
pub head_refused : (funs : List NamedFun) (before : List (List ℕ)) (fun : NamedFun) (fault : Option LetFault) (e : LetRefused)
    → fault ≡ least (head_faults before fun) → RefusesFor (line_fault fun.number fault) e → RefusesFor (first_fault (fun_judged funs before fun)) e
head_refused funs before fun fault e is h =
    told_refuses fun.number (least (head_faults before fun)) (first_fault (body_judged funs fun.params fun.lines)) e
    (subst (λ (o : Option LetFault). RefusesFor (line_fault fun.number o) e) is h)

pub body_refused : (funs : List NamedFun) (before known : List (List ℕ)) (fun : NamedFun) (lines : List NamedLine) (e : LetRefused)
    → least (head_faults before fun) ≡ None → known ≡ fun.params → lines ≡ fun.lines → RefusesFor (first_fault (body_judged funs known lines)) e
    → RefusesFor (first_fault (fun_judged funs before fun)) e
body_refused funs before known fun lines e none params are h =
    subst (λ (o : Option (ℕ × LetFault)). RefusesFor o e)
    (ap (λ (k : List (List ℕ)). first_fault (body_judged funs k lines)) params ∙ ap (λ (ls : List NamedLine). first_fault (body_judged funs fun.params ls)) are
    ∙ sym (told_none fun.number (least (head_faults before fun)) (first_fault (body_judged funs fun.params fun.lines)) none)) h
