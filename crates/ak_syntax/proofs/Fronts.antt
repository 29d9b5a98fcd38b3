-- What becomes of the first lines of a script with one line more.
use Rattle.std.proofs.Common.{◌≡◌, ℕ, ◌+◌, Bool, true, false, ◌||◌, inl, inr, cond, nat_le, nat_lt, Option, Some, None, Result, Ok, Err, List, [], ◌∷◌, length, map, refl, sym, ◌∙◌, arith}
use Rattle.ak_script.specs.declared.script.Param.{Param}
use Rattle.ak_script.specs.declared.script.Statement.{Statement}
use Rattle.ak_script.specs.declared.script.Proc.{Proc}
use Rattle.ak_syntax.specs.declared.line_form.Form.{Form}
use Rattle.ak_syntax.specs.declared.line_form.Form.TheVariants.{Async, Head, Body, End}
use Rattle.ak_syntax.specs.declared.refusal.GrammarKind.{GrammarKind}
use Rattle.ak_syntax.specs.declared.refusal.GrammarKind.TheVariants.{BadLine, TooMany, BadNumber}
use Rattle.ak_syntax.specs.declared.version.Version.{Version}
use Rattle.ak_syntax.specs.declared.version.Version.TheVariants as version
use Rattle.ak_script.specs.Statements.{binds}
use Rattle.ak_syntax.specs.Table.{Typed, longest_list, is_in}
use Rattle.ak_syntax.specs.Grammar.{places, locals}
use Rattle.ak_syntax.specs.Faults.{Front, all_procs, rules}
use Rattle.ak_syntax.specs.Rules.{IsFaulty, SomeZip}
use Rattle.ak_syntax.specs.Lines.{added, form_added, async_added, head_added, begun_statement, grown, taking}
use Rattle.ak_syntax.proofs.LineForms.{form_sound, form_complete, no_form_words}
use Rattle.ak_syntax.proofs.TakenLines.{Outcome, misplaced, over, wrong, right, Takes, quiet_of}

-- ---- what becomes of a form
abbrev pub begun_grown : Option Proc → Statement → Option Proc
begun_grown None statement = None
begun_grown (Some proc) statement = Some (grown proc statement)

abbrev pub front_with : Front → Form → Front
front_with front Async = record { of_version = version.Two; procs = []; begun = None }
front_with front (Head name line params) = record front { begun = Some (record { name = name; line = line; params = params; body = [] }) }
front_with front (Body statement) = record front { begun = begun_grown front.begun statement }
front_with front End = record front { procs = all_procs front; begun = None }

-- no number stands in the first line of a procedure, nor in its last
typed_loud : (params : List Param) (words : List (List ℕ)) → SomeZip IsFaulty (map Typed params) words → ⊥
typed_loud [] words h = h
typed_loud (p ∷ params) [] h = h
typed_loud (p ∷ params) (w ∷ words) (inl h) = h
typed_loud (p ∷ params) (w ∷ words) (inr h) = typed_loud params words h

head_loud : (name : List ℕ) (line : ℕ) (params : List Param) (words : List (List ℕ)) → SomeZip IsFaulty (places (Head name line params)) words → ⊥
head_loud name line params [] h = h
head_loud name line params (w ∷ []) (inl h) = h
head_loud name line params (w ∷ []) (inr h) = h
head_loud name line params (w ∷ v ∷ words) (inl h) = h
head_loud name line params (w ∷ v ∷ words) (inr (inl h)) = h
head_loud name line params (w ∷ v ∷ words) (inr (inr h)) = typed_loud params words h

async_loud : (words : List (List ℕ)) → SomeZip IsFaulty (places Async) words → ⊥
async_loud [] h = h
async_loud (w ∷ words) (inl h) = h
async_loud (w ∷ []) (inr h) = h
async_loud (w ∷ v ∷ words) (inr (inl h)) = h
async_loud (w ∷ v ∷ []) (inr (inr h)) = h
async_loud (w ∷ v ∷ x ∷ words) (inr (inr h)) = h

end_loud : (words : List (List ℕ)) → SomeZip IsFaulty (places End) words → ⊥
end_loud [] h = h
end_loud (w ∷ words) (inl h) = h
end_loud (w ∷ words) (inr h) = h

abbrev Comes : Front → Form → Bool → Result Front GrammarKind → Type 0
Comes front f faulty x = Outcome rules front_with front f faulty x

async_outcome : (v : Version) (procs : List Proc) (begun : Option Proc) (faulty : Bool)
    → Comes (record { of_version = v; procs = procs; begun = begun }) Async faulty (async_added v procs begun)
async_outcome version.One [] None faulty = right tt (λ h. h) (quiet_of (places Async) async_loud faulty) refl
async_outcome version.One [] (Some proc) faulty = misplaced (λ h. h) refl
async_outcome version.One (p ∷ procs) begun faulty = misplaced (λ h. h) refl
async_outcome version.Two procs begun faulty = misplaced (λ h. h) refl

-- the procedures, and none that has begun
abbrev pub front_of : Version → List Proc → Front
front_of v procs = record { of_version = v; procs = procs; begun = None }

head_outcome : (v : Version) (procs : List Proc) (name : List ℕ) (line : ℕ) (params : List Param) (faulty : Bool)
    → Comes (front_of v procs) (Head name line params) faulty
    (head_added (front_of v procs) (record { name = name; line = line; params = params; body = [] }))
head_outcome v procs name line params faulty = of (nat_lt 8 (length params)) refl (nat_le 4096 (length procs)) refl
  where
    of : (a : Bool) → nat_lt 8 (length params) ≡ a → (b : Bool) → nat_le 4096 (length procs) ≡ b
        → Comes (front_of v procs) (Head name line params) faulty
        (cond (a || b) (Err TooMany)
        (Ok (record { of_version = v; procs = procs; begun = Some (record { name = name; line = line; params = params; body = [] }) })))
    of true e b k = over tt (inl (grind arith)) refl
    of false e true k = over tt (inr (grind arith)) refl
    of false e false k =
        right tt (λ x. elim x [ inl h ↦ absurd (grind arith) | inr h ↦ absurd (grind arith) ])
        (quiet_of (places (Head name line params)) (head_loud name line params) faulty) refl

abbrev pub front_in : Version → List Proc → Proc → Front
front_in v procs proc = record { of_version = v; procs = procs; begun = Some proc }

statement_outcome : (v : Version) (procs : List Proc) (proc : Proc) (statement : Statement) (faulty : Bool)
    → Comes (front_in v procs proc) (Body statement) faulty (begun_statement (Some proc) (front_in v procs proc) statement faulty)
statement_outcome v procs proc statement faulty =
    of (is_in v statement.stmt) refl (nat_lt 8 (longest_list statement.stmt)) refl (nat_le 64 (length proc.body)) refl
    (nat_lt 64 (length (locals proc) + length (binds statement.stmt))) refl faulty
  where
    of : (i : Bool) → is_in v statement.stmt ≡ i → (a : Bool) → nat_lt 8 (longest_list statement.stmt) ≡ a → (b : Bool) → nat_le 64 (length proc.body) ≡ b
        → (c : Bool) → nat_lt 64 (length (locals proc) + length (binds statement.stmt)) ≡ c → (faulty : Bool)
        → Comes (front_in v procs proc) (Body statement) faulty
        (cond i (cond (a || (b || c)) (Err TooMany) (cond faulty (Err BadNumber) (Ok (front_in v procs (grown proc statement))))) (Err BadLine))
    of false m a e b k c l faulty = misplaced (λ h. let no : true ≡ false = sym h ∙ m in cc) refl
    of true m true e b k c l faulty = over m (inl (grind arith)) refl
    of true m false e true k c l faulty = over m (inr (inl (grind arith))) refl
    of true m false e false k true l faulty = over m (inr (inr (grind arith))) refl
    of true m false e false k false l true =
        wrong m (λ x. elim x [ inl h ↦ absurd (grind arith) | inr y ↦ elim y [ inl h ↦ absurd (grind arith) | inr h ↦ absurd (grind arith) ] ]) refl refl
    of true m false e false k false l false =
        right m (λ x. elim x [ inl h ↦ absurd (grind arith) | inr y ↦ elim y [ inl h ↦ absurd (grind arith) | inr h ↦ absurd (grind arith) ] ])
        (λ words n. refl) refl

outcome_of : (v : Version) (procs : List Proc) (begun : Option Proc) (f : Form) (faulty : Bool)
    → Comes (record { of_version = v; procs = procs; begun = begun }) f faulty (form_added (record { of_version = v; procs = procs; begun = begun }) f faulty)
outcome_of v procs begun Async faulty = async_outcome v procs begun faulty
outcome_of v procs None (Head name line params) faulty = head_outcome v procs name line params faulty
outcome_of v procs None (Body statement) faulty = misplaced (λ h. h) refl
outcome_of v procs None End faulty = misplaced (λ h. h) refl
outcome_of v procs (Some proc) (Head name line params) faulty = misplaced (λ h. h) refl
outcome_of v procs (Some proc) (Body statement) faulty = statement_outcome v procs proc statement faulty
outcome_of v procs (Some proc) End faulty = right tt (λ h. h) (quiet_of (places End) end_loud faulty) refl

outcome : (front : Front) (f : Form) (faulty : Bool) → Comes front f faulty (added front f faulty)
unfolding added
outcome front f faulty = outcome_of front.of_version front.procs front.begun f faulty

pub takes : Takes rules taking front_with
takes = record { bad = refl; sound = form_sound; complete = form_complete; wordless = no_form_words; outcome = outcome }
