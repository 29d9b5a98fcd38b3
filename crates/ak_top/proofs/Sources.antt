-- What is said of the bytes that were read is said of what a source tells.
use Rattle.std.proofs.Common.{◌≡◌, ◌⊎◌, inl, inr, ℕ, ◌+◌, ◌<◌, ◌≤◌, List, ◌++◌, length, refl, sym, ap, ◌∙◌, subst, arith}
use Rattle.std.specs.Prelude.{Option, Some, None, Ok, Err, IfErr, IfOk}
use Rattle.std.specs.declared.result.Result.{Result}
use Rattle.std.proofs.lemmas.List.{length-append}
use Rattle.ak_script.specs.declared.script.Proc.{Proc}
use Rattle.ak_syntax.specs.declared.refusal.GrammarKind.{GrammarKind}
use Rattle.ak_syntax.specs.declared.refusal.GrammarKind.TheVariants.{TooLong}
use Rattle.ak_syntax.specs.Faults.{GrammarFault, kind_number}
use Rattle.ak_reading.specs.declared.reading.Text.{Text}
use Rattle.ak_reading.specs.declared.reading.Text.TheVariants as text
use Rattle.ak_top.specs.declared.stop.Stop.{Stop}
use Rattle.ak_top.specs.declared.stop.Stop.TheVariants.{ReadFault, Refused, NoMemory}
use Rattle.ak_top.specs.Headline.{IsScript}
use Rattle.ak_reading.specs.Reading.{script_limit, Had, Began, WasReadTo, WasRead, IsRead, read_bytes}
use Rattle.ak_top.specs.Refusals.{ScriptFault, IsRefused, TellsFault, TellsScript}
use Rattle.ak_top.specs.Stops.{IsNoProgram, IsStop, Refuses, Accepts}

pub was_read : (limit : ℕ) (told : Option (List ℕ)) (t : Text) → IsRead limit told t → WasReadTo limit told (read_bytes t)
was_read limit told (text.Whole bytes) h = inl h
was_read limit told (text.TooLong bytes) h = inr h

-- ---- more bytes than a script may have
too_many : (bytes all : List ℕ) → (more : List ℕ) × (all ≡ bytes ++ more) → script_limit < length bytes → script_limit < length all
too_many bytes all m h = omega (arith, ap length m.1, length-append bytes m.0, h)

long_fault : (bytes all : List ℕ) (line kind : ℕ) → script_limit < length bytes → script_limit < length all → ScriptFault all line kind
    → ScriptFault bytes line kind
long_fault bytes all line kind few many (inl (k, e, inl f)) = inl (k, e, inl (record { size = few; at = f.at; is_long = f.is_long }))
long_fault bytes all line kind few many (inl (k, e, inr f)) = absurd (omega (arith, f.0, many))
long_fault bytes all line kind few many (inr f) = absurd (omega (arith, f.1.size, many))

-- the fault of what a source tells is that of what was read
fault_of : (told : Option (List ℕ)) (bytes all : List ℕ) (line kind : ℕ) → WasRead told bytes → told ≡ Some all
    → ScriptFault all line kind → ScriptFault bytes line kind
fault_of told bytes all line kind (inl h) tells f =
    let same : all ≡ bytes = subst (λ t. Had t bytes) tells h.0 in subst (λ b. ScriptFault b line kind) same f
fault_of told bytes all line kind (inr h) tells f =
    let more : (more : List ℕ) × (all ≡ bytes ++ more) = subst (λ t. Began t bytes) tells h.0 in
    long_fault bytes all line kind h.1 (too_many bytes all more h.1) f

pub source_refuses : {T : Type 0} (told : Option (List ℕ)) (bytes : List ℕ) (r : Result T Stop) → WasRead told bytes
    → ((line kind : ℕ) → ScriptFault bytes line kind → Refuses line kind r)
    → (line kind : ℕ) → TellsFault told line kind → Refuses line kind r
source_refuses told bytes r read h line kind t = h line kind (fault_of told bytes t.bytes line kind read t.tells t.fault)

-- a script that a source tells is what was read
script_read : (told : Option (List ℕ)) (bytes all : List ℕ) (script : List Proc) → WasRead told bytes → told ≡ Some all
    → IsScript all script → IsScript bytes script
script_read told bytes all script (inl h) tells is = let same : all ≡ bytes = subst (λ t. Had t bytes) tells h.0 in subst (λ b. IsScript b script) same is
script_read told bytes all script (inr h) tells is =
    let more : (more : List ℕ) × (all ≡ bytes ++ more) = subst (λ t. Began t bytes) tells h.0 in
    absurd (omega (arith, too_many bytes all more h.1, is.reads.size))

pub script_told : (told : Option (List ℕ)) (bytes : List ℕ) → WasRead told bytes → (t : TellsScript told) → IsScript bytes t.script
script_told told bytes read t = script_read told bytes t.bytes t.script read t.tells t.is_script

-- a script was read whole
pub had_script : (told : Option (List ℕ)) (bytes : List ℕ) (script : List Proc) → WasRead told bytes → IsScript bytes script → Had told bytes
had_script told bytes script (inl h) is = h.0
had_script told bytes script (inr h) is = absurd (omega (arith, h.1, is.reads.size))

-- ---- why a source stops a command
stop_at : (told : Option (List ℕ)) (bytes : List ℕ) (before now : ℕ) (stop : Stop) → WasRead told bytes
    → IsNoProgram bytes stop → IsStop told before now stop
stop_at told bytes before now ReadFault read h = absurd h
stop_at told bytes before now (Refused line kind) read h = record { bytes = bytes; read = read; fault = h }
stop_at told bytes before now NoMemory read h = tt

pub source_stops : {T : Type 0} (told : Option (List ℕ)) (bytes : List ℕ) (before now : ℕ) (r : Result T Stop)
    → WasRead told bytes → IfErr r (IsNoProgram bytes) → IfErr r (IsStop told before now)
source_stops told bytes before now (Ok v) read h = h
source_stops told bytes before now (Err stop) read h = stop_at told bytes before now stop read h

pub ok_map : {T : Type 0} (r : Result T Stop) (P Q : T → Type 0) → ((v : T) → P v → Q v) → IfOk r P → IfOk r Q
ok_map (Ok v) P Q f h = f v h
ok_map (Err e) P Q f h = h
