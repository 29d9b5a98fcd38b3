-- A script is cut from what stands behind it: no line of a script is the pool's.
use Rattle.std.proofs.Common.{◌≡◌, ℕ, ◌+◌, Bool, true, false, not, ◌||◌, ◌==◌, cond, List, [], ◌∷◌, ◌++◌, length, map, filter, append_assoc, refl, sym, ap, subst, ◌∙◌}
use Rattle.std.specs.Prelude.{Option, Some, None, MatchOption, slice_get, codes}
use Rattle.std.specs.List.{AllZip, AllByRecursion, onto_first, before_first}
use Rattle.ak_text.specs.Lines.{TextLine, text_lines, numbered, words_of, has_bad_byte, counts, begins_comment}
use Rattle.ak_script.specs.declared.script.Prefix.{Prefix}
use Rattle.ak_script.specs.declared.script.Prefix.TheVariants.{If, Unless}
use Rattle.ak_script.specs.declared.script.Proc.{Proc}
use Rattle.ak_script.specs.declared.statement.Stmt.{Stmt}
use Rattle.ak_script.specs.declared.statement.Stmt.TheVariants.{Set, Print, Ivar, Fill, Offer, Upon, Bind, All, Any, Choose, Sched, Low, Yield, Never, After, Event, Abort, Tick, Monitor, Within, Detach, OnError, NextError, Raise, Send, Try, Throttle, Enqueue, ThrottleDone, Pipe, Write, Put, Read, Close, CloseRead, Flushed, Work, Helper, HelperWork, HelperDone, Stop, Ret}
use Rattle.ak_syntax.specs.declared.line_form.Form.{Form}
use Rattle.ak_syntax.specs.declared.line_form.Form.TheVariants.{Async, Head, Body, End}
use Rattle.ak_syntax.specs.Grammar.{IsLine, Reads, places, prefix_places, version_forms, forms}
use Rattle.ak_syntax.specs.Table.{Stands, row}
use Rattle.ak_record.specs.Cuts.{whole_lines, SaysPool, IsPool, IsCut}
use Rattle.ak_record.specs.Walks.{ends_line}
use Rattle.ak_record.proofs.Lines.{bare, bare_lines, lines_append, lines_join}
use Rattle.ak_again.specs.Ends.{with_line_end}
use Rattle.ak_again.proofs.Ends.{same_lines, ends}

-- ---- no line of a script has the one word
abbrev the_word : List (List ℕ)
the_word = codes "%pool" ∷ []

not_stop : codes "%pool" ≡ codes "stop" → ⊥
not_stop e = cc

not_end : codes "%pool" ≡ codes "end" → ⊥
not_end e = cc

row_is_none : (stmt : Stmt) → AllZip Stands (row stmt) the_word → ⊥
row_is_none (Set x a op b) stands = absurd stands.1
row_is_none (Print a) stands = absurd stands.1
row_is_none (Ivar i) stands = absurd stands.1
row_is_none (Fill i a) stands = absurd stands.1
row_is_none (Offer i a) stands = absurd stands.1
row_is_none (Upon d proc args) stands = absurd stands.1
row_is_none (Bind r d proc args) stands = absurd stands.1
row_is_none (All r deferreds proc args) stands = absurd stands.1
row_is_none (Any r deferreds) stands = absurd stands.1
row_is_none (Choose r choices args) stands = absurd stands.1
row_is_none (Sched proc args) stands = absurd stands.1
row_is_none (Low proc args) stands = absurd stands.1
row_is_none (Yield r) stands = absurd stands.1
row_is_none (Never r) stands = absurd stands.1
row_is_none (After r n) stands = absurd stands.1
row_is_none (Event e r n) stands = absurd stands.1
row_is_none (Abort e) stands = absurd stands.1
row_is_none (Tick n) stands = absurd stands.1
row_is_none (Monitor m) stands = absurd stands.1
row_is_none (Within m proc args) stands = absurd stands.1
row_is_none (Detach m) stands = absurd stands.1
row_is_none (OnError m proc args) stands = absurd stands.1
row_is_none (NextError r m) stands = absurd stands.1
row_is_none (Raise a) stands = absurd stands.1
row_is_none (Send m a) stands = absurd stands.1
row_is_none (Try r proc args catch catch_args mode) stands = absurd stands.1
row_is_none (Throttle t k stop) stands = absurd stands.1
row_is_none (Enqueue r t proc args) stands = absurd stands.1
row_is_none (ThrottleDone r t) stands = absurd stands.1
row_is_none (Pipe p b) stands = absurd stands.1
row_is_none (Write r p a) stands = absurd stands.1
row_is_none (Put p a) stands = absurd stands.1
row_is_none (Read r p proc args eof eof_args) stands = absurd stands.1
row_is_none (Close p) stands = absurd stands.1
row_is_none (CloseRead p) stands = absurd stands.1
row_is_none (Flushed r p) stands = absurd stands.1
row_is_none (Work r kind a) stands = absurd stands.1
row_is_none (Helper h x) stands = absurd stands.1
row_is_none (HelperWork r h kind a) stands = absurd stands.1
row_is_none (HelperDone h) stands = absurd stands.1
row_is_none Stop stands = absurd (not_stop stands.0)
row_is_none (Ret a) stands = absurd stands.1

body_is_none : (prefix : Option Prefix) (stmt : Stmt) → AllZip Stands (prefix_places prefix ++ row stmt) the_word → ⊥
body_is_none None stmt h = row_is_none stmt h
body_is_none (Some (If a)) stmt h = absurd h.1
body_is_none (Some (Unless a)) stmt h = absurd h.1

form_is_none : (form : Form) → AllZip Stands (places form) the_word → ⊥
form_is_none Async h = absurd h.1
form_is_none (Head name line params) h = absurd h.1
form_is_none (Body statement) h = body_is_none statement.prefix statement.stmt h
form_is_none End h = absurd (not_end h.0)

-- ---- the lines of a text, each alone
abbrev IsAlone : List ℕ → Type 0
IsAlone line = whole_lines line ≡ line ∷ []

alone_first : (byte : ℕ) (b : Bool) → (byte == 10) ≡ b → IsAlone (byte ∷ [])
alone_first byte true e = rw e refl
alone_first byte false e = rw e refl

alone_longer : (byte : ℕ) (line : List ℕ) → (byte == 10) ≡ false → IsAlone line → IsAlone (byte ∷ line)
alone_longer byte line e alone = rw e (ap (onto_first byte) alone)

all_alone : (byte : ℕ) (bytes : List ℕ) (b : Bool) → (byte == 10) ≡ b → AllByRecursion IsAlone (whole_lines bytes)
    → AllByRecursion IsAlone (whole_lines (byte ∷ bytes))
all_alone byte bytes true e h = rw e (alone_first byte true e, h)
all_alone byte bytes false e h = rw e (of (whole_lines bytes) h)
  where
    of : (lines : List (List ℕ)) → AllByRecursion IsAlone lines → AllByRecursion IsAlone (onto_first byte lines)
    of [] k = (alone_first byte false e, tt)
    of (line ∷ lines) k = (alone_longer byte line e k.0, k.1)

each_alone : (bytes : List ℕ) → AllByRecursion IsAlone (whole_lines bytes)
each_alone [] = tt
each_alone (byte ∷ bytes) = all_alone byte bytes (byte == 10) refl (each_alone bytes)

-- the bytes of a line before a comment, without its end
abbrev told : List ℕ → List ℕ
told whole = before_first begins_comment (bare whole)

-- ---- no line of a script is the pool's
abbrev Says : List ℕ → Type 0
Says text = (has_bad_byte text ≡ false) × (words_of text ≡ the_word)

abbrev SaysFirst : List TextLine → Type 0
SaysFirst lines = MatchOption (slice_get lines 0) ⊥ SaysPool

says : (whole : List ℕ) → IsAlone whole → IsPool whole → Says (told whole)
says whole alone is =
    let lines : text_lines whole ≡ numbered 1 (bare whole ∷ []) = ap (numbered 1) (bare_lines whole ∙ ap (map bare) alone) in
    subst SaysFirst lines is

-- a line with words counts
does_count : (text : List ℕ) → Says text → (has_bad_byte text || not (length (words_of text) == 0)) ≡ true
does_count text h = rw (h.0, h.1) refl

not_said : (form : Form) (line : TextLine) → IsLine form line → Says line.text → ⊥
not_said form line is h = form_is_none form (subst (AllZip Stands (places form)) h.1 is.words)

abbrev NoneSay : List (List ℕ) → Type 0
NoneSay wholes = AllByRecursion (λ (whole : List ℕ). Says (told whole) → ⊥) wholes

-- the first line is another, and so are those behind it
not_first : (b : Bool) (fs : List Form) (line : TextLine) (lines : List TextLine) → counts line ≡ b
    → AllZip IsLine fs (cond b (line ∷ lines) lines) → Says line.text → ⊥
not_first true [] line lines e h said = h
not_first true (form ∷ fs) line lines e h said = not_said form line h.0 said
not_first false fs line lines e h said = absurd (cc (sym e ∙ does_count line.text said))

record Later (fs : List Form) (lines : List TextLine) : Type 0 where
  rest : List Form
  each : AllZip IsLine rest lines

later : (b : Bool) (fs : List Form) (line : TextLine) (lines : List TextLine) → AllZip IsLine fs (cond b (line ∷ lines) lines) → Later fs lines
later true [] line lines h = absurd h
later true (form ∷ fs) line lines h = record { rest = fs; each = h.1 }
later false fs line lines h = record { rest = fs; each = h }

none_say : (fs : List Form) (number : ℕ) (wholes : List (List ℕ)) → AllZip IsLine fs (filter counts (numbered number (map bare wholes))) → NoneSay wholes
none_say fs number [] h = tt
none_say fs number (whole ∷ wholes) h =
    let line : TextLine = record { number = number; text = told whole } in
    let lines = filter counts (numbered (number + 1) (map bare wholes)) in
    let more = later (counts line) fs line lines h in
    (not_first (counts line) fs line lines refl h, none_say more.rest (number + 1) wholes more.each)

none_are : (wholes : List (List ℕ)) → AllByRecursion IsAlone wholes → NoneSay wholes → AllByRecursion (λ line. IsPool line → ⊥) wholes
none_are [] alone none = tt
none_are (whole ∷ wholes) alone none = (λ is. none.0 (says whole alone.0 is), none_are wholes alone.1 none.1)

-- no line of a script is the pool's, also where its last line is given an end
none_of : (bytes : List ℕ) (script : List Proc) → Reads bytes script → AllByRecursion (λ line. IsPool line → ⊥) (whole_lines (with_line_end bytes))
none_of bytes script reads =
    let ended = with_line_end bytes in
    let fs = version_forms reads.of_version ++ forms script in
    let lines : text_lines bytes ≡ numbered 1 (map bare (whole_lines ended)) = sym (same_lines bytes) ∙ ap (numbered 1) (bare_lines ended) in
    none_are (whole_lines ended) (each_alone ended)
    (none_say fs 1 (whole_lines ended) (subst (λ (ls : List TextLine). AllZip IsLine fs (filter counts ls)) lines reads.lines))

-- ---- the cut
pub cut_behind : (bytes pool more : List ℕ) (script : List Proc) → Reads bytes script → IsPool pool → ends_line pool ≡ true
    → whole_lines pool ≡ pool ∷ []
    → (number : ℕ) × IsCut (with_line_end bytes ++ pool ++ more) (with_line_end bytes) number more
cut_behind bytes pool more script reads is ended alone =
    let front = with_line_end bytes in (
      length (whole_lines front) + 1,
      record {
        before = whole_lines front;
        pool = pool;
        after = whole_lines more;
        lines_are = ap whole_lines (append_assoc front pool more)
            ∙ lines_append front (pool ++ more) (ends bytes)
            ∙ ap (λ (rest : List (List ℕ)). whole_lines front ++ rest)
            (lines_append pool more ended ∙ ap (λ (one : List (List ℕ)). one ++ whole_lines more) alone);
        first = none_of bytes script reads;
        is_pool = is;
        script_is = sym (lines_join front);
        number_is = refl;
        history_is = sym (lines_join more);
      },
    )
