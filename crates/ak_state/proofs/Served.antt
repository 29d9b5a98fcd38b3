-- Requests in the state that the parts stand for, and what fits as they come and are answered.
use Rattle.std.proofs.Common.{◌≡◌, ℕ, zero, suc, ◌+◌, ◌<◌, List, [], ◌∷◌, ◌++◌, length, map, refl, ap, sym, ◌∙◌, subst, false, cond, arith, Option, Some, None}
use Rattle.std.specs.Prelude.{ℤ, count_by, slice_set, slice_index_or, MatchOption, slice_get}
use Rattle.std.proofs.lemmas.List.{map-append}
use Rattle.std.proofs.lemmas.List.Sums.{sum_by-cons}
use Rattle.ak_script.specs.declared.script.Kind.{Kind}
use Rattle.ak_cells.specs.Names.{name_in, trimmed}
use Rattle.ak_cells.specs.Rooms.{NamedCells}
use Rattle.ak_frames.specs.declared.value.Value.TheVariants.{Num}
use Rattle.ak_frames.specs.declared.frame.Ret.TheVariants.{To}
use Rattle.ak_frames.specs.declared.frame.Frame.{Frame}
use Rattle.ak_frames.specs.declared.frame.Frame.TheVariants.{Call, AnswerOut}
use Rattle.ak_frames.specs.declared.frame.Task.{Task}
use Rattle.ak_rings.specs.Queues.{Queues}
use Rattle.ak_trace.specs.declared.entry.Entry.{Entry}
use Rattle.ak_trace.specs.declared.entry.Entry.TheVariants as entry
use Rattle.ak_program.specs.declared.program.NumProc.{NumProc}
use Rattle.ak_program.specs.Programs.{TakesOneNumber, IsAsk}
use Rattle.ak_machine.specs.declared.held.Requested.{Requested}
use Rattle.ak_machine.specs.State.{State, next_ivar}
use Rattle.ak_machine.specs.Deferred.{noting, plain_task, with_ivar, register}
use Rattle.ak_machine.specs.Mapped.{requested_mapped, state_named}
use Rattle.ak_machine.specs.Works.{is_unanswered, with_request}
use Rattle.ak_machine.specs.Cycle.{at_root, request_arrived}
use Rattle.ak_state.specs.Seen.{seen, doing, raw_state}
use Rattle.ak_state.specs.Drawn.{drawn}
use Rattle.ak_state.specs.Fits.{ValsFit, kinds_of, CallFits, Fits}
use Rattle.ak_state.specs.Requests.{absent, answered, with_answered}
use Rattle.ak_state.proofs.Stands.{seen_as}
use Rattle.ak_state.proofs.Fitting.{Grows, same_more, then_grows, ivar_grows, noted_grows, register_grows, enqueue_grows, drawn_one}

-- ---- the state that is seen, with other requests
seen_requests : (cells : NamedCells Frame) (q : Queues Task) (t : List Entry) (lists : State) (requests : List Requested) (s : State)
    → map (requested_mapped (name_in (trimmed cells.names))) requests ≡ s.requests → s ≡ record (seen cells q t lists).plain { requests = s.requests }
    → seen cells q t (record lists { requests = requests }) ≡ seen_as (trimmed cells.names) s
seen_requests cells q t lists requests s e same =
    let p : State = state_named (name_in (trimmed cells.names)) (raw_state cells q t lists)
    in ap (λ (rs : List Requested). seen_as (trimmed cells.names) (record p { requests = rs })) e ∙ ap (seen_as (trimmed cells.names)) (sym same)

pub seen_requested : (cells : NamedCells Frame) (q : Queues Task) (t : List Entry) (lists : State) (number to : ℕ)
    → seen cells q t (record lists { requests = lists.requests ++ record { number = number; to = to; answered = false } ∷ [] })
    ≡ doing (with_request number (name_in (trimmed cells.names) to)) (seen cells q t lists)
seen_requested cells q t lists number to =
    let f : ℕ → ℕ = name_in (trimmed cells.names)
    in let new : Requested = record { number = number; to = to; answered = false }
    in seen_requests cells q t lists (lists.requests ++ new ∷ []) (with_request number (f to) (seen cells q t lists).plain)
    (map-append (requested_mapped f) lists.requests (new ∷ [])) refl

answered_mapped : (f : ℕ → ℕ) (xs : List Requested) (k : ℕ) (d e : Requested)
    → map (requested_mapped f) (slice_set xs k (answered (slice_index_or xs k d)))
    ≡ slice_set (map (requested_mapped f) xs) k (answered (slice_index_or (map (requested_mapped f) xs) k e))
answered_mapped f [] k d e = refl
answered_mapped f (x ∷ xs) zero d e = refl
answered_mapped f (x ∷ xs) (suc k) d e = ap (λ ys. requested_mapped f x ∷ ys) (answered_mapped f xs k d e)

pub seen_answered : (cells : NamedCells Frame) (q : Queues Task) (t : List Entry) (lists : State) (number : ℕ)
    → seen cells q t (record lists { requests = slice_set lists.requests number (answered (slice_index_or lists.requests number (absent number))) })
    ≡ doing (with_answered number) (seen cells q t lists)
seen_answered cells q t lists number =
    let f : ℕ → ℕ = name_in (trimmed cells.names)
    in seen_requests cells q t lists (slice_set lists.requests number (answered (slice_index_or lists.requests number (absent number))))
    (with_answered number (seen cells q t lists).plain) (answered_mapped f lists.requests number (absent number) (absent number)) refl

pub unanswered_mapped : (f : ℕ → ℕ) (xs : List Requested) → count_by is_unanswered (map (requested_mapped f) xs) ≡ count_by is_unanswered xs
unanswered_mapped f [] = refl
unanswered_mapped f (x ∷ xs) =
    sum_by-cons (λ (y : Requested). cond (is_unanswered y) 1 0) (requested_mapped f x) (map (requested_mapped f) xs)
    ∙ ap (λ n. cond (is_unanswered x) 1 0 + n) (unanswered_mapped f xs)
    ∙ sym (sum_by-cons (λ (y : Requested). cond (is_unanswered y) 1 0) x xs)

-- ---- what fits
-- `ask` takes the number of a request
ask_fits : (program : List NumProc) (ask : ℕ) (n : ℤ) (s : State) → IsAsk program (Some ask) → CallFits program (drawn s) ask (Num n ∷ [])
ask_fits program ask n s f = by (slice_get program ask) f
  where
    by : (o : Option NumProc) → MatchOption o ⊥ TakesOneNumber → MatchOption o ⊥ (λ (p : NumProc). ValsFit (drawn s) (kinds_of p.params) (Num n ∷ []))
    by None g = absurd g
    by (Some p) g = subst (λ (kinds : List Kind). ValsFit (drawn s) kinds (Num n ∷ [])) (sym g) (tt, tt)

kept_request_grows : (program : List NumProc) (q to : ℕ) (s : State) → Fits program s → Grows program s (with_request q to s)
kept_request_grows program q to s f = record {
  more = same_more (drawn s);
  fits = record {
    root = f.root;
    handlers = f.handlers;
    normal = f.normal;
    low = f.low;
    monitors = f.monitors;
    purposes = f.purposes;
    clock = f.clock;
    throttles = f.throttles;
    pipes = f.pipes;
    works = f.works;
  };
}

pub request_answered_grows : (program : List NumProc) (q : ℕ) (v : ℤ) (s : State) → Fits program s → Grows program s (noting (entry.Answer q v) (with_answered q s))
request_answered_grows program q v s f = record {
  more = same_more (drawn s);
  fits = record {
    root = f.root;
    handlers = f.handlers;
    normal = f.normal;
    low = f.low;
    monitors = f.monitors;
    purposes = f.purposes;
    clock = f.clock;
    throttles = f.throttles;
    pipes = f.pipes;
    works = f.works;
  };
}

-- a request comes
pub request_grows : (program : List NumProc) (ask q : ℕ) (n : ℤ) (s : State) → IsAsk program (Some ask) → Fits program s
    → Grows program s (request_arrived ask q n s)
request_grows program ask q n s serves f =
    let r : ℕ = next_ivar s
    in let kept : State = with_request q r (with_ivar s)
    in let noted : State = noting (entry.Request q n r) kept
    in let waits : State = register r at_root (AnswerOut q) noted
    in let one = ivar_grows program s f
    in let two = kept_request_grows program q r (with_ivar s) one.fits
    in let three = noted_grows program (entry.Request q n r) kept two.fits
    in let four = register_grows program r at_root (AnswerOut q) noted three.fits (record { monitor = three.fits.root; frame_fits = tt })
    in let drawn_r : r < length noted.cells.ivars = omega (arith, drawn_one s)
    in let five = enqueue_grows program at_root (plain_task (Call ask (Num n ∷ []) (To r))) waits four.fits
    (record {
      monitor = four.fits.root;
      frame_fits = (ask_fits program ask n waits serves, omega (arith, drawn_r, four.more.ivars));
    })
    in then_grows program s (with_ivar s) (request_arrived ask q n s) one
    (then_grows program (with_ivar s) kept (request_arrived ask q n s) two
    (then_grows program kept noted (request_arrived ask q n s) three
    (then_grows program noted waits (request_arrived ask q n s) four five)))
