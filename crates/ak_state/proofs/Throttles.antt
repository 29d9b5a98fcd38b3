-- Throttles and their bodies with mapped names, and what each step of them does to the state that the parts stand for.
use Rattle.std.proofs.Common.{◌≡◌, ℕ, zero, suc, ◌+◌, ◌<◌, List, [], ◌∷◌, ◌++◌, length, map, take, refl, ap, sym, ◌∙◌, arith, Bool, true, false, cond}
use Rattle.std.specs.Prelude.{◌&&◌, Option, Some, None, count_by, filter, nat_lt, slice_get, slice_set, slice_index_or}
use Rattle.std.specs.Option.{option_map}
use Rattle.std.specs.List.{list_all}
use Rattle.std.proofs.lemmas.List.{map-append, map-set, length-map, take-map, get_or-map as within_mapped}
use Rattle.std.proofs.lemmas.List.Sums.{sum_by-cons}
use Rattle.std.proofs.Math.ListN.{get_or-map}
use Rattle.ak_base.specs.Lists.{first_of, rest_of, without_first}
use Rattle.ak_cells.specs.Names.{name_in, trimmed}
use Rattle.ak_cells.specs.Rooms.{NamedCells}
use Rattle.ak_frames.specs.declared.frame.BodyId.{BodyId}
use Rattle.ak_frames.specs.declared.frame.Frame.{Frame}
use Rattle.ak_frames.specs.declared.frame.Task.{Task}
use Rattle.ak_rings.specs.Queues.{Queues}
use Rattle.ak_trace.specs.declared.entry.Entry.{Entry}
use Rattle.ak_throttle.specs.declared.stage.Stage.{Stage}
use Rattle.ak_throttle.specs.declared.stage.Stage.TheVariants.{Waiting, Running, Over}
use Rattle.ak_throttle.specs.declared.stage.Mark.{Mark}
use Rattle.ak_throttle.specs.declared.answer.Enqueued.TheVariants.{Start, Waits}
use Rattle.ak_throttle.specs.Throttle.{Throttle, is_running, is_over, has_room, placed, enqueued, with_stage, front_waiting, started_at, body_over, started_by_end, after_end, never_started, waiting_bodies, killed, started_by_failure, after_failure, dropped_taken, is_done, with_mark, awaited, is_satisfied, ivar_of, next_satisfied, satisfied_taken, fresh_throttle}
use Rattle.ak_machine.specs.declared.held.Body.{Body}
use Rattle.ak_machine.specs.declared.held.Fate.{Fate}
use Rattle.ak_machine.specs.declared.held.Fate.TheVariants as fates
use Rattle.ak_machine.specs.declared.held.Started.{Started}
use Rattle.ak_machine.specs.State.{State}
use Rattle.ak_machine.specs.Mapped.{body_mapped, stage_mapped, mark_mapped, throttle_mapped, started_mapped, all_started_mapped, state_named}
use Rattle.ak_machine.specs.Throttles.{no_throttle, no_started, with_throttle, with_started, with_fate}
use Rattle.ak_streams.specs.Throttles.{with_fate_at}
use Rattle.ak_state.specs.Seen.{seen, doing, raw_state}
use Rattle.ak_state.specs.Bodies.{stepped, placed_mapped, front_mapped, undecided_of, is_failing}
use Rattle.ak_state.proofs.Stands.{seen_as}

-- ---- lists that are mapped, and tests that a map keeps
pub filter_mapped : {A B : Type 0} (g : A → B) (p : B → Bool) (q : A → Bool) → ((x : A) → p (g x) ≡ q x) → (xs : List A)
    → filter p (map g xs) ≡ map g (filter q xs)
filter_mapped g p q e [] = refl
filter_mapped g p q e (x ∷ xs) =
    ap (λ b. cond b (g x ∷ filter p (map g xs)) (filter p (map g xs))) (e x) ∙ by (q x) (filter_mapped g p q e xs)
  where
    by : (b : Bool) → filter p (map g xs) ≡ map g (filter q xs)
        → cond b (g x ∷ filter p (map g xs)) (filter p (map g xs)) ≡ map g (cond b (x ∷ filter q xs) (filter q xs))
    by true r = ap (λ ys. g x ∷ ys) r
    by false r = r

pub first_without : {A B : Type 0} (g : A → B) (p : B → Bool) (q : A → Bool) → ((x : A) → p (g x) ≡ q x) → (xs : List A)
    → map g (without_first q xs) ≡ without_first p (map g xs)
first_without g p q e [] = refl
first_without g p q e (x ∷ xs) =
    by (q x) (first_without g p q e xs) ∙ ap (λ b. cond b (map g xs) (g x ∷ without_first p (map g xs))) (sym (e x))
  where
    by : (b : Bool) → map g (without_first q xs) ≡ without_first p (map g xs)
        → map g (cond b xs (x ∷ without_first q xs)) ≡ cond b (map g xs) (g x ∷ without_first p (map g xs))
    by true r = refl
    by false r = ap (λ ys. g x ∷ ys) r

all_mapped : {A B : Type 0} (g : A → B) (p : B → Bool) (q : A → Bool) → ((x : A) → p (g x) ≡ q x) → (xs : List A)
    → list_all p (map g xs) ≡ list_all q xs
all_mapped g p q e [] = refl
all_mapped g p q e (x ∷ xs) = ap (λ b. b && list_all p (map g xs)) (e x) ∙ ap (λ r. q x && r) (all_mapped g p q e xs)

abbrev one_if : Bool → ℕ
one_if b = cond b 1 0

count_mapped : {A B : Type 0} (g : A → B) (p : B → Bool) (q : A → Bool) → ((x : A) → p (g x) ≡ q x) → (xs : List A)
    → count_by p (map g xs) ≡ count_by q xs
count_mapped g p q e [] = refl
count_mapped g p q e (x ∷ xs) =
    let one : one_if (p (g x)) ≡ one_if (q x) = ap one_if (e x)
    in omega (
      arith,
      one,
      count_mapped g p q e xs,
      sum_by-cons (λ y. one_if (p y)) (g x) (map g xs),
      sum_by-cons (λ y. one_if (q y)) x xs,
    )

pub front_of_map : {A B : Type 0} (g : A → B) (xs : List A) → option_map g (first_of xs) ≡ first_of (map g xs)
front_of_map g [] = refl
front_of_map g (x ∷ xs) = refl

pub rest_of_map : {A B : Type 0} (g : A → B) (xs : List A) → map g (rest_of xs) ≡ rest_of (map g xs)
rest_of_map g [] = refl
rest_of_map g (x ∷ xs) = refl

-- ---- a body keeps how far it came
runs_mapped : (f : ℕ → ℕ) (x : Stage Body) → is_running (stage_mapped f x) ≡ is_running x
runs_mapped f (Waiting body) = refl
runs_mapped f Running = refl
runs_mapped f Over = refl

over_mapped : (f : ℕ → ℕ) (x : Stage Body) → is_over (stage_mapped f x) ≡ is_over x
over_mapped f (Waiting body) = refl
over_mapped f Running = refl
over_mapped f Over = refl

-- ---- each step of a throttle with mapped names
room_mapped : (f : ℕ → ℕ) (x : Throttle Body) → has_room (throttle_mapped f x) ≡ has_room x
room_mapped f x = ap (λ n. nat_lt n x.most) (count_mapped (stage_mapped f) is_running is_running (runs_mapped f) x.bodies)

pub enqueued_mapped : (f : ℕ → ℕ) (body : Body) (x : Throttle Body)
    → throttle_mapped f (enqueued body x) ≡ enqueued (body_mapped f body) (throttle_mapped f x)
enqueued_mapped f body x =
    ap (λ stages. record (throttle_mapped f x) { bodies = stages })
    (map-append (stage_mapped f) x.bodies (cond (has_room x) Running (Waiting body) ∷ [])
    ∙ ap (λ stage. map (stage_mapped f) x.bodies ++ stage ∷ [])
    (by (has_room x) ∙ ap (λ b. cond b Running (Waiting (body_mapped f body))) (sym (room_mapped f x))))
  where
    by : (b : Bool) → stage_mapped f (cond b Running (Waiting body)) ≡ cond b Running (Waiting (body_mapped f body))
    by true = refl
    by false = refl

pub placed_same : (f : ℕ → ℕ) (body : Body) (x : Throttle Body)
    → placed_mapped f (placed body x) ≡ placed (body_mapped f body) (throttle_mapped f x)
placed_same f body x =
    let n : ℕ = length x.bodies
    in by n (has_room x)
    ∙ ap (λ b. cond b (Start n (body_mapped f body)) (Waits n)) (sym (room_mapped f x))
    ∙ ap (λ m. cond (has_room (throttle_mapped f x)) (Start m (body_mapped f body)) (Waits m)) (sym (length-map x.bodies (stage_mapped f)))
  where
    by : (n : ℕ) (b : Bool) → placed_mapped f (cond b (Start n body) (Waits n)) ≡ cond b (Start n (body_mapped f body)) (Waits n)
    by n true = refl
    by n false = refl

stage_set : (f : ℕ → ℕ) (n : ℕ) (stage : Stage Body) (x : Throttle Body)
    → throttle_mapped f (with_stage n stage x) ≡ with_stage n (stage_mapped f stage) (throttle_mapped f x)
stage_set f n stage x = ap (λ stages. record (throttle_mapped f x) { bodies = stages }) (map-set (stage_mapped f) x.bodies n stage)

fronts_mapped : (f : ℕ → ℕ) (k : ℕ) (stages : List (Stage Body))
    → front_waiting k (map (stage_mapped f) stages) ≡ option_map (front_mapped f) (front_waiting k stages)
fronts_mapped f k [] = refl
fronts_mapped f k (Waiting body ∷ stages) = refl
fronts_mapped f k (Running ∷ stages) = fronts_mapped f (k + 1) stages
fronts_mapped f k (Over ∷ stages) = fronts_mapped f (k + 1) stages

pub end_front : (f : ℕ → ℕ) (n : ℕ) (x : Throttle Body)
    → option_map (front_mapped f) (started_by_end n x) ≡ started_by_end n (throttle_mapped f x)
end_front f n x =
    sym (ap (front_waiting 0) (sym (map-set (stage_mapped f) x.bodies n Over)) ∙ fronts_mapped f 0 (slice_set x.bodies n Over))

front_starts : (f : ℕ → ℕ) (o : Option (ℕ × Body)) (x : Throttle Body)
    → throttle_mapped f (started_at o x) ≡ started_at (option_map (front_mapped f) o) (throttle_mapped f x)
front_starts f None x = refl
front_starts f (Some front) x = stage_set f front.0 Running x

pub end_mapped : (f : ℕ → ℕ) (n : ℕ) (x : Throttle Body) → throttle_mapped f (after_end n x) ≡ after_end n (throttle_mapped f x)
end_mapped f n x =
    front_starts f (started_by_end n x) (body_over n x)
    ∙ ap (λ o. started_at o (throttle_mapped f (body_over n x))) (end_front f n x)
    ∙ ap (started_at (started_by_end n (throttle_mapped f x))) (stage_set f n Over x)

never_mapped : (f : ℕ → ℕ) (stages : List (Stage Body))
    → map (stage_mapped f) (map never_started stages) ≡ map never_started (map (stage_mapped f) stages)
never_mapped f [] = refl
never_mapped f (Waiting body ∷ stages) = ap (λ r. Over ∷ r) (never_mapped f stages)
never_mapped f (Running ∷ stages) = ap (λ r. Running ∷ r) (never_mapped f stages)
never_mapped f (Over ∷ stages) = ap (λ r. Over ∷ r) (never_mapped f stages)

waiting_mapped : (f : ℕ → ℕ) (stages : List (Stage Body))
    → map (body_mapped f) (waiting_bodies stages) ≡ waiting_bodies (map (stage_mapped f) stages)
waiting_mapped f [] = refl
waiting_mapped f (Waiting body ∷ stages) = ap (λ r. body_mapped f body ∷ r) (waiting_mapped f stages)
waiting_mapped f (Running ∷ stages) = waiting_mapped f stages
waiting_mapped f (Over ∷ stages) = waiting_mapped f stages

killed_mapped : (f : ℕ → ℕ) (x : Throttle Body) → throttle_mapped f (killed x) ≡ killed (throttle_mapped f x)
killed_mapped f x =
    ap (λ stages. record (throttle_mapped f (killed x)) { bodies = stages }) (never_mapped f x.bodies)
    ∙ ap (λ bodies. record (killed (throttle_mapped f x)) { dropped = bodies })
    (map-append (body_mapped f) x.dropped (waiting_bodies x.bodies)
    ∙ ap (λ r. map (body_mapped f) x.dropped ++ r) (waiting_mapped f x.bodies))

pub failure_mapped : (f : ℕ → ℕ) (n : ℕ) (x : Throttle Body)
    → throttle_mapped f (after_failure n x) ≡ after_failure n (throttle_mapped f x)
failure_mapped f n x = by x.stop
  where
    by : (b : Bool) → throttle_mapped f (cond b (killed (body_over n x)) (after_end n x))
        ≡ cond b (killed (body_over n (throttle_mapped f x))) (after_end n (throttle_mapped f x))
    by true = killed_mapped f (body_over n x) ∙ ap killed (stage_set f n Over x)
    by false = end_mapped f n x

pub failure_front : (f : ℕ → ℕ) (n : ℕ) (x : Throttle Body)
    → option_map (front_mapped f) (started_by_failure n x) ≡ started_by_failure n (throttle_mapped f x)
failure_front f n x = by x.stop
  where
    by : (b : Bool) → option_map (front_mapped f) (cond b None (started_by_end n x)) ≡ cond b None (started_by_end n (throttle_mapped f x))
    by true = refl
    by false = end_front f n x

pub dropped_mapped : (f : ℕ → ℕ) (x : Throttle Body) → throttle_mapped f (dropped_taken x) ≡ dropped_taken (throttle_mapped f x)
dropped_mapped f x = ap (λ bodies. record (throttle_mapped f x) { dropped = bodies }) (rest_of_map (body_mapped f) x.dropped)

pub done_mapped : (f : ℕ → ℕ) (x : Throttle Body) → is_done (throttle_mapped f x) ≡ is_done x
done_mapped f x = all_mapped (stage_mapped f) is_over is_over (over_mapped f) x.bodies

mark_added : (f : ℕ → ℕ) (i : ℕ) (x : Throttle Body) → throttle_mapped f (with_mark i x) ≡ with_mark (f i) (throttle_mapped f x)
mark_added f i x =
    ap (λ marks. record (throttle_mapped f x) { marks = marks })
    (map-append (mark_mapped f) x.marks (record { ivar = i; count = length x.bodies } ∷ [])
    ∙ ap (λ n. map (mark_mapped f) x.marks ++ record { ivar = f i; count = n } ∷ []) (sym (length-map x.bodies (stage_mapped f))))

pub awaited_mapped : (f : ℕ → ℕ) (i : ℕ) (x : Throttle Body) → throttle_mapped f (awaited i x) ≡ awaited (f i) (throttle_mapped f x)
awaited_mapped f i x =
    by (is_done x) ∙ ap (λ b. cond b (throttle_mapped f x) (with_mark (f i) (throttle_mapped f x))) (sym (done_mapped f x))
  where
    by : (b : Bool) → throttle_mapped f (cond b x (with_mark i x)) ≡ cond b (throttle_mapped f x) (with_mark (f i) (throttle_mapped f x))
    by true = refl
    by false = mark_added f i x

satisfied_mapped : (f : ℕ → ℕ) (stages : List (Stage Body)) (mark : Mark)
    → is_satisfied (map (stage_mapped f) stages) (mark_mapped f mark) ≡ is_satisfied stages mark
satisfied_mapped f stages mark =
    ap (list_all is_over) (take-map (stage_mapped f) mark.count stages)
    ∙ all_mapped (stage_mapped f) is_over is_over (over_mapped f) (take mark.count stages)

first_mark : (f : ℕ → ℕ) (marks : List Mark) → option_map f (ivar_of (first_of marks)) ≡ ivar_of (first_of (map (mark_mapped f) marks))
first_mark f [] = refl
first_mark f (mark ∷ marks) = refl

pub next_mapped : (f : ℕ → ℕ) (x : Throttle Body)
    → option_map f (ivar_of (next_satisfied x)) ≡ ivar_of (next_satisfied (throttle_mapped f x))
next_mapped f x =
    first_mark f (filter (is_satisfied x.bodies) x.marks)
    ∙ ap (λ marks. ivar_of (first_of marks))
    (sym (filter_mapped (mark_mapped f) (is_satisfied (map (stage_mapped f) x.bodies)) (is_satisfied x.bodies) (satisfied_mapped f x.bodies) x.marks))

pub taken_mapped : (f : ℕ → ℕ) (x : Throttle Body) → throttle_mapped f (satisfied_taken x) ≡ satisfied_taken (throttle_mapped f x)
taken_mapped f x =
    ap (λ marks. record (throttle_mapped f x) { marks = marks })
    (first_without (mark_mapped f) (is_satisfied (map (stage_mapped f) x.bodies)) (is_satisfied x.bodies) (satisfied_mapped f x.bodies) x.marks)

-- ---- a throttle of the state
pub throttle_seen : (f : ℕ → ℕ) (xs : List (Throttle Body)) (t : ℕ)
    → slice_index_or (map (throttle_mapped f) xs) t no_throttle ≡ throttle_mapped f (slice_index_or xs t no_throttle)
throttle_seen f xs t = get_or-map (throttle_mapped f) xs t no_throttle

-- the state after a step of a throttle
pub seen_stepped : (cells : NamedCells Frame) (q : Queues Task) (t : List Entry) (lists : State) (k : ℕ) (step step' : Throttle Body → Throttle Body)
    → ((x : Throttle Body) → throttle_mapped (name_in (trimmed cells.names)) (step x) ≡ step' (throttle_mapped (name_in (trimmed cells.names)) x))
    → seen cells q t (record lists { throttles = slice_set lists.throttles k (step (slice_index_or lists.throttles k no_throttle)) })
    ≡ doing (stepped step' k) (seen cells q t lists)
seen_stepped cells q t lists k step step' e =
    let f : ℕ → ℕ = name_in (trimmed cells.names)
    in let x : Throttle Body = slice_index_or lists.throttles k no_throttle
    in ap (λ xs. seen_as (trimmed cells.names) (record (state_named f (raw_state cells q t lists)) { throttles = xs }))
    (map-set (throttle_mapped f) lists.throttles k (step x)
    ∙ ap (slice_set (map (throttle_mapped f) lists.throttles) k) (e x ∙ ap step' (sym (throttle_seen f lists.throttles k))))

pub seen_fresh_throttle : (cells : NamedCells Frame) (q : Queues Task) (t : List Entry) (lists : State) (most : ℕ) (stop : Bool)
    → seen cells q t (record lists { throttles = lists.throttles ++ fresh_throttle most stop ∷ []; started = lists.started ++ [] ∷ [] })
    ≡ doing (with_throttle most stop) (seen cells q t lists)
seen_fresh_throttle cells q t lists most stop =
    let f : ℕ → ℕ = name_in (trimmed cells.names)
    in let s : State = state_named f (raw_state cells q t lists)
    in ap (λ xs. seen_as (trimmed cells.names) (record s { throttles = xs; started = map (all_started_mapped f) (lists.started ++ [] ∷ []) }))
    (map-append (throttle_mapped f) lists.throttles (fresh_throttle most stop ∷ []))
    ∙ ap (λ xs. seen_as (trimmed cells.names) (record s { throttles = s.throttles ++ fresh_throttle most stop ∷ []; started = xs }))
    (map-append (all_started_mapped f) lists.started ([] ∷ []))

-- ---- bodies that have started
started_seen : (f : ℕ → ℕ) (xs : List (List Started)) (t : ℕ)
    → slice_index_or (map (all_started_mapped f) xs) t [] ≡ all_started_mapped f (slice_index_or xs t [])
started_seen f xs t = get_or-map (all_started_mapped f) xs t []

-- the state with other bodies of one throttle
seen_bodies : (cells : NamedCells Frame) (q : Queues Task) (t : List Entry) (lists : State) (k : ℕ) (bodies bodies' : List Started)
    → all_started_mapped (name_in (trimmed cells.names)) bodies ≡ bodies'
    → seen cells q t (record lists { started = slice_set lists.started k bodies })
    ≡ doing (λ s. record s { started = slice_set s.started k bodies' }) (seen cells q t lists)
seen_bodies cells q t lists k bodies bodies' e =
    let f : ℕ → ℕ = name_in (trimmed cells.names)
    in ap (λ xs. seen_as (trimmed cells.names) (record (state_named f (raw_state cells q t lists)) { started = xs }))
    (map-set (all_started_mapped f) lists.started k bodies ∙ ap (slice_set (map (all_started_mapped f) lists.started) k) e)

pub seen_start : (cells : NamedCells Frame) (q : Queues Task) (t : List Entry) (lists : State) (k : ℕ) (body : Started)
    → seen cells q t (record lists { started = slice_set lists.started k (slice_index_or lists.started k [] ++ body ∷ []) })
    ≡ doing (with_started k (started_mapped (name_in (trimmed cells.names)) body)) (seen cells q t lists)
seen_start cells q t lists k body =
    let f : ℕ → ℕ = name_in (trimmed cells.names)
    in seen_bodies cells q t lists k (slice_index_or lists.started k [] ++ body ∷ []) _
    (map-append (started_mapped f) (slice_index_or lists.started k []) (body ∷ [])
    ∙ ap (λ bodies. bodies ++ started_mapped f body ∷ []) (sym (started_seen f lists.started k)))

-- a body that came so far
fate_mapped : (f : ℕ → ℕ) (k : ℕ) (fate : Fate) (bodies : List Started) → k < length bodies
    → map (started_mapped f) (with_fate_at k fate bodies) ≡ with_fate_at k fate (map (started_mapped f) bodies)
fate_mapped f k fate bodies h =
    map-set (started_mapped f) bodies k (record (slice_index_or bodies k no_started) { fate = fate })
    ∙ ap (λ (x : Started). slice_set (map (started_mapped f) bodies) k (record x { fate = fate }))
    (sym (within_mapped (started_mapped f) bodies k no_started no_started h))

pub seen_fate : (cells : NamedCells Frame) (q : Queues Task) (t : List Entry) (lists : State) (b : BodyId) (fate : Fate)
    → b.no < length (slice_index_or lists.started b.throttle [])
    → seen cells q t (record lists { started = slice_set lists.started b.throttle (with_fate_at b.no fate (slice_index_or lists.started b.throttle [])) })
    ≡ doing (with_fate fate b) (seen cells q t lists)
seen_fate cells q t lists b fate h =
    let f : ℕ → ℕ = name_in (trimmed cells.names)
    in seen_bodies cells q t lists b.throttle (with_fate_at b.no fate (slice_index_or lists.started b.throttle [])) _
    (fate_mapped f b.no fate (slice_index_or lists.started b.throttle []) h
    ∙ ap (with_fate_at b.no fate) (sym (started_seen f lists.started b.throttle)))

pub started_long : (f : ℕ → ℕ) (xs : List (List Started)) (t : ℕ)
    → length (slice_index_or (map (all_started_mapped f) xs) t []) ≡ length (slice_index_or xs t [])
started_long f xs t = ap length (started_seen f xs t) ∙ length-map (slice_index_or xs t []) (started_mapped f)

-- one body, by whether it is there
here_by : (f : ℕ → ℕ) (bodies : List Started) (k : ℕ) (x : Started) → slice_get bodies k ≡ Some x
    → slice_index_or (map (started_mapped f) bodies) k no_started ≡ started_mapped f x
here_by f [] k x e = absurd (cc)
here_by f (y ∷ bodies) zero x e = let same : y ≡ x = cc in ap (started_mapped f) same
here_by f (y ∷ bodies) (suc k) x e = here_by f bodies k x e

gone_by : (f : ℕ → ℕ) (bodies : List Started) (k : ℕ) → slice_get bodies k ≡ None
    → slice_index_or (map (started_mapped f) bodies) k no_started ≡ no_started
gone_by f [] k e = refl
gone_by f (y ∷ bodies) zero e = absurd (cc)
gone_by f (y ∷ bodies) (suc k) e = gone_by f bodies k e

pub body_here : (f : ℕ → ℕ) (xs : List (List Started)) (b : BodyId) (x : Started) → slice_get (slice_index_or xs b.throttle []) b.no ≡ Some x
    → slice_index_or (slice_index_or (map (all_started_mapped f) xs) b.throttle []) b.no no_started ≡ started_mapped f x
body_here f xs b x e =
    ap (λ bodies. slice_index_or bodies b.no no_started) (started_seen f xs b.throttle) ∙ here_by f (slice_index_or xs b.throttle []) b.no x e

pub body_gone : (f : ℕ → ℕ) (xs : List (List Started)) (b : BodyId) → slice_get (slice_index_or xs b.throttle []) b.no ≡ None
    → slice_index_or (slice_index_or (map (all_started_mapped f) xs) b.throttle []) b.no no_started ≡ no_started
body_gone f xs b e =
    ap (λ bodies. slice_index_or bodies b.no no_started) (started_seen f xs b.throttle) ∙ gone_by f (slice_index_or xs b.throttle []) b.no e

-- where it is there it is undecided by its fate
pub of_fate : (f : ℕ → ℕ) (fate : Fate) (xs : List (List Started)) (b : BodyId) (x : Started) → slice_get (slice_index_or xs b.throttle []) b.no ≡ Some x
    → x.fate ≡ fate
    → undecided_of (slice_index_or (slice_index_or (map (all_started_mapped f) xs) b.throttle []) b.no no_started).fate
    (slice_index_or (slice_index_or (map (all_started_mapped f) xs) b.throttle []) b.no no_started) ≡ undecided_of fate (started_mapped f x)
of_fate f fate xs b x e k =
    ap (λ (y : Started). undecided_of y.fate y) (body_here f xs b x e) ∙ ap (λ (g : Fate). undecided_of g (started_mapped f x)) k

pub fails_here : (f : ℕ → ℕ) (fate : Fate) (xs : List (List Started)) (b : BodyId) (x : Started)
    → slice_get (slice_index_or xs b.throttle []) b.no ≡ Some x → x.fate ≡ fate
    → is_failing (slice_index_or (slice_index_or (map (all_started_mapped f) xs) b.throttle []) b.no no_started).fate ≡ is_failing fate
fails_here f fate xs b x e k = ap (λ (y : Started). is_failing y.fate) (body_here f xs b x e) ∙ ap is_failing k

pub no_failing : (fate : Fate) → (fate ≡ fates.Failing → ⊥) → is_failing fate ≡ false
no_failing fates.Undecided h = refl
no_failing fates.Failing h = absurd (h refl)
no_failing fates.Over h = refl
