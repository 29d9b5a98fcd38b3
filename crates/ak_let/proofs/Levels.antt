-- The monitors of tries: who catches an error.
use Rattle.std.proofs.Common.{ℕ, suc, ◌+◌, ◌<◌, ◌≡◌, ◌≢◌, List, [], ◌∷◌, ◌++◌, length, take, drop, refl, ap, sym, ◌∙◌, subst, true, false, cond, ◌==◌, Some, None, arith, set, get_or-set_other, get_or-set_same, length-append, length-set, append_assoc, add-one, drop-cons}
use Rattle.std.specs.Prelude.{reverse}
use Rattle.std.proofs.Math.Seq.{get_or-append_seam}
use Rattle.std.proofs.lemmas.Bool.{eq-eqb, ne_eqb}
use Rattle.std.proofs.lemmas.List.{get_or_append_left, set-get_or, reverse-append, length-reverse, take-append-drop, length-take-le}
use Rattle.ak_base.specs.declared.number.Ctx.{Ctx}
use Rattle.ak_monitor.specs.Monitors.{Monitor, fresh_monitor, monitor_in, with_child, with_detached, with_handler, without_next_errors, path_down, path, first_detached, catcher, up_to}

-- newer monitors stand on no path of an older one
path_down-older : {H : Type 0} (xs ys : List (Monitor H)) (m : ℕ) → m < length ys → path_down (xs ++ ys) m ≡ path_down ys m
path_down-older [] ys m h = refl
path_down-older (x ∷ xs) ys m h =
    let e : (m == length (xs ++ ys)) ≡ false = ne_eqb m (length (xs ++ ys)) (λ e. omega (arith, e, h, length-append xs ys))
    in ap (λ t. cond t (m ∷ path_down (xs ++ ys) (cond t x.parent m)) (path_down (xs ++ ys) (cond t x.parent m))) e
    ∙ path_down-older xs ys m h

path_down-here : {H : Type 0} (x : Monitor H) (older : List (Monitor H)) (m : ℕ) → m ≡ length older → path_down (x ∷ older) m ≡ m ∷ path_down older x.parent
path_down-here x older m e = ap (λ t. cond t (m ∷ path_down older (cond t x.parent m)) (path_down older (cond t x.parent m))) (eq-eqb m (length older) e)

cut : {H : Type 0} (ms : List (Monitor H)) (m : ℕ) → m < length ms → reverse ms ≡ reverse (drop (m + 1) ms) ++ (monitor_in ms m ∷ reverse (take m ms))
cut ms m h =
    let x = monitor_in ms m
    in ap reverse (sym (take-append-drop m ms) ∙ ap (λ r. take m ms ++ r) (rw add-one (drop-cons ms m _ h)))
    ∙ reverse-append (take m ms) (x ∷ drop (m + 1) ms)
    ∙ ap (λ r. r ++ reverse (take m ms)) (reverse-append (x ∷ []) (drop (m + 1) ms))
    ∙ append_assoc (reverse (drop (m + 1) ms)) (x ∷ []) (reverse (take m ms))

length-older : {H : Type 0} (ms : List (Monitor H)) (m : ℕ) → m < length ms → m ≡ length (reverse (take m ms))
length-older ms m h = omega (arith, length-reverse (take m ms), length-take-le m ms (omega (arith, h)))

-- a path begins with its monitor
path-here : {H : Type 0} (ms : List (Monitor H)) (m : ℕ) → m < length ms → path ms m ≡ m ∷ path_down (reverse (take m ms)) (monitor_in ms m).parent
path-here ms m h =
    ap (λ r. path_down r m) (cut ms m h)
    ∙ path_down-older (reverse (drop (m + 1) ms)) (monitor_in ms m ∷ reverse (take m ms)) m (omega (arith, length-older ms m h))
    ∙ path_down-here (monitor_in ms m) (reverse (take m ms)) m (length-older ms m h)

-- a detached monitor catches what is raised in it
pub catches : {H : Type 0} (ms : List (Monitor H)) (m : ℕ) → m < length ms → (monitor_in ms m).detached ≡ true → catcher ms m ≡ Some m
catches ms m h e =
    ap (first_detached ms) (path-here ms m h)
    ∙ ap (λ t. cond t (Some m) (first_detached ms (path_down (reverse (take m ms)) (monitor_in ms m).parent))) e

pub way_up : {H : Type 0} (ms : List (Monitor H)) (m : ℕ) → m < length ms → up_to m (path ms m) ≡ m ∷ []
way_up ms m h =
    ap (up_to m) (path-here ms m h)
    ∙ ap (λ t. cond t (m ∷ []) (m ∷ up_to m (path_down (reverse (take m ms)) (monitor_in ms m).parent))) (eq-eqb m m refl)

-- nobody catches what is raised in the root
pub root_catches_none : {H : Type 0} (ms : List (Monitor H)) → 0 < length ms → (monitor_in ms 0).detached ≡ false → catcher ms 0 ≡ None
root_catches_none ms h e =
    ap (first_detached ms) (path-here ms 0 h)
    ∙ ap (λ t. cond t (Some 0) None) e

-- next errors that are none are taken away
pub none_taken : {H : Type 0} (ms : List (Monitor H)) (m : ℕ) → (monitor_in ms m).next_errors ≡ [] → without_next_errors m ms ≡ ms
none_taken ms m e =
    let x = monitor_in ms m
    in ap (λ l. set ms m (record x { next_errors = l })) (sym e) ∙ set-get_or ms m (fresh_monitor 0)

-- the monitors after one more child, detached, with one handler
abbrev pub with_guard : {H : Type 0} → ℕ → Ctx → H → List (Monitor H) → List (Monitor H)
with_guard m ctx h ms = with_handler (length ms) ctx h (with_detached (length ms) (with_child m ms))

child_there : {H : Type 0} (m : ℕ) (ms : List (Monitor H)) → length ms < length (with_child m ms)
child_there m ms = omega (arith, length-append ms (fresh_monitor m ∷ []))

pub guard_length : {H : Type 0} (m : ℕ) (ctx : Ctx) (h : H) (ms : List (Monitor H)) → length (with_guard m ctx h ms) ≡ suc (length ms)
guard_length m ctx h ms =
    length-set (with_detached (length ms) (with_child m ms)) (length ms) _
    ∙ length-set (with_child m ms) (length ms) _
    ∙ omega (arith, length-append ms (fresh_monitor m ∷ []))

pub guard_here : {H : Type 0} (m : ℕ) (ctx : Ctx) (h : H) (ms : List (Monitor H))
    → monitor_in (with_guard m ctx h ms) (length ms) ≡ record { parent = m; detached = true; handlers = (ctx, h) ∷ []; next_errors = [] }
guard_here {H} m ctx h ms =
    let n : ℕ = length ms
    in let one : List (Monitor H) = with_child m ms
    in let two : List (Monitor H) = with_detached n one
    in let a : monitor_in one n ≡ fresh_monitor m = get_or-append_seam ms (fresh_monitor m) [] (fresh_monitor 0)
    in let b : monitor_in two n ≡ record (fresh_monitor m) { detached = true } =
    get_or-set_same one n _ (fresh_monitor 0) (child_there m ms) ∙ ap (λ (x : Monitor H). record x { detached = true }) a
    in get_or-set_same two n _ (fresh_monitor 0) (subst (λ k. n < k) (sym (length-set one n _)) (child_there m ms))
    ∙ ap (λ (x : Monitor H). record x { handlers = x.handlers ++ (ctx, h) ∷ [] }) b

pub guard_other : {H : Type 0} (m : ℕ) (ctx : Ctx) (h : H) (ms : List (Monitor H)) (j : ℕ) → j < length ms
    → monitor_in (with_guard m ctx h ms) j ≡ monitor_in ms j
guard_other m ctx h ms j l =
    let n : ℕ = length ms
    in let d : j ≢ n = λ e. omega (arith, e, l)
    in get_or-set_other (with_detached n (with_child m ms)) n j _ (fresh_monitor 0) d
    ∙ get_or-set_other (with_child m ms) n j _ (fresh_monitor 0) d
    ∙ get_or_append_left ms (fresh_monitor m ∷ []) (fresh_monitor 0) j l
