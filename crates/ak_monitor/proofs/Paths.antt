-- A path begins with its monitor and goes on with the path of the parent.
use Rattle.std.proofs.Common.{ℕ, zero, suc, ◌+◌, ◌<◌, ◌≡◌, List, [], ◌∷◌, ◌++◌, length, take, drop, refl, ap, sym, ◌∙◌, subst, Bool, true, false, cond, arith, length-append, append_assoc, add-one, drop-cons}
use Rattle.std.specs.List.{All}
use Rattle.std.proofs.lemmas.Grind.{get_or-set_at, common_steps}
use Rattle.std.specs.Prelude.{◌==◌, ◌||◌, reverse, Option, Some, None}
use Rattle.std.proofs.lemmas.Bool.{eqb-true, eq-eqb, ne_eqb, false≢true, or_cases}
use Rattle.std.proofs.lemmas.List.{reverse-append, length-reverse, take-append-drop, length-take-le}
use Rattle.ak_monitor.specs.declared.route.Route.{Route}
use Rattle.ak_monitor.specs.Monitors.{Monitor, with_detached, monitor_in, path_down, path, first_detached, up_to, passed_on, route}
use Rattle.ak_monitor.specs.Trees.{IsTree}
use Rattle.ak_monitor.specs.Ways.{is_detached, IsWayTo, IsWay}

-- newer monitors stand on no path of an older one
path_down-older : {H : Type 0} (xs ys : List (Monitor H)) (m : ℕ) → m < length ys → path_down (xs ++ ys) m ≡ path_down ys m
path_down-older [] ys m h = refl
path_down-older (x ∷ xs) ys m h =
    let e : (m == length (xs ++ ys)) ≡ false = ne_eqb m (length (xs ++ ys)) (λ e. omega (arith, e, h, length-append xs ys))
    in ap (λ t. cond t (m ∷ path_down (xs ++ ys) (cond t x.parent m)) (path_down (xs ++ ys) (cond t x.parent m))) e
    ∙ path_down-older xs ys m h

path_down-here : {H : Type 0} (x : Monitor H) (older : List (Monitor H)) (m : ℕ) → m ≡ length older → path_down (x ∷ older) m ≡ m ∷ path_down older x.parent
path_down-here x older m e = ap (λ t. cond t (m ∷ path_down older (cond t x.parent m)) (path_down older (cond t x.parent m))) (eq-eqb m (length older) e)

-- the list of monitors, newest first, cut at one of them
cut : {H : Type 0} (ms : List (Monitor H)) (m : ℕ) → m < length ms → reverse ms ≡ reverse (drop (m + 1) ms) ++ (monitor_in ms m ∷ reverse (take m ms))
cut ms m h =
    let x = monitor_in ms m
    in ap reverse (sym (take-append-drop m ms) ∙ ap (λ r. take m ms ++ r) (rw add-one (drop-cons ms m _ h)))
    ∙ reverse-append (take m ms) (x ∷ drop (m + 1) ms)
    ∙ ap (λ r. r ++ reverse (take m ms)) (reverse-append (x ∷ []) (drop (m + 1) ms))
    ∙ append_assoc (reverse (drop (m + 1) ms)) (x ∷ []) (reverse (take m ms))

length-older : {H : Type 0} (ms : List (Monitor H)) (m : ℕ) → m < length ms → m ≡ length (reverse (take m ms))
length-older ms m h = omega (arith, length-reverse (take m ms), length-take-le m ms (omega (arith, h)))

-- the path of an older monitor is known from those that are older than m
path-older : {H : Type 0} (ms : List (Monitor H)) (m p : ℕ) → m < length ms → p < m → path ms p ≡ path_down (reverse (take m ms)) p
path-older ms m p h k =
    ap (λ r. path_down r p) (ap reverse (sym (take-append-drop m ms)) ∙ reverse-append (take m ms) (drop m ms))
    ∙ path_down-older (reverse (drop m ms)) (reverse (take m ms)) p (omega (arith, k, length-older ms m h))

-- a path begins with its monitor, and goes on with what is older than that
path-here : {H : Type 0} (ms : List (Monitor H)) (m : ℕ) → m < length ms → path ms m ≡ m ∷ path_down (reverse (take m ms)) (monitor_in ms m).parent
path-here ms m h =
    ap (λ r. path_down r m) (cut ms m h)
    ∙ path_down-older (reverse (drop (m + 1) ms)) (monitor_in ms m ∷ reverse (take m ms)) m (omega (arith, length-older ms m h))
    ∙ path_down-here (monitor_in ms m) (reverse (take m ms)) m (length-older ms m h)

-- below an older monitor
pub path_below : {H : Type 0} (ms : List (Monitor H)) (m : ℕ) → m < length ms → (monitor_in ms m).parent < m
    → path ms m ≡ m ∷ path ms (monitor_in ms m).parent
path_below ms m h k = path-here ms m h ∙ ap (λ r. m ∷ r) (sym (path-older ms m (monitor_in ms m).parent h k))

pub path_above : {H : Type 0} (ms : List (Monitor H)) (m : ℕ) → IsTree ms → m < length ms → 0 < m → path ms m ≡ m ∷ path ms (monitor_in ms m).parent
path_above ms m t h k = path_below ms m h (t.older m h k)

pub path_root : {H : Type 0} (ms : List (Monitor H)) (m : ℕ) → m < length ms → m ≡ 0 → path ms m ≡ m ∷ []
path_root ms m h e = path-here ms m h ∙ ap (λ k. m ∷ path_down (reverse (take k ms)) (monitor_in ms m).parent) e

-- what the first detached monitor of a path is, by whether the first monitor is
first_at-true : {H : Type 0} (ms : List (Monitor H)) (m : ℕ) (above : List ℕ) → is_detached ms m ≡ true → first_detached ms (m ∷ above) ≡ Some m
first_at-true ms m above e = ap (λ t. cond t (Some m) (first_detached ms above)) e

first_at-false : {H : Type 0} (ms : List (Monitor H)) (m : ℕ) (above : List ℕ) → is_detached ms m ≡ false → first_detached ms (m ∷ above) ≡ first_detached ms above
first_at-false ms m above e = ap (λ t. cond t (Some m) (first_detached ms above)) e

-- the way of an error along any path
abbrev pub way_along : {H : Type 0} → List (Monitor H) → List ℕ → Route
way_along ms way = record { passed = passed_on (first_detached ms way) way; caught = first_detached ms way }

some_is : (m c : ℕ) → Some m ≡ Some c → m ≡ c
some_is m c e = cc

-- the monitor that catches an error is detached
catcher_is_by : {H : Type 0} (t : Bool) (ms : List (Monitor H)) (m c : ℕ) (rest : Option ℕ) → is_detached ms m ≡ t → (rest ≡ Some c → is_detached ms c ≡ true) → cond t (Some m) rest ≡ Some c → is_detached ms c ≡ true
catcher_is_by true ms m c rest e f h = subst (λ (n : ℕ). is_detached ms n ≡ true) (some_is m c h) e
catcher_is_by false ms m c rest e f h = f h

catcher_is : {H : Type 0} (ms : List (Monitor H)) (way : List ℕ) (c : ℕ) → first_detached ms way ≡ Some c → is_detached ms c ≡ true
catcher_is ms [] c e = cc
catcher_is ms (m ∷ way) c e = catcher_is_by (is_detached ms m) ms m c (first_detached ms way) refl (catcher_is ms way c) e

-- an error that passes a monitor is not caught there
passed-above : {H : Type 0} (ms : List (Monitor H)) (m : ℕ) (above : List ℕ) (found : Option ℕ) → is_detached ms m ≡ false → first_detached ms above ≡ found → passed_on found (m ∷ above) ≡ suc (passed_on found above)
passed-above ms m above None e f = refl
passed-above ms m above (Some c) e f =
    let other : (m == c) ≡ false = ne_eqb m c (λ h. false≢true (sym e ∙ subst (λ (n : ℕ). is_detached ms n ≡ true) (sym h) (catcher_is ms above c f)))
    in ap (λ t. length (cond t (m ∷ []) (m ∷ up_to c above))) other

-- the way from a monitor that is not detached is one longer than the way from above
pub way_above : {H : Type 0} (ms : List (Monitor H)) (m : ℕ) (above : List ℕ) → is_detached ms m ≡ false → way_along ms (m ∷ above) ≡ record { passed = suc (way_along ms above).passed; caught = (way_along ms above).caught }
way_above ms m above e =
    rw (first_at-false ms m above e, passed-above ms m above (first_detached ms above) e refl) refl

-- the way from a monitor that is detached ends there
way_detached : {H : Type 0} (ms : List (Monitor H)) (m : ℕ) (above : List ℕ) → is_detached ms m ≡ true → way_along ms (m ∷ above) ≡ record { passed = 1; caught = Some m }
way_detached ms m above e =
    ap (λ c. record { passed = passed_on c (m ∷ above); caught = c }) (first_at-true ms m above e)
    ∙ ap (λ t. record { passed = length (cond t (m ∷ []) (m ∷ up_to m above)); caught = Some m }) (eq-eqb m m refl)

-- one more monitor before a list
all-cons : {X : Type 0} (P : X → Type 0) (x : X) (xs : List X) → P x → All P xs → All P (x ∷ xs)
all-cons P x xs p h zero d l = p
all-cons P x xs p h (suc k) d l = h k d (omega (arith, l))

is_way_past : {H : Type 0} (ms : List (Monitor H)) (m : ℕ) (above : List ℕ) (passed : ℕ) (caught : Option ℕ) → is_detached ms m ≡ false → IsWayTo ms above passed caught → IsWayTo ms (m ∷ above) (suc passed) caught
is_way_past ms m above passed None e h = (ap suc h.0, all-cons (λ n. is_detached ms n ≡ false) m above e h.1)
is_way_past ms m above passed (Some c) e h = (suc h.0, omega (arith, h.1), h.2, h.3, all-cons (λ n. is_detached ms n ≡ false) m (take h.0 above) e h.4)

is_way_by : {H : Type 0} (t : Bool) (ms : List (Monitor H)) (m : ℕ) (above : List ℕ) → is_detached ms m ≡ t → IsWay ms above (way_along ms above) → IsWay ms (m ∷ above) (way_along ms (m ∷ above))
is_way_by true ms m above e h =
    subst (λ (w : Route). IsWay ms (m ∷ above) w) (sym (way_detached ms m above e)) (0, refl, refl, e, λ k d l. absurd (omega (arith, l)))
is_way_by false ms m above e h =
    subst (λ (w : Route). IsWay ms (m ∷ above) w) (sym (way_above ms m above e))
    (is_way_past ms m above (way_along ms above).passed (way_along ms above).caught e h)

-- the way along a path is the one to the nearest detached monitor
pub is_way : {H : Type 0} (ms : List (Monitor H)) (way : List ℕ) → IsWay ms way (way_along ms way)
is_way ms [] = (refl, λ k d h. absurd (omega (arith, h)))
is_way ms (m ∷ above) = is_way_by (is_detached ms m) ms m above refl (is_way ms above)

-- the way of an error from a monitor that is neither the root nor detached
pub route_above : {H : Type 0} (ms : List (Monitor H)) (m p : ℕ) → path ms m ≡ m ∷ path ms p → is_detached ms m ≡ false → route ms m ≡ record { passed = suc (route ms p).passed; caught = (route ms p).caught }
route_above ms m p e f = ap (way_along ms) e ∙ way_above ms m (path ms p) f

route_end_by : {H : Type 0} (t : Bool) (ms : List (Monitor H)) (m : ℕ) → m < length ms → is_detached ms m ≡ t → (t ≡ false → m ≡ 0) → route ms m ≡ record { passed = 1; caught = cond t (Some m) None }
route_end_by true ms m h e z = ap (way_along ms) (path-here ms m h) ∙ way_detached ms m _ e
route_end_by false ms m h e z = ap (way_along ms) (path_root ms m h (z refl)) ∙ way_above ms m [] e

-- the way of an error from the root or a detached monitor
pub route_end : {H : Type 0} (ms : List (Monitor H)) (m : ℕ) → m < length ms → ((m == 0) || is_detached ms m) ≡ true → route ms m ≡ record { passed = 1; caught = cond (is_detached ms m) (Some m) None }
route_end ms m h e = route_end_by (is_detached ms m) ms m h refl (λ f. grind (arith, or_cases, eqb-true, e, f))

same_way : (a b : Route) → a.passed ≡ b.passed → a.caught ≡ b.caught → a ≡ b
same_way a b e f = ap (λ p. record { passed = p; caught = a.caught }) e ∙ ap (λ c. record { passed = b.passed; caught = c }) f

-- the way of an error from m, where it went on to an end of its path
pub route_found : {H : Type 0} (ms : List (Monitor H)) (m at passed : ℕ) → at < length ms → ((at == 0) || is_detached ms at) ≡ true → (route ms m).caught ≡ (route ms at).caught → (route ms m).passed + 1 ≡ (route ms at).passed + passed → record { passed = passed; caught = cond (is_detached ms at) (Some at) None } ≡ route ms m
route_found ms m at passed h end e f =
    let w = route_end ms at h end
    in same_way (record { passed = passed; caught = cond (is_detached ms at) (Some at) None }) (route ms m)
    (omega (arith, f, ap (λ r. r.passed) w)) (sym (e ∙ ap (λ r. r.caught) w))

caught_by : {H : Type 0} (ms : List (Monitor H)) (m : ℕ) → m < length ms → is_detached ms m ≡ true → route ms m ≡ record { passed = 1; caught = Some m }
caught_by ms m h e = ap (way_along ms) (path-here ms m h) ∙ way_detached ms m _ e

pub caught_at_once : {H : Type 0} (monitors : List (Monitor H)) (m : ℕ) → m < length monitors → route (with_detached m monitors) m ≡ record { passed = 1; caught = Some m }
caught_at_once ms m h =
    caught_by (with_detached m ms) m (grind (arith, common_steps)) (ap (λ x. x.detached) (get_or-set_at ms m m _ _ refl h))
