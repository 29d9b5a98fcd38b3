-- Which works are out.
use Rattle.std.proofs.Common.{◌≡◌, ◌≢◌, ℕ, true, false, List, [], ◌∷◌, ◌++◌, sym, ap, ◌∙◌, append-nil, arith}
use Rattle.std.specs.Prelude.{not, filter, Option}
use Rattle.std.specs.List.{filter_map, flat_map}
use Rattle.std.proofs.lemmas.Bool.{false_from_ne_true}
use Rattle.std.proofs.lemmas.List.Elements.{filter_map-append}
use Rattle.std.proofs.lemmas.Grind.{flat_map-append}
use Rattle.ak_labor.specs.declared.work.Work.{Work}
use Rattle.ak_labor.specs.Waits.{Handed, handed_by, is_out, outstanding}
use Rattle.ak_history.specs.declared.event.Event.{Event}
use Rattle.ak_history.specs.declared.event.Event.TheVariants as event
use Rattle.ak_history.specs.Events.{handed, handed_in, begun, finished, drained_in, reserved_in, is_among, is_begun, is_finished}
use Rattle.ak_history.specs.Legal.{Legal, IsLegalAfter}
use Rattle.ak_history.specs.Scheduler.{asks, replies}
use Rattle.ak_pool.proofs.Items.{filter_last}
use Rattle.ak_pool.proofs.Noting.{legal_next}
use Rattle.ak_pool.proofs.Works.{fresh_unbegun}
use Rattle.ak_history_laws.proofs.Legals.{left_by}
use Rattle.ak_history_laws.proofs.Arrivals.{handed_alike, brought_is}
use Rattle.ak_history_laws.proofs.Once.{each_among, each_finished}

-- the next work was not drained before it was handed in
not_drained : (threads askers : ℕ) (xs : List Event) (id : ℕ) (work : Work) (helper : Option ℕ) → Legal threads askers xs
    → IsLegalAfter threads askers xs (event.Submit id work helper) → is_among (flat_map drained_in xs) id ≡ false
not_drained threads askers xs id work helper h is =
    let st = (left_by threads askers xs h).stands in
    let fresh : is_begun xs id ≡ false = fresh_unbegun (handed xs) (filter_map reserved_in xs) (begun xs) id st.numbered
    (omega (arith, is.rule.0, st.handed_all)) st.begun_once in
    false_from_ne_true (is_among (flat_map drained_in xs) id)
    (λ drained.
    let done : is_finished xs id ≡ true = each_among (λ n. is_finished xs n ≡ true) (flat_map drained_in xs) id st.finished_first drained in
    let started : is_begun xs id ≡ true = each_finished (λ n. is_begun xs n ≡ true) (finished xs) id st.begun_first done in
    absurd (cc (fresh, started)))

some_last : {A : Type 0} (xs : List A) (x : A) → xs ++ x ∷ [] ≢ []
some_last [] x = λ e. absurd (cc e)
some_last (y ∷ xs) x = λ e. absurd (cc e)

-- a work is out once it is handed in
pub out_now : (threads askers : ℕ) (xs : List Event) (id : ℕ) (work : Work) (helper : Option ℕ) → Legal threads askers xs
    → IsLegalAfter threads askers xs (event.Submit id work helper)
    → outstanding (asks (xs ++ event.Submit id work helper ∷ [])) (replies askers (xs ++ event.Submit id work helper ∷ [])) ≢ []
out_now threads askers xs id work helper h is =
    let all = xs ++ event.Submit id work helper ∷ [] in
    let w : Handed = record { id = id; work = work; helper = helper } in
    let drained : flat_map drained_in all ≡ flat_map drained_in xs = flat_map-append drained_in xs (event.Submit id work helper ∷ [])
    ∙ append-nil (flat_map drained_in xs) in
    let out : is_out (replies askers all) w ≡ true =
    ap not (brought_is threads askers all id (legal_next threads askers xs (event.Submit id work helper) h is)
    ∙ (ap (λ l. is_among l id) drained ∙ not_drained threads askers xs id work helper h is)) in
    let hands : filter_map handed_by (asks all) ≡ handed xs ++ w ∷ [] = handed_alike all ∙ filter_map-append handed_in xs (event.Submit id work helper ∷ []) in
    let outs : outstanding (asks all) (replies askers all) ≡ filter (is_out (replies askers all)) (handed xs) ++ w ∷ [] =
    ap (filter (is_out (replies askers all))) hands ∙ filter_last (is_out (replies askers all)) (handed xs) w out in
    λ none. some_last (filter (is_out (replies askers all)) (handed xs)) w (sym outs ∙ none)
