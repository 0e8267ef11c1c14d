-- The attempts of a batch.
use Rattle.std.proofs.Common.{◌≡◌, ℕ, ◌+◌, ◌-◌, ◌<◌, ◌≤◌, List, [], ◌∷◌, length, length-append, map, zero, suc, refl, sym, ap, subst, slice_get, get_or, Some, option_map, arith}
use Rattle.std.proofs.lemmas.List.{length-map}
use Rattle.catalogue.specs.Shapes.{TableShape}
use Rattle.requests.specs.Requests.{Call}
use Rattle.sequencer.specs.Attempts.{own, attempts_of, requests_of, AreCarriedOver, AreRequestsOver}
use Rattle.sequencer.specs.Batches.{RequestItem, AreOver}
use Rattle.sequencer.specs.declared.attempts.Carried.{Carried}

-- the requests of all are over the tables that the carried ones and the batch's own are over
own_over : (tables : List TableShape) (items : List RequestItem) → AreOver tables items → AreRequestsOver tables (map (λ attempt. attempt.request) (map own items))
own_over tables [] h = tt
own_over tables (item ∷ items) h = (h.0, own_over tables items h.1)

pub attempts_over : (tables : List TableShape) (carried : List Carried) (items : List RequestItem) → AreCarriedOver tables carried → AreOver tables items
    → AreRequestsOver tables (map (λ attempt. attempt.request) (attempts_of carried items))
attempts_over tables [] items h k = own_over tables items k
attempts_over tables (one ∷ carried) items h k = (h.0, attempts_over tables carried items h.1 k)

-- what is tried at a place
pub carried_at : (carried : List Carried) (items : List RequestItem) (place : ℕ) (one : Carried) → slice_get carried place ≡ Some one
    → slice_get (map (λ attempt. attempt.request) (attempts_of carried items)) place ≡ Some one.request
carried_at [] items place one h = absurd cc
carried_at (c ∷ carried) items zero one h = ap (option_map (λ (x : Carried). x.request)) h
carried_at (c ∷ carried) items (suc place) one h = carried_at carried items place one h

own_at : (items : List RequestItem) (place : ℕ) (item : RequestItem) → place < length items → item ≡ get_or items place item
    → slice_get (map (λ attempt. attempt.request) (map own items)) place ≡ Some item.request
own_at [] place item less is = absurd (omega (arith, less))
own_at (i ∷ items) zero item less is = ap (λ (x : RequestItem). Some x.request) (sym is)
own_at (i ∷ items) (suc place) item less is = own_at items place item (omega (arith, less)) is

pub item_at : (carried : List Carried) (items : List RequestItem) (place : ℕ) (item : RequestItem) → length carried ≤ place
    → place < length (attempts_of carried items) → item ≡ get_or items (place - length carried) item
    → slice_get (map (λ attempt. attempt.request) (attempts_of carried items)) place ≡ Some item.request
item_at [] items place item past less is =
    let e : place - 0 ≡ place = omega arith in
    own_at items place item (omega (arith, less, length-map items own)) (subst (λ p. item ≡ get_or items p item) e is)
item_at (c ∷ carried) items zero item past less is = absurd (omega (arith, past))
item_at (c ∷ carried) items (suc place) item past less is =
    let e : suc place - suc (length carried) ≡ place - length carried = omega arith in
    item_at carried items place item (omega (arith, past)) (omega (arith, less)) (subst (λ p. item ≡ get_or items p item) e is)

-- how many there are
pub attempts_length : (carried : List Carried) (items : List RequestItem) → length (attempts_of carried items) ≡ length carried + length items
attempts_length carried items = simp (length-append, length-map)

-- the requests of a batch to which nothing is carried
pub own_mapped : {C : Type 0} (f : Call → C) (items : List RequestItem) → map f (requests_of [] items) ≡ map (λ item. f item.request) items
own_mapped f [] = refl
own_mapped f (item ∷ items) = ap (λ cs. f item.request ∷ cs) (own_mapped f items)
