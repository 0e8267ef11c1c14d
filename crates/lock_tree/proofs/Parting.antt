-- A node that leaves its queue.
use Rattle.std.proofs.Common.{◌≡◌, ℕ, ◌+◌, ◌<◌, ◌^◌, List, length, Option, None, Some, sym, ◌∙◌, ap, subst, arith}
use Rattle.std.specs.Prelude.{slice_get, slice_set}
use Rattle.std.specs.Vec.{vec_capacity}
use Rattle.std.proofs.lemmas.Option.{slice_get_within}
use Rattle.request_arena.specs.Following.{without}
use Rattle.request_arena.specs.Lists.{free_nodes}
use Rattle.lock_tree.specs.declared.line.Line.{Line}
use Rattle.lock_tree.specs.Queues.{granted}
use Rattle.lock_tree.specs.Lines.{Lines, request_at, requests, nodes_of, in_order, others, numbers_of}
use Rattle.lock_tree.specs.Open.{AreRising}
use Rattle.lock_tree.specs.Numbered.{IsNumbered}
use Rattle.lock_tree.specs.Granted.{IsFront, IsLine, Stays, AreGranted}
use Rattle.lock_tree.specs.Steps.{AreLive, StandApart}
use Rattle.request_arena.specs.Removals.{IsRemoved}
use Rattle.lock_tree.proofs.Positions.{some_is, get_set_same, get_set_other, one_without}
use Rattle.lock_tree.proofs.Counting.{given_free, queue_few}
use Rattle.lock_tree.proofs.Asking.{requests_beside}
use Rattle.lock_tree.proofs.Vacancies.{or_other}
use Rattle.lock_tree.proofs.Passing.{left, left_here, left_elsewhere}
use Rattle.lock_tree.proofs.Fronting.{line_kept, line_by_front, rest_requests, rest_rising, rest_front}

module _ (was now : Lines) (q i a : ℕ) (successor : Option ℕ) (ok : IsNumbered was None) (within : q < length was.lines.items)
    (many : length now.lines.items ≡ length was.lines.items) (capacity : vec_capacity now.lines ≡ vec_capacity was.lines)
    (live : AreLive was.nodes) (apart : StandApart was.nodes) (there : slice_get (nodes_of was.nodes q) i ≡ Some a) (removed : IsRemoved was.nodes a successor now.nodes) where
  once : (j : ℕ) → slice_get (nodes_of was.nodes q) j ≡ Some a → i ≡ j
  once j h = (apart q q i j a there h).1

  queues : now.nodes.queues ≡ slice_set was.nodes.queues q (without a (nodes_of was.nodes q))
  queues = removed.queues ∙ one_without a was.nodes.queues q (λ r j h. (apart q r i j a there h).0)

  pub now_numbered : IsNumbered (record was { nodes = now.nodes; lines = now.lines }) (Some q)
  now_numbered = left was now q i a (live q i a there).0 ok within many capacity there once (live q i a there).1 queues removed.gone

  pub now_here : nodes_of now.nodes q ≡ without a (nodes_of was.nodes q)
  now_here = left_here was now q i a (live q i a there).0 ok within many capacity there once (live q i a there).1 queues removed.gone

  pub now_elsewhere : (n : ℕ) → (n ≡ q → ⊥) → nodes_of now.nodes n ≡ nodes_of was.nodes n
  now_elsewhere = left_elsewhere was now q i a (live q i a there).0 ok within many capacity there once (live q i a there).1 queues removed.gone

  pub now_few : length (nodes_of now.nodes q) < 2 ^ 32
  now_few = let few = queue_few now.nodes.queues q in let room = now_numbered.room in let small = now_numbered.small in omega (arith, few, room, small)

  pub now_free : free_nodes now.nodes.held ≡ free_nodes was.nodes.held + 1
  now_free = ap free_nodes removed.gone ∙ given_free was.nodes.held a (live q i a there).0 (live q i a there).1

  pub order_elsewhere : (n : ℕ) → (n ≡ q → ⊥) → in_order now.nodes n ≡ in_order was.nodes n
  order_elsewhere n other =
      ap (requests now.nodes.held) (now_elsewhere n other)
      ∙ requests_beside was.nodes.held now.nodes.held (nodes_of was.nodes n) a removed.gone (λ j h. other (sym (apart q n i j a there h).0))

  module _ (owner : ℕ) (owned : (request_at was.nodes.held a).0 ≡ owner) (x : Line) (line : IsLine was.nodes.held (nodes_of was.nodes q) x) where
    pub order_here : in_order now.nodes q ≡ others owner (in_order was.nodes q)
    order_here = ap (requests now.nodes.held) now_here ∙ rest_requests was.nodes.held (nodes_of was.nodes q) x line owner i a there owned once now.nodes.held removed.gone

    pub front_here : (y : Line) → Stays was.nodes.held (nodes_of was.nodes q) a owner y → IsFront (in_order now.nodes q) (nodes_of now.nodes q) y
    front_here y stays =
        subst (λ (xs : List ℕ). IsFront (requests now.nodes.held xs) xs y) (sym now_here)
        (rest_front was.nodes.held (nodes_of was.nodes q) x line owner i a there owned once now.nodes.held y removed.gone stays)

    pub now_granted : (y z : Line) → AreGranted was → now.lines.items ≡ slice_set (slice_set was.lines.items q y) q z
        → IsFront (in_order now.nodes q) (nodes_of now.nodes q) z → z.granted ≡ length (granted (in_order now.nodes q)) → AreGranted (record was { nodes = now.nodes; lines = now.lines })
    now_granted y z lines_ok items front all number w here = or_other number q (IsLine now.nodes.held (nodes_of now.nodes number) w)
        (λ same.
        let last : slice_get (slice_set (slice_set was.lines.items q y) q z) q ≡ Some z = get_set_same (slice_set was.lines.items q y) q z (slice_get_within _ q y (get_set_same was.lines.items q y within)) in
        let is : z ≡ w = some_is z w (sym last ∙ ap (λ xs. slice_get xs q) (sym items) ∙ ap (slice_get now.lines.items) (sym same) ∙ here) in
        let rising = subst (λ (xs : List ℕ). AreRising (numbers_of (requests now.nodes.held xs))) (sym now_here) (rest_rising was.nodes.held (nodes_of was.nodes q) x line owner i a there owned once now.nodes.held removed.gone) in
        subst (λ (n : ℕ). IsLine now.nodes.held (nodes_of now.nodes n) w) (sym same) (subst (IsLine now.nodes.held (nodes_of now.nodes q)) is (line_by_front now.nodes.held (nodes_of now.nodes q) z rising front all)))
        (λ other.
        let before : slice_get was.lines.items number ≡ Some w =
        sym (get_set_other was.lines.items q number y other) ∙ sym (get_set_other (slice_set was.lines.items q y) q number z other) ∙ ap (λ xs. slice_get xs number) (sym items) ∙ here in
        line_kept was.nodes.held now.nodes.held (nodes_of was.nodes number) (nodes_of now.nodes number) w (now_elsewhere number other) (order_elsewhere number other) (lines_ok number w before))
