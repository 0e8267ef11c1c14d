-- A request that comes to the back of a queue.
use Rattle.std.proofs.Common.{◌≡◌, ℕ, ◌+◌, ◌<◌, ◌^◌, List, [], ◌∷◌, ◌++◌, length, Option, None, Some, sym, ◌∙◌, ap, subst, arith}
use Rattle.std.specs.Prelude.{slice_get, slice_set}
use Rattle.std.specs.Option.{option_or}
use Rattle.std.specs.Vec.{vec_capacity}
use Rattle.std.proofs.lemmas.Option.{slice_get_within}
use Rattle.request_arena.specs.declared.node.Held.{Held}
use Rattle.request_arena.specs.declared.node.Request.{Request}
use Rattle.request_arena.specs.Chains.{linked}
use Rattle.request_arena.specs.Lists.{free_nodes}
use Rattle.request_arena.specs.Pushes.{Pushed}
use Rattle.lock_tree.specs.declared.line.Line.{Line}
use Rattle.lock_tree.specs.Queues.{Queue, granted}
use Rattle.lock_tree.specs.Lines.{Lines, asked, request_at, requests, nodes_of, in_order, numbers_of, AllUnder}
use Rattle.lock_tree.specs.Open.{AreRising}
use Rattle.lock_tree.specs.Numbered.{IsNumbered}
use Rattle.lock_tree.specs.Granted.{IsFront, IsLine, AreGranted}
use Rattle.lock_tree.specs.Steps.{AreLive}
use Rattle.lock_tree.proofs.Positions.{some_is, get_set_same, get_set_other}
use Rattle.lock_tree.proofs.Counting.{linked_length, pushed_asks, pushed_free, queue_few}
use Rattle.lock_tree.proofs.Asking.{same_requests, requests_end}
use Rattle.lock_tree.proofs.Vacancies.{or_other}
use Rattle.lock_tree.proofs.Passing.{added, added_here, added_elsewhere}
use Rattle.lock_tree.proofs.Fronting.{line_kept, line_by_front, longer_front}
use Rattle.lock_tree.proofs.Standing.{rising_longer}

none_some : (x : Held) → ◌≡◌ {A = Option (Option Held)} (Some None) (Some (Some x)) → ⊥
none_some x e = absurd (cc)

module _ (was now : Lines) (q id : ℕ) (tail : Option ℕ) (request : Request) (ok : IsNumbered was (Some q)) (within : q < length was.lines.items)
    (many : length now.lines.items ≡ length was.lines.items) (capacity : vec_capacity now.lines ≡ vec_capacity was.lines)
    (live : AreLive was.nodes) (pushed : Pushed was.nodes q tail request id now.nodes) where
  abbrev node : Held
  node = record { request = request; successor = None }

  pub now_numbered : IsNumbered (record was { nodes = now.nodes; lines = now.lines }) None
  now_numbered = added was now q id tail node ok within many capacity pushed.fresh pushed.queues pushed.held

  pub now_here : nodes_of now.nodes q ≡ nodes_of was.nodes q ++ id ∷ []
  now_here = added_here was now q id tail node ok within many capacity pushed.fresh pushed.queues pushed.held

  pub now_elsewhere : (n : ℕ) → (n ≡ q → ⊥) → nodes_of now.nodes n ≡ nodes_of was.nodes n
  now_elsewhere = added_elsewhere was now q id tail node ok within many capacity pushed.fresh pushed.queues pushed.held

  pub now_few : length (nodes_of now.nodes q) < 2 ^ 32
  now_few = let few = queue_few now.nodes.queues q in let room = now_numbered.room in let small = now_numbered.small in omega (arith, few, room, small)

  -- the node was in no queue
  pub another : (n i a : ℕ) → slice_get (nodes_of was.nodes n) i ≡ Some a → a ≡ id → ⊥
  another n i a there e = let l = live n i a there in none_some l.0 (sym pushed.fresh ∙ ap (slice_get was.nodes.held) (sym e) ∙ l.1)

  pub asks_still : (a : ℕ) → (a ≡ id → ⊥) → request_at now.nodes.held a ≡ request_at was.nodes.held a
  asks_still a other = pushed_asks was.nodes.held now.nodes.held tail id node pushed.held a other

  pub asks_new : request_at now.nodes.held id ≡ (request.no, request.mode)
  asks_new =
      let near : id < length (linked tail id was.nodes.held) = (let l = slice_get_within was.nodes.held id None pushed.fresh in let n = linked_length tail id was.nodes.held in omega (arith, l, n)) in
      ap (λ (hs : List (Option Held)). request_at hs id) pushed.held ∙ ap asked (get_set_same (linked tail id was.nodes.held) id (Some node) near)

  still : (n : ℕ) → requests now.nodes.held (nodes_of was.nodes n) ≡ in_order was.nodes n
  still n = same_requests was.nodes.held now.nodes.held (nodes_of was.nodes n) (λ j a there. asks_still a (another n j a there))

  longer : requests now.nodes.held (nodes_of was.nodes q ++ id ∷ []) ≡ in_order was.nodes q ++ (request.no, request.mode) ∷ []
  longer = requests_end now.nodes.held (nodes_of was.nodes q) id ∙ ap (λ (r : Queue). r ++ request_at now.nodes.held id ∷ []) (still q) ∙ ap (λ r. in_order was.nodes q ++ r ∷ []) asks_new

  pub order_here : in_order now.nodes q ≡ in_order was.nodes q ++ (request.no, request.mode) ∷ []
  order_here = ap (requests now.nodes.held) now_here ∙ longer

  pub order_elsewhere : (n : ℕ) → (n ≡ q → ⊥) → in_order now.nodes n ≡ in_order was.nodes n
  order_elsewhere n other = ap (requests now.nodes.held) (now_elsewhere n other) ∙ still n

  pub now_free : free_nodes now.nodes.held + 1 ≡ free_nodes was.nodes.held
  now_free = pushed_free was.nodes.held now.nodes.held tail id node pushed.fresh pushed.held

  -- the line as it was goes on
  pub front_here : (x y : Line) → IsLine was.nodes.held (nodes_of was.nodes q) x → y.granted ≡ x.granted → y.held ≡ x.held → y.waiting ≡ option_or x.waiting (Some id) → IsFront (in_order now.nodes q) (nodes_of now.nodes q) y
  front_here x y line same held waiting =
      subst (λ (xs : List ℕ). IsFront (requests now.nodes.held xs) xs y) (sym now_here)
      (longer_front was.nodes.held now.nodes.held (nodes_of was.nodes q) id (request.no, request.mode) x y longer line same held waiting)

  pub now_granted : (x y z : Line) → AreGranted was → slice_get was.lines.items q ≡ Some x → AllUnder request.no (numbers_of (in_order was.nodes q)) → now.lines.items ≡ slice_set (slice_set was.lines.items q y) q z
      → IsFront (in_order now.nodes q) (nodes_of now.nodes q) z → z.granted ≡ length (granted (in_order now.nodes q)) → AreGranted (record was { nodes = now.nodes; lines = now.lines })
  now_granted x y z lines_ok there above items front all number w here = or_other number q (IsLine now.nodes.held (nodes_of now.nodes number) w)
      (λ same.
      let last : slice_get (slice_set (slice_set was.lines.items q y) q z) q ≡ Some z = get_set_same (slice_set was.lines.items q y) q z (slice_get_within _ q y (get_set_same was.lines.items q y within)) in
      let is : z ≡ w = some_is z w (sym last ∙ ap (λ xs. slice_get xs q) (sym items) ∙ ap (slice_get now.lines.items) (sym same) ∙ here) in
      let rising = subst (λ (r : Queue). AreRising (numbers_of r)) (sym order_here) (rising_longer (in_order was.nodes q) (request.no, request.mode) (lines_ok q x there).rising above) in
      subst (λ (n : ℕ). IsLine now.nodes.held (nodes_of now.nodes n) w) (sym same) (subst (IsLine now.nodes.held (nodes_of now.nodes q)) is (line_by_front now.nodes.held (nodes_of now.nodes q) z rising front all)))
      (λ other.
      let before : slice_get was.lines.items number ≡ Some w =
      sym (get_set_other was.lines.items q number y other) ∙ sym (get_set_other (slice_set was.lines.items q y) q number z other) ∙ ap (λ xs. slice_get xs number) (sym items) ∙ here in
      line_kept was.nodes.held now.nodes.held (nodes_of was.nodes number) (nodes_of now.nodes number) w (now_elsewhere number other) (order_elsewhere number other) (lines_ok number w before))
