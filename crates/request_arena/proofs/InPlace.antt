-- A node of the block that is changed in place.
use Rattle.std.proofs.Common.{◌≡◌, ℕ, ◌+◌, ◌^◌, ◌<◌, Bool, true, false, if◌then◌else◌, List, length, Option, Some, None, slice_get, slice_set, refl, sym, ap, ◌∙◌, subst, arith}
use Rattle.request_arena.specs.declared.node.Node.{Node}
use Rattle.request_arena.specs.declared.node.Held.{Held}
use Rattle.request_arena.specs.declared.node.Request.{Request}
use Rattle.request_arena.specs.declared.packed.Packed.{Packed}
use Rattle.request_arena.specs.Chains.{with_successor}
use Rattle.request_arena.specs.Following.{changed}
use Rattle.request_arena.specs.Packed.{unpacked}
use Rattle.request_arena.specs.Places.{index_of, at_place, laid, IsRoomy}
use Rattle.request_arena.proofs.Places.{place_low, index_low, laid_changed, tabulated_same}

module _ (nodes queues : ℕ) (was : List Packed) (shown : List Node) (show : laid nodes queues was ≡ shown) (place : ℕ) (there : place < length shown) where
  low : place < length (laid nodes queues was)
  low = subst (λ l. place < length l) (sym show) there

  pub small_place : nodes + queues < 2 ^ 30 → place < 2 ^ 32
  small_place fit = omega (arith, place_low nodes queues was place low, fit)

  pub room_there : (room : ℕ) → IsRoomy room nodes queues → index_of nodes place < room
  room_there room roomy = index_low nodes queues was place low room roomy.of_nodes roomy.of_queues

  -- all was written as far as the node, which was read, and then written
  pub changed_in_place : (ws now : List Packed) (index : ℕ) (p v : Packed) (f : Node → Node) → index ≡ index_of nodes place → index < length ws
      → ((a : ℕ) → at_place nodes ws a ≡ at_place nodes was a) → slice_get ws index ≡ Some p → now ≡ slice_set ws index v → unpacked v ≡ f (unpacked p)
      → laid nodes queues now ≡ changed shown place f
  changed_in_place ws now index p v f is far same read written as_f =
      ap (laid nodes queues) written ∙ ap (λ i. laid nodes queues (slice_set ws i v)) is
      ∙ laid_changed nodes queues ws place p v f (place_low nodes queues was place low) (omega (arith, far, is)) (ap (slice_get ws) (sym is) ∙ read) as_f
      ∙ ap (λ l. changed l place f) (tabulated_same (at_place nodes ws) (at_place nodes was) same 0 (nodes + queues) ∙ show)

held_with : (live : Bool) (r : Request) (o : Option ℕ) (id : ℕ) → (if live then Some (record { request = r; successor = Some id }) else None) ≡ with_successor (if live then Some (record { request = r; successor = o }) else None) id
held_with true r o id = refl
held_with false r o id = refl

-- a node that another is after
pub unpacked_successor : (p : Packed) (id : ℕ) → unpacked (record p { successor = id; leads = true }) ≡ record (unpacked p) { held = with_successor (unpacked p).held id }
unpacked_successor p id =
    ap (λ (h : Option Held). record (unpacked p) { held = h }) (held_with p.live (record { no = p.no; mode = p.mode }) (if p.leads then Some p.successor else None) id)
