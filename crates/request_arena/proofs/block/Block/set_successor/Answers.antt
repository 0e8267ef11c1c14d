use Rattle.std.proofs.Common.{length, ap, ◌∙◌}
use Rattle.request_arena.specs.Rows.{RowOf}
use Rattle.request_arena.specs.Chains.{with_successor}
use Rattle.request_arena.proofs.Changed.{changed_length}
use Rattle.request_arena.proofs.InPlace.{small_place, room_there, changed_in_place, unpacked_successor}
use Rattle.request_arena.proofs.block.Block.set_successor.Goals as goal

pub reach-index-requires-clause-small : goal.reach-index-requires-clause-small
reach-index-requires-clause-small c =
    let b = c.self.inside in small_place b.nodes b.queues b.written.items c.args.self.now c.self.view_is c.args.tail c.requires.there c.self.invariant.fit

pub reach-index-requires-clause-room : goal.reach-index-requires-clause-room
reach-index-requires-clause-room c =
    let b = c.self.inside in room_there b.nodes b.queues b.written.items c.args.self.now c.self.view_is c.args.tail c.requires.there b.written.room c.self.invariant

pub returns-clause-nodes : goal.returns-clause-nodes
returns-clause-nodes c =
    let b = c.self.inside in let reached = c.reach-index in
    changed_in_place b.nodes b.queues b.written.items c.args.self.now c.self.view_is c.args.tail c.requires.there reached.new.written.items c.set.new.self.items reached.result
    c.get-node.result _ (λ n. record n { held = with_successor n.held c.args.place }) reached.ensures.is reached.ensures.far reached.ensures.same c.get-node.ensures (ap (λ (r : RowOf). r.items) c.set.ensures) (unpacked_successor c.get-node.result c.args.place)

pub returns-clause-long : goal.returns-clause-long
returns-clause-long c = ap length (returns-clause-nodes c) ∙ changed_length c.args.self.now c.args.tail (λ n. record n { held = with_successor n.held c.args.place })
