use Rattle.std.proofs.Common.{rules, ◌≢◌, get_or, ap, ◌∙◌}
use Rattle.atomic_table.specs.Table.{turned}
use Rattle.lanes.proofs.Places.{one_turn}
use Rattle.lanes.proofs.holding.bring_up.Goals as goal

pub loop-held-smaller : goal.loop-held-smaller
loop-held-smaller c = let there = c.loop-held.invariant.2 c.args.lane c.requires.held in let apart : get_or c.loop-held.held.items 0 0 ≢ c.args.lane = search rules in
    (one_turn c.args.lane c.loop-held.held.items c.rotate_left.new.self.items there apart c.rotate_left.ensures.items).1

pub loop-held-preserved : goal.loop-held-preserved
loop-held-preserved c = let inv = c.loop-held.invariant in let there = inv.2 c.args.lane c.requires.held in let apart : get_or c.loop-held.held.items 0 0 ≢ c.args.lane = search rules in
    let t = one_turn c.args.lane c.loop-held.held.items c.rotate_left.new.self.items there apart c.rotate_left.ensures.items in (
      search rules,
      c.turn.ensures.2 ∙ ap (λ m. (m.0, turned m.1)) inv.1 ∙ ap (λ s. (c.args.seat.now.me.0, s)) t.0,
      (λ k h. t.2 k (inv.2 k h)),
      search rules,
      search rules,
    )
