use Rattle.std.proofs.Common.{rules, length, ap, ◌∙◌}
use lib.ListN.{length-replicate}
use Rattle.std.specs.Prelude.{None}
use Rattle.hand_off.proofs.Steps.{may_hire}
use Rattle.hand_off.proofs.tries.Lanes+J+D+W+A.worker_seat.Goals as goal

pub split_seat-requires : goal.split_seat-requires
split_seat-requires g c = (search rules, search rules, may_hire _ _ _ c.requires.seat.at_rest.schedules)

pub returns-clause-worker : goal.returns-clause-worker
returns-clause-worker g c = (
  record {
    lanes = search rules;
    wide = ap (λ m. length m.0.claimed) c.split_seat.ensures.4 ∙ length-replicate (length c.args.seat.now.me.0.known) None ∙ c.requires.seat.at_rest.wide;
  },
  c.split_seat.ensures.4,
)
