use Rattle.std.proofs.Common.{◌≡◌}
use Rattle.hand_off.specs.declared.state.LaneState.TheVariants.{Finished}
use Rattle.hand_off.specs.Notes.{Misses}
use Rattle.hand_off.specs.Views.{looked}
use Rattle.hand_off.specs.Seats.{Schedules}
use Rattle.hand_off.specs.Stands.{AllShown}
use Rattle.hand_off.proofs.first_finished.Lanes+J+D+W+A.collect.Given as goal

abbrev pub invariant-loop-lane : goal.invariant-loop-lane
invariant-loop-lane g l = Schedules l.self l.seat × (l.seat.me.0 ≡ looked l.initial.seat.me.0 l.seat.me.0.notes) × Misses Finished l.lane l.initial.seat.me.0.notes l.seat.me.0.notes
    × AllShown g.W.Work.comes_of l.initial.seat.me.0 l.seat.me.0.notes
