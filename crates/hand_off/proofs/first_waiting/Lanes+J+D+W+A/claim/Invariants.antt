use Rattle.std.proofs.Common.{◌≡◌}
use Rattle.hand_off.specs.declared.state.LaneState.TheVariants.{Waiting}
use Rattle.hand_off.specs.Notes.{Misses}
use Rattle.hand_off.specs.Views.{looked}
use Rattle.hand_off.specs.Seats.{Works}
use Rattle.hand_off.specs.Stands.{AllShown}
use Rattle.hand_off.proofs.first_waiting.Lanes+J+D+W+A.claim.Given as goal

abbrev pub invariant-loop-lane : goal.invariant-loop-lane
invariant-loop-lane g l = Works l.self l.seat × (l.seat.me ≡ (looked l.initial.seat.me.0 l.seat.me.0.notes, l.initial.seat.me.1)) × Misses Waiting l.lane l.initial.seat.me.0.notes l.seat.me.0.notes
    × AllShown g.W.Work.comes_of l.initial.seat.me.0 l.seat.me.0.notes
