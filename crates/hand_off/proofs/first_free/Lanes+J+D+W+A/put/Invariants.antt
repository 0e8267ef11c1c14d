use Rattle.std.proofs.Common.{◌≡◌, ℕ, ◌<◌, get_or}
use Rattle.hand_off.specs.declared.view.Known.TheVariants.{Idle}
use Rattle.hand_off.specs.Seats.{IsPut, Schedules}
use Rattle.hand_off.proofs.first_free.Lanes+J+D+W+A.put.Given as goal

abbrev pub invariant-loop-lane : goal.invariant-loop-lane
invariant-loop-lane g l = Schedules l.self l.seat × (l.seat.me ≡ l.initial.seat.me) × (l.job ≡ l.fn.job) × ((k : ℕ) → k < l.lane → IsPut (get_or l.initial.seat.me.0.known k Idle))
