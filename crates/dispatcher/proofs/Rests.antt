-- Where no job is out.
use Rattle.std.proofs.Common.{◌≡◌, zero, suc, true, false, ◌==◌, List, [], ◌∷◌, length, map, Some, refl}
use Rattle.std.specs.List.{list_all}
use Rattle.scheduler_core.specs.declared.phase.Phase.{Phase}
use Rattle.scheduler_core.specs.declared.phase.Phase.TheVariants.{Idle, Out, Ran, Settled}
use Rattle.scheduler_core.specs.Transactions.{Transaction}
use Rattle.scheduler_core.specs.Phases.{is_out, is_settled, is_done}
use Rattle.scheduler.specs.Settling.{after_settling}
use Rattle.dispatcher.specs.Runs.{NoneIsOut}
use Rattle.dispatcher.proofs.Facts.{and_left, and_right}

settled_not_out : (p : Phase) → is_settled (Some p) ≡ true → is_out (Some p) ≡ false
settled_not_out Idle settled = refl
settled_not_out Out settled = absurd (cc)
settled_not_out Ran settled = absurd (cc)
settled_not_out Settled settled = refl

all_settled : (phases : List Phase) → list_all (λ p. is_settled (Some p)) phases ≡ true → NoneIsOut phases
all_settled [] all place = refl
all_settled (p ∷ phases) all zero = settled_not_out p (and_left (is_settled (Some p)) (list_all (λ q. is_settled (Some q)) phases) all)
all_settled (p ∷ phases) all (suc place) = all_settled phases (and_right (is_settled (Some p)) (list_all (λ q. is_settled (Some q)) phases) all) place

-- where all is done
pub done_rests : (log : List Transaction) (phases : List Phase) → is_done log phases ≡ true → NoneIsOut phases
done_rests log phases done = all_settled phases (and_right (length phases == length log) (list_all (λ p. is_settled (Some p)) phases) done)

after_not_out : (p : Phase) → is_out (Some (after_settling p)) ≡ false
after_not_out Idle = refl
after_not_out Out = refl
after_not_out Ran = refl
after_not_out Settled = refl

-- and where what was here was settled or taken back
pub settling_rests : (phases : List Phase) → NoneIsOut (map after_settling phases)
settling_rests [] place = refl
settling_rests (p ∷ phases) zero = after_not_out p
settling_rests (p ∷ phases) (suc place) = settling_rests phases place
