-- The machine's phases.
use Rattle.std.proofs.Common.{◌≡◌, ℕ, ◌-◌, nat_lt, Bool, true, false, cond, List, refl, ◌∙◌, ap, slice_set}
use Rattle.scheduler_core.specs.declared.event.Event.TheVariants.{Admit, Lend, Run, Settle}
use Rattle.scheduler_core.specs.Phases.{with_number}
use Rattle.scheduler_core.specs.Machine.{Stage, idle, lent, ran, settled, Machine, phase_in, phases_of}
use Rattle.scheduler_core.specs.Laws.{MachineFollowsSteps}
use Rattle.scheduler_core.proofs.Lists.{map_push, map_set}

set_above : (b : Bool) (stages : List Stage) (place : ℕ) (x : Stage)
    → phases_of (cond b stages (slice_set stages place x)) ≡ cond b (phases_of stages) (slice_set (phases_of stages) place (phase_in x))
set_above true stages place x = refl
set_above false stages place x = map_set phase_in stages place x

phases_with : (first : ℕ) (stages : List Stage) (number : ℕ) (x : Stage) → phases_of (with_number first stages number x) ≡ with_number first (phases_of stages) number (phase_in x)
phases_with first stages number x = set_above (nat_lt number first) stages (number - first) x

pub follows_steps : MachineFollowsSteps
follows_steps tables first log old new Admit does = ap (λ (m : Machine). phases_of m.stages) does ∙ map_push phase_in old.stages idle
follows_steps tables first log old new (Lend number) does = ap (λ (m : Machine). phases_of m.stages) does.new_is ∙ phases_with first old.stages number (lent does.shown)
follows_steps tables first log old new (Run number) does = ap (λ (m : Machine). phases_of m.stages) does.new_is ∙ phases_with first old.stages number (ran does.reply does.after)
follows_steps tables first log old new (Settle number) does = ap phases_of does.stages ∙ phases_with first old.stages number (settled does.reply)
