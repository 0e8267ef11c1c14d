-- Claimed: what contracts promise to a reader rests on these words.
-- What can be done at a moment of a scheduler, and what answers come to.
use Rattle.std.specs.Prelude.{◌≡◌, ◌≢◌, ◌<◌, ◌&&◌, ◌+◌, ◌++◌, ◌∷◌, [], ℕ, nat_lt, Bool, false, List, length, Option, Some, slice_get}
use Rattle.std.specs.List.{list_all}
use Rattle.scheduler_core.specs.declared.event.Event.{Event}
use Rattle.scheduler_core.specs.declared.event.Event.TheVariants.{Admit, Lend, Settle}
use Rattle.scheduler_core.specs.declared.event.StepAnswer.{StepAnswer}
use Rattle.scheduler_core.specs.declared.event.StepAnswer.TheVariants.{NoMemory}
use Rattle.scheduler_core.specs.Phases.{is_settled}
use Rattle.scheduler_core.specs.Events.{enabled, Answers, Played}
use Rattle.scheduler_core.specs.Choices.{enabled_events, IsNextEvent, IsLeastLend}
use Rattle.scheduler.specs.declared.slot.Slot.TheVariants.{Idle}
use Rattle.scheduler.specs.Schedules.{Schedule, log_of, phases_of, IsChoice}

-- whether the event can be made
abbrev pub can_make : Schedule → Event → Bool
can_make s = enabled s.work.arena s.work.first (log_of s.work) (phases_of s)

-- not all are admitted, and there is less room than the plan of the next one has requests
abbrev pub LacksRoom : Schedule → Type 0
LacksRoom s = (length s.slots < length s.work.entries) × (can_make s Admit ≡ false)

-- all that are admitted are settled, and there is a next one
abbrev pub is_between : Schedule → Bool
is_between s = list_all (λ p. is_settled (Some p)) (phases_of s) && nat_lt (length s.slots) (length s.work.entries)

-- one more transaction is admitted
abbrev pub with_next : Schedule → Schedule
with_next s = record s { slots = s.slots ++ Idle ∷ [] }

-- there is a next transaction, and once it were admitted, its rows could be lent to it at once
abbrev pub is_next_ready : Schedule → Bool
is_next_ready s =
    nat_lt (length s.slots) (length s.work.entries) && can_make (with_next s) (Lend (s.work.first + length s.slots))

-- the events that can be made, in their order
abbrev pub events_at : Schedule → List Event
events_at s = enabled_events s.work.arena s.work.first (log_of s.work) (phases_of s)

-- an event that can be made, or none where all is done
abbrev pub IsChoiceAt : Schedule → Option Event → Type 0
IsChoiceAt s = IsChoice s.work.arena s.work.first (log_of s.work) (phases_of s)

-- the event that comes next, or none where all is done
abbrev pub IsNextAt : Schedule → Option Event → Type 0
IsNextAt s = IsNextEvent s.work.arena s.work.first (log_of s.work) (phases_of s)

-- the least number to which rows can be lent, or none where there is none
abbrev pub IsLeastLendAt : Schedule → Option ℕ → Type 0
IsLeastLendAt s = IsLeastLend s.work.arena s.work.first (log_of s.work) (phases_of s)

-- the answer to an event, and what it leaves
abbrev pub AnswersAt : Schedule → Event → StepAnswer → Schedule → Type 0
AnswersAt s event answer left =
    Answers s.work.arena s.work.first (log_of s.work) (phases_of s) event answer (phases_of left)

-- no answer to a Settle is a want of memory
abbrev pub SettlesTakeNoMemory : List Event → List StepAnswer → Type 0
SettlesTakeNoMemory events answers =
    (place number : ℕ) → slice_get events place ≡ Some (Settle number) → slice_get answers place ≢ Some NoMemory

-- the answers to events, one after the other, and what they leave
abbrev pub PlaysAt : Schedule → List Event → List StepAnswer → Schedule → Type 0
PlaysAt s events answers left =
    Played s.work.arena s.work.first (log_of s.work) (phases_of s) events answers (phases_of left)
