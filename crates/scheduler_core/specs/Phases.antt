-- Claimed: what contracts promise to a reader rests on these words.
-- How far transactions are: one phase for each admitted transaction, in log order. So the number admitted is the
-- length; out are those that are Out or Ran, run those that are Ran, settled those that are Settled.
use Rattle.std.specs.Prelude.{ℕ, ◌+◌, ◌-◌, ◌*◌, nat_lt, ◌==◌, ◌&&◌, if◌then◌else◌, Bool, true, false, List, length, Option, Some, None, slice_get, slice_set, count_by}
use Rattle.std.specs.List.{list_all}
use Rattle.scheduler_core.specs.declared.phase.Phase.{Phase}
use Rattle.scheduler_core.specs.declared.phase.Phase.TheVariants.{Idle, Out, Ran, Settled}
use Rattle.scheduler_core.specs.declared.event.StepAnswer.{StepAnswer}
use Rattle.scheduler_core.specs.declared.event.StepAnswer.TheVariants.{Made, Refused, NoMemory}
use Rattle.scheduler_core.specs.Transactions.{Transaction}

-- admitted, not settled and not out
abbrev pub is_idle : Option Phase → Bool
is_idle (Some Idle) = true
is_idle _ = false

-- out and not run
abbrev pub is_lent : Option Phase → Bool
is_lent (Some Out) = true
is_lent _ = false

-- run and not settled
abbrev pub was_run : Option Phase → Bool
was_run (Some Ran) = true
was_run _ = false

-- its job is out, run or not
abbrev pub is_out : Option Phase → Bool
is_out (Some Out) = true
is_out (Some Ran) = true
is_out _ = false

-- it is settled
abbrev pub is_settled : Option Phase → Bool
is_settled (Some Settled) = true
is_settled _ = false

-- admitted and not settled
abbrev pub is_open : Option Phase → Bool
is_open (Some Idle) = true
is_open (Some Out) = true
is_open (Some Ran) = true
is_open _ = false

-- out or settled
abbrev pub has_begun : Option Phase → Bool
has_begun (Some Out) = true
has_begun (Some Ran) = true
has_begun (Some Settled) = true
has_begun _ = false

-- what a list has for the transaction of a number, where the first has the number `first`
abbrev pub at_number : {X : Type 0} → ℕ → List X → ℕ → Option X
at_number first xs number = if nat_lt number first then None else slice_get xs (number - first)

-- how far the transaction with a number is, if it is admitted
abbrev pub phase_of : ℕ → List Phase → ℕ → Option Phase
phase_of first phases number = at_number first phases number

-- the list with something else for that transaction
abbrev pub with_number : {X : Type 0} → ℕ → List X → ℕ → X → List X
with_number first xs number x = if nat_lt number first then xs else slice_set xs (number - first) x

-- all are admitted and settled
abbrev pub is_done : List Transaction → List Phase → Bool
is_done log phases = (length phases == length log) && list_all (λ p. is_settled (Some p)) phases

-- how far all are: how many are admitted, out and run, and three times how many are settled
abbrev pub progress : List Phase → ℕ
progress phases =
    length phases + count_by (λ p. is_out (Some p)) phases + count_by (λ p. was_run (Some p)) phases
    + 3 * count_by (λ p. is_settled (Some p)) phases

abbrev pub is_made : StepAnswer → Bool
is_made Made = true
is_made Refused = false
is_made NoMemory = false
