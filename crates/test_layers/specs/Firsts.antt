-- Of the code: invariants and steps; no promise rests on these words.
-- Queues of nodes each of which is the first of its chain.
use Rattle.std.specs.Prelude.{◌≡◌, ℕ, true}
use Rattle.request_arena.specs.Chains.{held_at}
use Rattle.request_arena.specs.Lists.{Lists, BeginsChain}

abbrev pub AllFirst : Lists → Type 0
AllFirst lists = (a : ℕ) → held_at lists.held a ≡ true → BeginsChain lists a
