-- Of the code: invariants and steps; no promise rests on these words.
-- What the parts of the code's lock tree have to do with each other.
use Rattle.std.specs.Prelude.{◌≡◌, ℕ, ◌+◌, [], None}
use Rattle.footprint.specs.declared.resource.Resource.{Resource}
use Rattle.request_arena.specs.Lists.{free_nodes}
use Rattle.lock_tree.specs.declared.transactions.Transactions.{Transactions}
use Rattle.lock_tree.specs.Locks.{used}
use Rattle.lock_tree.specs.Queues.{Queue, queue}
use Rattle.lock_tree.specs.Views.{all_waiting, enqueued}
use Rattle.lock_tree.specs.Lines.{Lines, line}
use Rattle.lock_tree.specs.Indexed.{IsIndexed}
use Rattle.lock_tree.specs.Numbered.{IsNumbered}
use Rattle.lock_tree.specs.Granted.{AreGranted}
use Rattle.lock_tree.specs.Chained.{AreChained}
use Rattle.lock_tree.specs.Known.{AreKnown}

-- free room and requests fill the arena, later transactions have greater numbers and the open ones are noted, the
-- queues are those of the transactions, each request is chained to the next of its transaction, and each transaction
-- knows whether it is ready
pub record IsTree (arena : ℕ) (transactions : Transactions) (queues : Lines) : Type 0 where
  pub room : free_nodes queues.nodes.held + used (all_waiting (enqueued transactions)) ≡ arena
  pub indexed : IsIndexed transactions
  pub numbered : IsNumbered queues None
  pub granted : AreGranted queues
  pub lines : (resource : Resource) → line queues resource ≡ queue resource (all_waiting (enqueued transactions))
  pub chained : AreChained queues (enqueued transactions)
  pub known : AreKnown (line queues) [] (enqueued transactions)

-- the queues are numbered, and what each grants is noted; transactions are found by their numbers, their requests are
-- chained in the queues, and each knows whether it is ready, but for requests that were granted lately
pub record Correspond (queues : Lines) (lately : Queue) (transactions : Transactions) : Type 0 where
  pub numbered : IsNumbered queues None
  pub granted : AreGranted queues
  pub indexed : IsIndexed transactions
  pub known : AreKnown (line queues) lately (enqueued transactions)
  pub chained : AreChained queues (enqueued transactions)
