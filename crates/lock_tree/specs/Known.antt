-- Of the code: invariants and steps; no promise rests on these words.
-- Whether the code's transactions know that they are ready.
use Rattle.std.specs.Prelude.{◌≡◌, ◌⊎◌, ℕ, Bool, true, List}
use Rattle.std.specs.List.{list_all, AllByRecursion}
use Rattle.footprint.specs.declared.resource.Resource.{Resource}
use Rattle.coarsen.specs.Subtrees.{Requests}
use Rattle.lock_tree.specs.Entered.{Enqueued}
use Rattle.lock_tree.specs.Queues.{Queue, granted, has_number}

-- each request of the plan is granted to the transaction in these queues
abbrev pub granted_in : (Resource → Queue) → ℕ → Requests → Bool
granted_in queues number plan = list_all (λ e. has_number number (granted (queues e.0))) plan

-- it knows that it is ready, but for requests that were granted lately
pub record Knows (queues : Resource → Queue) (lately : Queue) (entry : Enqueued) : Type 0 where
  pub sound : entry.ready ≡ true → granted_in queues entry.no entry.plan.value ≡ true
  pub complete : granted_in queues entry.no entry.plan.value ≡ true
      → (entry.ready ≡ true) ⊎ (has_number entry.no lately ≡ true)

abbrev pub AreKnown : (Resource → Queue) → Queue → List Enqueued → Type 0
AreKnown queues lately entries = AllByRecursion (Knows queues lately) entries
