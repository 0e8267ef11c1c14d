-- Claimed: what contracts promise to a reader rests on these words.
-- Plans: the lock requests for a footprint.
use Rattle.std.specs.Prelude.{◌≡◌, ◌≤◌, ◌<◌, ℕ, Bool, true, false, List, length}
use Rattle.std.specs.List.{Contains}
use Rattle.catalogue.specs.Shapes.{TableShape}
use Rattle.footprint.specs.declared.resource.Resource.{Resource}
use Rattle.footprint.specs.Rights.{FootprintOf}
use Rattle.footprint.specs.OfCatalogue.{IsResourceOf}
use Rattle.footprint.specs.InTreeOrder.{IsInTreeOrder}
use Rattle.modes.specs.declared.mode.Mode.{Mode}
use Rattle.modes.specs.declared.mode.Mode.TheVariants.{IntentionShared, IntentionExclusive, Shared, SharedIntentionExclusive, Exclusive}
use Rattle.modes.specs.Modes.{own, subtree}
use Rattle.coarsen.specs.Subtrees.{Requests, holds, right_on, right_under, own_on, subtree_on}
use Rattle.coarsen.specs.Coarsening.{coarsened, on_database}

-- a request for each resource whose subtree has an entry: its own right is that of the resource's entry, its subtree
-- right the greatest right in the subtree. Requests are in tree order, and each resource is there once
pub record IsPlanOf (footprint : FootprintOf) (requests : Requests) : Type 0 where
  pub ordered : IsInTreeOrder requests
  pub owns : (resource : Resource) → own_on requests resource ≡ right_on footprint resource
  pub subtrees : (resource : Resource) → subtree_on requests resource ≡ right_under footprint resource

-- the plan for a footprint, with threshold k and at most c requests: the plan of the footprint after the steps 1 to 4,
-- and if that has more than c requests, the plan with one entry on the database
pub record IsPlanFor (k c : ℕ) (footprint : FootprintOf) (requests : Requests) : Type 0 where
  pub full : Requests
  pub full_is : IsPlanOf (coarsened k footprint) full
  pub within : length full ≤ c → requests ≡ full
  pub past : c < length full → IsPlanOf (on_database (coarsened k footprint)) requests

-- the mode on an ancestor serves a mode under it: S and IS need IS or a stronger one, X, SIX and IX need IX, SIX or X.
-- (Intention modes on ancestors are Gray's, 1975 and 1976; which modes serve is this project's own.)
abbrev pub serves : Mode → Mode → Bool
serves above IntentionShared = true
serves above Shared = true
serves IntentionExclusive below = true
serves SharedIntentionExclusive below = true
serves Exclusive below = true
serves IntentionShared below = false
serves Shared below = false

-- each request has a request on each ancestor, with a mode that serves its own
abbrev pub KeepsProtocol : Requests → Type 0
KeepsProtocol requests =
    (above resource : Resource) (mode : Mode) → holds above resource ≡ true → Contains requests (resource, mode)
    → (found : Mode) × Contains requests (above, found) × (serves found mode ≡ true)

-- each request has one in its subtree whose own right is at least its subtree right, so
-- that it asks for nothing in vain
abbrev pub IsBacked : Requests → Type 0
IsBacked requests =
    (e : Resource × Mode) → Contains requests e
    → (f : Resource × Mode) × Contains requests f × (holds e.0 f.0 ≡ true) × (subtree e.1 ≤ own f.1)

-- what holds of each plan
pub record IsWellFormed (requests : Requests) : Type 0 where
  pub ordered : IsInTreeOrder requests
  pub protocol : KeepsProtocol requests
  pub backed : IsBacked requests

-- each request is on a resource of these tables
abbrev pub IsPlanOver : List TableShape → Requests → Type 0
IsPlanOver tables requests = (e : Resource × Mode) → Contains requests e → IsResourceOf tables e.0
