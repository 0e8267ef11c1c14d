-- Claimed: what contracts promise to a reader rests on these words.
-- The one plan for a footprint, as a list that is put together: its laws say that it is the plan that `IsPlanFor`
-- describes, and that there is no other. (Intentions on ancestors: Gray and others, 1975 and 1976; the coarsening is
-- this project's own.)
use Rattle.std.specs.Prelude.{ℕ, max, nat_le, if◌then◌else◌, ◌==◌, List, [], ◌∷◌, length}
use Rattle.std.specs.declared.cmp.Ordering.{Ordering}
use Rattle.std.specs.declared.cmp.Ordering.TheVariants.{Less, Equal, Greater}
use Rattle.std.specs.FinMap.{entries}
use Rattle.proclang_types.specs.declared.right.Right.{Right}
use Rattle.proclang_types.specs.declared.right.Right.TheVariants.{Read, Write}
use Rattle.footprint.specs.declared.resource.InPart.TheVariants.{WholePart, Row}
use Rattle.footprint.specs.declared.resource.InTable.TheVariants.{WholeTable, Part}
use Rattle.footprint.specs.declared.resource.Resource.{Resource}
use Rattle.footprint.specs.declared.resource.Resource.TheVariants.{Db, Table}
use Rattle.footprint.specs.Tree.{resource_cmp}
use Rattle.footprint.specs.Rights.{FootprintOf}
use Rattle.modes.specs.declared.mode.Mode.{Mode}
use Rattle.modes.specs.declared.mode.Mode.TheVariants.{IntentionShared, IntentionExclusive, Shared, SharedIntentionExclusive, Exclusive}
use Rattle.modes.specs.Modes.{own, subtree}
use Rattle.coarsen.specs.Subtrees.{Requests}
use Rattle.coarsen.specs.Coarsening.{coarsened, on_database}

-- the mode with these rights, on the resource itself and in its subtree
abbrev pub mode_of : ℕ → ℕ → Mode
mode_of on under = if on == 2 then Exclusive
    else (if on == 1 then (if under == 2 then SharedIntentionExclusive else Shared)
    else (if under == 2 then IntentionExclusive else IntentionShared))

-- the mode with the greater of each of the rights of two modes
abbrev pub joined : Mode → Mode → Mode
joined a b = mode_of (max (own a) (own b)) (max (subtree a) (subtree b))

-- the mode that a mode needs on the ancestors: no right on them, and its right in their subtrees
abbrev pub intention : Mode → Mode
intention m = mode_of 0 (subtree m)

-- the mode of an entry on its resource
abbrev pub whole : Right → Mode
whole Read = Shared
whole Write = Exclusive

-- a mode is joined to the request on a resource, which is put in tree order where there is none; the request at the
-- head is before the resource, on it or after it
abbrev pub at_head : Ordering → Resource → Mode → Resource × Mode → Requests → Requests → Requests
at_head Less resource mode e es rest = (resource, mode) ∷ e ∷ es
at_head Equal resource mode e es rest = (e.0, joined e.1 mode) ∷ es
at_head Greater resource mode e es rest = e ∷ rest

-- one more request, joined to the one that is there on the resource
abbrev pub request : Resource → Mode → Requests → Requests
request resource mode [] = (resource, mode) ∷ []
request resource mode (e ∷ es) = at_head (resource_cmp resource e.0) resource mode e es (request resource mode es)

-- and its intention to the requests on the ancestors
abbrev pub on_table : ℕ → Mode → Requests → Requests
on_table t mode es = request (Table t WholeTable) mode (request Db (intention mode) es)

abbrev pub on_part : ℕ → ℕ → Mode → Requests → Requests
on_part t p mode es = request (Table t (Part p WholePart)) mode (on_table t (intention mode) es)

abbrev pub on_row : ℕ → ℕ → ℕ → Mode → Requests → Requests
on_row t p k mode es = request (Table t (Part p (Row k))) mode (on_part t p (intention mode) es)

-- a request on a resource, with its intention on each ancestor
abbrev pub request_up : Resource → Mode → Requests → Requests
request_up Db mode es = request Db mode es
request_up (Table t WholeTable) mode es = on_table t mode es
request_up (Table t (Part p WholePart)) mode es = on_part t p mode es
request_up (Table t (Part p (Row k))) mode es = on_row t p k mode es

-- the requests for entries
abbrev pub requests_for : List (Resource × Right) → Requests
requests_for [] = []
requests_for (e ∷ es) = request_up e.0 (whole e.1) (requests_for es)

-- the plan of a footprint as it is
abbrev pub plan_of : FootprintOf → Requests
plan_of footprint = requests_for (entries footprint)

-- rule: lock.arena
-- the plan for a footprint, with threshold k and at most c requests: its entries one after the other, each with its
-- mode on the resource and its intention on the ancestors
abbrev pub plan_for : ℕ → ℕ → FootprintOf → Requests
plan_for k c footprint =
    if nat_le (length (plan_of (coarsened k footprint))) c then plan_of (coarsened k footprint)
    else plan_of (on_database (coarsened k footprint))
