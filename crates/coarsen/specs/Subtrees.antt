-- Claimed: what contracts promise to a reader rests on these words.
-- The greatest right on a resource, under it and over it, by rank: none 0, Read 1, Write 2.
use Rattle.std.specs.Prelude.{ℕ, Bool, true, false, ◌&&◌, ◌==◌, if◌then◌else◌, nat_le, max, List, [], ◌∷◌}
use Rattle.std.specs.FinMap.{entries, get}
use Rattle.proclang_types.specs.declared.right.Right.{Right}
use Rattle.footprint.specs.declared.resource.InPart.{InPart}
use Rattle.footprint.specs.declared.resource.InPart.TheVariants.{WholePart, Row}
use Rattle.footprint.specs.declared.resource.InTable.{InTable}
use Rattle.footprint.specs.declared.resource.InTable.TheVariants.{WholeTable, Part}
use Rattle.footprint.specs.declared.resource.Resource.{Resource}
use Rattle.footprint.specs.declared.resource.Resource.TheVariants.{Db, Table}
use Rattle.footprint.specs.Rights.{FootprintOf}
use Rattle.modes.specs.declared.mode.Mode.{Mode}
use Rattle.modes.specs.Rights.{rank_of, rank}
use Rattle.modes.specs.Modes.{own, subtree}

-- the second resource is in the subtree of the first: it is the first, or the first is an ancestor of it
abbrev pub holds_in_part : InPart → InPart → Bool
holds_in_part WholePart b = true
holds_in_part (Row k) WholePart = false
holds_in_part (Row k) (Row l) = k == l

abbrev pub holds_in_table : InTable → InTable → Bool
holds_in_table WholeTable b = true
holds_in_table (Part p a) WholeTable = false
holds_in_table (Part p a) (Part q b) = (p == q) && holds_in_part a b

-- the second resource is the first, or has it as an ancestor
abbrev pub holds : Resource → Resource → Bool
holds Db b = true
holds (Table t a) Db = false
holds (Table t a) (Table u b) = (t == u) && holds_in_table a b

-- one resource
abbrev pub is_same : Resource → Resource → Bool
is_same a b = holds a b && holds b a

-- the greatest value of the items whose resources pass a test, 0 where none does
abbrev pub greatest : {X : Type 0} → (X → ℕ) → (Resource → Bool) → List (Resource × X) → ℕ
greatest value test [] = 0
greatest value test (e ∷ es) = max (if test e.0 then value e.1 else 0) (greatest value test es)

-- the right of a resource's own entry, and the greatest right of the entries in its subtree
abbrev pub right_on : FootprintOf → Resource → ℕ
right_on footprint resource = rank (get footprint resource)

-- the greatest right in the subtree of a resource
abbrev pub right_under : FootprintOf → Resource → ℕ
right_under footprint resource = greatest rank_of (holds resource) (entries footprint)

-- requests: resources and modes
abbrev pub Requests : Type 0
Requests = List (Resource × Mode)

-- the rights of the request on a resource, none where there is no request
abbrev pub own_on : Requests → Resource → ℕ
own_on requests resource = greatest own (is_same resource) requests

-- the greatest right that a request on the resource asks for in the subtree
abbrev pub subtree_on : Requests → Resource → ℕ
subtree_on requests resource = greatest subtree (is_same resource) requests

-- the greatest own right of the requests on a resource and its ancestors: what the requests cover there
abbrev pub own_over : Requests → Resource → ℕ
own_over requests resource = greatest own (λ over. holds over resource) requests

-- the requests cover a right on a resource if the resource or an ancestor has a request
-- whose own right is at least that
abbrev pub covers_by_requests : Requests → Resource → Right → Bool
covers_by_requests requests resource right = nat_le (rank_of right) (own_over requests resource)
