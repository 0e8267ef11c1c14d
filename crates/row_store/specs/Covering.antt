-- Of the code: invariants and steps; no promise rests on these words.
-- Plans that cover what footprints cover.
use Rattle.std.specs.Prelude.{◌≡◌, true}
use Rattle.proclang_types.specs.declared.right.Right.{Right}
use Rattle.footprint.specs.declared.resource.Resource.{Resource}
use Rattle.footprint.specs.Rights.{FootprintOf, covers}
use Rattle.coarsen.specs.Subtrees.{Requests, covers_by_requests}

-- what the footprint covers is covered by the plan's requests
abbrev pub Covers : Requests → FootprintOf → Type 0
Covers plan footprint = (resource : Resource) (right : Right) → covers footprint resource right ≡ true
    → covers_by_requests plan resource right ≡ true
