-- Claimed: what contracts promise to a reader rests on these words.
-- Plans that clash.
use Rattle.std.specs.Prelude.{◌≡◌, Bool, true, false, List}
use Rattle.std.specs.List.{Contains}
use Rattle.values.specs.declared.name.RowName.{RowName}
use Rattle.catalogue.specs.Shapes.{TableShape}
use Rattle.proclang_types.specs.declared.right.Right.{Right}
use Rattle.footprint.specs.declared.resource.Resource.{Resource}
use Rattle.footprint.specs.Tree.{row_resource}
use Rattle.footprint.specs.OfCatalogue.{IsRowName}
use Rattle.modes.specs.declared.mode.Mode.{Mode}
use Rattle.modes.specs.Rights.{rights_clash}
use Rattle.modes.specs.Modes.{are_compatible}
use Rattle.coarsen.specs.Subtrees.{Requests, own_over, covers_by_requests}

-- a plan locks a row name of these tables for a right if it covers that right on it
abbrev pub locks_row : List TableShape → Requests → RowName → Right → Bool
locks_row tables requests name right = covers_by_requests requests (row_resource tables name) right

-- both cover some row name of these tables, whether or not such a row is there, with rights that clash
abbrev pub Clash : List TableShape → Requests → Requests → Type 0
Clash tables a b =
    (name : RowName) × IsRowName tables name
    × (rights_clash (own_over a (row_resource tables name)) (own_over b (row_resource tables name)) ≡ true)

-- both have a request on some resource, and the modes are not compatible
abbrev pub ModesClash : Requests → Requests → Type 0
ModesClash a b =
    (resource : Resource) × (first : Mode) × (second : Mode)
    × Contains a (resource, first) × Contains b (resource, second) × (are_compatible first second ≡ false)
