-- Claimed: what contracts promise to a reader rests on these words.
-- Rights, footprints, and what a footprint covers.
use Rattle.std.specs.Prelude.{Bool, true, false, List, [], ◌∷◌, Option, Some, None}
use Rattle.std.specs.List.{list_any}
use Rattle.std.specs.FinMap.{FinMap, get, insert}
use Rattle.values.specs.declared.name.RowName.{RowName}
use Rattle.catalogue.specs.Shapes.{TableShape}
use Rattle.proclang_types.specs.declared.right.Right.{Right}
use Rattle.proclang_types.specs.declared.right.Right.TheVariants.{Read, Write}
use Rattle.footprint.specs.declared.resource.Resource.{Resource}
use Rattle.footprint.specs.Tree.{resource_cmp, ancestors_of, row_resource}

-- the second right is at least the first: none < Read < Write
abbrev pub is_at_least : Right → Option Right → Bool
is_at_least wanted None = false
is_at_least Read (Some right) = true
is_at_least Write (Some Read) = false
is_at_least Write (Some Write) = true

-- rule: footprint.greatest
-- the greater of a right that may be there and another
abbrev pub greater : Option Right → Right → Right
greater None right = right
greater (Some Write) right = Write
greater (Some Read) right = right

-- a footprint maps resources to rights
abbrev pub FootprintOf : Type 0
FootprintOf = FinMap resource_cmp Right

-- rule: grant.row
-- the footprint covers a right on a resource if the resource or an ancestor of it has at least that right
abbrev pub covers : FootprintOf → Resource → Right → Bool
covers footprint resource right = list_any (λ r. is_at_least right (get footprint r)) (resource ∷ ancestors_of resource)

-- the footprint with one more right on a resource: the greater one counts
abbrev pub with_right : FootprintOf → Resource → Right → FootprintOf
with_right footprint resource right = insert footprint resource (greater (get footprint resource) right)

-- the footprint with more rights, one after another
abbrev pub with_rights : FootprintOf → List (Resource × Right) → FootprintOf
with_rights footprint [] = footprint
with_rights footprint (grant ∷ grants) = with_rights (with_right footprint grant.0 grant.1) grants

-- the footprint covers a right on a row name of these tables
abbrev pub covers_row : List TableShape → FootprintOf → RowName → Right → Bool
covers_row tables footprint name right = covers footprint (row_resource tables name) right
