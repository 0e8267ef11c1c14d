-- Claimed: what contracts promise to a reader rests on these words.
-- Laws of the tree, of coarsening, of plans and of clashes.
use Rattle.std.specs.Prelude.{◌≡◌, ◌<◌, ◌≤◌, ◌↔◌, ◌⊎◌, ℕ, true, false, if◌then◌else◌, nat_lt, max, List, length, Some, None}
use Rattle.std.specs.List.{Contains, list_any}
use Rattle.std.specs.FinMap.{entries, get, empty}
use Rattle.values.specs.declared.name.RowName.{RowName}
use Rattle.catalogue.specs.Shapes.{TableShape}
use Rattle.catalogue.specs.Rules.{IsCatalogue}
use Rattle.proclang_types.specs.declared.right.Right.{Right}
use Rattle.proclang_types.specs.declared.right.Right.TheVariants.{Read, Write}
use Rattle.footprint.specs.declared.resource.Resource.{Resource}
use Rattle.footprint.specs.Tree.{ancestors_of, row_resource}
use Rattle.footprint.specs.Rights.{FootprintOf, is_at_least, covers, with_right}
use Rattle.footprint.specs.OfCatalogue.{IsRowName, IsResourceOf, IsFootprintOf}
use Rattle.modes.specs.declared.mode.Mode.{Mode}
use Rattle.modes.specs.Rights.{rank_of}
use Rattle.modes.specs.Modes.{own, subtree}
use Rattle.coarsen.specs.declared.level.Level.{Level}
use Rattle.coarsen.specs.Subtrees.{Requests, holds, greatest, right_on, right_under, covers_by_requests}
use Rattle.coarsen.specs.Coarsening.{needed, lifted, children, parent_at, is_parent, coarsened}
use Rattle.coarsen.specs.Plans.{IsPlanOf, IsPlanFor, IsWellFormed, IsPlanOver}
use Rattle.coarsen.specs.ThePlan.{plan_for}
use Rattle.coarsen.specs.Clashes.{locks_row, Clash, ModesClash}

-- a resource holds itself and what it is an ancestor of, and nothing else
pub record HoldsDescendants : Type 0 where
  pub itself : (a : Resource) → holds a a ≡ true
  pub descendants : (a b : Resource) → Contains (ancestors_of b) a → holds a b ≡ true
  pub only : (a b : Resource) → holds a b ≡ true → (a ≡ b) ⊎ Contains (ancestors_of b) a

-- an entry goes exactly where some ancestor has at least its right, and no right is added
pub record DropsCovered : Type 0 where
  pub entry : (f : FootprintOf) (r : Resource) (x : Right) → get f r ≡ Some x
      → right_on (needed f) r ≡ (if list_any (λ a. is_at_least x (get f a)) (ancestors_of r) then 0 else rank_of x)
  pub none : (f : FootprintOf) (r : Resource) → get f r ≡ None → right_on (needed f) r ≡ 0

-- a resource of the level keeps its entry exactly where its parent has at most k entries of the level as its children.
-- Any other resource with more than k of them has the greatest right of them and of its own entry, or else its own
-- right
pub record ReplacesMany : Type 0 where
  pub children_go : (level : Level) (k : ℕ) (f : FootprintOf) (r parent : Resource) → parent_at level r ≡ Some parent
      → right_on (lifted level k f) r ≡ (if nat_lt k (children level f parent) then 0 else right_on f r)
  pub parent_comes : (level : Level) (k : ℕ) (f : FootprintOf) (r : Resource) → parent_at level r ≡ None
      → right_on (lifted level k f) r
      ≡ max (right_on f r)
      (if nat_lt k (children level f r) then greatest rank_of (λ s. is_parent (parent_at level s) r) (entries f)
      else 0)

-- Coarsening as a whole. What was covered is covered. No entry is under one of at least its right. In the subtree
-- of no resource is a right that is greater than all that were there. At most k entries of a level are the children of
-- one resource; and where it is so once the entries that are covered are gone, nothing else is done
pub record CoversWithoutExcess : Type 0 where
  pub covered : (k : ℕ) (f : FootprintOf) (r : Resource) (x : Right) → covers f r x ≡ true
      → covers (coarsened k f) r x ≡ true
  pub none_covered : (k : ℕ) (f : FootprintOf) (r above : Resource) (x : Right) → get (coarsened k f) r ≡ Some x
      → Contains (ancestors_of r) above
      → is_at_least x (get (coarsened k f) above) ≡ false
  pub nothing_new : (k : ℕ) (f : FootprintOf) (r : Resource) → right_under (coarsened k f) r ≤ right_under f r
  pub few : (k : ℕ) (f : FootprintOf) (level : Level) (parent : Resource) → children level (coarsened k f) parent ≤ k
  pub left_alone : (k : ℕ) (f : FootprintOf)
      → ((level : Level) (parent : Resource) → children level (needed f) parent ≤ k)
      → (r : Resource) → right_on (coarsened k f) r ≡ right_on (needed f) r

-- a plan of a footprint has a request on a resource exactly if there is a mode of the resource's rights, and then the
-- request has it. So a footprint has one plan
pub record PlansAreExact : Type 0 where
  pub requests : (f : FootprintOf) (plan : Requests) → IsPlanOf f plan → (r : Resource) (m : Mode)
      → Contains plan (r, m) ↔ ((own m ≡ right_on f r) × (subtree m ≡ right_under f r))
  pub one : (f : FootprintOf) (a b : Requests) → IsPlanOf f a → IsPlanOf f b → a ≡ b

-- the plan for a footprint is that which is put together, and no other
abbrev pub PlanIsOne : Type 0
PlanIsOne = (k c : ℕ) (f : FootprintOf) (plan : Requests) → IsPlanFor k c f plan ↔ (plan ≡ plan_for k c f)

-- the plan for a footprint is well formed, covers what the footprint covers, has at most c requests, and is over each
-- catalogue that the footprint is of
pub record PlansServe : Type 0 where
  pub sound : (k c : ℕ) (f : FootprintOf) (plan : Requests) → IsPlanFor k c f plan → IsWellFormed plan
  pub covered : (k c : ℕ) (f : FootprintOf) (plan : Requests) → IsPlanFor k c f plan
      → (resource : Resource) (right : Right) → covers f resource right ≡ true
      → covers_by_requests plan resource right ≡ true
  pub size : (k c : ℕ) (f : FootprintOf) (plan : Requests) → 0 < c → IsPlanFor k c f plan → length plan ≤ c
  pub over : (k c : ℕ) (f : FootprintOf) (plan : Requests) → IsPlanFor k c f plan → (tables : List TableShape)
      → IsCatalogue tables → IsFootprintOf tables f
      → IsPlanOver tables plan

-- plans clash either way
pub record ClashEitherWay : Type 0 where
  pub requests : (a b : Requests) → ModesClash a b → ModesClash b a
  pub rows : (tables : List TableShape) (a b : Requests) → Clash tables a b → Clash tables b a

-- footprints to which resources of a catalogue are added are of the catalogue, and so are its row names
pub record FootprintsAreOf : Type 0 where
  pub nothing : (tables : List TableShape) → IsFootprintOf tables empty
  pub more : (tables : List TableShape) (f : FootprintOf) (r : Resource) (x : Right) → IsFootprintOf tables f
      → IsResourceOf tables r → IsFootprintOf tables (with_right f r x)
  pub row : (tables : List TableShape) (name : RowName) → IsRowName tables name
      → IsResourceOf tables (row_resource tables name)

-- two plans of which one locks a row name to write and the other locks it at all are in conflict, whatever the name
abbrev pub LockedRowsConflict : Type 0
LockedRowsConflict =
    (tables : List TableShape) (a b : Requests) → IsWellFormed a → IsWellFormed b → (name : RowName)
    → locks_row tables a name Write ≡ true → locks_row tables b name Read ≡ true → ModesClash a b
