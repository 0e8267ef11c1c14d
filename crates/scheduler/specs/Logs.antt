-- Claimed: what contracts promise to a reader rests on these words.
-- The log that a scheduler is given: entries, and the plans that are made for them.
use Rattle.std.specs.Prelude.{◌≡◌, ◌≤◌, ℕ, true, length, List, [], ◌∷◌, map, ⊤}
use Rattle.catalogue.specs.Shapes.{TableShape}
use Rattle.footprint.specs.Rights.{FootprintOf, covers}
use Rattle.footprint.specs.OfCatalogue.{IsFootprintOf}
use Rattle.catalogue.specs.Rules.{IsCatalogue}
use Rattle.proclang_types.specs.declared.right.Right.{Right}
use Rattle.footprint.specs.declared.resource.Resource.{Resource}
use Rattle.coarsen.specs.Subtrees.{Requests, covers_by_requests}
use Rattle.coarsen.specs.Plans.{IsPlanFor, IsWellFormed, IsPlanOver}
use Rattle.coarsen.specs.ThePlan.{plan_for}
use Rattle.meaning.specs.Entries.{EntryShape, footprint_of}
use Rattle.interp.specs.Entries.{EntryParts, entry_shape}
use Rattle.interp.specs.Over.{locked_for}
use Rattle.scheduler_core.specs.Transactions.{Transaction}

-- entries with their plans
abbrev pub transactions_of : List EntryParts → List Requests → List Transaction
transactions_of [] plans = []
transactions_of (entry ∷ entries) [] = []
transactions_of (entry ∷ entries) (plan ∷ plans) =
    record { entry = entry_shape entry; plan = plan } ∷ transactions_of entries plans

-- the plan of an entry is the one for its footprint, and for the empty footprint where its declaration faults
abbrev pub IsPlanOfEntry : ℕ → ℕ → EntryShape → Requests → Type 0
IsPlanOfEntry threshold arena entry plan = IsPlanFor threshold arena (locked_for (footprint_of entry.footing)) plan

-- as many of the one as of the other, and of each pair at one place this holds
abbrev pub Paired : {A B : Type 0} → (A → B → Type 0) → List A → List B → Type 0
Paired holds [] [] = ⊤
Paired holds [] (b ∷ bs) = ⊥
Paired holds (a ∷ rest) [] = ⊥
Paired holds (a ∷ rest) (b ∷ bs) = holds a b × Paired holds rest bs

-- the plan of each entry, in order
abbrev pub ArePlansOf : ℕ → ℕ → List EntryShape → List Requests → Type 0
ArePlansOf threshold arena = Paired (IsPlanOfEntry threshold arena)

-- the plans that are made for entries
abbrev pub plans_for : ℕ → ℕ → List EntryParts → List Requests
plans_for threshold arena =
    map (λ entry. plan_for threshold arena (locked_for (footprint_of (entry_shape entry).footing)))

-- a plan that suffices for a footprint: it is sound, it covers what the footprint covers, it is over each tables that
-- the footprint is over, and it is not larger than the room
pub record SufficesFor (arena : ℕ) (touched : FootprintOf) (plan : Requests) : Type 0 where
  pub sound : IsWellFormed plan
  pub covered : (resource : Resource) (right : Right) → covers touched resource right ≡ true
      → covers_by_requests plan resource right ≡ true
  pub over : (tables : List TableShape) → IsCatalogue tables → IsFootprintOf tables touched → IsPlanOver tables plan
  pub size : length plan ≤ arena

abbrev pub IsPlannedFor : ℕ → EntryParts → Requests → Type 0
IsPlannedFor arena entry plan = SufficesFor arena (locked_for (footprint_of (entry_shape entry).footing)) plan

abbrev pub ArePlannedFor : ℕ → List EntryParts → List Requests → Type 0
ArePlannedFor arena = Paired (IsPlannedFor arena)
