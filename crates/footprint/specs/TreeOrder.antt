-- Claimed: what contracts promise to a reader rests on these words.
-- Tree order.
use Rattle.std.specs.Prelude.{◌≡◌, ℕ, ◌<◌, IfSome}
use Rattle.std.specs.declared.cmp.Ordering.TheVariants.{Less, Equal}
use Rattle.footprint.specs.declared.resource.InPart.{InPart}
use Rattle.footprint.specs.declared.resource.InPart.TheVariants.{Row}
use Rattle.footprint.specs.declared.resource.InTable.{InTable}
use Rattle.footprint.specs.declared.resource.InTable.TheVariants.{Part}
use Rattle.footprint.specs.declared.resource.Resource.{Resource}
use Rattle.footprint.specs.declared.resource.Resource.TheVariants.{Table}
use Rattle.footprint.specs.Tree.{resource_cmp, parent_of}

-- A parent comes before its children. What is in an earlier table comes before what is in a later one, in a table
-- what is in a partition of a lesser number, and in a partition the row with the lesser key
pub record StandsInTreeOrder : Type 0 where
  pub parents : (r : Resource) → IfSome (parent_of r) (λ p. resource_cmp p r ≡ Less)
  pub tables : (t u : ℕ) (x y : InTable) → t < u → resource_cmp (Table t x) (Table u y) ≡ Less
  pub parts : (t p q : ℕ) (x y : InPart) → p < q → resource_cmp (Table t (Part p x)) (Table t (Part q y)) ≡ Less
  pub rows : (t p j k : ℕ) → j < k → resource_cmp (Table t (Part p (Row j))) (Table t (Part p (Row k))) ≡ Less
  pub same : (r : Resource) → resource_cmp r r ≡ Equal
