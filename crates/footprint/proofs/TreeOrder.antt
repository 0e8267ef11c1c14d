-- Resources stand in tree order.
use Rattle.std.proofs.Common.{◌≡◌, ℕ, ◌<◌, refl, sym, ap, ◌∙◌, Ordering, Less, Equal}
use Rattle.std.specs.Prelude.{IfSome}
use Rattle.std.specs.Cmp.{nat_cmp_is}
use Rattle.std.specs.Ordering.{nat_cmp, ordering_then}
use Rattle.footprint.specs.declared.resource.InPart.{InPart}
use Rattle.footprint.specs.declared.resource.InPart.TheVariants.{WholePart, Row}
use Rattle.footprint.specs.declared.resource.InTable.{InTable}
use Rattle.footprint.specs.declared.resource.InTable.TheVariants.{WholeTable, Part}
use Rattle.footprint.specs.declared.resource.Resource.{Resource}
use Rattle.footprint.specs.declared.resource.Resource.TheVariants.{Db, Table}
use Rattle.footprint.specs.contracts.resource.InPartOrd.TheImpl as in_part
use Rattle.footprint.specs.contracts.resource.InTableOrd.TheImpl as in_table
use Rattle.footprint.specs.Tree.{resource_cmp, parent_of}
use Rattle.footprint.specs.TreeOrder.{StandsInTreeOrder}

less : (m n : ℕ) (o : Ordering) → m < n → ordering_then (nat_cmp m n) o ≡ Less
less m n o l = ap (λ x. ordering_then x o) (sym (nat_cmp_is m n Less l))

then_on : (n : ℕ) (o : Ordering) → ordering_then (nat_cmp n n) o ≡ o
then_on n o = ap (λ x. ordering_then x o) (sym (nat_cmp_is n n Equal refl))

in_table_on : (t : ℕ) (x y : InTable) → resource_cmp (Table t x) (Table t y) ≡ in_table.ghosts.cmp x y
in_table_on t x y = then_on t (in_table.ghosts.cmp x y)

in_part_on : (t p : ℕ) (x y : InPart) → resource_cmp (Table t (Part p x)) (Table t (Part p y)) ≡ in_part.ghosts.cmp x y
in_part_on t p x y = in_table_on t (Part p x) (Part p y) ∙ then_on p (in_part.ghosts.cmp x y)

parents : (r : Resource) → IfSome (parent_of r) (λ p. resource_cmp p r ≡ Less)
parents Db = tt
parents (Table t WholeTable) = refl
parents (Table t (Part p WholePart)) = in_table_on t WholeTable (Part p WholePart)
parents (Table t (Part p (Row k))) = in_part_on t p WholePart (Row k)

same : (r : Resource) → resource_cmp r r ≡ Equal
same Db = refl
same (Table t WholeTable) = in_table_on t WholeTable WholeTable
same (Table t (Part p WholePart)) = in_part_on t p WholePart WholePart
same (Table t (Part p (Row k))) = in_part_on t p (Row k) (Row k) ∙ sym (nat_cmp_is k k Equal refl)

pub stands_in_tree_order : StandsInTreeOrder
stands_in_tree_order = record {
  parents = parents;
  tables = λ t u x y l. less t u (in_table.ghosts.cmp x y) l;
  parts = λ t p q x y l. in_table_on t (Part p x) (Part q y) ∙ less p q (in_part.ghosts.cmp x y) l;
  rows = λ t p j k l. in_part_on t p (Row j) (Row k) ∙ sym (nat_cmp_is j k Less l);
  same = same;
}
