-- The order of resources.
use Rattle.std.proofs.Common.{◌≡◌, refl, ap, ◌∙◌, Ordering, Less, Equal, Greater}
use Rattle.std.specs.Cmp.{IsTotalOrder}
use Rattle.std.specs.Ordering.{nat_cmp, ordering_then}
use Rattle.std.proofs.lemmas.Map.Lookups.{CmpEqualImpliesEq, exact_unsigned}
use Rattle.footprint.specs.declared.resource.InPart.TheVariants.{WholePart, Row}
use Rattle.footprint.specs.declared.resource.InTable.TheVariants.{WholeTable, Part}
use Rattle.footprint.specs.declared.resource.Resource.TheVariants.{Db, Table}
use Rattle.footprint.specs.contracts.resource.ResourceOrd.TheImpl.Laws as laws
use Rattle.footprint.specs.contracts.resource.InPartOrd.TheImpl as in_part
use Rattle.footprint.specs.contracts.resource.InTableOrd.TheImpl as in_table
use Rattle.footprint.specs.Tree.{resource_cmp}

pub resources_total : IsTotalOrder resource_cmp
resources_total = laws.lawful.total

then_equal : (x y : Ordering) → ordering_then x y ≡ Equal → (x ≡ Equal) × (y ≡ Equal)
then_equal Less y h = absurd (cc)
then_equal Equal y h = (refl, h)
then_equal Greater y h = absurd (cc)

exact_in_part : CmpEqualImpliesEq in_part.ghosts.cmp
exact_in_part WholePart WholePart h = refl
exact_in_part WholePart (Row l) h = absurd (cc)
exact_in_part (Row k) WholePart h = absurd (cc)
exact_in_part (Row k) (Row l) h = ap (λ n. Row n) (exact_unsigned k l h)

exact_in_table : CmpEqualImpliesEq in_table.ghosts.cmp
exact_in_table WholeTable WholeTable h = refl
exact_in_table WholeTable (Part q b) h = absurd (cc)
exact_in_table (Part p a) WholeTable h = absurd (cc)
exact_in_table (Part p a) (Part q b) h =
    let x = then_equal (nat_cmp p q) (in_part.ghosts.cmp a b) h in
    ap (λ n. Part n a) (exact_unsigned p q x.0) ∙ ap (λ s. Part q s) (exact_in_part a b x.1)

-- resources that compare alike are one
pub exact_resources : CmpEqualImpliesEq resource_cmp
exact_resources Db Db h = refl
exact_resources Db (Table u b) h = absurd (cc)
exact_resources (Table t a) Db h = absurd (cc)
exact_resources (Table t a) (Table u b) h =
    let x = then_equal (nat_cmp t u) (in_table.ghosts.cmp a b) h in
    ap (λ n. Table n a) (exact_unsigned t u x.0) ∙ ap (λ s. Table u s) (exact_in_table a b x.1)
