-- Row names stand by table and then by key.
use Rattle.std.proofs.Common.{◌≡◌, ℕ, ◌<◌, refl, sym, ap, ◌∙◌, Ordering, Less, Equal}
use Rattle.std.specs.Cmp.{nat_cmp_is}
use Rattle.std.specs.Ordering.{nat_cmp, ordering_then}
use Rattle.values.specs.NameOrder.{NamesStandInOrder}

less : (x y : ℕ) → x < y → nat_cmp x y ≡ Less
less x y l = sym (nat_cmp_is x y Less l)

equal : (x y : ℕ) → x ≡ y → nat_cmp x y ≡ Equal
equal x y e = sym (nat_cmp_is x y Equal e)

then_on : (o p q : Ordering) → o ≡ p → ordering_then o q ≡ ordering_then p q
then_on o p q e = ap (λ x. ordering_then x q) e

pub names_stand_in_order : NamesStandInOrder
names_stand_in_order = record {
  tables = λ a b l. then_on (nat_cmp a.table b.table) Less (nat_cmp a.key b.key) (less a.table b.table l);
  keys = λ a b e l. then_on (nat_cmp a.table b.table) Equal (nat_cmp a.key b.key) (equal a.table b.table e) ∙ less a.key b.key l;
  same = λ a. then_on (nat_cmp a.table a.table) Equal (nat_cmp a.key a.key) (equal a.table a.table refl) ∙ equal a.key a.key refl;
}
