-- The order of row names.
use Rattle.std.proofs.Common.{ap, ℕ}
use Rattle.std.specs.Cmp.{IsTotalOrder}
use Rattle.std.specs.Ordering.{nat_cmp}
use Rattle.std.proofs.lemmas.Map.Lookups.{CmpEqualImpliesEq, exact_pairs, exact_unsigned}
use Rattle.values.specs.contracts.name.RowNameOrd.TheImpl.Laws as laws
use Rattle.values.specs.Database.{name_cmp}

pub names_total : IsTotalOrder name_cmp
names_total = laws.lawful.total

pub exact_names : CmpEqualImpliesEq name_cmp
exact_names a b h = ap (λ (p : ℕ × ℕ). record { table = p.0; key = p.1 }) (exact_pairs nat_cmp nat_cmp exact_unsigned exact_unsigned (a.table, a.key) (b.table, b.key) h)
