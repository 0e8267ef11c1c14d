-- Claimed: what contracts promise to a reader rests on these words.
-- The order of row names.
use Rattle.std.specs.Prelude.{◌≡◌, ◌<◌}
use Rattle.std.specs.declared.cmp.Ordering.TheVariants.{Less, Equal}
use Rattle.values.specs.declared.name.RowName.{RowName}
use Rattle.values.specs.Database.{name_cmp}

-- of two names that of the earlier table comes first, and of two of one table that with the lesser key
pub record NamesStandInOrder : Type 0 where
  pub tables : (a b : RowName) → a.table < b.table → name_cmp a b ≡ Less
  pub keys : (a b : RowName) → a.table ≡ b.table → a.key < b.key → name_cmp a b ≡ Less
  pub same : (a : RowName) → name_cmp a a ≡ Equal
