use Rattle.std.proofs.Common.{ℕ, nat_lt, rules}
use Rattle.std.proofs.lemmas.List.Sorted.{IsPartitionPoint-from_clause}
use Rattle.lock_tree.proofs.Opens.{parted_numbers, point_of_numbers}
use Rattle.lock_tree.proofs.rising_numbers.places_before.Goals as goal

pub returns-clause-exact : goal.returns-clause-exact
returns-clause-exact c =
    point_of_numbers c.args.no c.args.numbers.now.items c.partition_point.result (search rules)
    (IsPartitionPoint-from_clause (λ (x : ℕ). nat_lt x c.args.no) _ _ c.partition_point.ensures.partitioned (parted_numbers c.args.no c.args.numbers.now.items c.requires) (λ a r q k. search rules))
