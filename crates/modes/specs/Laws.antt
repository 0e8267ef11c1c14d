-- Claimed: what contracts promise to a reader rests on these words.
-- Laws of rights and modes.
use Rattle.std.specs.Prelude.{◌≡◌, ◌≤◌, nat_le, max, Option}
use Rattle.proclang_types.specs.declared.right.Right.{Right}
use Rattle.footprint.specs.Rights.{is_at_least, greater}
use Rattle.modes.specs.declared.mode.Mode.{Mode}
use Rattle.modes.specs.Rights.{rank_of, rank}
use Rattle.modes.specs.Modes.{own, subtree, are_compatible, IsAtMost, IsJoin}

-- ranks say of rights what `is_at_least` and `greater` say
pub record RanksAreRights : Type 0 where
  pub order : (wanted : Right) (given : Option Right) → is_at_least wanted given ≡ nat_le (rank_of wanted) (rank given)
  pub greatest : (given : Option Right) (right : Right)
      → rank_of (greater given right) ≡ max (rank given) (rank_of right)

-- two modes with one pair of rights are one mode; the right on the resource is at most the one in its subtree; which
-- modes go together does not depend on their order
pub record PairsAreModes : Type 0 where
  pub same : (a b : Mode) → own a ≡ own b → subtree a ≡ subtree b → a ≡ b
  pub within : (a : Mode) → own a ≤ subtree a
  pub either_way : (a b : Mode) → are_compatible a b ≡ are_compatible b a

-- the join of two modes is the least mode that is at least as strong as both
pub record JoinIsLeast : Type 0 where
  pub upper : (a b m : Mode) → IsJoin a b m → IsAtMost a m × IsAtMost b m
  pub least : (a b m n : Mode) → IsJoin a b m → IsAtMost a n → IsAtMost b n → IsAtMost m n
  pub one : (a b m n : Mode) → IsJoin a b m → IsJoin a b n → m ≡ n
  pub itself : (a : Mode) → IsJoin a a a
  pub turned : (a b m : Mode) → IsJoin a b m → IsJoin b a m
  pub regrouped : (a b c ab bc all : Mode) → IsJoin a b ab → IsJoin b c bc → IsJoin ab c all → IsJoin a bc all
