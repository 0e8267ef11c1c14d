-- Claimed: what contracts promise to a reader rests on these words.
-- Laws of rights.
use Rattle.std.specs.Prelude.{◌≡◌, ◌<◌, ◌↔◌, ◌⊎◌, true, false, Option, Some, None}
use Rattle.std.specs.declared.cmp.Ordering.TheVariants.{Less, Equal, Greater}
use Rattle.proclang_types.specs.declared.right.Right.{Right}
use Rattle.proclang_types.specs.declared.right.Right.TheVariants.{Read, Write}
use Rattle.proclang_types.specs.contracts.right.RightOrd.TheImpl as order
use Rattle.footprint.specs.Rights.{is_at_least, greater}
use Rattle.modes.specs.Rights.{rank, rights_clash}

-- of two rights that may be none: they clash exactly where both are there and one of them is Write. So readers do not
-- block readers, and nothing clashes with no right
pub record ClashesByWrite : Type 0 where
  pub clash : (first second : Right)
      → (rights_clash (rank (Some first)) (rank (Some second)) ≡ true) ↔ ((first ≡ Write) ⊎ (second ≡ Write))
  pub none_first : (second : Option Right) → rights_clash (rank None) (rank second) ≡ false
  pub none_second : (first : Option Right) → rights_clash (rank first) (rank None) ≡ false

-- Read is less than Write, wherever rights are compared: by their order, by rank, as what satisfies a wanted right,
-- and where the greater of two counts. No right is less than Read
pub record GrowsFromReadToWrite : Type 0 where
  pub reads : order.ghosts.cmp Read Read ≡ Equal
  pub writes : order.ghosts.cmp Write Write ≡ Equal
  pub grows : order.ghosts.cmp Read Write ≡ Less
  pub shrinks : order.ghosts.cmp Write Read ≡ Greater
  pub ranks : rank None < rank (Some Read) × rank (Some Read) < rank (Some Write)
  pub satisfied : (wanted given : Right)
      → (is_at_least wanted (Some given) ≡ true) ↔ ((wanted ≡ Read) ⊎ (given ≡ Write))
  pub unsatisfied : (wanted : Right) → is_at_least wanted None ≡ false
  pub counts : (given right : Right) → (greater (Some given) right ≡ Write) ↔ ((given ≡ Write) ⊎ (right ≡ Write))
  pub alone : (right : Right) → greater None right ≡ right
