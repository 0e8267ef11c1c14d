-- Claimed: what contracts promise to a reader rests on these words.
-- The five modes, each a pair of rights: on the resource itself, and the greatest in its subtree.
-- (Gray, Lorie, Putzolu and Traiger, 1975 and 1976, whose table `are_compatible` gives.)
use Rattle.std.specs.Prelude.{◌≡◌, ◌≤◌, ℕ, Bool, ◌&&◌, not, max}
use Rattle.modes.specs.declared.mode.Mode.{Mode}
use Rattle.modes.specs.declared.mode.Mode.TheVariants.{IntentionShared, IntentionExclusive, Shared, SharedIntentionExclusive, Exclusive}
use Rattle.modes.specs.Rights.{rights_clash}

-- the right on the resource itself
abbrev pub own : Mode → ℕ
own IntentionShared = 0
own IntentionExclusive = 0
own Shared = 1
own SharedIntentionExclusive = 1
own Exclusive = 2

-- the greatest right in the subtree; with `own` it makes a mode: IS none, Read; IX none, Write; S Read, Read; SIX Read,
-- Write; X Write, Write
abbrev pub subtree : Mode → ℕ
subtree IntentionShared = 1
subtree IntentionExclusive = 2
subtree Shared = 1
subtree SharedIntentionExclusive = 2
subtree Exclusive = 2

-- rule: lock.compatible
-- neither's own right clashes with the other's right in the subtree
abbrev pub are_compatible : Mode → Mode → Bool
are_compatible first second =
    not (rights_clash (own first) (subtree second)) && not (rights_clash (own second) (subtree first))

-- the second mode is at least as strong as the first: it has at least its rights, on the resource and in the subtree.
-- So IS < IX < SIX < X and IS < S < SIX, and neither of IX and S is stronger than the other
abbrev pub IsAtMost : Mode → Mode → Type 0
IsAtMost weaker stronger = (own weaker ≤ own stronger) × (subtree weaker ≤ subtree stronger)

-- the mode has the greater of each of the rights of two modes
abbrev pub IsJoin : Mode → Mode → Mode → Type 0
IsJoin first second joined =
    (own joined ≡ max (own first) (own second)) × (subtree joined ≡ max (subtree first) (subtree second))
