-- Of the code: invariants and steps; no promise rests on these words.
-- The modes that are held on a resource, counted.
use Rattle.std.specs.Prelude.{◌≡◌, ℕ, ◌+◌, ◌==◌, Bool, true, false, ◌||◌, if◌then◌else◌, List, [], ◌∷◌}
use Rattle.modes.specs.declared.mode.Mode.{Mode}
use Rattle.modes.specs.declared.mode.Mode.TheVariants.{IntentionShared, IntentionExclusive, Shared, SharedIntentionExclusive, Exclusive}
use Rattle.modes.specs.Modes.{are_compatible}
use Rattle.lock_tree.specs.declared.held.Held.{Held}

abbrev pub is_mode : Mode → Mode → Bool
is_mode IntentionShared IntentionShared = true
is_mode IntentionExclusive IntentionExclusive = true
is_mode Shared Shared = true
is_mode SharedIntentionExclusive SharedIntentionExclusive = true
is_mode Exclusive Exclusive = true
is_mode a b = false

-- how often a mode is in a list
abbrev pub times : Mode → List Mode → ℕ
times mode [] = 0
times mode (h ∷ held) = if is_mode mode h then times mode held + 1 else times mode held

-- the counts are those of these modes
pub record AreHeld (counts : Held) (held : List Mode) : Type 0 where
  pub intention_shared : counts.intention_shared ≡ times IntentionShared held
  pub intention_exclusive : counts.intention_exclusive ≡ times IntentionExclusive held
  pub shared : counts.shared ≡ times Shared held
  pub shared_intention_exclusive : counts.shared_intention_exclusive ≡ times SharedIntentionExclusive held
  pub exclusive : counts.exclusive ≡ times Exclusive held

-- none of `count` requests in a mode bars another
abbrev pub spares : ℕ → Mode → Mode → Bool
spares count held mode = (count == 0) || are_compatible held mode
