-- Claimed: what contracts promise to a reader rests on these words.
-- The ranges of a run's settings.
use Rattle.std.specs.Prelude.{◌≤◌, ◌<◌, ◌⊎◌, ℕ}

-- each setting is in its range: 1 to 16 workers, 1 to 64 lanes, a threshold of 0 to 65,535, room for 1 to 1,048,576
-- requests
pub record AreInRange (workers lanes threshold arena : ℕ) : Type 0 where
  pub some_workers : 1 ≤ workers
  pub few_workers : workers ≤ 16
  pub some_lanes : 1 ≤ lanes
  pub few_lanes : lanes ≤ 64
  pub few_entries : threshold ≤ 65535
  pub some_requests : 1 ≤ arena
  pub few_requests : arena ≤ 1048576

-- one setting is below or above its range
abbrev pub IsOneOutOfRange : ℕ → ℕ → ℕ → ℕ → Type 0
IsOneOutOfRange workers lanes threshold arena =
    (workers < 1) ⊎ ((16 < workers)
    ⊎ ((lanes < 1) ⊎ ((64 < lanes) ⊎ ((65535 < threshold) ⊎ ((arena < 1) ⊎ (1048576 < arena))))))
