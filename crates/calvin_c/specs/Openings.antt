-- Claimed: what contracts promise to a reader rests on these words.
-- What opening a session answers to C.
use Rattle.std.specs.Prelude.{◌≡◌, ◌⊎◌, ℕ, ℤ, Result, Ok, Err, if◌then◌else◌}
use Rattle.dispatcher.specs.Ranges.{AreInRange, IsOneOutOfRange}
use Rattle.setup.specs.declared.fault.SetupFault.{SetupFault}
use Rattle.setup.specs.Faults.{is_memory}
use Rattle.calvin_c.specs.Statuses.{done, misused, no_memory, refused}

-- the status of a setup that was not read
abbrev pub setup_status : SetupFault → ℤ
setup_status fault = if is_memory fault then no_memory else refused

-- a setup that says something is opened where both settings are in their ranges, and else it is misuse; one that breaks
-- a rule is refused; unless an allocation fails
abbrev pub OpensAs : {T : Type 0} → ℕ → ℕ → ℤ → Result T SetupFault → Type 0
OpensAs threshold arena status (Ok said) =
    ((status ≡ done) × AreInRange 1 1 threshold arena) ⊎ ((status ≡ misused) × IsOneOutOfRange 1 1 threshold arena)
    ⊎ (status ≡ no_memory)
OpensAs threshold arena status (Err fault) = (status ≡ refused) ⊎ (status ≡ no_memory)
