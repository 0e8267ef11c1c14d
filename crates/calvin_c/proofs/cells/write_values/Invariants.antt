use Rattle.std.proofs.Common.{◌≡◌, length, map, take}
use Rattle.calvin_c.specs.Values.{fitting, value_in}
use Rattle.calvin_c.proofs.cells.write_values.Given as goal

-- the first values are written
abbrev pub invariant-loop-i : goal.invariant-loop-i
invariant-loop-i l =
    (length l.cells ≡ length l.initial.cells)
    × (map value_in (take l.i l.cells) ≡ map fitting (take l.i l.values))
