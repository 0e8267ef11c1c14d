use Rattle.std.proofs.Common.{◌≡◌}
use Rattle.intake.specs.Passes.{IsDrawerOf, drawn_by, held_by}
use Rattle.intake.specs.Draining.{Appends}
use Rattle.intake.proofs.intake.Intake.draw_all.Given as goal

-- the pass stays the owner's, and what was drawn so far was appended
abbrev pub invariant-loop : goal.invariant-loop
invariant-loop g l = IsDrawerOf l.self l.pass × (held_by l.pass ≡ held_by l.initial.pass)
    × Appends g.B.Batched.items_of l.initial.into.items l.into.items (drawn_by l.initial.pass) (drawn_by l.pass)
