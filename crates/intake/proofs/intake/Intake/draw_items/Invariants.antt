use Rattle.std.proofs.Common.{◌≡◌, ◌++◌, vec_len}
use Rattle.intake.specs.Passes.{IsDrawerOf, drawn_by, held_by}
use Rattle.intake.proofs.intake.Intake.draw_items.Given as goal

abbrev pub invariant-loop : goal.invariant-loop
invariant-loop g l = IsDrawerOf l.self l.pass × (held_by l.pass ≡ held_by l.initial.pass) × (drawn_by l.pass ≡ drawn_by l.initial.pass ++ l.items.items) × (vec_len l.items ≡ l.counter)
