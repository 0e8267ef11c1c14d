use Rattle.std.proofs.Common.{◌≡◌, ◌++◌, List}
use Rattle.batch_items.specs.declared.item.Item.{Item}
use Rattle.intake.specs.Passes.{IsDrawerOf, drawn_by, held_by}
use Rattle.intake.proofs.intake.Intake.discard.Given as goal

-- the pass stays the owner's, and has drawn on
abbrev pub invariant-loop : goal.invariant-loop
invariant-loop g l = record {
  pass : IsDrawerOf l.self l.pass;
  held : held_by l.pass ≡ held_by l.initial.pass;
  drawn : (more : List (Item g.row.Q.Denot)) × (drawn_by l.pass ≡ drawn_by l.initial.pass ++ more);
}
