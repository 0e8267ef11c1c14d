use Rattle.std.proofs.Common.{◌≡◌, List}
use Rattle.std.specs.List.{AllByRecursion}
use Rattle.std.specs.Vec.Iter.{into_iter_items}
use Rattle.intake.specs.Histories.{HasAll}
use Rattle.intake.specs.Passes.{IsDrawerOf, drawn_by, held_by}
use Rattle.example_serving.specs.declared.client.Client.{Client}
use Rattle.example_serving.specs.Calls.{CallItem}
use Rattle.example_serving.specs.Steps.{histories_at}
use Rattle.example_serving.proofs.service.retire_all.Given as goal

-- what the pass holds, and after it what the clients that are left know, is what all clients know
abbrev pub invariant-loop-client : goal.invariant-loop-client
invariant-loop-client l = record {
  pass : IsDrawerOf l.intake l.pass;
  drawn : drawn_by l.pass ≡ drawn_by l.initial.pass;
  left : AllByRecursion (λ (c : Client). c.intake.now ≡ l.intake) (into_iter_items l.client-iterator);
  held : (items : List CallItem) → HasAll items (held_by l.pass) → HasAll items (histories_at (into_iter_items l.client-iterator)) → HasAll items (histories_at l.fn.clients.items);
}
