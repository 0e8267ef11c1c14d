use Rattle.std.proofs.Common.{◌≡◌, ◌+◌, ◌≤◌, ◌^◌, length, List, Option, Some, ap, sym, subst, ◌∙◌}
use Rattle.sequencer.specs.Attempts.{Attempt, attempts_of}
use Rattle.sequencer.specs.Batches.{items_of, AreOver}
use Rattle.engine.specs.declared.stage.Stage.{Stage}
use Rattle.engine.specs.declared.stage.Stage.TheVariants.{Idle}
use Rattle.engine.specs.Batches.{next_attempts}
use Rattle.engine.specs.Engines.{EngineParts, tables_of}
use Rattle.engine.specs.Stages.{IsSoundStage, carried_in}
use Rattle.engine.proofs.quiet.QuietEngine.hold.Goals as goal

pub invariant_of-self : goal.invariant_of-self
invariant_of-self c =
    let inside = c.self.inside in
    let store = c.in-Some-Idle.store in
    let carried = c.in-Some-Idle.carried in
    let is : Some (Idle store carried) ≡ inside.stage = ap (λ (stage : Stage). Some stage) (sym c.in-Some-Idle.field-0-is) ∙ c.in-Some-Idle.ensures.value in
    let was = subst (λ (stage : Option Stage). IsSoundStage inside.configuration.procs.tables inside.next stage) (sym is) c.self.invariant.0 in
    let over = subst (λ (e : EngineParts). AreOver (tables_of e) (items_of c.args.batch)) (sym c.self.view_is) c.requires.over in
    let room = subst (λ (e : EngineParts). e.next + length (next_attempts e c.args.batch) ≤ 2 ^ 48) (sym c.self.view_is) c.requires.room in
    let few = subst (λ (stage : Option Stage). inside.next + length (attempts_of (carried_in stage) (items_of c.args.batch)) ≤ 2 ^ 48) (sym is) room in (
      record {
        from = record {
          over = c.of.ensures.over inside.configuration.procs.tables was.2 over;
          few = subst (λ (attempts : List Attempt). inside.next + length attempts ≤ 2 ^ 48) (sym c.of.ensures.attempts) few;
        };
        free = was.0;
      },
      c.self.invariant.1,
    )
