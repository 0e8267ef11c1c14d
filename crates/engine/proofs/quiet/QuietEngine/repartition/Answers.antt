use Rattle.std.proofs.Common.{rules, ◌≡◌, ◌≤◌, length, Option, Some, sym, ap, subst, ◌∙◌, map}
use Rattle.std.proofs.lemmas.List.{length-map}
use Rattle.catalogue.specs.Schemas.{HaveSameSchema}
use Rattle.requests.specs.ProcLists.{ProcsParts}
use Rattle.sequencer.specs.Attempts.{AreCarriedOver}
use Rattle.engine.specs.Batches.{over_tables}
use Rattle.engine.specs.declared.stage.Stage.{Stage}
use Rattle.engine.specs.declared.stage.Stage.TheVariants.{Idle}
use Rattle.engine.specs.Stages.{IsSoundStage}
use Rattle.engine.proofs.Carried.{moved_over, same_each}
use Rattle.engine.proofs.quiet.QuietEngine.repartition.Goals as goal

pub moved-requires : goal.moved-requires
moved-requires c =
    let inside = c.self.inside in
    let is : Some (Idle c.in-Some-Idle.store c.in-Some-Idle.carried) ≡ inside.stage = search rules in
    let was = subst (λ (stage : Option Stage). IsSoundStage inside.configuration.procs.tables inside.next stage) (sym is) c.self.invariant.0 in
    let same : HaveSameSchema c.in-Some-Idle.store.tables c.args.catalogue.now = search rules in
    same_each inside.configuration.procs.tables c.args.catalogue.now c.as_slice.result.now (subst (λ ts. HaveSameSchema ts c.args.catalogue.now) was.0.over same)
    (subst (AreCarriedOver inside.configuration.procs.tables) (sym c.as_slice.ensures.value) was.2)

pub invariant_of-self : goal.invariant_of-self
invariant_of-self c =
    let inside = c.self.inside in
    let store = c.in-Some-Idle.store in
    let carried = c.in-Some-Idle.carried in
    let catalogue = c.args.catalogue.now in
    let is : Some (Idle store carried) ≡ inside.stage = search rules in
    let was = subst (λ (stage : Option Stage). IsSoundStage inside.configuration.procs.tables inside.next stage) (sym is) c.self.invariant.0 in
    let tables : c.in_ok-procs.procs.tables ≡ catalogue = ap (λ (p : ProcsParts). p.tables) c.in_ok-procs.ensures in
    let moved : c.in_ok-carried.carried.items ≡ map (over_tables catalogue) c.as_slice.result.now = c.in_ok-carried.ensures in
    let over = subst (AreCarriedOver catalogue) (sym moved) (moved_over catalogue c.as_slice.result.now) in (
      (
        record { over = c.in_ok-store.ensures.tables ∙ sym tables; unlent = c.in_ok-store.ensures.lent },
        was.1,
        subst (λ ts. AreCarriedOver ts c.in_ok-carried.carried.items) (sym tables) over,
        subst (λ n. n ≤ inside.next) (sym (ap length moved ∙ length-map c.as_slice.result.now (over_tables catalogue) ∙ ap length c.as_slice.ensures.value)) was.3,
      ),
      c.self.invariant.1,
    )
