use Rattle.std.proofs.Common.{arith}
use Rattle.calvin.proofs.PlanTexts.{GoesOn-start, GoesOn-next, GoesOn-end}
use Rattle.calvin.proofs.locks.text_of.Goals as goal

pub loop-place-init : goal.loop-place-init
loop-place-init c = record { few = omega arith; text = GoesOn-start c.args.catalogue.now c.args.settings c.args.entries.now _ c.new-text.ensures.bytes }

pub loop-place-preserved : goal.loop-place-preserved
loop-place-preserved c = record {
  few = omega arith;
  text =
      GoesOn-next c.args.catalogue.now c.args.settings c.args.entries.now c.loop-place.place _ _ c.index-entries-place.result c.in_ok-push_entry.ensures.0 c.loop-place.invariant.text (omega arith) c.index-entries-place.is
      c.in_ok-push_entry.ensures.1 c.in_ok-push_entry.ensures.2;
}

pub returns : goal.returns
returns c = GoesOn-end c.args.catalogue.now c.args.settings c.args.entries.now c.loop-place.place _ c.loop-place.invariant.text (omega arith)
