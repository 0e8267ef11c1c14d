use Rattle.std.proofs.Common.{ap, ◌∙◌, arith}
use Rattle.std.specs.Prelude.{Some, None, slice_get}
use Rattle.lanes.proofs.Work.{has_still}
use Rattle.test_scheduling_and_devices.proofs.handing_over.deliver_in_order.Goals as goal

pub deliver-requires-clause-done : goal.deliver-requires-clause-done
deliver-requires-clause-done g c = record {
  job = c.claimed-first.result;
  has = ap (λ s. slice_get s.jobs 0) c.claimed-second.ensures.new_is ∙ has_still c.claimed-first.new.seat.jobs 1 0 (Some c.claimed-second.result) (Some c.claimed-first.result) (λ e. absurd (omega arith)) c.claimed-first.ensures.has;
  comes = c.run_job.ensures;
}

pub deliver-requires-2-clause-done : goal.deliver-requires-2-clause-done
deliver-requires-2-clause-done g c = record {
  job = c.claimed-second.result;
  has = ap (λ s. slice_get s.jobs 1) c.deliver.ensures.seat ∙ has_still c.claimed-second.new.seat.jobs 0 1 None (Some c.claimed-second.result) (λ e. absurd (omega arith)) c.claimed-second.ensures.has;
  comes = c.run_job-2.ensures;
}
