use Rattle.std.proofs.Common.{◌∙◌, inr}
use Rattle.running.proofs.EngineRuns.{of_log}
use Rattle.calvin.specs.Inputs.{paths_of}
use Rattle.calvin.specs.Comparisons.{bytes_of, is_full}
use Rattle.calvin.proofs.CommandRuns.{compared, not_compared, replicas_at}
use Rattle.calvin.proofs.replicas.replicas.Goals as goal

pub returns-in-Ok-result : goal.returns-in-Ok-result
returns-in-Ok-result g c =
    inr (replicas_at (g.F.Files.holds c.args.files.now) (paths_of c.args.input.now) c.args.report.now _ _ _ _ _ c.in-Ok.other.items c.in-Ok-setup_at.document c.run_setup-ended.result.result
    (bytes_of c.new-kept.result) (bytes_of c.run_setup-ended.new.out) (is_full c.new-kept.result) (is_full c.run_setup-ended.new.out) c.in-Ok.ensures.bytes c.in-Ok-setup_at.ensures.setup c.new-kept.ensures.bytes c.new-kept.ensures.room
    (of_log _ _ _ _ _ _ _ _ _ _ _ _ c.requires c.run_setup-ended.ensures.run.1) (compared c.run_setup-ended.result.result _ _ _ _ _ _ _ c.in-Ok-result.is (rw c.deref.ensures.value at (rw c.bytes.ensures at c.answer.ensures))))

pub returns : goal.returns
returns g c =
    inr (replicas_at (g.F.Files.holds c.args.files.now) (paths_of c.args.input.now) c.args.report.now _ _ _ _ _ c.in-Ok.other.items c.in-Ok-setup_at.document c.run_setup-ended.result.result
    (bytes_of c.new-kept.result) (bytes_of c.run_setup-ended.new.out) (is_full c.new-kept.result) (is_full c.run_setup-ended.new.out) c.in-Ok.ensures.bytes c.in-Ok-setup_at.ensures.setup c.new-kept.ensures.bytes c.new-kept.ensures.room
    (of_log _ _ _ _ _ _ _ _ _ _ _ _ c.requires c.run_setup-ended.ensures.run.1) (not_compared c.run_setup-ended.result.result _ _ _ _ _ _ c.in-Err-result.is (c.refused.ensures ∙ c.fault_of.ensures)))
