use Rattle.std.proofs.Common.{ap, ap₂, ◌∙◌}
use Rattle.std.proofs.lemmas.Result.{IfOk-weaker}
use Rattle.clap.specs.Words.{app_of, with_rule}
use Rattle.command_line.proofs.Locals.{stays_local}
use Rattle.command_line.proofs.parser.with_running.Goals as goal

pub returns-clause-app : goal.returns-clause-app
returns-clause-app c =
    let first = c.in_ok-arg.ensures.shape c.flag_option-alone.ensures.local ∙ ap (with_rule (app_of c.args.command)) c.flag_option-alone.ensures.rule in
    let second = c.in_ok-arg-2.ensures.shape c.progress_option-progress.ensures.local ∙ ap₂ with_rule first c.progress_option-progress.ensures.rule in
    IfOk-weaker c.arg-3.result _ _ (λ r h. h.shape c.flag_option-follow.ensures.local ∙ ap₂ with_rule second c.flag_option-follow.ensures.rule) c.arg-3.ensures

pub returns-clause-local : goal.returns-clause-local
returns-clause-local c =
    let first = stays_local _ _ _ c.requires c.flag_option-alone.ensures.local c.in_ok-arg.ensures in
    let second = stays_local _ _ _ first c.progress_option-progress.ensures.local c.in_ok-arg-2.ensures in
    IfOk-weaker c.arg-3.result _ _ (λ r h. stays_local _ r _ second c.flag_option-follow.ensures.local h) c.arg-3.ensures
