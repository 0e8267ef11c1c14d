use Rattle.std.proofs.Common.{◌≡◌, ap, ap₂, ◌∙◌}
use Rattle.std.proofs.lemmas.Result.{IfOk-weaker}
use Rattle.clap.specs.Words.{with_rule}
use Rattle.command_line.specs.Words.{replicas_app, with_input, with_settings}
use Rattle.command_line.proofs.Locals.{stays_local}
use Rattle.command_line.proofs.parser.replicas_command.Goals as goal

pub returns-clause-app : goal.returns-clause-app
unfolding replicas_app
returns-clause-app c =
    let first = c.in_ok-with_input.ensures.app ∙ ap with_input c.bare_command-command.ensures.app in
    let second = c.in_ok-arg.ensures.shape c.required_word-report.ensures.local ∙ ap₂ with_rule first c.required_word-report.ensures.rule in
    let third = c.in_ok-command.ensures.shape c.progress_option-progress.ensures.local ∙ ap₂ with_rule second c.progress_option-progress.ensures.rule in
    IfOk-weaker c.with_settings.result _ _ (λ r h. h ∙ ap with_settings third) c.with_settings.ensures.app

pub with_settings-requires : goal.with_settings-requires
with_settings-requires c =
    stays_local _ _ _ (stays_local _ _ _ c.in_ok-with_input.ensures.local c.required_word-report.ensures.local c.in_ok-arg.ensures) c.progress_option-progress.ensures.local c.in_ok-command.ensures
