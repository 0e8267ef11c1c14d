use Rattle.std.proofs.Common.{◌≡◌, ap, ap₂, ◌∙◌}
use Rattle.std.proofs.lemmas.Result.{IfOk-weaker}
use Rattle.clap.specs.Words.{with_rule}
use Rattle.command_line.specs.Words.{check_app, with_input, with_settings}
use Rattle.command_line.proofs.Locals.{stays_local}
use Rattle.command_line.proofs.parser.check_command.Goals as goal

pub returns-clause-app : goal.returns-clause-app
unfolding check_app
returns-clause-app c =
    IfOk-weaker c.with_settings.result _ _ (λ r h. h ∙ ap with_settings (c.in_ok-command.ensures.app ∙ ap with_input c.bare_command-command.ensures.app)) c.with_settings.ensures.app
