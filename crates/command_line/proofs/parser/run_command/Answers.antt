use Rattle.std.proofs.Common.{◌≡◌, ap, ap₂, ◌∙◌}
use Rattle.std.proofs.lemmas.Result.{IfOk-weaker}
use Rattle.clap.specs.Words.{with_rule}
use Rattle.command_line.specs.Words.{run_app, with_input, with_running, with_settings}
use Rattle.command_line.proofs.Locals.{stays_local}
use Rattle.command_line.proofs.parser.run_command.Goals as goal

pub returns-clause-app : goal.returns-clause-app
unfolding run_app
returns-clause-app c =
    let first = c.in_ok-command.ensures.app ∙ ap with_input c.bare_command-command.ensures.app in
    let second = c.in_ok-command-2.ensures.app ∙ ap with_running first in
    IfOk-weaker c.with_settings.result _ _ (λ r h. h ∙ ap with_settings second) c.with_settings.ensures.app
