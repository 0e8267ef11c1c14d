use Rattle.std.proofs.Common.{◌≡◌, ap, ap₂, ◌∙◌}
use Rattle.std.proofs.lemmas.Result.{IfOk-weaker}
use Rattle.clap.specs.Words.{with_rule}
use Rattle.command_line.specs.Words.{rows_app, with_input, with_running, with_settings}
use Rattle.command_line.proofs.Locals.{stays_local}
use Rattle.command_line.proofs.parser.rows_command.Goals as goal

pub returns-clause-app : goal.returns-clause-app
unfolding rows_app
returns-clause-app c =
    let first = c.in_ok-command.ensures.app ∙ ap with_input c.bare_command-command.ensures.app in
    let second = c.in_ok-with_running.ensures.app ∙ ap with_running first in
    let third = c.in_ok-arg.ensures.shape c.text_option-table.ensures.local ∙ ap₂ with_rule second c.text_option-table.ensures.rule in
    let fourth = c.in_ok-command-2.ensures.shape c.flag_option-document.ensures.local ∙ ap₂ with_rule third c.flag_option-document.ensures.rule in
    IfOk-weaker c.with_settings.result _ _ (λ r h. h ∙ ap with_settings fourth) c.with_settings.ensures.app

pub with_settings-requires : goal.with_settings-requires
with_settings-requires c =
    stays_local _ _ _ (stays_local _ _ _ c.in_ok-with_running.ensures.local c.text_option-table.ensures.local c.in_ok-arg.ensures) c.flag_option-document.ensures.local c.in_ok-command-2.ensures
