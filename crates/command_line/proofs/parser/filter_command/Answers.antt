use Rattle.std.proofs.Common.{◌≡◌, ap, ap₂, ◌∙◌}
use Rattle.std.proofs.lemmas.Result.{IfOk-weaker}
use Rattle.clap.specs.Words.{with_rule}
use Rattle.command_line.specs.Words.{filter_app, with_settings}
use Rattle.command_line.proofs.Locals.{stays_local}
use Rattle.command_line.proofs.parser.filter_command.Goals as goal

pub returns-clause-app : goal.returns-clause-app
unfolding filter_app
returns-clause-app c =
    let first = c.in_ok-arg.ensures.shape c.required_word-setup.ensures.local ∙ ap₂ with_rule c.bare_command-command.ensures.app c.required_word-setup.ensures.rule in
    IfOk-weaker c.with_settings.result _ _ (λ r h. h ∙ ap with_settings first) c.with_settings.ensures.app

pub with_settings-requires : goal.with_settings-requires
with_settings-requires c = stays_local _ _ _ c.bare_command-command.ensures.local c.required_word-setup.ensures.local c.in_ok-arg.ensures
