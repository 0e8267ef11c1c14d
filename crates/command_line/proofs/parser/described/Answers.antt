use Rattle.std.proofs.Common.{true, ap, ◌∙◌}
use Rattle.clap.specs.Simple.{app_of_fields, on_top}
use Rattle.command_line.proofs.parser.described.Goals as goal

pub returns-clause-app : goal.returns-clause-app
returns-clause-app c =
    ap app_of_fields c.after_help.ensures ∙ ap app_of_fields c.version.ensures
    ∙ ap (on_top (λ s. record s { has_version = true })) (ap app_of_fields c.about.ensures ∙ ap app_of_fields c.in_ok-command.ensures.0 ∙ c.new.ensures.app)
