use Rattle.std.proofs.Common.{ap, ap₂, ◌∙◌}
use Rattle.std.proofs.lemmas.Result.{IfOk-weaker}
use Rattle.clap.specs.Words.{app_of, with_rule}
use Rattle.command_line.proofs.Locals.{stays_local}
use Rattle.command_line.proofs.parser.with_input.Goals as goal

pub returns-clause-app : goal.returns-clause-app
returns-clause-app c =
    let first = c.in_ok-arg.ensures.shape c.required_word-setup.ensures.local ∙ ap (with_rule (app_of c.args.command)) c.required_word-setup.ensures.rule in
    IfOk-weaker c.arg-2.result _ _ (λ r h. h.shape c.text_option-rows.ensures.local ∙ ap₂ with_rule first c.text_option-rows.ensures.rule) c.arg-2.ensures

pub returns-clause-local : goal.returns-clause-local
returns-clause-local c =
    let first = stays_local _ _ _ c.requires c.required_word-setup.ensures.local c.in_ok-arg.ensures in
    IfOk-weaker c.arg-2.result _ _ (λ r h. stays_local _ r _ first c.text_option-rows.ensures.local h) c.arg-2.ensures
