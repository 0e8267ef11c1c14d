use Rattle.std.proofs.Common.{ap, ap₂, ◌∙◌}
use Rattle.std.proofs.lemmas.Result.{IfOk-weaker}
use Rattle.clap.specs.Words.{app_of, with_rule}
use Rattle.command_line.proofs.Locals.{stays_local}
use Rattle.command_line.proofs.parser.with_settings.Goals as goal

pub returns-clause-app : goal.returns-clause-app
returns-clause-app c =
    let first = c.in_ok-arg.ensures.shape c.workers_option-workers.ensures.local ∙ ap (with_rule (app_of c.args.command)) c.workers_option-workers.ensures.rule in
    let second = c.in_ok-arg-2.ensures.shape c.lanes_option-lanes.ensures.local ∙ ap₂ with_rule first c.lanes_option-lanes.ensures.rule in
    let third = c.in_ok-arg-3.ensures.shape c.coarsen_option-coarsen.ensures.local ∙ ap₂ with_rule second c.coarsen_option-coarsen.ensures.rule in
    IfOk-weaker c.arg-4.result _ _ (λ r h. h.shape c.arena_option-arena.ensures.local ∙ ap₂ with_rule third c.arena_option-arena.ensures.rule) c.arg-4.ensures

pub returns-clause-local : goal.returns-clause-local
returns-clause-local c =
    let first = stays_local _ _ _ c.requires c.workers_option-workers.ensures.local c.in_ok-arg.ensures in
    let second = stays_local _ _ _ first c.lanes_option-lanes.ensures.local c.in_ok-arg-2.ensures in
    let third = stays_local _ _ _ second c.coarsen_option-coarsen.ensures.local c.in_ok-arg-3.ensures in
    IfOk-weaker c.arg-4.result _ _ (λ r h. stays_local _ r _ third c.arena_option-arena.ensures.local h) c.arg-4.ensures
