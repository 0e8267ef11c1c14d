use Rattle.std.proofs.Common.{◌≡◌, true, ap, ap₂, ◌∙◌, codes}
use Rattle.std.proofs.lemmas.Result.{IfOk-weaker}
use Rattle.clap.specs.Simple.{app_of_fields, on_top}
use Rattle.clap.specs.Words.{App, app_of, new_app, with_subcommand}
use Rattle.command_line.specs.Words.{calvin_app}
use Rattle.command_line.proofs.parser.calvin_command.Goals as goal

pub returns : goal.returns
unfolding calvin_app
returns c =
    let bare : app_of c.no_binary_name.result ≡ on_top (λ s. record s { no_binary_name = true; has_version = true }) (new_app (codes "calvin")) =
    ap app_of_fields c.no_binary_name.ensures ∙ ap (on_top (λ s. record s { no_binary_name = true })) c.in_ok-described.ensures.app in
    let asked : app_of c.arg_required_else_help.result ≡ on_top (λ s. record s { no_binary_name = true; subcommand_required = true; arg_required_else_help = true; has_version = true }) (new_app (codes "calvin")) =
    ap app_of_fields c.arg_required_else_help.ensures
    ∙ ap (λ f. app_of_fields (record f { arg_required_else_help = true })) c.subcommand_required.ensures
    ∙ ap (on_top (λ s. record s { subcommand_required = true; arg_required_else_help = true })) bare in
    let first = c.in_ok-subcommand.ensures.shape c.in_ok-run.ensures.local ∙ ap₂ with_subcommand asked (ap (λ (a : App). a.top) c.in_ok-run.ensures.app) in
    let second = c.in_ok-subcommand-2.ensures.shape c.in_ok-rows.ensures.local ∙ ap₂ with_subcommand first (ap (λ (a : App). a.top) c.in_ok-rows.ensures.app) in
    let third = c.in_ok-subcommand-3.ensures.shape c.in_ok-filter.ensures.local ∙ ap₂ with_subcommand second (ap (λ (a : App). a.top) c.in_ok-filter.ensures.app) in
    let fourth = c.in_ok-subcommand-4.ensures.shape c.in_ok-replicas.ensures.local ∙ ap₂ with_subcommand third (ap (λ (a : App). a.top) c.in_ok-replicas.ensures.app) in
    let fifth = c.in_ok-subcommand-5.ensures.shape c.in_ok-locks.ensures.local ∙ ap₂ with_subcommand fourth (ap (λ (a : App). a.top) c.in_ok-locks.ensures.app) in
    IfOk-weaker c.subcommand-6.result _ _ (λ r h. h.shape c.in_ok-check.ensures.local ∙ ap₂ with_subcommand fifth (ap (λ (a : App). a.top) c.in_ok-check.ensures.app)) c.subcommand-6.ensures
