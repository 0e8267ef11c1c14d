use Rattle.std.proofs.Common.{sym, ◌∙◌}
use Rattle.requests.proofs.Requests.{args_are, args_so}
use Rattle.requests.proofs.request.are_args.Goals as goal

pub returns-then-params-args : goal.returns-then-params-args
returns-then-params-args c = ((λ h. args_are c.args.params.now c.args.args.now c.if-params-args.true (sym c.all_fit.ensures ∙ h)), (λ h. c.all_fit.ensures ∙ args_so c.args.params.now c.args.args.now h))
