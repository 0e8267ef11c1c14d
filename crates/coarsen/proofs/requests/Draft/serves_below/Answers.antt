use Rattle.std.proofs.Common.{rules, ◌∙◌, sym}
use Rattle.modes.specs.Modes.{subtree}
use Rattle.coarsen.proofs.Drafting.{served_below}
use Rattle.coarsen.proofs.requests.Draft.serves_below.Goals as goal

-- the last request is under the resource, and asks for as much
pub returns-then-holds : goal.returns-then-holds
returns-then-holds c = λ t above on. rw (← c.self.view_is)
    (served_below c.self.inside.requests.items c.args.parent.now c.in-Some.field-0.now (subtree c.args.mode)
    c.self.invariant.1 (search rules) (sym c.holds.ensures ∙ c.if-holds.true)
    (c.asks_as_much.ensures t) above on)
