use Rattle.std.proofs.Common.{◌≡◌, ◌<◌, ◌+◌, ◌++◌, ◌∷◌, [], List, Some, length, slice_get, refl, sym, ap, ◌∙◌, subst, arith}
use Rattle.std.proofs.lemmas.Option.{slice_get_read}
use Rattle.coarsen.specs.Subtrees.{Requests}
use Rattle.scheduler.specs.Logs.{plans_for}
use Rattle.scheduler.specs.Scheduled.{ArePlansFrom}
use Rattle.scheduler.proofs.Making.{more_made, planned_at, length_more}
use Rattle.scheduler.proofs.planning.Plans.make_next.Goals as goal

pub loop-self-preserved : goal.loop-self-preserved
loop-self-preserved c =
    let plans = plans_for c.args.threshold c.args.arena c.args.entries.now in
    let from = c.loop-self.self.from in
    let made = c.loop-self.self.made.items in
    let plan = c.in_ok-plan_of.field-0 in
    let was = c.loop-self.invariant in
    let count : c.loop-self.self.from + c.len-in-loop-self.result ≡ from + length made = omega (arith, c.len-in-loop-self.ensures) in
    let entries = c.args.entries.now in
    let next = c.loop-self.self.from + c.len-in-loop-self.result in
    let less : next < length entries = omega (arith, c.in-Some.ensures.lookup) in
    let at : slice_get entries (from + length made) ≡ Some c.in-Some.entry.now =
    ap (slice_get entries) (sym count) ∙ slice_get_read entries (length entries) next c.in-Some.entry.now refl less c.in-Some.ensures.lookup.1 in
    let is : slice_get plans (from + length made) ≡ Some plan =
    planned_at c.plan_is_one.ensures c.args.threshold c.args.arena c.args.entries.now (from + length made) c.in-Some.entry.now plan at c.in_ok-plan_of.ensures in
    let items : c.push_back.new.self.items ≡ made ++ plan ∷ [] = c.in_ok-push_back.ensures.items in
    let more : length c.push_back.new.self.items ≡ length made + 1 = ap length items ∙ length_more made plan in
    record {
      are_plans = subst (λ (xs : List Requests). ArePlansFrom plans from xs) (sym items) (more_made plans from made plan was.are_plans is);
      begun = was.begun;
      admitted = λ less. let h = was.admitted less in omega (arith, h, more);
      next = λ less some. let h = was.next less some in omega (arith, h, more);
    }
