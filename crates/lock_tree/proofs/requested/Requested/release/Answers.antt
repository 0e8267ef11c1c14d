use Rattle.std.proofs.Common.{◌≡◌, ℕ, ◌+◌, ◌==◌, false, List, [], Some, refl, sym, ap, ◌∙◌, subst, arith, length}
use Rattle.std.specs.List.{AllByRecursion, remove}
use Rattle.lock_tree.specs.Entered.{Enqueued}
use Rattle.lock_tree.specs.Locks.{Locks, Waiting, used, plan_of, without, IsRising}
use Rattle.lock_tree.specs.Placing.{place_numbered}
use Rattle.lock_tree.specs.Views.{all_waiting, enqueued}
use Rattle.lock_tree.specs.Lines.{line, others}
use Rattle.lock_tree.specs.Known.{AreKnown}
use Rattle.lock_tree.proofs.Places.{at, plan_at, removed_at, no_without, used_at}
use Rattle.lock_tree.proofs.Trees.{number_at, queue_elsewhere, others_without, known_removed, left_tree}
use Rattle.lock_tree.specs.Chained.{IsChained, Chains, AreChained}
use Rattle.lock_tree.proofs.Chaining.{chained_at, chained_removed}
use Rattle.lock_tree.proofs.requested.Requested.release.Goals as goal

-- the entries without the one that is released
left : (k i : ℕ) (es seen new : List Enqueued) → seen ≡ es → IsRising (all_waiting es) → place_numbered k (all_waiting seen) ≡ Some i → new ≡ remove es i
    → all_waiting new ≡ without k (all_waiting es)
left k i es seen new same r h is =
    ap all_waiting is ∙ removed_at k es i r (ap (λ (xs : List Enqueued). place_numbered k (all_waiting xs)) (sym same) ∙ h)

freed : (k i : ℕ) (es seen : List Enqueued) (d : Enqueued) → seen ≡ es → IsRising (all_waiting es) → place_numbered k (all_waiting seen) ≡ Some i → d ≡ at es i d
    → used (all_waiting es) ≡ length d.plan.value + used (without k (all_waiting es))
freed k i es seen d same r h is =
    let u = used_at k es i d r (ap (λ (xs : List Enqueued). place_numbered k (all_waiting xs)) (sym same) ∙ h) in
    let p : length d.plan.value ≡ length (at es i d).plan.value = ap (λ (x : Enqueued). length x.plan.value) is in
    omega (arith, u, p)

plan_taken : (k i : ℕ) (es seen : List Enqueued) (d : Enqueued) → seen ≡ es → place_numbered k (all_waiting seen) ≡ Some i → d ≡ at es i d → plan_of (all_waiting es) k ≡ Some d.plan.value
plan_taken k i es seen d same h is =
    plan_at k es i d (ap (λ (xs : List Enqueued). place_numbered k (all_waiting xs)) (sym same) ∙ h) ∙ ap (λ (x : Enqueued). Some x.plan.value) (sym is)

pub leave_all-requires-clause-others : goal.leave_all-requires-clause-others
leave_all-requires-clause-others c =
    let same = left c.args.no c.in-Some.ensures.found.place (enqueued c.self.inside.transactions) (enqueued c.self.inside.transactions) (enqueued c.remove.new.self) refl c.self.invariant.indexed.rising c.in-Some.ensures.found.exact (c.remove.ensures.entries c.in-Some.ensures.found.place c.in-Some.ensures.found.exact) in
    subst (AllByRecursion (λ (w : Waiting). (w.no == c.args.no) ≡ false)) (sym same) (others_without c.args.no (all_waiting (enqueued c.self.inside.transactions)))

pub leave_all-requires-clause-agree : goal.leave_all-requires-clause-agree
leave_all-requires-clause-agree c =
    let l = c.self.inside.lines in let es = enqueued c.self.inside.transactions in let r = c.in-Some.ensures.found in
    let taken = sym (c.remove.ensures.entries r.place r.exact) in
    record {
      numbered = c.self.invariant.numbered;
      granted = c.self.invariant.granted;
      indexed = c.remove.ensures.indexed;
      known = subst (AreKnown (line l) []) taken (known_removed (line l) es r.place c.self.invariant.known);
      chained = subst (AreChained l) taken (chained_removed l es r.place c.self.invariant.chained);
    }

pub leave_all-requires-clause-elsewhere : goal.leave_all-requires-clause-elsewhere
leave_all-requires-clause-elsewhere c = λ other none.
    let k = c.args.no in
    let ws = all_waiting (enqueued c.self.inside.transactions) in
    let plan = plan_taken k c.in-Some.ensures.found.place (enqueued c.self.inside.transactions) (enqueued c.self.inside.transactions) c.in-Some.entry refl c.in-Some.ensures.found.exact c.in-Some.ensures.found.there in
    ap (others k) (c.self.invariant.lines other)
    ∙ queue_elsewhere other k ws c.in-Some.entry.plan.value c.self.invariant.indexed.rising plan none
    ∙ sym (c.self.invariant.lines other)

pub leave_all-requires-clause-chain : goal.leave_all-requires-clause-chain
leave_all-requires-clause-chain c =
    let l = c.self.inside.lines in let es = (enqueued c.self.inside.transactions) in let e = c.in-Some.entry in let i = c.in-Some.ensures.found.place in
    let one : IsChained l e = subst (IsChained l) (sym c.in-Some.ensures.found.there) (chained_at l es i e c.in-Some.ensures.found.within c.self.invariant.chained) in
    let number : e.no ≡ c.args.no = ap (λ (x : Enqueued). x.no) c.in-Some.ensures.found.there ∙ number_at c.args.no es i e c.in-Some.ensures.found.exact in
    (one.0, subst (λ (n : ℕ). Chains l n e.plan.value one.0 e.head) number one.1)

pub invariant_of-self : goal.invariant_of-self
invariant_of-self c =
    let es = (enqueued c.self.inside.transactions) in
    let same = left c.args.no c.in-Some.ensures.found.place es es (enqueued c.remove.new.self) refl c.self.invariant.indexed.rising c.in-Some.ensures.found.exact (c.remove.ensures.entries c.in-Some.ensures.found.place c.in-Some.ensures.found.exact) in
    let u = freed c.args.no c.in-Some.ensures.found.place es es c.in-Some.entry refl c.self.invariant.indexed.rising c.in-Some.ensures.found.exact c.in-Some.ensures.found.there in
    left_tree c.self.inside.arena (length c.in-Some.entry.plan.value) c.args.no c.self.inside.transactions c.leave_all.new.transactions c.self.inside.lines c.leave_all.new.lines c.self.invariant
    (omega (arith, u)) (c.leave_all.ensures.same ∙ same) c.leave_all.ensures.agree.indexed c.leave_all.ensures.left c.leave_all.ensures.agree.known
    c.leave_all.ensures.agree.numbered c.leave_all.ensures.agree.granted c.leave_all.ensures.free c.leave_all.ensures.agree.chained

pub returns-in-Some : goal.returns-in-Some
returns-in-Some c =
    ap (λ (ws : List Waiting). record { arena = c.self.inside.arena; waiting = ws })
    (c.leave_all.ensures.same ∙ left c.args.no c.in-Some.ensures.found.place (enqueued c.self.inside.transactions) (enqueued c.self.inside.transactions) (enqueued c.remove.new.self) refl c.self.invariant.indexed.rising c.in-Some.ensures.found.exact (c.remove.ensures.entries c.in-Some.ensures.found.place c.in-Some.ensures.found.exact))
    ∙ ap (λ (l : Locks). record { arena = l.arena; waiting = without c.args.no l.waiting }) c.self.view_is

pub returns-in_default : goal.returns-in_default
returns-in_default c =
    let ws = all_waiting (enqueued c.self.inside.transactions) in
    ap (λ (vs : List Waiting). record { arena = c.self.inside.arena; waiting = vs }) (ap all_waiting c.in_default.ensures.none.1 ∙ sym (no_without c.args.no ws c.in_default.ensures.none.0))
    ∙ ap (λ (l : Locks). record { arena = l.arena; waiting = without c.args.no l.waiting }) c.self.view_is
