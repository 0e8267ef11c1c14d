use Rattle.std.proofs.Common.{◌≡◌, ◌+◌, ◌-◌, ◌≤◌, ◌∷◌, ◌++◌, [], ◌<◌, ◌∙◌, ℕ, get_or, Option, Some, length, take, drop, ap, refl, sym, subst, arith}
use Rattle.footprint.specs.declared.resource.Resource.{Resource}
use Rattle.modes.specs.declared.mode.Mode.{Mode}
use Rattle.coarsen.specs.Subtrees.{Requests}
use Rattle.lock_tree.specs.Lines.{Lines, line, HasRoom, AllUnder, numbers_of, is_same}
use Rattle.lock_tree.specs.Chained.{Chains, IsTail, head_or}
use Rattle.lock_tree.proofs.Dropping.{drop_more, take_more}
use Rattle.lock_tree.proofs.Queueing.{more_joined, still_apart, still_of_later, under_kept}
use Rattle.lock_tree.proofs.Chaining.{tail_ends, head_is}
use Rattle.std.specs.List.{AllByRecursion}
use Rattle.std.specs.HashMap.{spare}
use Rattle.lock_tree.proofs.enqueueing.enqueue_requests.Goals as goal

pub loop-resource-init : goal.loop-resource-init
loop-resource-init c = record {
  numbered = c.requires.numbered;
  granted = c.requires.granted;
  free = omega arith;
  joined = λ other. refl;
  room = (let r = c.requires.room.numbers in omega (arith, r));
  above = c.requires.room.above;
  apart = c.requires.room.apart;
  others = λ entry other ok. ok;
  chained = ([], record { begins = tt; placed = tt });
  tail = refl;
}

-- one place less is spare, and one request less is left
room_after : (was now : Lines) (n i : ℕ) → i < n → n ≤ spare was.numbers + i → ((count : ℕ) → HasRoom was (count + 1) → HasRoom now count) → n ≤ spare now.numbers + (i + 1)
room_after was now n i near room kept =
    let count : (rest : ℕ) × (n ≡ rest + 1 + i) = (n - (i + 1), omega (arith, near)) in
    let is = count.1 in let later : count.0 ≤ spare now.numbers = kept count.0 (omega (arith, is, room)) in omega (arith, is, later)

pub loop-resource-preserved : goal.loop-resource-preserved
loop-resource-preserved c =
    let i = c.loop-resource.resource-index in
    let e = c.loop-resource-item.result in
    let inv = c.loop-resource.invariant in let pushed = c.push-node.ensures.pushed in let own = c.push-node.ensures.longer in let now = c.push-node.new.lines in let id = c.push-node.result in
    let front : drop i c.args.plan.now ≡ e ∷ drop (i + 1) c.args.plan.now =
    drop_more c.args.plan.now i e c.loop-resource-test.true ∙ ap (λ (x : Resource × Mode). x ∷ drop (i + 1) c.args.plan.now) (sym c.loop-resource-item.is) in
    let back : take (i + 1) c.args.plan.now ≡ take i c.args.plan.now ++ e ∷ [] =
    take_more c.args.plan.now i e c.loop-resource-test.true ∙ ap (λ (x : Resource × Mode). take i c.args.plan.now ++ x ∷ []) (sym c.loop-resource-item.is) in
    let longer = own.1 (take i c.args.plan.now) e.1 inv.chained.0 c.loop-resource.head inv.chained.1 inv.tail in
    record {
      numbered = pushed.numbered;
      granted = pushed.granted;
      free = (let f = pushed.free in let g = inv.free in omega (arith, f, g));
      joined = λ other.
          more_joined c.args.no other e (drop i c.args.plan.now) (drop (i + 1) c.args.plan.now) (line c.loop-resource.lines other) (line now other) _
          front inv.apart (pushed.lines other) (inv.joined other);
      room = (let before = inv.room in let near = c.loop-resource-test.true in let after = room_after c.loop-resource.lines now (length c.args.plan.now) i near before pushed.room in omega (arith, after));
      above = still_of_later (λ r. AllUnder c.args.no (numbers_of (line c.loop-resource.lines r))) (λ r. AllUnder c.args.no (numbers_of (line now r))) e (drop i c.args.plan.now) (drop (i + 1) c.args.plan.now) front inv.apart
          (λ other apart under. under_kept c.args.no (is_same other e.0) (line c.loop-resource.lines other) (line c.loop-resource.lines other ++ (c.args.no, e.1) ∷ []) (line now other) (pushed.lines other) apart under)
          inv.above;
      apart = still_apart e (drop i c.args.plan.now) (drop (i + 1) c.args.plan.now) front inv.apart;
      others = λ entry other ok. pushed.others_chained entry other (inv.others entry other ok);
      chained = (
        inv.chained.0 ++ own.0 ∷ [],
        subst (λ (h : Option ℕ). Chains now c.args.no (take (i + 1) c.args.plan.now) (inv.chained.0 ++ own.0 ∷ []) h) (sym (c.or-head.ensures ∙ head_is c.loop-resource.head id))
            (subst (λ (p : Requests). Chains now c.args.no p (inv.chained.0 ++ own.0 ∷ []) (Some (head_or c.loop-resource.head id))) (sym back) longer.0),
      );
      tail = subst (λ (h : Option ℕ). IsTail now c.args.no h (Some id)) (sym (c.or-head.ensures ∙ head_is c.loop-resource.head id)) longer.1;
    }

front_of : (plan : Requests) (i : ℕ) (e : Resource × Mode) → i < length plan → e ≡ get_or plan i e → drop i plan ≡ e ∷ drop (i + 1) plan
front_of plan i e near is = drop_more plan i e near ∙ ap (λ (x : Resource × Mode). x ∷ drop (i + 1) plan) (sym is)

pub push-node-requires-clause-free : goal.push-node-requires-clause-free
push-node-requires-clause-free c = let near = c.loop-resource-test.true in let f = c.loop-resource.invariant.free in let r = c.requires.room.free in omega (arith, near, f, r)

pub push-node-requires-clause-room : goal.push-node-requires-clause-room
push-node-requires-clause-room c = let near = c.loop-resource-test.true in let room = c.loop-resource.invariant.room in omega (arith, near, room)

pub push-node-requires-clause-above : goal.push-node-requires-clause-above
push-node-requires-clause-above c =
    (subst (λ (p : Requests). AllByRecursion (λ (request : Resource × Mode). AllUnder c.args.no (numbers_of (line c.loop-resource.lines request.0))) p) (front_of c.args.plan.now c.loop-resource.resource-index c.loop-resource-item.result c.loop-resource-test.true c.loop-resource-item.is) c.loop-resource.invariant.above).0

pub push-node-requires-clause-tail : goal.push-node-requires-clause-tail
push-node-requires-clause-tail c = tail_ends c.loop-resource.lines c.args.no c.loop-resource.head c.loop-resource.tail c.loop-resource.invariant.tail
