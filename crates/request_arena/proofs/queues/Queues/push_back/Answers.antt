use Rattle.std.proofs.Common.{◌≡◌, ◌<◌, ◌≤◌, ◌+◌, ◌-◌, ◌++◌, ℕ, suc, [], ◌∷◌, length, List, Option, slice_get, slice_set, slice_index_or, Some, None, IfSome, subst, sym, ap, ◌∙◌, arith}
use Rattle.request_arena.specs.declared.node.Held.{Held}
use Rattle.request_arena.specs.declared.node.Node.{Node}
use Rattle.request_arena.specs.declared.node.Request.{Request}
use Rattle.request_arena.specs.Chains.{chain, held_at, linked}
use Rattle.request_arena.specs.Linked.{AreChains, held_in, spread, queue_of, IsLinked}
use Rattle.request_arena.specs.Lists.{Lists, EndsChain}
use Rattle.request_arena.specs.Nodes.{next_of, prev_of, home, with_home}
use Rattle.request_arena.specs.Pushes.{appended}
use Rattle.request_arena.proofs.Apart.{Begins}
use Rattle.request_arena.proofs.Changed.{length_set}
use Rattle.request_arena.proofs.Nodes.{node_there, held_of_home}
use Rattle.request_arena.proofs.Homes.{home_put, home_beside, home_of_tail, homes_pushed}
use Rattle.request_arena.proofs.Standing.{is_live}
use Rattle.request_arena.proofs.Pushing.{chains_pushed}
use Rattle.request_arena.proofs.Linked.{linked_home, linked_tail, queues_home, queues_tail, held_tail, one_off}
use Rattle.request_arena.proofs.Putting.{new_in, head_in, last_in, put, put_by, linked_put, queues_put, held_put, homes_put, was_free}
use Rattle.request_arena.proofs.Spread.{queue_in}
use Rattle.request_arena.proofs.queues.Queues.push_back.Goals as goal

ends_in : (now : Lists) {hs : List (Option Held)} (tail : Option ℕ) → now.held ≡ hs → IfSome tail (λ t. EndsChain now t)
    → IfSome tail (λ t. (o : Request) × (slice_get hs t ≡ Some (Some (record { request = o; successor = None }))))
ends_in now None e h = tt
ends_in now (Some t) e h = (h.0, ap (λ l. slice_get l t) (sym e) ∙ h.1)

tail_in : (ns : List Node) (c : ℕ) (now : Lists) (tail : Option ℕ) (n : ℕ) → c ≤ n → length ns ≡ n → held_in c ns ≡ now.held → IfSome tail (λ t. EndsChain now t) → IfSome tail (λ t. t < length ns)
tail_in ns c now None n p e v h = tt
tail_in ns c now (Some t) n p e v h = let r = node_there c ns t (Some (record { request = h.0; successor = None })) (ap (λ l. slice_get l t) v ∙ h.1) in omega (arith, r.3, p, e)

filled_or_free : (h : Held) → Some (Some h) ≡ Some None → ⊥
filled_or_free h e = cc

written_long : (ns ms : List Node) (v : ℕ) (n : Node) → ms ≡ slice_set ns v n → length ms ≡ length ns
written_long ns ms v n e = ap length e ∙ length_set ns v n

pub overflow_add-head : goal.overflow_add-head
overflow_add-head c =
    let i = c.self.inside in let q = c.args.queue in let v = i.vacant in let m = i.free - 1 in let h : Held = record { request = c.args.request; successor = None } in
    let in_range : q < i.queues = queue_in i.block i.nodes i.queues q c.args.self.now c.self.view_is c.requires.queue in
    let had : IsLinked i.block i.nodes i.queues v (suc m) = subst (λ f. IsLinked i.block i.nodes i.queues v f) (one_off i.free c.if-self-eq0.false) c.self.invariant.0 in
    omega (arith, in_range, c.self.invariant.0.fits)

pub link_tail-requires : goal.link_tail-requires
link_tail-requires c =
    let i = c.self.inside in
    record { there = tail_in i.block i.nodes c.args.self.now c.args.tail (i.nodes + i.queues) (omega arith) c.self.invariant.0.long (ap (λ (l : Lists). l.held) c.self.view_is) c.requires.tail; small = c.self.invariant.3 }

pub get-rest-requires : goal.get-rest-requires
get-rest-requires c =
    let i = c.self.inside in let q = c.args.queue in let v = i.vacant in let m = i.free - 1 in let h : Held = record { request = c.args.request; successor = None } in
    let in_range : q < i.queues = queue_in i.block i.nodes i.queues q c.args.self.now c.self.view_is c.requires.queue in
    let had : IsLinked i.block i.nodes i.queues v (suc m) = subst (λ f. IsLinked i.block i.nodes i.queues v f) (one_off i.free c.if-self-eq0.false) c.self.invariant.0 in
    rw c.link_tail.ensures.long (new_in i.block i.nodes i.queues v m had q in_range h)

pub get-last-requires : goal.get-last-requires
get-last-requires c =
    let i = c.self.inside in let q = c.args.queue in let v = i.vacant in let m = i.free - 1 in let h : Held = record { request = c.args.request; successor = None } in
    let in_range : q < i.queues = queue_in i.block i.nodes i.queues q c.args.self.now c.self.view_is c.requires.queue in
    let had : IsLinked i.block i.nodes i.queues v (suc m) = subst (λ f. IsLinked i.block i.nodes i.queues v f) (one_off i.free c.if-self-eq0.false) c.self.invariant.0 in
    rw c.link_tail.ensures.long (head_in i.block i.nodes i.queues v m had q in_range h)

pub set-requires : goal.set-requires
set-requires c =
    let i = c.self.inside in let q = c.args.queue in let v = i.vacant in let m = i.free - 1 in let h : Held = record { request = c.args.request; successor = None } in
    let in_range : q < i.queues = queue_in i.block i.nodes i.queues q c.args.self.now c.self.view_is c.requires.queue in
    let had : IsLinked i.block i.nodes i.queues v (suc m) = subst (λ f. IsLinked i.block i.nodes i.queues v f) (one_off i.free c.if-self-eq0.false) c.self.invariant.0 in
    let fits = c.self.invariant.0.fits in
    record {
      there = rw c.link_tail.ensures.long (new_in i.block i.nodes i.queues v m had q in_range h);
      small = record { next = omega (arith, in_range, fits); prev = c.get-last.ensures.small.prev; home = omega (arith, in_range, fits); held = tt };
    }

pub set_next-requires : goal.set_next-requires
set_next-requires c =
    let i = c.self.inside in let q = c.args.queue in let v = i.vacant in let m = i.free - 1 in let h : Held = record { request = c.args.request; successor = None } in
    let in_range : q < i.queues = queue_in i.block i.nodes i.queues q c.args.self.now c.self.view_is c.requires.queue in
    let had : IsLinked i.block i.nodes i.queues v (suc m) = subst (λ f. IsLinked i.block i.nodes i.queues v f) (one_off i.free c.if-self-eq0.false) c.self.invariant.0 in
    let b0 = c.link_tail.new.self in
    let was : IsLinked b0 i.nodes i.queues v (suc m) = subst (λ b. IsLinked b i.nodes i.queues v (suc m)) (sym c.link_tail.ensures.nodes) (linked_tail i.block i.nodes i.queues v (suc m) had c.args.tail v) in
    let same : length c.set.new.self ≡ length b0 = written_long _ _ _ _ c.set.ensures in
    record { there = rw same (subst (λ a. a < length b0) (ap prev_of c.get-last.ensures.is) (last_in b0 i.nodes i.queues v m was q in_range h)); small = c.self.invariant.3 }

pub set_prev-requires : goal.set_prev-requires
set_prev-requires c =
    let i = c.self.inside in let q = c.args.queue in let v = i.vacant in let m = i.free - 1 in let h : Held = record { request = c.args.request; successor = None } in
    let in_range : q < i.queues = queue_in i.block i.nodes i.queues q c.args.self.now c.self.view_is c.requires.queue in
    let had : IsLinked i.block i.nodes i.queues v (suc m) = subst (λ f. IsLinked i.block i.nodes i.queues v f) (one_off i.free c.if-self-eq0.false) c.self.invariant.0 in
    let same : length c.set_next.new.self ≡ length i.block = c.set_next.ensures.long ∙ written_long _ _ _ _ c.set.ensures ∙ c.link_tail.ensures.long in
    record { there = rw same (head_in i.block i.nodes i.queues v m had q in_range h); small = c.self.invariant.3 }

pub invariant_of-self : goal.invariant_of-self
invariant_of-self c =
    let i = c.self.inside in let q = c.args.queue in let v = i.vacant in let m = i.free - 1 in let h : Held = record { request = c.args.request; successor = None } in
    let in_range : q < i.queues = queue_in i.block i.nodes i.queues q c.args.self.now c.self.view_is c.requires.queue in
    let had : IsLinked i.block i.nodes i.queues v (suc m) = subst (λ f. IsLinked i.block i.nodes i.queues v f) (one_off i.free c.if-self-eq0.false) c.self.invariant.0 in
    let b0 = c.link_tail.new.self in
    let was : IsLinked b0 i.nodes i.queues v (suc m) = subst (λ b. IsLinked b i.nodes i.queues v (suc m)) (sym c.link_tail.ensures.nodes) (linked_tail i.block i.nodes i.queues v (suc m) had c.args.tail v) in
    let filled = put b0 i.nodes i.queues v m was q in_range h in
    let e : c.set_prev.new.self ≡ with_home filled v q = put_by b0 i.nodes i.queues v m was q in_range h c.set.new.self c.set_next.new.self c.set_prev.new.self c.get-last.result.prev
    (sym (ap prev_of c.get-last.ensures.is)) c.set.ensures c.set_next.ensures.nodes c.set_prev.ensures.nodes in
    let linked_now = linked_put b0 i.nodes i.queues v m was q in_range h in
    let free = was_free i.block i.nodes i.queues v m had q in_range h in
    let new = chains_pushed (held_in i.nodes i.block) c.self.invariant.1 c.args.tail v c.args.request free (ends_in c.args.self.now c.args.tail (sym (ap (λ (l : Lists). l.held) c.self.view_is)) c.requires.tail) in
    let all : held_in i.nodes c.set_prev.new.self ≡ slice_set (linked c.args.tail v (held_in i.nodes i.block)) v (Some h) =
    ap (held_in i.nodes) e ∙ held_of_home i.nodes filled v q ∙ held_put b0 i.nodes i.queues v m was q in_range h ∙ ap (λ l. slice_set l v (Some h)) (ap (held_in i.nodes) c.link_tail.ensures.nodes ∙ held_tail i.nodes i.block c.args.tail v) in
    let before : spread (queue_of b0 i.nodes) i.nodes i.queues ≡ spread (queue_of i.block i.nodes) i.nodes i.queues =
    ap (λ b. spread (queue_of b i.nodes) i.nodes i.queues) c.link_tail.ensures.nodes ∙ queues_tail i.block i.nodes i.queues v (suc m) had c.args.tail v in
    let longer : spread (queue_of c.set_prev.new.self i.nodes) i.nodes i.queues ≡ slice_set (spread (queue_of b0 i.nodes) i.nodes i.queues) q (slice_index_or (spread (queue_of b0 i.nodes) i.nodes i.queues) q [] ++ v ∷ []) =
    ap (λ b. spread (queue_of b i.nodes) i.nodes i.queues) e ∙ queues_home filled i.nodes i.queues _ m linked_now v q ∙ queues_put b0 i.nodes i.queues v m was q in_range h in
    let room = new_in i.block i.nodes i.queues v m had q in_range h in let long = had.long in let long_now = linked_now.long in (
      subst (λ b. IsLinked b i.nodes i.queues c.get-rest.result.next m) (sym e)
          (linked_home filled i.nodes i.queues c.get-rest.result.next m (subst (λ r. IsLinked filled i.nodes i.queues r m) (ap next_of c.get-rest.ensures.is) linked_now) v q),
      subst AreChains (sym all) new.are,
      homes_pushed i.block c.set_prev.new.self i.nodes i.queues c.self.invariant.2 q v
          (ap (λ b. home b v) e ∙ home_put filled v q (omega (arith, room, long, long_now)))
          (λ a z. ap (λ b. home b a) e ∙ home_beside filled v a q z ∙ homes_put b0 i.nodes i.queues v m was q in_range h a ∙ ap (λ b. home b a) c.link_tail.ensures.nodes ∙ home_of_tail i.block c.args.tail v a)
          (λ r j a at is. let there = is_live i.block i.nodes i.queues v (suc m) had r j a at in filled_or_free there.0 (sym there.1 ∙ ap (slice_get (held_in i.nodes i.block)) is ∙ free))
          (longer ∙ ap (λ l. slice_set l q (slice_index_or l q [] ++ v ∷ [])) before),
      c.get-rest.ensures.small.next,
    )

pub returns-clause-pushed : goal.returns-clause-pushed
returns-clause-pushed c =
    let i = c.self.inside in let q = c.args.queue in let v = i.vacant in let m = i.free - 1 in let h : Held = record { request = c.args.request; successor = None } in
    let in_range : q < i.queues = queue_in i.block i.nodes i.queues q c.args.self.now c.self.view_is c.requires.queue in
    let had : IsLinked i.block i.nodes i.queues v (suc m) = subst (λ f. IsLinked i.block i.nodes i.queues v f) (one_off i.free c.if-self-eq0.false) c.self.invariant.0 in
    let b0 = c.link_tail.new.self in
    let was : IsLinked b0 i.nodes i.queues v (suc m) = subst (λ b. IsLinked b i.nodes i.queues v (suc m)) (sym c.link_tail.ensures.nodes) (linked_tail i.block i.nodes i.queues v (suc m) had c.args.tail v) in
    let filled = put b0 i.nodes i.queues v m was q in_range h in
    let e : c.set_prev.new.self ≡ with_home filled v q = put_by b0 i.nodes i.queues v m was q in_range h c.set.new.self c.set_next.new.self c.set_prev.new.self c.get-last.result.prev
    (sym (ap prev_of c.get-last.ensures.is)) c.set.ensures c.set_next.ensures.nodes c.set_prev.ensures.nodes in
    let linked_now = linked_put b0 i.nodes i.queues v m was q in_range h in
    let free = was_free i.block i.nodes i.queues v m had q in_range h in
    let new = chains_pushed (held_in i.nodes i.block) c.self.invariant.1 c.args.tail v c.args.request free (ends_in c.args.self.now c.args.tail (sym (ap (λ (l : Lists). l.held) c.self.view_is)) c.requires.tail) in
    let all : held_in i.nodes c.set_prev.new.self ≡ slice_set (linked c.args.tail v (held_in i.nodes i.block)) v (Some h) =
    ap (held_in i.nodes) e ∙ held_of_home i.nodes filled v q ∙ held_put b0 i.nodes i.queues v m was q in_range h ∙ ap (λ l. slice_set l v (Some h)) (ap (held_in i.nodes) c.link_tail.ensures.nodes ∙ held_tail i.nodes i.block c.args.tail v) in
    let before : spread (queue_of b0 i.nodes) i.nodes i.queues ≡ spread (queue_of i.block i.nodes) i.nodes i.queues =
    ap (λ b. spread (queue_of b i.nodes) i.nodes i.queues) c.link_tail.ensures.nodes ∙ queues_tail i.block i.nodes i.queues v (suc m) had c.args.tail v in
    let longer : spread (queue_of c.set_prev.new.self i.nodes) i.nodes i.queues ≡ slice_set (spread (queue_of b0 i.nodes) i.nodes i.queues) q (slice_index_or (spread (queue_of b0 i.nodes) i.nodes i.queues) q [] ++ v ∷ []) =
    ap (λ b. spread (queue_of b i.nodes) i.nodes i.queues) e ∙ queues_home filled i.nodes i.queues _ m linked_now v q ∙ queues_put b0 i.nodes i.queues v m was q in_range h in
    let lists : spread (queue_of b0 i.nodes) i.nodes i.queues ≡ c.args.self.now.queues = before ∙ ap (λ (l : Lists). l.queues) c.self.view_is in
    record {
      fresh = ap (λ (l : Lists). slice_get l.held v) (sym c.self.view_is) ∙ free;
      queues = longer ∙ ap (λ l. slice_set l q (slice_index_or l q [] ++ v ∷ [])) lists;
      held = all ∙ ap (λ (l : Lists). slice_set (linked c.args.tail v l.held) v (Some h)) c.self.view_is;
      chains = λ a g. ap (λ l. chain l a) all ∙ new.chains a (ap (λ (l : Lists). held_at l.held a) c.self.view_is ∙ g) ∙ ap (λ (l : Lists). appended c.args.tail v (chain l.held a)) c.self.view_is;
      alone = ap (λ l. chain l v) all ∙ new.alone;
      first = λ none. subst (λ l. Begins l v) (sym all) (new.first none);
      firsts = λ a g begins. subst (λ l. Begins l a) (sym all) (new.firsts a (ap (λ (l : Lists). held_at l.held a) c.self.view_is ∙ g) (subst (λ (l : Lists). Begins l.held a) (sym c.self.view_is) begins));
    }
