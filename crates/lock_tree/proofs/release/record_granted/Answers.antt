use Rattle.std.proofs.Common.{◌≡◌, ◌+◌, ◌<◌, ◌≤◌, ◌∙◌, ℕ, Some, option_map, length, drop, get_or, slice_get, refl, sym, ap, subst, arith}
use Rattle.std.proofs.lemmas.Option.{slice_get_read, slice_get-get_or}
use Rattle.std.proofs.lemmas.List.{drop_all}
use Rattle.modes.specs.declared.mode.Mode.{Mode}
use Rattle.lock_tree.specs.Queues.{Queue, granted}
use Rattle.lock_tree.specs.Lines.{line, nodes_of, in_order, asked, request_at}
use Rattle.lock_tree.specs.Granted.{IsLine}
use Rattle.lock_tree.specs.Known.{AreKnown}
use Rattle.lock_tree.specs.Views.{enqueued}
use Rattle.lock_tree.proofs.Leaving.{granted_length}
use Rattle.lock_tree.proofs.Standing.{front_at}
use Rattle.lock_tree.proofs.Asking.{request_there, requests_length}
use Rattle.lock_tree.proofs.Dropping.{drop_known}
use Rattle.lock_tree.proofs.Positions.{none_is}
use Rattle.lock_tree.specs.Sound.{Correspond}
use Rattle.lock_tree.proofs.release.record_granted.Goals as goal
use Rattle.lock_tree.proofs.release.record_granted.Goals.{After-index}

line_ok : (c : After-index) → IsLine c.args.lines.now.nodes.held (nodes_of c.args.lines.now.nodes c.args.number) c.index.result.now
line_ok c = c.requires.agree.granted c.args.number c.index.result.now (slice_get_read c.args.lines.now.lines.items (length c.args.lines.now.lines.items) c.args.number c.index.result.now refl c.requires.within c.index.ensures)

pub unreachable-requires : goal.unreachable-requires
unreachable-requires c =
    let ok = line_ok ((goal.at.unreachable-requires c).After-index) in
    let xs = nodes_of c.args.lines.now.nodes c.args.number in
    let near : c.loop-place.place < length xs = (let a = ok.all in let few = granted_length (in_order c.args.lines.now.nodes c.args.number) in let n = requests_length c.args.lines.now.nodes.held xs in let l = c.loop-place-test.true in omega (arith, a, few, n, l)) in
    none_is (get_or xs c.loop-place.place 0) (sym c.in_default.is ∙ c.loop-place.invariant.first ∙ slice_get-get_or xs c.loop-place.place 0 near)

pub loop-place-preserved : goal.loop-place-preserved
loop-place-preserved c =
    let ok = line_ok ((goal.at.loop-place-preserved c).After-index) in
    let lists = c.args.lines.now.nodes in let xs = nodes_of lists c.args.number in let q = in_order lists c.args.number in let i = c.loop-place.place in let node = c.in-Some.node in let inv = c.loop-place.invariant in
    let there : slice_get xs i ≡ Some node = sym inv.first ∙ c.in-Some.is in
    let d : ℕ × Mode = request_at lists.held node in
    let within : i < length (granted q) = (let a = ok.all in let l = c.loop-place-test.true in omega (arith, a, l)) in
    let number : Some c.get.result.no ≡ option_map (λ (x : ℕ × Mode). x.0) (slice_get (granted q) i) =
    sym (ap (option_map (λ (x : ℕ × Mode). x.0)) (front_at q i d within ∙ ap (λ (x : ℕ × Mode). Some x) (request_there lists.held xs i node d there)) ∙ ap (λ h. Some (asked h).0) c.get.ensures.1) in
    let next = drop_known (granted q) i c.get.result.no number in
    let many = c.requires.agree.numbered.many in let few = c.requires.agree.numbered.few in let w = c.requires.within in
    record {
      first = c.next-first.ensures.node c.args.number i (omega (arith, many, few, w)) there;
      same = c.record_ready.ensures.same ∙ inv.same;
      agree = record {
        numbered = c.requires.agree.numbered;
        granted = c.requires.agree.granted;
        indexed = c.record_ready.ensures.indexed;
        known = c.record_ready.ensures.noted next.0 (drop (i + 1) (granted q)) (subst (λ (ys : Queue). AreKnown (line c.args.lines.now) ys (enqueued c.loop-place.transactions)) next.2 inv.agree.known);
        chained = c.record_ready.ensures.chained;
      };
    }

pub returns-clause-agree : goal.returns-clause-agree
returns-clause-agree c =
    let ok = line_ok ((goal.at.returns-clause-agree c).After-index) in let q = in_order c.args.lines.now.nodes c.args.number in
    let past : length (granted q) ≤ c.loop-place.place = (let a = ok.all in let l = c.loop-place-test.false in omega (arith, a, l)) in
    subst (λ (ys : Queue). Correspond c.args.lines.now ys c.loop-place.transactions) (drop_all c.loop-place.place (granted q) past) c.loop-place.invariant.agree
