use Rattle.std.proofs.Common.{◌+◌, take, length, refl, sym, ap, arith}
use Rattle.std.proofs.lemmas.Option.{slice_get_read, slice_get_within}
use Rattle.lock_tree.specs.Lines.{requests, nodes_of, modes_of, asked}
use Rattle.lock_tree.proofs.Fronting.{next_there, stops, goes_on, one_more_held, front_few, all_granted}
use Rattle.lock_tree.proofs.granting.extended.Goals as goal

pub loop-line-init : goal.loop-line-init
loop-line-init c = c.requires.front c.index.result.now (slice_get_read c.args.lines.now.lines.items (length c.args.lines.now.lines.items) c.args.number c.index.result.now refl c.requires.within c.index.ensures)

pub returns-then-not-fits-clause-all : goal.returns-then-not-fits-clause-all
returns-then-not-fits-clause-all c =
    let hs = c.args.lines.now.nodes.held in let xs = nodes_of c.args.lines.now.nodes c.args.number in let x = c.loop-line.line in let inv = c.loop-line.invariant in
    stops hs xs x c.in-Some.node c.get-mode.result.mode inv c.in-Some.is (ap (λ h. (asked h).1) c.get-mode.ensures.1) (sym (c.if-not-fits.ensures (modes_of (take x.granted (requests hs xs))) inv.held))

pub add-requires : goal.add-requires
add-requires c =
    let hs = c.args.lines.now.nodes.held in let xs = nodes_of c.args.lines.now.nodes c.args.number in let x = c.loop-line.line in let inv = c.loop-line.invariant in
    (modes_of (take x.granted (requests hs xs)), inv.held, (let f = front_few hs xs x c.in-Some.node c.get-mode.result.mode inv c.in-Some.is (ap (λ h. (asked h).1) c.get-mode.ensures.1) in let n = c.requires.few in omega (arith, f, n)))

pub overflow_add-line : goal.overflow_add-line
overflow_add-line c =
    let hs = c.args.lines.now.nodes.held in let xs = nodes_of c.args.lines.now.nodes c.args.number in let x = c.loop-line.line in let inv = c.loop-line.invariant in
    let l = slice_get_within xs x.granted c.in-Some.node (next_there hs xs x c.in-Some.node c.get-mode.result.mode inv c.in-Some.is (ap (λ h. (asked h).1) c.get-mode.ensures.1)) in let n = c.requires.few in omega (arith, l, n)

pub loop-line-smaller : goal.loop-line-smaller
loop-line-smaller c =
    let hs = c.args.lines.now.nodes.held in let xs = nodes_of c.args.lines.now.nodes c.args.number in let x = c.loop-line.line in let inv = c.loop-line.invariant in
    let l = slice_get_within xs x.granted c.in-Some.node (next_there hs xs x c.in-Some.node c.get-mode.result.mode inv c.in-Some.is (ap (λ h. (asked h).1) c.get-mode.ensures.1)) in omega (arith, l)

pub loop-line-preserved : goal.loop-line-preserved
loop-line-preserved c =
    let hs = c.args.lines.now.nodes.held in let xs = nodes_of c.args.lines.now.nodes c.args.number in let x = c.loop-line.line in let inv = c.loop-line.invariant in
    let asks = ap (λ h. (asked h).1) c.get-mode.ensures.1 in let ms = modes_of (take x.granted (requests hs xs)) in
    record {
      within = goes_on hs xs x c.in-Some.node c.get-mode.result.mode inv c.in-Some.is asks (sym (c.if-not-fits.ensures ms inv.held));
      held = c.add.ensures ms (modes_of (take (x.granted + 1) (requests hs xs))) inv.held (one_more_held hs xs x c.in-Some.node c.get-mode.result.mode inv c.in-Some.is asks);
      waiting = c.next-line.ensures.node c.args.number x.granted c.requires.queue (next_there hs xs x c.in-Some.node c.get-mode.result.mode inv c.in-Some.is asks);
    }

pub returns-clause-all : goal.returns-clause-all
returns-clause-all c = all_granted c.args.lines.now.nodes.held (nodes_of c.args.lines.now.nodes c.args.number) c.loop-line.line c.loop-line.invariant c.in_default.is
