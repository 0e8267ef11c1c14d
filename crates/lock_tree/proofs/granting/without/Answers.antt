use Rattle.std.proofs.Common.{◌≡◌, ◌-◌, ◌<◌, ◌∷◌, ℕ, Some, length, refl, ap, ◌∙◌, subst, arith}
use Rattle.std.specs.Prelude.{slice_get}
use Rattle.std.proofs.lemmas.Option.{slice_get_read}
use Rattle.modes.specs.declared.mode.Mode.{Mode}
use Rattle.lock_tree.specs.Queues.{granted}
use Rattle.lock_tree.specs.Held.{times}
use Rattle.lock_tree.specs.Lines.{nodes_of, in_order, modes_of, asked}
use Rattle.lock_tree.specs.Granted.{IsLine}
use Rattle.lock_tree.proofs.Fronting.{if_granted, if_waits, if_first, if_not_first, held_all, is_there, stays_before, stays_first, stays_after}
use Rattle.lock_tree.proofs.granting.without.Goals as goal
use Rattle.lock_tree.proofs.granting.without.Goals.{After-index}

pub is_granted-requires-clause-there : goal.is_granted-requires-clause-there
is_granted-requires-clause-there c = (c.requires.there.0, c.args.node, c.requires.there.1, c.requires.owned)

-- the line is as it should be, and the node stands once
line_ok : (c : After-index) → IsLine c.args.lines.now.nodes.held (nodes_of c.args.lines.now.nodes c.args.number) c.index.result.now
line_ok c = c.requires.granted c.args.number c.index.result.now (slice_get_read c.args.lines.now.lines.items (length c.args.lines.now.lines.items) c.args.number c.index.result.now refl c.requires.within c.index.ensures)

stands_once : (c : After-index) → (j : ℕ) → slice_get (nodes_of c.args.lines.now.nodes c.args.number) j ≡ Some c.args.node → c.requires.there.0 ≡ j
stands_once c j there = (c.nodes_stand_apart.ensures.apart c.args.number c.args.number c.requires.there.0 j c.args.node c.requires.there.1 there).1

pub take-requires : goal.take-requires
take-requires c =
    let d = (goal.at.take-requires c).After-index in
    let hs = c.args.lines.now.nodes.held in let xs = nodes_of c.args.lines.now.nodes c.args.number in let x = c.index.result.now in let i = c.requires.there.0 in
    let l = if_granted hs xs x (line_ok d) c.args.no i c.args.node c.requires.there.1 c.requires.owned (stands_once d) c.if-is_granted.ensures in (
      modes_of (granted (in_order c.args.lines.now.nodes c.args.number)),
      held_all hs xs x (line_ok d) c.args.no i c.args.node c.requires.there.1 c.requires.owned (stands_once d),
      subst (λ (m : Mode). 0 < times m (modes_of (granted (in_order c.args.lines.now.nodes c.args.number)))) (ap (λ h. (asked h).1) c.get.ensures.1)
          (is_there hs xs x (line_ok d) c.args.no i c.args.node c.requires.there.1 c.requires.owned (stands_once d) l),
    )

pub overflow_sub-line : goal.overflow_sub-line
overflow_sub-line c =
    let d = (goal.at.overflow_sub-line c).After-index in
    let hs = c.args.lines.now.nodes.held in let xs = nodes_of c.args.lines.now.nodes c.args.number in let x = c.index.result.now in let i = c.requires.there.0 in
    let l = if_granted hs xs x (line_ok d) c.args.no i c.args.node c.requires.there.1 c.requires.owned (stands_once d) c.if-is_granted.ensures in omega (arith, l)

pub returns-then-is_granted : goal.returns-then-is_granted
returns-then-is_granted c =
    let d = (goal.at.returns-then-is_granted c).After-index in
    let hs = c.args.lines.now.nodes.held in let xs = nodes_of c.args.lines.now.nodes c.args.number in let x = c.index.result.now in let i = c.requires.there.0 in
    let l = if_granted hs xs x (line_ok d) c.args.no i c.args.node c.requires.there.1 c.requires.owned (stands_once d) c.if-is_granted.ensures in
    stays_before hs xs x (line_ok d) c.args.no i c.args.node c.requires.there.1 c.requires.owned (stands_once d) (record x { granted = x.granted - 1; held = c.take.new.self }) l refl
    (λ held rest is e. c.take.ensures held rest is (λ m. e m ∙ ap (λ (k : Mode). times m (k ∷ rest)) (ap (λ h. (asked h).1) c.get.ensures.1))) refl

pub returns-then-is_first : goal.returns-then-is_first
returns-then-is_first c =
    let d = (goal.at.returns-then-is_first c).After-index in
    let hs = c.args.lines.now.nodes.held in let xs = nodes_of c.args.lines.now.nodes c.args.number in let x = c.index.result.now in let i = c.requires.there.0 in
    let same = if_first hs xs x (line_ok d) c.args.no i c.args.node c.requires.there.1 c.requires.owned (stands_once d) (c.if-is_first.ensures.yes refl) in
    stays_first hs xs x (line_ok d) c.args.no i c.args.node c.requires.there.1 c.requires.owned (stands_once d) (record x { waiting = c.next-line.result }) same refl refl
    (c.next-line.ensures.node c.args.number i c.requires.queue c.requires.there.1)

pub returns-else-is_first : goal.returns-else-is_first
returns-else-is_first c =
    let d = (goal.at.returns-else-is_first c).After-index in
    let hs = c.args.lines.now.nodes.held in let xs = nodes_of c.args.lines.now.nodes c.args.number in let x = c.index.result.now in let i = c.requires.there.0 in
    let le = if_waits hs xs x (line_ok d) c.args.no i c.args.node c.requires.there.1 c.requires.owned (stands_once d) c.if-is_granted.ensures in
    stays_after hs xs x (line_ok d) c.args.no i c.args.node c.requires.there.1 c.requires.owned (stands_once d) x
    (if_not_first hs xs x (line_ok d) c.args.no i c.args.node c.requires.there.1 c.requires.owned (stands_once d) le (c.if-is_first.ensures.no refl)) refl refl refl
