use Rattle.std.proofs.Common.{◌≡◌, ◌∙◌, ℕ, length, Option, None, Some, refl, sym, ap, arith, true, false, Bool, not}
use Rattle.std.specs.Option.{is_some}
use Rattle.modes.specs.declared.mode.Mode.{Mode}
use Rattle.lock_tree.specs.Queues.{Queue}
use Rattle.std.proofs.lemmas.Option.{slice_get_read}
use Rattle.lock_tree.specs.Lines.{nodes_of, numbered}
use Rattle.lock_tree.specs.Granted.{admits, IsLine}
use Rattle.lock_tree.proofs.Joining.{admits_more, admits_none}
use Rattle.lock_tree.proofs.grants.admits.Goals as goal
use Rattle.lock_tree.proofs.grants.admits.Goals.{After-index}

pub index-requires : goal.index-requires
index-requires c = let h = (c.requires.numbered.named c.args.resource.now c.in-Some.number (sym c.in-Some.ensures)).0 in omega (arith, h)

-- what is noted of the queue
noted : (c : After-index) → IsLine c.args.lines.now.nodes.held (nodes_of c.args.lines.now.nodes c.in-Some.number) c.index.result.now
noted c =
    let items = c.args.lines.now.lines.items in
    c.requires.granted c.in-Some.number c.index.result.now
    (slice_get_read items (length items) c.in-Some.number c.index.result.now refl (c.requires.numbered.named c.args.resource.now c.in-Some.number (sym c.in-Some.ensures)).0 c.index.ensures)

none_there : (o : Option ℕ) (b : Bool) → is_some o ≡ not b → b ≡ true → o ≡ None
none_there None b is e = refl
none_there (Some a) b is e = absurd (let g : true ≡ false = is ∙ ap not e in cc)

some_there : (o : Option ℕ) (b : Bool) → is_some o ≡ not b → b ≡ false → (a : ℕ) × (o ≡ Some a)
some_there None b is e = absurd (let g : false ≡ true = is ∙ ap not e in cc)
some_there (Some a) b is e = (a, refl)

pub returns-then-is_none : goal.returns-then-is_none
returns-then-is_none c =
    let l = c.args.lines.now in let x = c.index.result.now in
    admits_more l.nodes.held (nodes_of l.nodes c.in-Some.number) x c.args.mode (noted (goal.at.returns-then-is_none c).After-index) c.fits.result
    (none_there x.waiting c.is_none.result c.is_none.ensures c.if-is_none.true) (λ held is. c.fits.ensures held is)
    ∙ ap (λ (o : Option ℕ). admits (numbered l.nodes o) c.args.mode) c.in-Some.ensures

pub returns-else-is_none : goal.returns-else-is_none
returns-else-is_none c =
    let l = c.args.lines.now in let x = c.index.result.now in
    let w = some_there x.waiting c.is_none.result c.is_none.ensures c.if-is_none.false in
    c.if-is_none.false
    ∙ admits_none l.nodes.held (nodes_of l.nodes c.in-Some.number) x c.args.mode (noted (goal.at.returns-else-is_none c).After-index) w.0 w.1
    ∙ ap (λ (o : Option ℕ). admits (numbered l.nodes o) c.args.mode) c.in-Some.ensures
