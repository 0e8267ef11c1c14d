use Rattle.std.proofs.Common.{◌≡◌, [], length, refl, sym, ◌∙◌, subst, arith}
use Rattle.std.proofs.lemmas.List.{nil_from_length}
use Rattle.std.specs.Vec.{with_item}
use Rattle.lock_tree.specs.Lines.{Lines}
use Rattle.lock_tree.proofs.Vacancies.{Taken, taken_vacant, taken_fresh, number_left, vacant_last}
use Rattle.lock_tree.proofs.Fronting.{granted_fresh}
use Rattle.lock_tree.proofs.numbering.take.Goals as goal

pub push_empty-requires : goal.push_empty-requires
push_empty-requires c =
    let l = c.args.lines.now in
    let none : l.vacant.items ≡ [] = nil_from_length l.vacant.items (sym l.vacant.ok.0 ∙ c.in_default.ensures.cases.0) in
    let left = number_left l c.requires.numbered c.requires.free none in let fit = c.requires.numbered.lines_fit in let n = l.lines.ok.0 in omega (arith, left, fit, n)

pub push_reserved-requires : goal.push_reserved-requires
push_reserved-requires c =
    let l = c.args.lines.now in
    let none : l.vacant.items ≡ [] = nil_from_length l.vacant.items (sym l.vacant.ok.0 ∙ c.in_default.ensures.cases.0) in
    let left = number_left l c.requires.numbered c.requires.free none in let fit = c.requires.numbered.resources_fit in let many = c.requires.numbered.as_many in let n = l.resources.ok.0 in omega (arith, left, fit, many, n)

pub index_mut-requires : goal.index_mut-requires
index_mut-requires c =
    let near = vacant_last c.args.lines.now c.in-Some.number c.pop.new.self.items c.requires.numbered c.in-Some.ensures.items in let n = c.args.lines.now.resources.ok.0 in omega (arith, near, n)

pub returns-in-Some-clause-numbered : goal.returns-in-Some-clause-numbered
returns-in-Some-clause-numbered c =
    let l = c.args.lines.now in let q = c.in-Some.number in let r = c.args.resource.now in
    (taken_vacant l (record l { vacant = c.pop.new.self; resources = with_item l.resources q r }) q r c.requires.numbered c.in-Some.ensures.items c.in-Some.ensures.capacity refl refl).0

pub returns-in-Some-clause-empty : goal.returns-in-Some-clause-empty
returns-in-Some-clause-empty c =
    let l = c.args.lines.now in let q = c.in-Some.number in let r = c.args.resource.now in
    (taken_vacant l (record l { vacant = c.pop.new.self; resources = with_item l.resources q r }) q r c.requires.numbered c.in-Some.ensures.items c.in-Some.ensures.capacity refl refl).1

pub returns-in-Some-clause-within : goal.returns-in-Some-clause-within
returns-in-Some-clause-within c =
    let l = c.args.lines.now in let q = c.in-Some.number in let r = c.args.resource.now in
    (taken_vacant l (record l { vacant = c.pop.new.self; resources = with_item l.resources q r }) q r c.requires.numbered c.in-Some.ensures.items c.in-Some.ensures.capacity refl refl).2

pub returns-in-Some-clause-noted : goal.returns-in-Some-clause-noted
returns-in-Some-clause-noted c =
    let l = c.args.lines.now in let q = c.in-Some.number in let r = c.args.resource.now in
    (taken_vacant l (record l { vacant = c.pop.new.self; resources = with_item l.resources q r }) q r c.requires.numbered c.in-Some.ensures.items c.in-Some.ensures.capacity refl refl).3

-- no number was vacant
fresh : (c : goal.After-push_reserved)
    → Taken c.args.lines.now (record c.args.lines.now { vacant = c.pop.new.self; lines = c.push_empty.new.lines; resources = c.push_reserved.new.self }) c.len-number.result c.args.resource.now
fresh c =
    let l = c.args.lines.now in
    let now : Lines = record l { vacant = c.pop.new.self; lines = c.push_empty.new.lines; resources = c.push_reserved.new.self } in
    let none : l.vacant.items ≡ [] = nil_from_length l.vacant.items (sym l.vacant.ok.0 ∙ c.in_default.ensures.cases.0) in
    let still : now.vacant.items ≡ [] = nil_from_length now.vacant.items (sym now.vacant.ok.0 ∙ c.in_default.ensures.cases.1) in
    subst (λ n. Taken l now n c.args.resource.now) (sym (c.len-number.ensures ∙ l.lines.ok.0))
    (taken_fresh l now c.push_empty.ensures.lines.0 c.args.resource.now c.requires.numbered c.requires.free none still c.in_default.ensures.capacity c.push_empty.ensures.lines.1 c.push_empty.ensures.capacity
    c.push_reserved.ensures.items c.push_reserved.ensures.capacity)

pub returns-clause-numbered : goal.returns-clause-numbered
returns-clause-numbered c = (fresh c).0

pub returns-clause-empty : goal.returns-clause-empty
returns-clause-empty c = (fresh c).1

pub returns-clause-within : goal.returns-clause-within
returns-clause-within c = (fresh c).2

pub returns-clause-noted : goal.returns-clause-noted
returns-clause-noted c = (fresh c).3

pub returns-clause-granted : goal.returns-clause-granted
returns-clause-granted c =
    granted_fresh c.args.lines.now (record c.args.lines.now { lines = c.push_empty.new.lines }) c.push_empty.ensures.lines.0 c.requires.granted c.push_empty.ensures.lines.1 c.push_empty.ensures.lines.2
    (c.requires.numbered.fresh (length c.args.lines.now.lines.items) (omega arith))
