use Rattle.std.proofs.Common.{◌≡◌, ℕ, Option, refl, subst, ◌∙◌, arith}
use Rattle.std.specs.List.{remove}
use Rattle.std.specs.Option.{OnSome}
use Rattle.lock_tree.proofs.Opens.{found_there, another_there, nothing_there}
use Rattle.lock_tree.proofs.rising_numbers.take_out.Goals as goal
use Rattle.lock_tree.proofs.rising_numbers.take_out.Goals.{else-place-len-via-then-place-len+else-index-no, else-place-len-via-else-place-len}

pub returns-then-index-no-clause-items : goal.returns-then-index-no-clause-items
returns-then-index-no-clause-items c =
    subst (λ (r : Option ℕ). OnSome r (c.remove.new.self.items ≡ remove c.args.numbers.now.items c.places_before-place.result)) (c.remove.ensures.succeeds 0 (let near = c.if-place-len.true in let all = c.len.ensures in omega (arith, near, all))) c.remove.ensures.items
    ∙ (found_there c.args.no c.args.numbers.now.items c.args.numbers.now.items c.places_before-place.result c.len.result c.index.result.now refl c.places_before-place.ensures.exact
    c.if-place-len.true (c.len.ensures ∙ c.args.numbers.now.ok.0) c.index.ensures c.if-index-no.true).1

pub returns-else-place-len-clause-items : goal.returns-else-place-len-clause-items
returns-else-place-len-clause-items c = elim c.else-place-len.branch [
  | else-place-len-via-then-place-len+else-index-no w ↦
      (another_there c.args.no c.args.numbers.now.items c.args.numbers.now.items c.places_before-place.result w.index.result.now refl c.places_before-place.ensures.exact w.index.ensures w.if-index-no.false).1
  | else-place-len-via-else-place-len w ↦
      (nothing_there c.args.no c.args.numbers.now.items c.args.numbers.now.items c.places_before-place.result c.len.result refl c.places_before-place.ensures.exact
      w.if-place-len.false (c.len.ensures ∙ c.args.numbers.now.ok.0)).1
]
