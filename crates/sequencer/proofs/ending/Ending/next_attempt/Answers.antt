use Rattle.std.proofs.Common.{◌≡◌, ◌∷◌, List, [], length, refl, ap, sym, ◌∙◌, arith}
use Rattle.std.proofs.lemmas.List.{nil_from_length}
use Rattle.std.specs.Vec.Iter.{into_iter_items}
use Rattle.sequencer.specs.Attempts.{own, attempts_of}
use Rattle.sequencer.specs.Batches.{RequestItem}
use Rattle.sequencer.specs.declared.attempts.Carried.{Carried}
use Rattle.sequencer.proofs.ending.Ending.next_attempt.Goals as goal

-- nothing is carried any more
pub returns : goal.returns
returns c =
    let old = c.args.self.now in
    let none : length (into_iter_items old.carried) ≡ 0 = omega (arith, c.in_default.ensures.cases) in
    let front : into_iter_items old.carried ≡ [] = nil_from_length (into_iter_items old.carried) none in
    let still : into_iter_items c.next.new.self ≡ [] = sym c.in_default.ensures.items ∙ front in
    record {
      attempt = own c.in-Some-next.item;
      waited = ap (λ (cs : List Carried). attempts_of cs (into_iter_items old.own)) front
          ∙ ap (λ (is : List RequestItem). attempts_of [] is) c.in-Some-next.ensures.items
          ∙ ap (λ (cs : List Carried). own c.in-Some-next.item ∷ attempts_of cs (into_iter_items c.next-2.new.self)) (sym still);
      carried = c.first_attempt.ensures;
      of = refl;
      no = refl;
      retries = refl;
      left = refl;
    }
