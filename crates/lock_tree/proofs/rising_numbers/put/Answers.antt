use Rattle.std.proofs.Common.{◌≡◌, ◌<◌, ◌≤◌, ℕ, true, Result, Ok, Err, ◌∙◌, refl, arith}
use Rattle.std.specs.Result.{OnOk, OnErr}
use Rattle.std.specs.VecDeque.{deque_len, deque_capacity}
use Rattle.std.specs.List.{insert}
use Rattle.lock_tree.specs.Open.{placed}
use Rattle.lock_tree.proofs.Opens.{found_there, another_there, nothing_there, fits_new}
use Rattle.lock_tree.proofs.rising_numbers.put.Goals as goal
use Rattle.lock_tree.proofs.rising_numbers.put.Goals.{else-place-len-via-then-place-len+else-index-no, else-place-len-via-else-place-len}

-- where there is room nothing fails
inserted : {X Y : Type 0} (r : Result X Y) (done : Type 0) (len capacity : ℕ) → OnOk r done → OnErr r (capacity ≤ len) → len < capacity → done
inserted (Ok x) done len capacity items full room = items
inserted (Err y) done len capacity items full room = absurd (omega (arith, full, room))

pub returns-then-index-no-clause-items : goal.returns-then-index-no-clause-items
returns-then-index-no-clause-items c =
    (found_there c.args.no c.args.numbers.now.items c.args.numbers.now.items c.places_before-place.result c.len.result c.index.result.now refl c.places_before-place.ensures.exact
    c.if-place-len.true (c.len.ensures ∙ c.args.numbers.now.ok.0) c.index.ensures c.if-index-no.true).0

pub returns-clause-items : goal.returns-clause-items
returns-clause-items c =
    let is : insert c.args.numbers.now.items c.places_before-place.result c.args.no ≡ placed c.args.no true c.args.numbers.now.items = elim c.else-place-len.branch [
      | else-place-len-via-then-place-len+else-index-no w ↦
          (another_there c.args.no c.args.numbers.now.items c.args.numbers.now.items c.places_before-place.result w.index.result.now refl c.places_before-place.ensures.exact w.index.ensures w.if-index-no.false).0
      | else-place-len-via-else-place-len w ↦
          (nothing_there c.args.no c.args.numbers.now.items c.args.numbers.now.items c.places_before-place.result c.len.result refl c.places_before-place.ensures.exact
          w.if-place-len.false (c.len.ensures ∙ c.args.numbers.now.ok.0)).0
    ] in
    let room : deque_len c.args.numbers.now < deque_capacity c.args.numbers.now =
    fits_new c.args.numbers.now.items c.places_before-place.result c.args.no (deque_len c.args.numbers.now) (deque_capacity c.args.numbers.now) is c.args.numbers.now.ok.0 c.requires.room in
    inserted c.insert.result _ _ _ c.insert.ensures.items c.insert.ensures.full room ∙ is
