use Rattle.std.proofs.Common.{◌≡◌, ◌<◌, ◌≤◌, ◌∙◌, length, get_or, Some, refl, ap, arith}
use Rattle.std.proofs.lemmas.Option.{slice_get_read}
use Rattle.sequencer.specs.Batches.{RequestItem}
use Rattle.sequencer.proofs.Attempted.{carried_at, item_at}
use Rattle.sequencer.proofs.attempts.request_at.Goals as goal

pub returns-in-Some : goal.returns-in-Some
returns-in-Some c =
    let carried = c.args.carried.now in
    let one = c.in-Some.again.now in
    let less : c.args.place < length carried = omega (arith, c.in-Some.ensures.lookup) in
    let is : one ≡ get_or carried c.args.place one = c.in-Some.ensures.lookup.1 in
    carried_at carried c.args.items.now c.args.place one (slice_get_read carried (length carried) c.args.place one refl less is)

pub returns-in-None : goal.returns-in-None
returns-in-None c =
    let carried = c.args.carried.now in
    let items = c.args.items.now in
    let item = c.index-items-place.result in
    let past : length carried ≤ c.args.place = omega (arith, c.in-None.ensures.lookup) in
    item_at carried items c.args.place item past c.requires c.index-items-place.is ∙ ap (λ (x : RequestItem). Some x.request) c.index-items-place.is
