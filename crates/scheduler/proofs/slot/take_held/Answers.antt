use Rattle.std.proofs.Common.{◌≡◌, ◌<◌, length, Some, slice_get, slice_index_or, refl, arith}
use Rattle.std.proofs.lemmas.Option.{slice_get_read}
use Rattle.scheduler.proofs.Places.{set_back}
use Rattle.scheduler.proofs.Slots.{not_held}
use Rattle.scheduler.proofs.slot.take_held.Goals as goal

pub returns-in_default : goal.returns-in_default
returns-in_default c =
    let inside : c.args.place < length c.args.slots.now.items = omega (arith, c.len.ensures) in
    let read : c.replace.result ≡ slice_index_or c.args.slots.now.items c.args.place c.replace.result = rw c.replace.ensures.value c.index_mut-slot.ensures.value in
    let at : slice_get c.args.slots.now.items c.args.place ≡ Some c.replace.result = slice_get_read c.args.slots.now.items (length c.args.slots.now.items) c.args.place c.replace.result refl inside read in
    record { was = tt; taken = tt; none = λ _. not_held c.args.slots.now.items c.args.place c.replace.result at c.in_default.not-Held; same = λ _. set_back c.args.slots.now.items c.args.place c.replace.result at }
