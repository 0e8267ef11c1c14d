-- The number of the next call.
use Rattle.std.proofs.Common.{◌≡◌, ◌+◌, ◌≤◌, ◌^◌, length, refl, ap, ◌∙◌}
use Rattle.std.proofs.Math.Bridge.{le_prop}
use Rattle.std.proofs.Math.Logic.{∥∥₁_elim}
use Rattle.sequencer.specs.Batches.{items_from}
use Rattle.sequencer.proofs.Attempted.{attempts_length}
use Rattle.retries.proofs.Spent.{own_count}
use Rattle.batch_log.specs.Feeds.{place_of}
use Rattle.session.specs.declared.work.Work.{Work}
use Rattle.session.specs.Works.{next_number, IsReady}
use Rattle.session.proofs.Rooms.{room_after, waiting_few}

-- those that were run, what is carried, and the calls that wait
pub number_is : (work : Work) → next_number work ≡ work.engine.next + (length work.engine.carried + length (place_of work.feed).calls)
number_is work = ap (λ n. work.engine.next + n) (attempts_length work.engine.carried (items_from 0 (place_of work.feed).calls) ∙ ap (λ n. length work.engine.carried + n) (own_count 0 (place_of work.feed).calls))

pub number_few : (work : Work) → IsReady work → next_number work ≤ 2 ^ 48
number_few work h = ∥∥₁_elim h.log le_prop (room_after work (place_of work.feed).calls h (waiting_few work (place_of work.feed).calls refl))
