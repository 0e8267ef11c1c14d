use Rattle.std.proofs.Common.{rules, ◌+◌, ◌<◌, ◌++◌, length, take, drop}
use Rattle.session.proofs.Runs.{stopped_at_byte}
use Rattle.session.proofs.work.Work.take_bytes.Goals as goal

pub returns-in-Err-clause-fault : goal.returns-in-Err-clause-fault
returns-in-Err-clause-fault c = λ start fed drained more passed h.
    let few : c.loop-byte.byte-index < length c.args.bytes.now = search rules in
    stopped_at_byte start fed more c.args.bytes.now _ _ c.loop-byte.byte-index _ c.in-Err.fault few
    (c.in-Err.ensures.fault start (fed ++ take c.loop-byte.byte-index c.args.bytes.now) drained (drop (c.loop-byte.byte-index + 1) c.args.bytes.now ++ more) passed (c.loop-byte.invariant.taken start fed drained passed h))
