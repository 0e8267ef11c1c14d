use denote.Param.Send.{sendable}
use Rattle.std.proofs.Crossing.{crosses}
use Rattle.dispatcher.proofs.Sent.{worker_send}
use Rattle.dispatcher.proofs.dispatcher.Dispatcher.start_worker.Goals as goal

pub start-requires-send-D : goal.start-requires-send-D
start-requires-send-D g c κs within = search (sendable, crosses, worker_send) depth 12
