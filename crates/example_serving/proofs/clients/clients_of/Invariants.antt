use Rattle.std.proofs.Common.{◌≡◌, ◌+◌, ◌++◌, ◌≤◌, List, length, drop, vec_len, vec_capacity}
use Rattle.std.specs.List.{AllByRecursion}
use Rattle.std.specs.Vec.Iter.{into_iter_items}
use Rattle.example_serving.specs.Logs.{ClientLog, IsShortLog}
use Rattle.example_serving.specs.Clients.{AreAtTheirLogs}
use Rattle.example_serving.proofs.clients.clients_of.Given as goal

-- the clients so far have the first logs, and there are as many passes left as logs
abbrev pub invariant-loop-pass : goal.invariant-loop-pass
invariant-loop-pass l = record {
  front : List ClientLog;
  logs : l.fn.logs.items ≡ front ++ into_iter_items l.logs;
  clients : AreAtTheirLogs l.intake (vec_len l.fn.logs) 1 l.clients.items front;
  passes : drop (length l.clients.items) l.fn.passes.items ≡ into_iter_items l.pass-iterator;
  same : length (into_iter_items l.pass-iterator) ≡ length (into_iter_items l.logs);
  room : length l.clients.items + length (into_iter_items l.logs) ≤ vec_capacity l.clients;
  short : AllByRecursion IsShortLog (into_iter_items l.logs);
}
