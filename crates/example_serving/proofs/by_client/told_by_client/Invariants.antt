use Rattle.std.proofs.Common.{◌≡◌, ℕ, ◌<◌, length, map}
use Rattle.example_serving.specs.Serving.{said_in, said_to_client, AreToClients}
use Rattle.example_serving.proofs.by_client.told_by_client.Given as goal

-- the clients so far have their lists, and what is left has all that was said to those after them
abbrev pub invariant-loop-client : goal.invariant-loop-client
invariant-loop-client l = record {
  lists : AreToClients 1 l.lists.items (map said_in l.fn.told.items);
  count : length l.lists.items ≡ l.client;
  rest : (k : ℕ) → l.client < k → said_to_client k (map said_in l.rest.items) ≡ said_to_client k (map said_in l.fn.told.items);
}
