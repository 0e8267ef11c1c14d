-- Requests with numbers.
use Rattle.std.proofs.Common.{◌≡◌, ℕ, ◌+◌, List, [], ◌∷◌}
use Rattle.std.specs.List.{AllByRecursion}
use Rattle.catalogue.specs.Shapes.{TableShape}
use Rattle.requests.specs.Requests.{Call}
use Rattle.sequencer.specs.Batches.{items_from, AreOver}

pub numbered_over : (tables : List TableShape) (n : ℕ) (requests : List Call) → AllByRecursion (λ r. r.proc.tables ≡ tables) requests → AreOver tables (items_from n requests)
numbered_over tables n [] h = tt
numbered_over tables n (r ∷ rs) h = (h.0, numbered_over tables (n + 1) rs h.1)
