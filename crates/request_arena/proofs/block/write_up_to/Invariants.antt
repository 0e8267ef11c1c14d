use Rattle.std.proofs.Common.{◌≡◌, ℕ, length}
use Rattle.request_arena.specs.Places.{at_place}
use Rattle.request_arena.proofs.block.write_up_to.Given as goal

-- each turn writes one place more, and what stands at a place stays
abbrev pub invariant-loop : goal.invariant-loop
invariant-loop l = record {
  far : length l.written.items ≡ l.counter;
  capacity : l.written.room ≡ l.fn.written.room;
  same : (place : ℕ) → at_place l.nodes l.written.items place ≡ at_place l.nodes l.fn.written.items place;
}
