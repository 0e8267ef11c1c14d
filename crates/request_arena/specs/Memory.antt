-- Of the code: invariants and steps; no promise rests on these words.
-- The right to give a block of memory back.
use Rattle.std.specs.Prelude.{◌≡◌}
use Rattle.core.specs.declared.slots.Slots.{Slots}
use Rattle.core.specs.Mem.Slots.{slots_ptr, slots_len}
use Rattle.request_arena.specs.declared.deed.Deed.{Deed}

-- it is the right to give these places' block back, to this allocator
pub record IsDeedOf {T A : Type 0} (deed : Deed T A) (slots : Slots T) (alloc : A) : Type 0 where
  pub start : deed.start ≡ slots_ptr slots
  pub places : deed.places ≡ slots_len slots
  pub by : deed.alloc ≡ alloc
