-- Of the code: invariants and steps; no promise rests on these words.
-- The node that lies in a place in few bytes.
use Rattle.std.specs.Prelude.{ℕ, if◌then◌else◌, Option, Some, None}
use Rattle.request_arena.specs.declared.node.Node.{Node}
use Rattle.request_arena.specs.declared.node.Held.{Held}
use Rattle.request_arena.specs.declared.packed.Packed.{Packed}

abbrev pub packed_successor : Packed → Option ℕ
packed_successor p = if p.leads then Some p.successor else None

abbrev pub held_there : Packed → Option Held
held_there p = if p.live
    then Some (record { request = record { no = p.no; mode = p.mode }; successor = packed_successor p }) else None

abbrev pub unpacked : Packed → Node
unpacked p = record { next = p.next; prev = p.prev; home = p.home; held = held_there p }
