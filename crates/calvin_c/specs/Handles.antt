-- Claimed: what contracts promise to a reader rests on these words.
-- What a handle owns.
use base.Fml.{Fml, fex}
use denote.RawPtr.{Ptr}
use Rattle.std.specs.Coded.{Coded}
use Rattle.std_alloc.specs.Box.Ownership.{box_owns}
use Rattle.std_heap.specs.declared.Global.{Global}
use Rattle.std_heap.specs.contracts.GlobalAllocator.TheImpl.{ghosts}
use Rattle.calvin_c.specs.declared.opened.Opened.{Opened}
use Rattle.calvin_c.specs.contracts.opened.Opened as opened

-- this session lies there, with its document, in a block that may be freed
abbrev pub lies : Ptr → Opened → Fml
lies p x = fex Global (λ (a : Global). box_owns (ghosts.dealloc_token a) opened.the_row p x)

-- how what lies there is told apart
abbrev pub opened_code : Coded Opened
opened_code = opened.the_row.coded
