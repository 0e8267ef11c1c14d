-- Claimed: what contracts promise to a reader rests on these words.
-- The session of a handle.
use Rattle.std.specs.Prelude.{◌≡◌, ℕ, List}
use Rattle.std.specs.Borrow.{Lends, MutBor, Fml}
use Rattle.session.specs.declared.session.Session.{Session}
use Rattle.session.specs.Pieces.{untaken}
use Rattle.session.specs.Sessions.{EndsWhole}
use Rattle.calvin_c.specs.declared.handle.Handle.{Handle}
use Rattle.calvin_c.specs.declared.opened.Opened.{Opened}
use Rattle.calvin_c.specs.contracts.handle.Handle as handle
use Rattle.calvin_c.specs.contracts.opened.Opened as opened

-- the session of a handle
abbrev pub session_of : Handle → Session
session_of h = h.opened.session

-- what waits of the rows document that was asked for
abbrev pub document_of : Handle → List ℕ
document_of h = untaken h.opened.document

-- the handle where this lies in place of what lay there
abbrev pub with_opened : Handle → Opened → Handle
with_opened h x = record h { opened = x }

-- the session lies where it lay, and the same waits of the rows document
abbrev pub LiesStill : Handle → Handle → Type 0
LiesStill old new = (new.at ≡ old.at) × (document_of new ≡ document_of old)

-- what was fed is a whole log, whose report was drained or waits
abbrev pub EndsWholly : Session → Session → Type 0
EndsWholly old new = (count : ℕ) × EndsWhole old new count

-- once the borrow r ends, what lies there is the last value that was written through r
abbrev pub LendsOpened : MutBor Handle → MutBor Opened → Fml
LendsOpened h r = Lends handle.the_row opened.the_row h r (with_opened h.now)
