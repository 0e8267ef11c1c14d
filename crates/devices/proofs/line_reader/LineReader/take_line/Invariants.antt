use Rattle.std.proofs.Common.{◌≡◌, ◌<◌, ◌-◌, ◌^◌, true, false, length, vec_len}
use Rattle.std.specs.Io.KnownBytes.{Consumes}
use Rattle.devices.specs.Lines.{has_newline, next_number}
use Rattle.devices.specs.LineReader.{came, failed_in, has_ended, origin_of, source_of, unread}
use Rattle.devices.proofs.line_reader.LineReader.take_line.Given as goal

abbrev pub invariant-pieces : goal.invariant-pieces
invariant-pieces g l = record {
  same : origin_of l.self ≡ origin_of l.initial.self;
  stays : l.self.fault ≡ l.initial.self.fault;
  taken : Consumes (unread g.S.Source.left l.initial.self) (unread g.S.Source.left l.self) l.line.items;
  line : has_newline l.line.items ≡ false;
  newlines : l.self.newlines ≡ l.initial.self.newlines;
  none : length l.line.items ≡ 0 → l.self.begun ≡ l.initial.self.begun;
  some : 0 < length l.line.items → l.self.begun ≡ next_number l.self.newlines;
  late : has_newline (came l.initial.self) ≡ true → (source_of l.self ≡ source_of l.initial.self) × (has_newline (came l.self) ≡ true);
  fails : failed_in g.S.Source.failed l.self ≡ failed_in g.S.Source.failed l.initial.self;
  goes_on : has_ended l.initial.self ≡ false → has_ended l.self ≡ false;
}

abbrev pub decreases-pieces : goal.decreases-pieces
decreases-pieces g l = 2 ^ 63 - vec_len l.line
