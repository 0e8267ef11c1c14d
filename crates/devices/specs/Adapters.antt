-- Claimed: what contracts promise to a reader rests on these words.
-- What the devices over std's readers and writers depend on.
use Rattle.std.specs.Prelude.{Bool}
use Rattle.devices.specs.declared.read_source.ReadSource.{ReadSource}
use Rattle.devices.specs.declared.write_sink.WriteSink.{WriteSink}

-- the reader under a source
abbrev pub reader_of : {R : Type 0} → ReadSource R → R
reader_of s = s.reader

-- a read of the source has failed
abbrev pub has_read_failed : {R : Type 0} → ReadSource R → Bool
has_read_failed s = s.failed

-- the writer under a sink
abbrev pub writer_of : {W : Type 0} → WriteSink W → W
writer_of s = s.writer

-- a write to the sink has failed
abbrev pub has_write_failed : {W : Type 0} → WriteSink W → Bool
has_write_failed s = s.failed
