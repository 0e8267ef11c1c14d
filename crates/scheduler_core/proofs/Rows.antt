-- The rows at every moment.
use Rattle.scheduler_core.specs.Laws.{RowsAreSerial}
use Rattle.scheduler_core.proofs.LowerLaws.{LowerLaws}
use Rattle.scheduler_core.proofs.Soundness.{sound_start, sound_admit, sound_lend, lent_serial, out_serial, lends_are_apart, sound_run, run_serial, sound_take_back, sound_settle, same_rows, outs_are_apart, ends_serially}

pub stays_sound : LowerLaws → RowsAreSerial
stays_sound laws tables first log start planned = record {
  starts = sound_start tables log start laws planned;
  admits = sound_admit tables log start;
  lends = sound_lend tables log start laws planned first;
  lent_rows = lent_serial tables log start laws planned first;
  lends_apart = lends_are_apart tables log start laws planned first;
  out_rows = out_serial tables log start laws planned;
  runs = sound_run tables log start;
  run_rows = run_serial tables log start laws planned;
  takes_back = sound_take_back tables log start;
  settles = sound_settle tables log start laws planned;
  same_rows = same_rows tables log start;
  outs_apart = outs_are_apart tables log start laws planned;
  ends = ends_serially tables log start laws planned;
}
