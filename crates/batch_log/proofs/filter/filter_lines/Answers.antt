use Rattle.std.proofs.Common.{refl, rules}
use Rattle.devices.specs.LineReader.{came}
use Rattle.batch_log.proofs.Filters.{filter_breaks, filter_ends, filter_stops, same_failed, so_far-none, so_far-refused, so_far-taken}
use Rattle.batch_log.proofs.filter.filter_lines.Goals as goal

pub lines-init : goal.lines-init
lines-init g c = record {
  same = refl;
  no_fault = c.requires;
  source_works = refl;
  sink_works = refl;
  so_far = so_far-none _ _ _;
}

pub returns-then-is_err-clause-filter : goal.returns-then-is_err-clause-filter
returns-then-is_err-clause-filter g c =
    let looked = rw (c.in-Ok-Some-Taken.field-0-is, c.in-Ok-Some-Taken.field-0-0-is) at c.in-Ok-Some-Taken.ensures.line in
    filter_breaks _ _ _ _ _ _ _ _ _ _ _ _ _ c.in-Ok-Some-Taken.line c.lines.invariant.so_far looked (rw c.deref.ensures.value at c.write_all.ensures.front)
    (same_failed _ _ _ (c.in-Ok-Some-Taken.ensures.tells c.lines.invariant.no_fault).fails c.lines.invariant.source_works)

pub lines-preserved-in-Ok-Some-Taken : goal.lines-preserved-in-Ok-Some-Taken
lines-preserved-in-Ok-Some-Taken g c =
    let looked = rw (c.in-Ok-Some-Taken.field-0-is, c.in-Ok-Some-Taken.field-0-0-is) at c.in-Ok-Some-Taken.ensures.line in
    record {
      same = search rules;
      no_fault = search rules;
      source_works = same_failed _ _ _ (c.in-Ok-Some-Taken.ensures.tells c.lines.invariant.no_fault).fails c.lines.invariant.source_works;
      sink_works = search rules;
      so_far = so_far-taken _ _ _ _ _ _ _ _ looked.line c.lines.invariant.so_far looked.read looked.first looked.is_found.1 (rw looked.is_found.0 (search rules));
    }

pub lines-preserved : goal.lines-preserved
lines-preserved g c =
    let looked = rw (c.in-Ok-Some-Refused.field-0-is, c.in-Ok-Some-Refused.field-0-0-is) at c.in-Ok-Some-Refused.ensures.line in
    record {
      same = search rules;
      no_fault = search rules;
      source_works = same_failed _ _ _ (c.in-Ok-Some-Refused.ensures.tells c.lines.invariant.no_fault).fails c.lines.invariant.source_works;
      sink_works = search rules;
      so_far = so_far-refused _ _ _ _ _ _ _ looked.line c.lines.invariant.so_far looked.read looked.first looked.is_found.2;
    }

pub returns-in-Ok-None-clause-filter : goal.returns-in-Ok-None-clause-filter
returns-in-Ok-None-clause-filter g c =
    filter_ends _ _ _ _ _ _ _ (came c.look.new.lines) _ _ c.lines.invariant.so_far ((rw c.in-Ok-None.field-0-is at c.in-Ok-None.ensures.end) refl)

pub returns-in-Err-clause-filter : goal.returns-in-Err-clause-filter
returns-in-Err-clause-filter g c =
    let tells = c.in-Err.ensures.tells c.lines.invariant.no_fault in
    filter_stops _ _ _ _ _ _ _ (came c.look.new.lines) _ _ _ c.in-Err.fault c.lines.invariant.so_far c.in-Err.ensures.machine c.in-Err.ensures.lost
    tells.spent tells.fails c.lines.invariant.source_works
