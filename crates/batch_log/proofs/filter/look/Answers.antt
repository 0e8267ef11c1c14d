use Rattle.std.proofs.Common.{rules}
use Rattle.batch_log.proofs.Filters.{looked_refused, looked_taken}
use Rattle.batch_log.proofs.filter.look.Goals as goal

pub returns-in-Ok-end_line-clause-line : goal.returns-in-Ok-end_line-clause-line
returns-in-Ok-end_line-clause-line g c =
    looked_taken _ _ _ _ _ _ _ c.ends_bare.result c.in-Ok-Some.line.items c.end_line.new.line _ (rw c.in-Ok-Some.field-0-is at c.in-Ok-Some.ensures.line).0 c.ends_bare.ensures
    c.in-Ok-end_line.ensures (rw c.deref.ensures.value at c.in-Ok.ensures.exact)

pub returns : goal.returns
returns g c = record {
  same = search rules;
  line = looked_refused _ _ _ _ _ _ _ c.in-Ok-Some.line.items _ (rw c.in-Ok-Some.field-0-is at c.in-Ok-Some.ensures.line).0 c.last_line-number.ensures
      (rw c.deref.ensures.value at (c.in-Err-read_line_with.ensures.exact (search rules)));
  end = λ e. absurd cc;
  lost = tt;
  machine = tt;
  stays = search rules;
  tells = search rules;
}
