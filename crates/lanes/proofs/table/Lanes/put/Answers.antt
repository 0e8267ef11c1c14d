use Rattle.std.proofs.Common.{◌≡◌, ◌↔◌, ℕ, ◌+◌, sym, ap, ◌∙◌, subst, map}
use Rattle.std.specs.Prelude.{IsErr}
use Rattle.lanes.specs.Seats.{jobs_in, puts_in}
use Rattle.lanes.specs.Calls.{IsLowestFree}
use Rattle.lanes.specs.Kept.{job_of}
use Rattle.lanes.proofs.Put.{put_seen, lowest_free, put_more, put_full, both_ok, of_ok, of_err}
use Rattle.lanes.proofs.Stands.{scheduler_stands}
use Rattle.lanes.proofs.table.Lanes.put.Goals as goal

pub returns-clause-ok : goal.returns-clause-ok
returns-clause-ok c = let is = ap (λ s. s.lanes) c.seat.view_is ∙ c.requires ∙ sym c.self.view_is in let v = c.seat.inside.seat.me.0 in
    both_ok c.put.result
    (λ lane p q. (
      subst (λ js. IsLowestFree js lane) (ap (λ s. s.jobs) c.seat.view_is) (lowest_free v c.self.inside.table.count lane (c.seat.invariant.at_rest.wide ∙ ap (λ l. l.count) is) p.0 p.1 q),
      put_seen c.seat.inside.seat.table_id c.put.new.seat.table_id v c.put.new.seat.me lane c.args.job (c.put.ensures.seat.lanes ∙ sym (ap (λ l. l.table) is)) p.2 ∙ ap (λ s. puts_in s lane c.args.job) c.seat.view_is,
    )) c.put.ensures.ok c.put.ensures.lowest

pub returns-clause-more : goal.returns-clause-more
returns-clause-more c = let is = ap (λ s. s.lanes) c.seat.view_is ∙ c.requires ∙ sym c.self.view_is in let v = c.seat.inside.seat.me.0 in
    of_ok c.put.result
    (λ lane p. ap (λ m. jobs_in (map job_of m.0.known)) p.2 ∙ put_more v c.self.inside.table.count lane c.args.job (c.seat.invariant.at_rest.wide ∙ ap (λ l. l.count) is) p.0 p.1 ∙ ap (λ s. jobs_in s.jobs + 1) c.seat.view_is) c.put.ensures.ok

pub returns-clause-full : goal.returns-clause-full
returns-clause-full c = let is = ap (λ s. s.lanes) c.seat.view_is ∙ c.requires ∙ sym c.self.view_is in let v = c.seat.inside.seat.me.0 in
    subst (λ s. IsErr c.put.result ↔ (jobs_in s.jobs ≡ c.args.self.now.count)) c.seat.view_is
    (subst (λ (m : ℕ). IsErr c.put.result ↔ (jobs_in (map job_of v.known) ≡ m)) (ap (λ l. l.count) c.self.view_is)
    (put_full v c.self.inside.table.count c.put.result (c.seat.invariant.at_rest.wide ∙ ap (λ l. l.count) is) (of_ok c.put.result (λ lane p. (p.0, p.1)) c.put.ensures.ok) (of_err c.put.result (λ back p. p.2) c.put.ensures.err)))

pub returns-clause-stands : goal.returns-clause-stands
returns-clause-stands c = of_ok c.put.result (λ lane s. scheduler_stands c.put.new.seat.table_id c.put.new.seat.me.0 c.put.ensures.seat.at_rest.schedules s) c.put.ensures.stands
