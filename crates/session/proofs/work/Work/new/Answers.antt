use Rattle.std.proofs.Common.{◌≡◌, [], ap, ◌∙◌}
use Rattle.engine.specs.Engines.{EngineParts}
use Rattle.batch_log.specs.Places.{Place}
use Rattle.batch_log.proofs.Places.{IsAt-start}
use Rattle.running.specs.Starts.{start_in}
use Rattle.session.proofs.Runs.{HasReported-start}
use Rattle.session.proofs.Rooms.{ready_at_start}
use Rattle.session.proofs.Told.{replied_none}
use Rattle.session.proofs.work.Work.new.Goals as goal

pub returns-clause-ready : goal.returns-clause-ready
returns-clause-ready c =
    let e = c.in_ok-engine.ensures in
    ready_at_start (record { engine = c.in_ok-engine.engine; feed = c.new-feed.result; transcript = c.new-2.result; report = c.new-3.result; replies = c.new-4.result })
    (ap (λ (q : EngineParts). q.next) e) (ap (λ (q : EngineParts). q.carried) e) (ap (λ (q : EngineParts). q.unfinished) e) c.retries.ensures.few
    (c.new-feed.ensures ∙ ap (λ k. record { retries = k; calls = []; total = 0; lines = 0; line = [] }) c.retries.ensures.same) c.new-2.ensures.rows

pub returns-clause-begun : goal.returns-clause-begun
returns-clause-begun c =
    let e = c.in_ok-engine.ensures in
    let retries : c.retries.result ≡ c.args.document.setup.retries = c.retries.ensures.same ∙ ap (λ (q : EngineParts). q.retries) e in
    record {
      ended = [];
      limit = ap (λ (place : Place). place.retries) c.new-feed.ensures ∙ retries;
      at = rw (c.new-feed.ensures, retries) (IsAt-start c.args.document.setup.procs c.args.document.setup.retries);
      reported = HasReported-start _ _ _ c.new-3.result (ap (λ (q : EngineParts). q.procs) e) (ap (λ (q : EngineParts). q.retries) e) (ap (λ (q : EngineParts). q.rows) e) (ap (λ (q : EngineParts). q.next) e) (ap (λ (q : EngineParts). q.carried) e) c.new-2.ensures.batch c.new-2.ensures.said c.new-2.ensures.form c.new-3.ensures;
      replied = replied_none (start_in c.args.document) c.new-4.result c.new-4.ensures;
    }
