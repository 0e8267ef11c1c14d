use Rattle.std.proofs.Common.{◌≡◌, ◌+◌, ◌++◌, [], ◌∷◌, append-nil, ℕ, length, ap, sym, subst, ◌∙◌, arith}
use Rattle.std.proofs.Math.Logic.{∥∥₁_map}
use Rattle.std.proofs.lemmas.List.{length-append}
use Rattle.requests.specs.ProcLists.{ProcsParts}
use Rattle.batch_log.specs.Feeds.{place_of}
use Rattle.batch_log.specs.Places.{IsAt, Place}
use Rattle.retries.specs.Standings.{call_count}
use Rattle.session.proofs.work.Work.take_call.Goals as goal

pub returns-in-Ok-clause-ready : goal.returns-in-Ok-clause-ready
returns-in-Ok-clause-ready c =
    let was = c.requires.ready in
    let call = c.in-Ok.ensures.taken.0 in
    let place = c.in-Ok.ensures.taken.2 in
    record {
      over = rw (ap (λ (p : ProcsParts). p.tables) c.procs.ensures) at c.call.ensures.tables;
      limit = ap (λ (p : Place). p.retries) place ∙ was.limit;
      few = was.few;
      idle = was.idle;
      digest_kept = was.digest_kept;
      log = ∥∥₁_map was.log (λ log. record {
        db = log.db;
        ran = log.ran;
        standing_is = log.standing_is;
        counted = one_more _ _ _ _ _ log.counted (ap (λ (p : Place). length p.calls) place ∙ length-append (place_of c.args.self.now.feed).calls (call ∷ [])) (ap (λ (p : Place). p.total) place);
      });
    }
  where
    one_more : (ran calls total calls2 total2 : ℕ) → ran + calls ≡ total → calls2 ≡ calls + 1 → total2 ≡ total + 1 → ran + calls2 ≡ total2
    one_more ran calls total calls2 total2 was e f = omega (arith, was, e, f)

pub returns-in-Err-clause-ready : goal.returns-in-Err-clause-ready
returns-in-Err-clause-ready c =
    let was = c.requires.ready in
    let place = c.in-Err.ensures.err in
    record {
      over = rw (ap (λ (p : ProcsParts). p.tables) c.procs.ensures) at c.call.ensures.tables;
      limit = ap (λ (p : Place). p.retries) place ∙ was.limit;
      few = was.few;
      idle = was.idle;
      digest_kept = was.digest_kept;
      log = ∥∥₁_map was.log (λ log. record {
        db = log.db;
        ran = log.ran;
        standing_is = log.standing_is;
        counted = subst (λ (p : Place). call_count log.ran + length p.calls ≡ p.total) (sym place) log.counted;
      });
    }

pub returns-in-Ok-clause-taken : goal.returns-in-Ok-clause-taken
returns-in-Ok-clause-taken c = λ start fed drained passed h.
    let e : c.procs.result.now ≡ start.procs = c.procs.ensures ∙ h.reported.procs_are in
    record {
      ended = h.ended;
      limit = ap (λ (p : Place). p.retries) c.in-Ok.ensures.taken.2 ∙ h.limit;
      at = (rw e at c.in-Ok.ensures.place) h.ended fed h.at;
      reported = h.reported;
      replied = h.replied;
    }

pub returns-in-Err-clause-err : goal.returns-in-Err-clause-err
returns-in-Err-clause-err c = λ start fed drained passed h. record {
  ended = h.ended;
  limit = ap (λ (p : Place). p.retries) c.in-Err.ensures.err ∙ h.limit;
  at = subst (λ (p : Place). IsAt start.procs p h.ended (fed ++ [])) (sym c.in-Err.ensures.err) (rw (append-nil fed) h.at);
  reported = h.reported;
  replied = h.replied;
}
