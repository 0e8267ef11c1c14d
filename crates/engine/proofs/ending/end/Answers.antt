use Rattle.std.proofs.Common.{◌≡◌, ◌≤◌, ℕ, arith, List, length, map, sym, ap, subst, ◌∙◌, refl}
use Rattle.meaning.specs.Entries.{EntryShape, Reply}
use Rattle.meaning.specs.Outcomes.{as_reply}
use Rattle.meaning.specs.Serial.{serial_end, serial_replies}
use Rattle.sequencer.specs.Attempts.{attempts_in, left_of, AreCarriedOver}
use Rattle.sequencer.proofs.TriedAgain.{left_over}
use Rattle.interp.specs.Entries.{entry_shape}
use Rattle.engine.specs.Replies.{reply_of, sent_of, settled}
use Rattle.engine.proofs.Carried.{left_no_more}
use Rattle.engine.proofs.Ends.{outcomes_each, settled_sent, settled_replies, settled_count}
use Rattle.engine.proofs.ending.end.Goals as goal

pub fill-replies-requires-clause-each : goal.fill-replies-requires-clause-each
fill-replies-requires-clause-each c =
    outcomes_each (attempts_in c.args.begun.attempts) (map entry_shape c.args.begun.scheduler.work.entries) c.args.begun.scheduler.work.start c.into_finished-rows.result.outcomes
    c.requires.begun.schedule.entries c.into_finished-rows.ensures.outcomes

pub returns-clause-ended : goal.returns-clause-ended
returns-clause-ended c =
    let w = c.args.begun.scheduler.work in
    let attempts = attempts_in c.args.begun.attempts in
    let outcomes = c.into_finished-rows.result.outcomes in
    let entries = c.requires.begun.schedule.entries in
    let each = outcomes_each attempts (map entry_shape w.entries) w.start outcomes entries c.into_finished-rows.ensures.outcomes in
    let filled : c.fill-replies.result.0.items ≡ settled c.args.first attempts outcomes = c.fill-replies.ensures.replies in
    let replied : map as_reply outcomes ≡ serial_replies (map entry_shape w.entries) w.start = c.into_finished-rows.ensures.outcomes in
    let left = c.fill-replies.ensures.left ∙ ap (λ (rs : List Reply). left_of c.args.retries c.args.first attempts rs) (replied ∙ ap (λ (es : List EntryShape). serial_replies es w.start) entries) in
    record {
      free = record { over = c.into_finished-rows.ensures.tables; unlent = c.into_finished-rows.ensures.unlent };
      rows = c.into_finished-rows.ensures.rows ∙ ap (λ (es : List EntryShape). serial_end es w.start) entries;
      numbered = refl;
      sent = ap (map sent_of) filled ∙ settled_sent c.args.first attempts outcomes each;
      replies = ap (map reply_of) filled ∙ settled_replies c.args.first attempts outcomes each
          ∙ replied ∙ ap (λ (es : List EntryShape). serial_replies es w.start) entries;
      count = ap length filled ∙ settled_count c.args.first attempts outcomes each;
      few = c.requires.begun.from.few;
      left = left;
      left_few = fewer (ap length c.fill-replies.ensures.left) (left_no_more c.args.retries c.args.first attempts (map as_reply outcomes)) (ap length filled ∙ settled_count c.args.first attempts outcomes each);
      left_over = subst (AreCarriedOver w.tables) (sym c.fill-replies.ensures.left) (left_over w.tables c.args.retries c.args.first attempts (map as_reply outcomes) c.requires.begun.from.over);
    }
  where
    fewer : {l m n k : ℕ} → l ≡ m → m ≤ n → k ≡ n → l ≤ k
    fewer e h f = omega (arith, e, h, f)
