-- The batches without calls that close a log, one by one.
use Rattle.std.proofs.Common.{◌≡◌, ℕ, ◌+◌, List, [], ◌∷◌, ◌++◌, append_assoc, append-nil, length, sym, ◌∙◌, ap, subst, Some}
use Rattle.devices.specs.Devices.{AppendsFront}
use Rattle.requests.specs.Requests.{Call}
use Rattle.batch_log.specs.declared.fault.LogFault.{LogFault}
use Rattle.batch_log.specs.declared.fault.LogFaultKind.TheVariants.{Memory}
use Rattle.batch_log.specs.Places.{IsWhole}
use Rattle.retries.specs.Standings.{closing_within, Standing}
use Rattle.engine.specs.Executions.{KeepsSetting}
use Rattle.running.specs.Batches.{due_text, IsReported}
use Rattle.running.specs.Hashers.{form_of}
use Rattle.running.specs.Reported.{with_closing}
use Rattle.running.specs.Reports.{report_of}
use Rattle.running.specs.Standings.{standing_after, standing_of}
use Rattle.running.specs.Starts.{Start}
use Rattle.running.specs.Stopped.{texts_of}
use Rattle.running.proofs.ClosingBatches.{closing_further, closing_none, next_closing}
use Rattle.running.proofs.Reported.{texts_further}
use Rattle.session.specs.declared.work.Work.{Work}
use Rattle.session.specs.Ends.{IsRunInto}
use Rattle.session.specs.Replies.{all_replies, batch_replies, kept_in, kept_with, replies_after, NumberedReply}
use Rattle.session.specs.Reports.{waiting_in}
use Rattle.session.specs.Works.{HasClosed, HasReplied, HasReported}
use Rattle.session.proofs.Growing.{begins_onward}
use Rattle.session.proofs.Runs.{front-next, reported_next, stopped_in_batch}
use Rattle.session.proofs.Told.{replied_next, replied_still, replies_further, replies-whole}
use Rattle.session.proofs.Turns.{closing-begins}

-- ---- batch by batch

pub closed_none : (start : Start) (drained : List ℕ) (passed : List NumberedReply) (ran : List (List Call)) (most : ℕ) (work : Work) → most ≡ start.retries →
    HasReported start ran drained work.engine work.transcript work.report → HasReplied start ran passed work.replies → HasClosed start drained passed ran most work
closed_none start drained passed ran most work e reported replied = record {
  closers = [];
  reported = rw (append-nil ran) reported;
  replied = rw (append-nil ran) replied;
  first = ap (λ n. closing_within start.retries n (standing_after start ran)) (sym e) ∙ ap (λ (batches : List (List Call)). closing_within start.retries most (standing_after start batches)) (sym (append-nil ran));
}

-- after the first of the batches that close a log, something is carried, so that one without calls is next
module _ (start : Start) (drained : List ℕ) (passed : List NumberedReply) (ran : List (List Call)) (most left n : ℕ) (work : Work)
    (h : HasClosed start drained passed ran most work) (e : n ≡ length work.engine.carried) (some : ¬ (n ≡ 0)) (more : most ≡ left + 1) where
  abbrev before : List (List Call)
  before = ran ++ h.closers

  abbrev later : List (List Call)
  later = closing_within start.retries left (standing_after start (before ++ [] ∷ []))

  carries : ¬ (length (standing_after start before).carried ≡ 0)
  carries none = some (e ∙ ap (λ (s : Standing). length s.carried) h.reported.standing_is ∙ none)

  all : before ++ [] ∷ [] ≡ ran ++ (h.closers ++ [] ∷ [])
  all = append_assoc ran h.closers ([] ∷ [])

  next : closing_within start.retries most (standing_after start before) ≡ [] ∷ later
  next = next_closing start ran h.closers most left carries more

  -- all batches of the log are these, the next one, and those that are left
  whole_is : with_closing start ran ≡ (before ++ [] ∷ []) ++ later
  whole_is =
      ap (λ (batches : List (List Call)). ran ++ batches) (h.first ∙ ap (λ (rest : List (List Call)). h.closers ++ rest) next)
      ∙ sym (append_assoc ran h.closers ([] ∷ later)) ∙ sym (append_assoc before ([] ∷ []) later)

  -- it was run and reported
  pub closed_next : (new : Work) → KeepsSetting work.engine new.engine → form_of new.transcript ≡ form_of work.transcript →
      IsReported work.engine new.engine work.transcript new.transcript (Some (waiting_in work.report)) (Some (waiting_in new.report)) [] →
      kept_in new.replies ≡ kept_with (kept_in work.replies) (batch_replies (standing_of work.engine) []) → HasClosed start drained passed ran left new
  closed_next new same form reported told = record {
    closers = h.closers ++ [] ∷ [];
    reported = subst (λ (batches : List (List Call)). HasReported start batches drained new.engine new.transcript new.report) all
        (reported_next start before [] drained work.engine new.engine work.transcript new.transcript work.report new.report h.reported same form reported);
    replied = subst (λ (batches : List (List Call)). HasReplied start batches passed new.replies) all
        (replied_next start before [] passed (standing_of work.engine) work.replies new.replies h.reported.standing_is h.replied told);
    first = closing_further start ran h.closers most left carries more h.first;
  }

  -- or a fault stopped it
  pub closed_cut : (log : List ℕ) (new : Work) (fault : LogFault) → IsWhole start.procs start.retries [] ran log → fault.kind ≡ Memory →
      AppendsFront (Some (waiting_in work.report)) (Some (waiting_in new.report)) (due_text work.engine work.transcript []) → kept_in new.replies ≡ kept_in work.replies →
      IsRunInto start log (drained ++ waiting_in new.report) (all_replies passed (kept_in new.replies)) fault
  closed_cut log new fault w kind front same =
      let texts = texts_further start (before ++ [] ∷ []) later in
      let replies = replies_further start before ([] ∷ later) in
      let whole : with_closing start ran ≡ before ++ [] ∷ later = whole_is ∙ append_assoc before ([] ∷ []) later in
      stopped_in_batch start log (drained ++ waiting_in new.report) (all_replies passed (kept_in new.replies)) before (before ++ [] ∷ []) fault kind
      (front-next start before [] drained work.engine work.transcript work.report new.report h.reported front)
      (begins_onward (texts_of start (before ++ [] ∷ [])) (texts_of start (with_closing start ran)) (report_of start log) (texts.0, ap (texts_of start) whole_is ∙ texts.1) (closing-begins start log ran w))
      (replied_still start before passed work.replies new.replies h.replied same)
      (replies.0, sym (replies-whole start log ran w) ∙ ap (replies_after start) whole ∙ replies.1)

-- ---- all of them

closers_are : (start : Start) (drained : List ℕ) (passed : List NumberedReply) (ran : List (List Call)) (most : ℕ) (work : Work) (h : HasClosed start drained passed ran most work) →
    closing_within start.retries most (standing_after start (ran ++ h.closers)) ≡ [] → ran ++ h.closers ≡ with_closing start ran
closers_are start drained passed ran most work h none =
    ap (λ (batches : List (List Call)). ran ++ batches) (sym (h.first ∙ ap (λ (rest : List (List Call)). h.closers ++ rest) none ∙ append-nil h.closers))

-- nothing is carried any more, or no batch may be to come
pub none_left : (start : Start) (drained : List ℕ) (passed : List NumberedReply) (ran : List (List Call)) (most n : ℕ) (work : Work) (h : HasClosed start drained passed ran most work) →
    n ≡ length work.engine.carried → n ≡ 0 → ran ++ h.closers ≡ with_closing start ran
none_left start drained passed ran most n work h e none =
    closers_are start drained passed ran most work h
    (closing_none start.retries most (standing_after start (ran ++ h.closers)) (sym (e ∙ ap (λ (s : Standing). length s.carried) h.reported.standing_is) ∙ none))

pub none_may_come : (start : Start) (drained : List ℕ) (passed : List NumberedReply) (ran : List (List Call)) (most : ℕ) (work : Work) (h : HasClosed start drained passed ran most work) →
    most ≡ 0 → ran ++ h.closers ≡ with_closing start ran
none_may_come start drained passed ran most work h none =
    closers_are start drained passed ran most work h (ap (λ n. closing_within start.retries n (standing_after start (ran ++ h.closers))) none)
