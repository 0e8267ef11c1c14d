-- The source of a reader, before and after a run.
use Rattle.std.proofs.Common.{◌≡◌, ℕ, List, Bool, true, false, ◌||◌, Option, sym, ◌∙◌, ap, ap₂}
use Rattle.std.specs.Borrow.{GName}
use Rattle.devices.specs.LineReader.{left_for, Origin}
use Rattle.batch_log.specs.declared.reader.LogReader.{LogReader}
use Rattle.batch_log.specs.Reader.{failed_in, has_ended, left_in, origin_of, source_of, unread}
use Rattle.running.specs.Runs.{device_with}

module _ {S : Type 0} (left : S → Option (List ℕ)) (failed : S → Bool) (feed : Bool) (old given : S) (reader spent : LogReader S) (name : GName)
    (same : origin_of reader ≡ record { name = name; is_feed = feed }) (source : source_of reader ≡ old) (unread_is : unread left reader ≡ left_for feed (left old))
    (goes_on : has_ended reader ≡ false) (still : origin_of spent ≡ origin_of reader) (gives : given ≡ source_of spent) where
  works : failed_in failed reader ≡ failed old
  works = ap₂ (λ e f. e || f) goes_on (ap failed source)

  -- before the run
  pub first : device_with (unread left reader) (failed_in failed reader) ≡ device_with (left_for feed (left old)) (failed old)
  first i = device_with (unread_is i) (works i)

  kind : spent.lines.is_feed ≡ feed
  kind = ap (λ (o : Origin). o.is_feed) (still ∙ same)

  pub rest : left_in left spent ≡ left_for feed (left given)
  rest = ap₂ left_for kind (ap left (sym gives))

  -- and after it
  pub last : device_with (left_in left spent) (failed_in failed spent) ≡ device_with (left_for feed (left given)) (has_ended spent || failed given)
  last = ap₂ device_with rest (ap (λ (s : S). has_ended spent || failed s) (sym gives))

  -- only a feed ends as a feed
  pub is_feed : has_ended spent ≡ true → feed ≡ true
  is_feed ended = sym kind ∙ spent.lines.feed ended
