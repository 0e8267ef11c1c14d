-- Batches that were answered one after another.
use Rattle.std.proofs.Common.{◌≡◌, ℕ, List, [], ◌∷◌, ◌++◌, map, Option, Some, None, is_some, false, refl, sym, ap, ◌∙◌, append_assoc}
use Rattle.std.proofs.lemmas.List.{append-nil}
use Rattle.requests.specs.ProcLists.{ProcsParts}
use Rattle.sequencer.specs.declared.attempts.Carried.{Carried}
use Rattle.retries.specs.Standings.{Standing}
use Rattle.engine.specs.Engines.{EngineParts, Unfinished, is_busy}
use Rattle.engine.specs.Executions.{KeepsSetting}
use Rattle.example_serving.specs.Calls.{CallItem}
use Rattle.example_serving.specs.declared.told.Told.{Told}
use Rattle.example_serving.specs.Serving.{said_in, batch_said, batch_end, all_said, all_end}
use Rattle.example_serving.specs.Services.{AnswersBatches, calls_of_batches, standing_after, carried_beside}
use Rattle.running.specs.Standings.{standing_of}

pub calls_append : (ls bs : List (List CallItem)) → calls_of_batches (ls ++ bs) ≡ calls_of_batches ls ++ calls_of_batches bs
calls_append [] bs = refl
calls_append (a ∷ ls) bs = ap (λ l. a ++ l) (calls_append ls bs) ∙ sym (append_assoc a (calls_of_batches ls) (calls_of_batches bs))

end_append : (retries : ℕ) (procs : ProcsParts) (s : Standing) (ls bs : List (List CallItem)) → all_end retries procs s (ls ++ bs) ≡ all_end retries procs (all_end retries procs s ls) bs
end_append retries procs s [] bs = refl
end_append retries procs s (a ∷ ls) bs = end_append retries procs (batch_end retries procs s a) ls bs

said_append : (retries : ℕ) (procs : ProcsParts) (s : Standing) (ls bs : List (List CallItem))
    → all_said retries procs s (ls ++ bs) ≡ all_said retries procs s ls ++ all_said retries procs (all_end retries procs s ls) bs
said_append retries procs s [] bs = refl
said_append retries procs s (a ∷ ls) bs =
    let t = batch_end retries procs s a in
    ap (λ l. batch_said procs s a ++ l) (said_append retries procs t ls bs)
    ∙ sym (append_assoc (batch_said procs s a) (all_said retries procs t ls) (all_said retries procs (all_end retries procs t ls) bs))

-- where no batch is unfinished, what is carried is all
pub beside_none : (held : Option Unfinished) (carried : List Carried) → is_some held ≡ false → carried_beside held carried ≡ carried
beside_none None carried idle = refl
beside_none (Some unfinished) carried idle = absurd (cc)

-- nothing was answered
pub none_answered : (old new : EngineParts) (before after : List Told) → KeepsSetting old new → new.next ≡ old.next → new.rows ≡ old.rows → new.carried ≡ carried_beside new.unfinished old.carried
    → map said_in after ≡ map said_in before → AnswersBatches [] old new before after
none_answered old new before after same next rows carried told = record { same = same; next = next; rows = rows; carried = carried; told = told ∙ sym (append-nil (map said_in before)) }

-- ... and nothing has changed
pub same_answered : (engine : EngineParts) (before after : List Told) → is_busy engine ≡ false → map said_in after ≡ map said_in before → AnswersBatches [] engine engine before after
same_answered engine before after idle told =
    none_answered engine engine before after (record { procs = refl; settings = refl; retries = refl }) refl refl (sym (beside_none engine.unfinished engine.carried idle)) told

-- one batch
pub one_answered : (b : List CallItem) (old new : EngineParts) (before after : List Told) → KeepsSetting old new → new.next ≡ (batch_end old.retries old.procs (standing_of old) b).next
    → new.rows ≡ (batch_end old.retries old.procs (standing_of old) b).rows → new.carried ≡ (batch_end old.retries old.procs (standing_of old) b).carried → is_busy new ≡ false
    → map said_in after ≡ map said_in before ++ batch_said old.procs (standing_of old) b → AnswersBatches (b ∷ []) old new before after
one_answered b old new before after same next rows carried idle told = record {
  same = same;
  next = next;
  rows = rows;
  carried = carried ∙ sym (beside_none new.unfinished (batch_end old.retries old.procs (standing_of old) b).carried idle);
  told = told ∙ ap (λ l. map said_in before ++ l) (sym (append-nil (batch_said old.procs (standing_of old) b)));
}

-- where the log is after batches that were all answered
pub stands_after : (ls : List (List CallItem)) (old mid : EngineParts) (before between : List Told) → AnswersBatches ls old mid before between → is_busy mid ≡ false → standing_of mid ≡ standing_after old ls
stands_after ls old mid before between h idle =
    let carried : mid.carried ≡ (standing_after old ls).carried = h.carried ∙ beside_none mid.unfinished (standing_after old ls).carried idle in
    λ i. record { next = h.next i; rows = h.rows i; carried = carried i }

-- ... and after further ones
pub after_both : (ls bs : List (List CallItem)) (old mid : EngineParts) (before between : List Told) → AnswersBatches ls old mid before between → is_busy mid ≡ false → standing_after mid bs ≡ standing_after old (ls ++ bs)
after_both ls bs old mid before between h idle =
    let stands = stands_after ls old mid before between h idle in
    (λ i. all_end (h.same.retries i) (h.same.procs i) (stands i) bs) ∙ sym (end_append old.retries old.procs (standing_of old) ls bs)

-- batches, and then further ones
pub then_answered : (ls bs : List (List CallItem)) (old mid new : EngineParts) (before between after : List Told) → AnswersBatches ls old mid before between → is_busy mid ≡ false → AnswersBatches bs mid new between after
    → AnswersBatches (ls ++ bs) old new before after
then_answered ls bs old mid new before between after h idle k =
    let stands = stands_after ls old mid before between h idle in
    let after_all = after_both ls bs old mid before between h idle in
    let first = all_said old.retries old.procs (standing_of old) ls in
    record {
      same = record { procs = k.same.procs ∙ h.same.procs; settings = k.same.settings ∙ h.same.settings; retries = k.same.retries ∙ h.same.retries };
      next = k.next ∙ ap (λ (s : Standing). s.next) after_all;
      rows = k.rows ∙ ap (λ (s : Standing). s.rows) after_all;
      carried = k.carried ∙ ap (λ (s : Standing). carried_beside new.unfinished s.carried) after_all;
      told = k.told ∙ ap (λ l. l ++ all_said mid.retries mid.procs (standing_of mid) bs) h.told
          ∙ append_assoc (map said_in before) first (all_said mid.retries mid.procs (standing_of mid) bs)
          ∙ ap (λ l. map said_in before ++ (first ++ l)) (λ i. all_said (h.same.retries i) (h.same.procs i) (stands i) bs)
          ∙ ap (λ l. map said_in before ++ l) (sym (said_append old.retries old.procs (standing_of old) ls bs));
    }
