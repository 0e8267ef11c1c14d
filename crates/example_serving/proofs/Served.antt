-- What came of calls that were drawn.
use Rattle.std.proofs.Common.{◌≡◌, List, [], ◌∷◌, ◌++◌, Option, Some, None, Ok, Err, IfSome, IsSomeAnd, is_some, false, refl, sym, ap, ◌∙◌, subst, append_assoc}
use Rattle.std.proofs.lemmas.List.{append-nil}
use Rattle.requests.specs.ProcLists.{ProcsParts}
use Rattle.retries.specs.Standings.{Standing}
use Rattle.engine.specs.Engines.{EngineParts, Unfinished, is_busy}
use Rattle.example_serving.specs.Calls.{CallItem}
use Rattle.example_serving.specs.declared.told.Told.{Told}
use Rattle.example_serving.specs.declared.told.ServeFault.{ServeFault}
use Rattle.example_serving.specs.declared.told.ServeFault.TheVariants.{LogFull, Spawn, NoMemory}
use Rattle.example_serving.specs.Services.{Served, AnswersBatches, EndsSo, IsOfFirst, IsTooLong, AnswersFirstPart, calls_of_batches}
use Rattle.running.specs.Standings.{standing_of}
use Rattle.example_serving.specs.Steps.{AnswersAll, ServesOn}
use Rattle.example_serving.proofs.Answered.{calls_append, same_answered, after_both, then_answered}

-- an engine that is not busy holds nothing
pub holds_none : (procs : ProcsParts) (s : Standing) (calls : List CallItem) (held : Option Unfinished) → is_some held ≡ false → IfSome held (IsOfFirst procs s calls)
holds_none procs s calls None idle = tt
holds_none procs s calls (Some u) idle = absurd (cc)

-- what comes first in a list comes first in a longer one
of_first_more : (procs : ProcsParts) (s : Standing) (calls more : List CallItem) (u : Unfinished) → IsOfFirst procs s calls u → IsOfFirst procs s (calls ++ more) u
of_first_more procs s calls more u h = record {
  first = h.first;
  others = h.others ++ more;
  begins = ap (λ l. l ++ more) h.begins ∙ append_assoc h.first h.others more;
  attempts = h.attempts;
}

if_held_more : (procs : ProcsParts) (s : Standing) (calls more : List CallItem) (held : Option Unfinished) → IfSome held (IsOfFirst procs s calls) → IfSome held (IsOfFirst procs s (calls ++ more))
if_held_more procs s calls more None h = tt
if_held_more procs s calls more (Some u) h = of_first_more procs s calls more u h

held_more : (procs : ProcsParts) (s : Standing) (calls more : List CallItem) (held : Option Unfinished) → IsSomeAnd held (IsOfFirst procs s calls) → IsSomeAnd held (IsOfFirst procs s (calls ++ more))
held_more procs s calls more None h = h
held_more procs s calls more (Some u) h = of_first_more procs s calls more u h

pub held_so : (procs : ProcsParts) (s : Standing) (calls : List CallItem) (held : Option Unfinished) → IsSomeAnd held (IsOfFirst procs s calls) → IfSome held (IsOfFirst procs s calls)
held_so procs s calls None h = tt
held_so procs s calls (Some u) h = h

too_long_more : (procs : ProcsParts) (s : Standing) (calls more : List CallItem) → IsTooLong procs s calls → IsTooLong procs s (calls ++ more)
too_long_more procs s calls more h = record {
  first = h.first;
  others = h.others ++ more;
  begins = ap (λ l. l ++ more) h.begins ∙ append_assoc h.first h.others more;
  long = h.long;
}

-- a fault is one where further calls were dropped, too
ends_more : (fault : ServeFault) (s : Standing) (engine : EngineParts) (left more : List CallItem) → EndsSo (Err fault) s engine left → EndsSo (Err fault) s engine (left ++ more)
ends_more LogFull s engine left more h = (h.0, too_long_more engine.procs s left more h.1)
ends_more Spawn s engine left more h = held_more engine.procs s left more engine.unfinished h
ends_more NoMemory s engine left more h = if_held_more engine.procs s left more engine.unfinished h

-- and so it is where memory was refused besides
ends_refused : (ended : Served) (s : Standing) (engine : EngineParts) (left : List CallItem) → EndsSo ended s engine left → EndsSo (Err NoMemory) s engine left
ends_refused (Ok done) s engine left h = holds_none engine.procs s left engine.unfinished h.1
ends_refused (Err LogFull) s engine left h = holds_none engine.procs s left engine.unfinished h.0
ends_refused (Err Spawn) s engine left h = held_so engine.procs s left engine.unfinished h
ends_refused (Err NoMemory) s engine left h = h

-- calls of which none was answered
pub none_served : (drawn : List CallItem) (ended : Served) (old new : EngineParts) (before after : List Told) → AnswersBatches [] old new before after → EndsSo ended (standing_of old) new drawn
    → AnswersFirstPart drawn ended old new before after
none_served drawn ended old new before after answers ends = record { batches = []; left = drawn; cut = refl; answers = answers; ends = ends }

-- no calls
pub nothing_served : (engine : EngineParts) (told : List Told) → is_busy engine ≡ false → AnswersAll [] engine engine told told
nothing_served engine told idle = record { batches = []; cut = refl; answers = same_answered engine told told idle refl; idle = idle }

-- calls that were answered as one batch
pub one_served : (b : List CallItem) (old new : EngineParts) (before after : List Told) → AnswersBatches (b ∷ []) old new before after → is_busy new ≡ false → AnswersAll b old new before after
one_served b old new before after answers idle = record { batches = b ∷ []; cut = sym (append-nil b); answers = answers; idle = idle }

-- calls that were all answered, and then further calls that were
pub then_all : (d e : List CallItem) (old mid new : EngineParts) (before between after : List Told)
    → AnswersAll d old mid before between → AnswersAll e mid new between after → AnswersAll (d ++ e) old new before after
then_all d e old mid new before between after h k = record {
  batches = h.batches ++ k.batches;
  cut = ap (λ l. l ++ e) h.cut ∙ ap (λ l. calls_of_batches h.batches ++ l) k.cut ∙ sym (calls_append h.batches k.batches);
  answers = then_answered h.batches k.batches old mid new before between after h.answers h.idle k.answers;
  idle = k.idle;
}

-- ... and then further calls
pub then_served : (d e : List CallItem) (ended : Served) (old mid new : EngineParts) (before between after : List Told)
    → AnswersAll d old mid before between → AnswersFirstPart e ended mid new between after → AnswersFirstPart (d ++ e) ended old new before after
then_served d e ended old mid new before between after h k = record {
  batches = h.batches ++ k.batches;
  left = k.left;
  cut = ap (λ l. l ++ e) h.cut ∙ ap (λ l. calls_of_batches h.batches ++ l) k.cut ∙ sym (append_assoc (calls_of_batches h.batches) (calls_of_batches k.batches) k.left)
      ∙ ap (λ l. l ++ k.left) (sym (calls_append h.batches k.batches));
  answers = then_answered h.batches k.batches old mid new before between after h.answers h.idle k.answers;
  ends = subst (λ (s : Standing). EndsSo ended s new k.left) (after_both h.batches k.batches old mid before between h.answers h.idle) k.ends;
}

pub then_on : (d e : List CallItem) (ended : Served) (old mid new : EngineParts) (before between after : List Told)
    → AnswersAll d old mid before between → ServesOn e ended mid new between after → ServesOn (d ++ e) ended old new before after
then_on d e (Ok done) old mid new before between after h k = then_all d e old mid new before between after h k
then_on d e (Err fault) old mid new before between after h k = then_served d e (Err fault) old mid new before between after h k

-- calls that were all answered, and nothing is carried
pub all_served : (d : List CallItem) (old new : EngineParts) (before after : List Told) → AnswersAll d old new before after → new.carried ≡ [] → AnswersFirstPart d (Ok tt) old new before after
all_served d old new before after h none = record {
  batches = h.batches;
  left = [];
  cut = h.cut ∙ sym (append-nil (calls_of_batches h.batches));
  answers = h.answers;
  ends = (refl, h.idle, none);
}

-- and then calls that were dropped
pub more_dropped : (d more : List CallItem) (fault : ServeFault) (old new : EngineParts) (before after : List Told) → AnswersFirstPart d (Err fault) old new before after → AnswersFirstPart (d ++ more) (Err fault) old new before after
more_dropped d more fault old new before after h = record {
  batches = h.batches;
  left = h.left ++ more;
  cut = ap (λ l. l ++ more) h.cut ∙ append_assoc (calls_of_batches h.batches) h.left more;
  answers = h.answers;
  ends = ends_more fault _ new h.left more h.ends;
}

-- and where memory was refused besides
pub refused_besides : (d : List CallItem) (ended : Served) (old new : EngineParts) (before after : List Told) → AnswersFirstPart d ended old new before after → AnswersFirstPart d (Err NoMemory) old new before after
refused_besides d ended old new before after h = record { batches = h.batches; left = h.left; cut = h.cut; answers = h.answers; ends = ends_refused ended _ new h.left h.ends }

pub refused_then : (d : List CallItem) (ended : Served) (old new : EngineParts) (before after : List Told) → ServesOn d ended old new before after → AnswersFirstPart d (Err NoMemory) old new before after
refused_then d (Ok done) old new before after h = record {
  batches = h.batches;
  left = [];
  cut = h.cut ∙ sym (append-nil (calls_of_batches h.batches));
  answers = h.answers;
  ends = holds_none new.procs _ [] new.unfinished h.idle;
}
refused_then d (Err fault) old new before after h = refused_besides d (Err fault) old new before after h
