-- What an owner has drawn and answered.
use Rattle.std.proofs.Common.{◌≡◌, ◌<◌, List, [], ◌∷◌, ◌++◌, length, map, Vec, Global, Result, Ok, Err, OnOk, is_err, false, refl, sym, ap, ◌∙◌, subst, append_assoc, inr, ⊎_elim, arith}
use Rattle.std.proofs.lemmas.List.{append-nil}
use Rattle.intake.specs.declared.intake.Intake.{Intake}
use Rattle.intake.specs.declared.passes.DrawPass.{DrawPass}
use Rattle.intake.specs.Histories.{IsNumbered}
use Rattle.intake.specs.Rule.{IsWhole}
use Rattle.intake.specs.Passes.{drawn_by}
use Rattle.intake.specs.Draining.{all_items}
use Rattle.engine.specs.Engines.{EngineParts, is_busy}
use Rattle.example_serving.specs.declared.call.ClientCall.{ClientCall}
use Rattle.example_serving.specs.Calls.{CallItem}
use Rattle.example_serving.specs.Logs.{ClientLog}
use Rattle.example_serving.specs.declared.client.Client.{Client}
use Rattle.example_serving.specs.Clients.{AreAtTheirLogs, HaveSubmitted}
use Rattle.example_serving.specs.declared.told.Told.{Told}
use Rattle.example_serving.specs.declared.told.ServeFault.{ServeFault}
use Rattle.example_serving.specs.declared.told.ServeFault.TheVariants.{NoMemory}
use Rattle.example_serving.specs.declared.owner.Owner.{Owner}
use Rattle.example_serving.specs.Serving.{said_in}
use Rattle.example_serving.specs.Services.{Served, AnswersFirstPart, IsService, calls_of_batches}
use Rattle.example_serving.specs.Steps.{DrawsOn, HasServed, AnswersAll, ServesOn, ServesRest, IsServedToTheEnd, histories_at, items_in}
use Rattle.example_serving.proofs.Answered.{same_answered}
use Rattle.example_serving.proofs.Submitted.{all_calls, all_of_logs, all_owned, each_numbered, each_owned, of_logs, of_spare}
use Rattle.example_serving.proofs.Served.{holds_none, none_served, nothing_served, then_on, then_served, more_dropped, refused_besides}

pub none_had : (owner : Owner) → is_busy owner.engine.core ≡ false → HasServed owner owner (Ok tt)
none_had owner idle = record { drawn = []; grows = sym (append-nil (drawn_by owner.pass)); serves = nothing_served owner.engine.core owner.told.items idle }

pub then_had : (old mid new : Owner) (done : Unit {0}) (ended : Served) → HasServed old mid (Ok done) → HasServed mid new ended → HasServed old new ended
then_had old mid new done ended h k = record {
  drawn = h.drawn ++ k.drawn;
  grows = k.grows ∙ ap (λ l. l ++ k.drawn) h.grows ∙ append_assoc (drawn_by old.pass) h.drawn k.drawn;
  serves = then_on h.drawn k.drawn ended old.engine.core mid.engine.core new.engine.core old.told.items mid.told.items new.told.items h.serves k.serves;
}

-- and then calls were turned away
pub then_away : (old mid : Owner) (pass : DrawPass ClientCall) (fault : ServeFault) → HasServed old mid (Err fault) → DrawsOn mid.pass pass → HasServed old (record mid { pass = pass }) (Err fault)
then_away old mid pass fault h k = record {
  drawn = h.drawn ++ k.0;
  grows = k.1 ∙ ap (λ l. l ++ k.0) h.grows ∙ append_assoc (drawn_by old.pass) h.drawn k.0;
  serves = more_dropped h.drawn k.0 fault old.engine.core mid.engine.core old.told.items mid.told.items h.serves;
}

-- the batch that was refused, after calls that were all answered
pub left_stopped : (whole first b rest : List CallItem) (fault : ServeFault) (ended : Served) (old mid new : EngineParts) (before between after : List Told) → whole ≡ first ++ (b ++ rest) → ended ≡ Err fault
    → AnswersAll first old mid before between → AnswersFirstPart b (Err fault) mid new between after → ServesOn whole ended old new before after
left_stopped whole first b rest fault ended old mid new before between after list is h k =
    subst (λ (r : Served). ServesOn whole r old new before after) (sym is)
    (subst (λ (l : List CallItem). AnswersFirstPart l (Err fault) old new before after) (append_assoc first b rest ∙ sym list)
    (more_dropped (first ++ b) rest fault old new before after (then_served first b (Err fault) old mid new before between after h k)))

-- a batch without calls
pub none_so : (b : List CallItem) (old new : EngineParts) (before after : List Told) → b ≡ [] → AnswersAll b old new before after → AnswersAll [] old new before after
none_so b old new before after none h = subst (λ (l : List CallItem). AnswersAll l old new before after) none h

-- ... that was refused
pub stopped_so : (b : List CallItem) (fault : ServeFault) (ended : Served) (old mid new : EngineParts) (before between after : List Told) → b ≡ [] → ended ≡ Err fault
    → AnswersAll [] old mid before between → AnswersFirstPart b (Err fault) mid new between after → AnswersFirstPart [] ended old new before after
stopped_so b fault ended old mid new before between after none is h k =
    subst (λ (r : Served). AnswersFirstPart [] r old new before after) (sym is)
    (then_served [] [] (Err fault) old mid new before between after h (subst (λ (l : List CallItem). AnswersFirstPart l (Err fault) mid new between after) none k))

pub ok_so : {A E : Type 0} (P : Type 0) (r : Result A E) → is_err r ≡ false → OnOk r P → P
ok_so P (Ok a) fine h = h
ok_so P (Err e) fine h = absurd (cc)

calls_are : (ls : List (Vec CallItem Global)) → all_items (λ (b : Vec CallItem Global). b.items) ls ≡ calls_of_batches (items_in ls)
calls_are [] = refl
calls_are (b ∷ bs) = ap (λ l. b.items ++ l) (calls_are bs)

-- what was drawn in the end stands in a list
pub drawn_so : (into more : List (Vec CallItem Global)) (new old : List CallItem) → into ≡ more → new ≡ old ++ all_items (λ (b : Vec CallItem Global). b.items) more → new ≡ old ++ calls_of_batches (items_in into)
drawn_so into more new old same is = is ∙ ap (λ l. old ++ l) (calls_are more ∙ ap (λ l. calls_of_batches (items_in l)) (sym same))

pub ended_so : (old : Owner) (served : Served) (clients : List Client) (new : EngineParts) (told : List Told) (ended : Served) (drawn now : List CallItem) → now ≡ drawn_by old.pass ++ drawn → IsNumbered now
    → IsWhole now (histories_at clients) → ServesRest served drawn ended old.engine.core new old.told.items told → IsServedToTheEnd old served clients new told ended
ended_so old served clients new told ended drawn now list numbered all on = record {
  drawn = drawn;
  numbered = subst IsNumbered list numbered;
  all = subst (λ l. IsWhole l (histories_at clients)) list all;
  goes_on = on;
}

-- what was left is not answered for want of memory
pub left_refused : (served : Served) (drawn : List CallItem) (engine : EngineParts) (told : List Told) → OnOk served (is_busy engine ≡ false) → ServesRest served drawn (Err NoMemory) engine engine told told
left_refused (Ok done) drawn engine told idle =
    none_served drawn (Err NoMemory) engine engine told told (same_answered engine told told idle refl) (holds_none engine.procs _ drawn engine.unfinished idle)
left_refused (Err fault) drawn engine told idle = (refl, refl, inr refl)

goes_on_so : (served : Served) (d e : List CallItem) (ended : Served) (old mid new : EngineParts) (before between after : List Told)
    → ServesOn d served old mid before between → ServesRest served e ended mid new between after → AnswersFirstPart (d ++ e) ended old new before after
goes_on_so (Ok done) d e ended old mid new before between after h k = then_served d e ended old mid new before between after h k
goes_on_so (Err fault) d e ended old mid new before between after h k =
    let stopped : AnswersFirstPart (d ++ e) (Err fault) old new before after =
    subst (λ (x : EngineParts). AnswersFirstPart (d ++ e) (Err fault) old x before after) (sym k.0)
    (subst (λ (t : List Told). AnswersFirstPart (d ++ e) (Err fault) old mid before t) (sym k.1) (more_dropped d e fault old mid before between h)) in
    ⊎_elim (λ (same : ended ≡ Err fault). subst (λ (r : Served). AnswersFirstPart (d ++ e) r old new before after) (sym same) stopped)
    (λ (refused : ended ≡ Err NoMemory). subst (λ (r : Served). AnswersFirstPart (d ++ e) r old new before after) (sym refused) (refused_besides (d ++ e) (Err fault) old new before after stopped)) k.2

-- memory was refused before a client began
pub no_service : (engine : EngineParts) (logs : List ClientLog) (told : List Told) → told ≡ [] → is_busy engine ≡ false → IsService engine logs engine told (Err NoMemory)
no_service engine logs told none idle = record {
  drawn = all_calls 1 logs;
  owners = all_owned (length logs) 1 logs (omega arith) (omega arith);
  numbered = each_numbered 1 logs;
  whole = all_of_logs logs;
  serves = none_served (all_calls 1 logs) (Err NoMemory) engine engine [] told (same_answered engine [] told idle (ap (λ l. map said_in l) none)) (holds_none engine.procs _ (all_calls 1 logs) engine.unfinished idle);
}

-- from the start to the end
pub whole_service : (first mid : Owner) (intake : Intake ClientCall) (olds news : List Client) (logs : List ClientLog) (new : EngineParts) (told : List Told) (served ended : Served) → drawn_by first.pass ≡ [] → first.told.items ≡ []
    → HasServed first mid served → 0 < length logs → AreAtTheirLogs intake (length logs) 1 olds logs → HaveSubmitted olds news → IsServedToTheEnd mid served news new told ended → IsService first.engine.core logs new told ended
whole_service first mid intake olds news logs new told served ended none empty h some at did k =
    let list : drawn_by mid.pass ++ k.drawn ≡ h.drawn ++ k.drawn = ap (λ l. l ++ k.drawn) (h.grows ∙ ap (λ l. l ++ h.drawn) none) in
    let all : IsWhole (h.drawn ++ k.drawn) (histories_at news) = subst (λ l. IsWhole l (histories_at news)) list k.all in
    record {
      drawn = h.drawn ++ k.drawn;
      owners = each_owned (length logs) (h.drawn ++ k.drawn) (h.drawn ++ k.drawn) all.1 (of_spare (h.drawn ++ k.drawn) intake (length logs) 1 olds news logs at did some (omega arith) all.0) (λ c none'. none');
      numbered = subst IsNumbered list k.numbered;
      whole = of_logs (h.drawn ++ k.drawn) intake (length logs) 1 olds news logs at did all.0;
      serves = goes_on_so served h.drawn k.drawn ended first.engine.core mid.engine.core new [] mid.told.items told
          (subst (λ (t : List Told). ServesOn h.drawn served first.engine.core mid.engine.core t mid.told.items) empty h.serves) k.goes_on;
    }
