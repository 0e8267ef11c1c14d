-- Of the code: invariants and steps; no promise rests on these words.
-- Steps of a server, and what they come to.
use Rattle.std.specs.Prelude.{◌≡◌, ◌+◌, ◌<◌, ◌^◌, ◌⊎◌, List, [], ◌∷◌, ◌++◌, length, map, Ok, Err, IsSomeAnd, Vec, false}
use Rattle.std.specs.declared.alloc.Global.{Global}
use Rattle.sequencer.specs.Attempts.{Attempt}
use Rattle.sequencer.specs.declared.batch.Batch.{Batch}
use Rattle.intake.specs.declared.view.History.{History}
use Rattle.intake.specs.declared.passes.DrawPass.{DrawPass}
use Rattle.intake.specs.Histories.{IsNumbered}
use Rattle.intake.specs.Rule.{IsWhole}
use Rattle.intake.specs.Passes.{drawn_by, histories_of}
use Rattle.engine.specs.declared.replies.Reply.{Reply}
use Rattle.engine.specs.Batches.{next_attempts}
use Rattle.engine.specs.Engines.{EngineParts, is_busy}
use Rattle.engine.specs.Replies.{reply_of}
use Rattle.example_serving.specs.declared.call.ClientCall.{ClientCall}
use Rattle.example_serving.specs.declared.client.Client.{Client}
use Rattle.example_serving.specs.Calls.{CallItem}
use Rattle.example_serving.specs.declared.told.Told.{Told}
use Rattle.example_serving.specs.declared.told.ServeFault.{ServeFault}
use Rattle.example_serving.specs.declared.told.ServeFault.TheVariants.{LogFull, Spawn, NoMemory}
use Rattle.example_serving.specs.declared.owner.Owner.{Owner}
use Rattle.example_serving.specs.Serving.{Said}
use Rattle.example_serving.specs.Services.{Served, AnswersBatches, AnswersFirstPart, calls_of_batches}

-- what a reply says to the client whose request it is for
abbrev pub said_by : Reply → Said
said_by reply = record { client = reply.client; number = reply.number; answer = Ok (reply_of reply) }

-- an engine holds a batch of these attempts and carries nothing beside it, and its rows and its count are those before
-- it
pub record HoldsBatch (old new : EngineParts) (attempts : List Attempt) : Type 0 where
  pub held : IsSomeAnd new.unfinished (λ unfinished. unfinished.attempts ≡ attempts)
  pub rows : new.rows ≡ old.rows
  pub next : new.next ≡ old.next
  pub carried : new.carried ≡ []

-- why a batch was not executed, and what the engine is then
abbrev pub IsStopped : EngineParts → EngineParts → Batch → ServeFault → Type 0
IsStopped old new batch LogFull = (2 ^ 48 < old.next + length (next_attempts old batch)) × (new ≡ old)
IsStopped old new batch Spawn = HoldsBatch old new (next_attempts old batch)
IsStopped old new batch NoMemory = HoldsBatch old new (next_attempts old batch)

-- the calls of batches as lists
abbrev pub items_in : List (Vec CallItem Global) → List (List CallItem)
items_in batches = map (λ (b : Vec CallItem Global). b.items) batches

-- a pass has drawn on
abbrev pub DrawsOn : DrawPass ClientCall → DrawPass ClientCall → Type 0
DrawsOn old new = (more : List CallItem) × (drawn_by new ≡ drawn_by old ++ more)

-- calls were all answered, and no batch is unfinished; requests may be carried
pub record AnswersAll (drawn : List CallItem) (old new : EngineParts) (before after : List Told) : Type 0 where
  pub batches : List (List CallItem)
  pub cut : drawn ≡ calls_of_batches batches
  pub answers : AnswersBatches batches old new before after
  pub idle : is_busy new ≡ false

-- calls were all answered, and further ones may be; or something was refused
abbrev pub ServesOn : List CallItem → Served → EngineParts → EngineParts → List Told → List Told → Type 0
ServesOn drawn (Ok done) old new before after = AnswersAll drawn old new before after
ServesOn drawn (Err fault) old new before after = AnswersFirstPart drawn (Err fault) old new before after

-- what the owner has drawn in between was served
pub record HasServed (old new : Owner) (ended : Served) : Type 0 where
  pub drawn : List CallItem
  pub grows : drawn_by new.pass ≡ drawn_by old.pass ++ drawn
  pub serves : ServesOn drawn ended old.engine.core new.engine.core old.told.items new.told.items

-- further calls are served, and then what is carried, or nothing is done any more
abbrev pub ServesRest : Served → List CallItem → Served → EngineParts → EngineParts → List Told → List Told → Type 0
ServesRest (Ok done) drawn ended old new before after = AnswersFirstPart drawn ended old new before after
ServesRest (Err fault) drawn ended old new before after =
    (new ≡ old) × (after ≡ before) × ((ended ≡ Err fault) ⊎ (ended ≡ Err NoMemory))

-- what the passes of clients know of who has submitted what
abbrev pub histories_at : List Client → List (History ClientCall)
histories_at [] = []
histories_at (c ∷ cs) = histories_of c.pass ++ histories_at cs

-- and then what these clients had left was drawn
pub record IsServedToTheEnd (old : Owner) (served : Served) (clients : List Client) (new : EngineParts)
    (told : List Told) (ended : Served) : Type 0 where
  pub drawn : List CallItem
  pub numbered : IsNumbered (drawn_by old.pass ++ drawn)
  pub all : IsWhole (drawn_by old.pass ++ drawn) (histories_at clients)
  pub goes_on : ServesRest served drawn ended old.engine.core new old.told.items told
