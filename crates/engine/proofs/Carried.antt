-- Requests that are carried from batch to batch.
use Rattle.std.proofs.Common.{◌≡◌, ℕ, ◌+◌, ◌≤◌, Bool, true, false, cond, arith, length, ap, ◌∙◌, List, [], ◌∷◌, map, Option, Some, None, refl, sym, subst}
use Rattle.std.specs.List.{AllByRecursion}
use Rattle.std.proofs.lemmas.List.{length-append}
use Rattle.catalogue.specs.Shapes.{TableShape}
use Rattle.catalogue.specs.Schemas.{HaveSameSchema}
use Rattle.sequencer.specs.declared.attempts.Carried.{Carried}
use Rattle.meaning.specs.Entries.{Reply}
use Rattle.sequencer.specs.Attempts.{carried_on, is_left, left_of, Attempt, AreCarriedOver, Numbered}
use Rattle.sequencer.proofs.Carryings.{left_next}
use Rattle.dispatcher.specs.Listeners.{CountsReplies}
use Rattle.engine.specs.Accounts.{settled_of}
use Rattle.engine.specs.Batches.{over_tables}
use Rattle.progress.specs.Accounts.{Account}
use Rattle.engine.specs.Engines.{EngineParts}
use Rattle.engine.specs.Stages.{IsToldSettled}

-- what is settled is as before
pub told_anew : (old new : EngineParts) (account : Option Account) → new.next ≡ old.next
    → settled_of new.unfinished new.rows ≡ settled_of old.unfinished old.rows → IsToldSettled old account → IsToldSettled new account
told_anew old new None next same told = absurd told
told_anew old new (Some account) next same told = record {
  ended = told.ended ∙ sym next;
  shows = subst (CountsReplies account) (sym same) told.shows;
}

-- over other tables
pub moved_over : (tables : List TableShape) (carried : List Carried) → AreCarriedOver tables (map (over_tables tables) carried)
moved_over tables [] = tt
moved_over tables (one ∷ carried) = (refl, moved_over tables carried)

pub same_each : (tables others : List TableShape) (carried : List Carried) → HaveSameSchema tables others → AreCarriedOver tables carried
    → AllByRecursion (λ one. HaveSameSchema one.request.proc.tables others) carried
same_each tables others [] same over = tt
same_each tables others (one ∷ carried) same over = (subst (λ ts. HaveSameSchema ts others) (sym over.0) same, same_each tables others carried same over.1)

-- no more requests are left than were tried
pub left_no_more : (retries n : ℕ) (attempts : List Attempt) (replies : List Reply) → length (left_of retries n attempts replies) ≤ length attempts
left_no_more retries n [] replies = omega arith
left_no_more retries n (a ∷ attempts) [] = omega arith
left_no_more retries n (a ∷ attempts) (r ∷ replies) =
    let tried : Numbered = record { no = n; attempt = a } in
    let rest = left_no_more retries (n + 1) attempts replies in
    let long = ap length (left_next retries n a attempts r replies) ∙ length-append (cond (is_left retries (tried, r)) (carried_on tried ∷ []) []) (left_of retries (n + 1) attempts replies) in
    one_more _ attempts a (by (is_left retries (tried, r)) (carried_on tried) _ _ _ long rest)
  where
    one_more : (l : ℕ) (xs : List Attempt) (x : Attempt) → l ≤ length xs + 1 → l ≤ length (x ∷ xs)
    one_more l xs x h = omega (arith, h)

    by : (b : Bool) (one : Carried) (l k t : ℕ) → l ≡ length (cond b (one ∷ []) []) + k → k ≤ t → l ≤ t + 1
    by true one l k t e h = omega (arith, e, h)
    by false one l k t e h = omega (arith, e, h)
