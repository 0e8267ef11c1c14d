use Rattle.std.proofs.Common.{◌≡◌, List, [], map, ap, subst, sym, ◌∙◌, Result, Ok, Err, IfOk}
use Rattle.sequencer.specs.Attempts.{requests_of, AreRequestsOver}
use Rattle.sequencer.specs.Batches.{RequestItem, items_of}
use Rattle.sequencer.specs.Entries.{prepared}
use Rattle.sequencer.proofs.Attempted.{attempts_over, own_mapped}
use Rattle.sequencer.proofs.preparing.prepare.Goals as goal

pub entries_of-requires-clause-over : goal.entries_of-requires-clause-over
entries_of-requires-clause-over g c =
    subst (λ (items : List RequestItem). AreRequestsOver c.args.catalogue.now (requests_of [] items)) (sym c.items.ensures) (attempts_over c.args.catalogue.now [] (items_of c.args.batch.now) tt c.requires.over)

pub returns-clause-exact : goal.returns-clause-exact
returns-clause-exact g c =
    let prepares = prepared (g.V.RowView.rows c.args.view.now) in
    let same : map prepares (requests_of [] c.items.result.now) ≡ map (λ (item : RequestItem). prepares item.request) (items_of c.args.batch.now) =
    own_mapped prepares c.items.result.now ∙ ap (map (λ (item : RequestItem). prepares item.request)) c.items.ensures in
    if_ok c.entries_of.result _ _ (λ entries h. h ∙ same) c.entries_of.ensures.exact
  where
    if_ok : {A E : Type 0} (r : Result A E) (P Q : A → Type 0) → ((a : A) → P a → Q a) → IfOk r P → IfOk r Q
    if_ok (Ok a) P Q goes h = goes a h
    if_ok (Err e) P Q goes h = h
