use Rattle.std.proofs.Common.{◌≡◌, ◌∙◌, ◌++◌, Err, refl, sym, ap, subst, append_assoc, is_err, false, inl, rules}
use Rattle.intake.specs.Rule.{IsWhole}
use Rattle.intake.specs.Passes.{drawn_by}
use Rattle.example_serving.specs.Services.{calls_of_batches}
use Rattle.example_serving.specs.Steps.{ServesRest, histories_at, items_in}
use Rattle.example_serving.proofs.Owned.{ok_so, drawn_so, ended_so, left_refused}
use Rattle.example_serving.proofs.service.serve_left.Goals as goal

pub returns-then-is_err : goal.returns-then-is_err
returns-then-is_err g c =
    let drawn = c.drain.ensures.drawn in
    let left = calls_of_batches (items_in c.drain.new.into.items) in
    let more = c.discard.ensures.drawn in
    let first : drawn_by c.drain.new.pass ≡ drawn_by c.args.owner.pass ++ left =
    drawn_so c.drain.new.into.items drawn.0 _ _ (drawn.1 ∙ ap (λ l. l ++ drawn.0) c.new-left.ensures.items) drawn.2 ∙ ap (λ l. l ++ left) c.retire_all.ensures.drawn in
    let all : IsWhole (drawn_by c.discard.new.pass) (histories_at c.args.clients.items) =
    (c.retire_all.ensures.held (drawn_by c.discard.new.pass) (subst (λ hs. IsWhole (drawn_by c.discard.new.pass) hs) c.drain.ensures.drawer.1 c.discard.ensures.all).0, c.discard.ensures.all.1) in
    ended_so c.args.owner c.args.served c.args.clients.items c.args.owner.engine.core c.args.owner.told.items (Err _) (left ++ more.0) (drawn_by c.discard.new.pass)
    (more.1 ∙ ap (λ l. l ++ more.0) first ∙ append_assoc (drawn_by c.args.owner.pass) left more.0) c.discard.ensures.pass.0.numbered
    all (left_refused c.args.served (left ++ more.0) c.args.owner.engine.core c.args.owner.told.items c.requires.idle)

pub returns-in-Err : goal.returns-in-Err
returns-in-Err g c =
    let drawn = c.drain.ensures.drawn in
    let left = calls_of_batches (items_in c.drain.new.into.items) in
    let fine : is_err c.drain.result ≡ false = search rules in
    let whole = (ok_so _ c.drain.result fine c.drain.ensures.all).1 in
    ended_so c.args.owner c.args.served c.args.clients.items c.args.owner.engine.core c.args.owner.told.items (Err c.in-Err.fault) left (drawn_by c.drain.new.pass)
    (drawn_so c.drain.new.into.items drawn.0 _ _ (drawn.1 ∙ ap (λ l. l ++ drawn.0) c.new-left.ensures.items) drawn.2 ∙ ap (λ l. l ++ left) c.retire_all.ensures.drawn) c.drain.ensures.drawer.0.numbered
    (c.retire_all.ensures.held (drawn_by c.drain.new.pass) whole.0, whole.1)
    (subst (λ s. ServesRest s left (Err c.in-Err.fault) c.args.owner.engine.core c.args.owner.engine.core c.args.owner.told.items c.args.owner.told.items) (sym c.in-Err.is) (refl, refl, inl refl))

pub returns : goal.returns
returns g c =
    let drawn = c.drain.ensures.drawn in
    let left = calls_of_batches (items_in c.drain.new.into.items) in
    let fine : is_err c.drain.result ≡ false = search rules in
    let whole = (ok_so _ c.drain.result fine c.drain.ensures.all).1 in
    let served = c.answer_to_the_end-served in
    ended_so c.args.owner c.args.served c.args.clients.items served.new.engine.core served.new.told.items served.result left (drawn_by c.drain.new.pass)
    (drawn_so c.drain.new.into.items drawn.0 _ _ (drawn.1 ∙ ap (λ l. l ++ drawn.0) c.new-left.ensures.items) drawn.2 ∙ ap (λ l. l ++ left) c.retire_all.ensures.drawn) c.drain.ensures.drawer.0.numbered
    (c.retire_all.ensures.held (drawn_by c.drain.new.pass) whole.0, whole.1)
    (subst (λ s. ServesRest s left served.result c.args.owner.engine.core served.new.engine.core c.args.owner.told.items served.new.told.items) (sym c.in_default.is) served.ensures)
