use Rattle.std.proofs.Common.{◌≡◌, sym, ap, ◌∙◌, subst}
use Rattle.lock_tree.specs.Entered.{Enqueued}
use Rattle.lock_tree.specs.Views.{all_waiting, enqueued}
use Rattle.lock_tree.specs.Lines.{line}
use Rattle.lock_tree.specs.Known.{granted_in, AreKnown}
use Rattle.lock_tree.proofs.Places.{at}
use Rattle.lock_tree.proofs.Knowing.{flag_unseen, noted_at, none_to_note}
use Rattle.lock_tree.proofs.Trees.{number_at}
use Rattle.lock_tree.proofs.release.record_ready.Goals as goal

pub are_granted-ready-requires-clause-owner : goal.are_granted-ready-requires-clause-owner
are_granted-ready-requires-clause-owner c =
    let r = c.in-Some.ensures.found in ap (λ (e : Enqueued). e.no) r.there ∙ number_at c.args.no (enqueued c.args.transactions.now) r.place c.in-Some.entry.now r.exact

pub returns-in-Some-clause-same : goal.returns-in-Some-clause-same
returns-in-Some-clause-same c =
    let r = c.in-Some.ensures.found in let d = c.in-Some.entry.now in
    ap all_waiting (c.set_ready.ensures.there r.place d r.exact) ∙ flag_unseen (enqueued c.args.transactions.now) r.place d c.are_granted-ready.result

pub returns-in-Some-clause-noted : goal.returns-in-Some-clause-noted
returns-in-Some-clause-noted c = λ mode lately known.
    let es = enqueued c.args.transactions.now in let q = line c.args.lines.now in let r = c.in-Some.ensures.found in let i = r.place in let d = c.in-Some.entry.now in
    let plan : c.are_granted-ready.result ≡ granted_in q c.args.no (at es i d).plan.value =
    c.are_granted-ready.ensures ∙ ap (λ (e : Enqueued). granted_in q e.no e.plan.value) r.there ∙ ap (λ n. granted_in q n (at es i d).plan.value) (number_at c.args.no es i d r.exact) in
    subst (AreKnown q lately) (sym (c.set_ready.ensures.there i d r.exact)) (noted_at q c.args.no mode lately es i d c.are_granted-ready.result c.requires.indexed.rising r.exact plan known)

pub returns-in_default-clause-noted : goal.returns-in_default-clause-noted
returns-in_default-clause-noted c = λ mode lately known. none_to_note (line c.args.lines.now) c.args.no mode lately (enqueued c.args.transactions.now) c.in_default.ensures.none known
