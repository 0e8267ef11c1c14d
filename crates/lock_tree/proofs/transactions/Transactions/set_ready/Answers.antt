use Rattle.std.proofs.Common.{sym, ap, ◌∙◌, slice_set}
use Rattle.lock_tree.specs.Entered.{Enqueued}
use Rattle.lock_tree.specs.Views.{enqueued}
use Rattle.lock_tree.proofs.Places.{none_some}
use Rattle.lock_tree.proofs.Marks.{rising_numbers}
use Rattle.lock_tree.proofs.Named.{found, absent}
use Rattle.lock_tree.proofs.Changed.{it_stands, not_absent, number, room_to_change, changed_at, changed_index}
use Rattle.lock_tree.proofs.transactions.Transactions.set_ready.Goals as goal
use Rattle.lock_tree.proofs.transactions.Transactions.set_ready.Goals.{In-Some}

pub record_open-requires-clause-owner : goal.record_open-requires-clause-owner
record_open-requires-clause-owner c =
    let e = c.in-Some.entry.now in ap (λ (x : Enqueued). x.no) c.set_ready.ensures ∙ number c.args.self.now c.args.no e c.requires (sym c.in-Some.ensures.value)

pub record_open-requires-clause-rising : goal.record_open-requires-clause-rising
record_open-requires-clause-rising c = rising_numbers c.args.self.now.open.items (enqueued c.args.self.now) c.requires.open_ones c.requires.rising

pub record_open-requires-clause-room : goal.record_open-requires-clause-room
record_open-requires-clause-room c =
    room_to_change c.args.self.now c.args.no c.in-Some.entry.now c.requires (sym c.in-Some.ensures.value) c.set_ready.new.self (ap (λ (x : Enqueued). x.no) c.set_ready.ensures)

pub returns-in-Some-clause-indexed : goal.returns-in-Some-clause-indexed
returns-in-Some-clause-indexed c =
    let e = c.in-Some.entry.now in let w = c.set_ready.new.self in
    changed_index c.args.self.now c.args.no e c.requires (sym c.in-Some.ensures.value)
    (record { entries = c.get_mut.follows.lender w; «open» = c.record_open.new.numbers }) w (ap (λ (x : Enqueued). x.no) c.set_ready.ensures) (c.get_mut.follows.holds w).0 c.record_open.ensures.items c.record_open.ensures.capacity

pub returns-in-Some-clause-there : goal.returns-in-Some-clause-there
returns-in-Some-clause-there c = λ place d h.
    let e = c.in-Some.entry.now in let w = c.set_ready.new.self in let t = c.args.self.now in
    changed_at t c.args.no e c.requires (sym c.in-Some.ensures.value) w (c.get_mut.follows.lender w).entries place (c.get_mut.follows.holds w).0 h
    ∙ ap (λ (x : Enqueued). slice_set (enqueued t) place x) c.set_ready.ensures
    ∙ ap (λ (x : Enqueued). slice_set (enqueued t) place (record x { ready = c.args.ready }))
    (it_stands c.args.no (enqueued t) e place d (found c.args.no t.entries.entries e c.requires.named (sym c.in-Some.ensures.value)) h)

pub returns-in-Some-clause-none : goal.returns-in-Some-clause-none
returns-in-Some-clause-none c = λ none.
    let t = c.args.self.now in
    absurd (not_absent c.args.no (enqueued t) c.in-Some.entry.now (found c.args.no t.entries.entries c.in-Some.entry.now c.requires.named (sym c.in-Some.ensures.value)) none)

pub returns-in_default-clause-there : goal.returns-in_default-clause-there
returns-in_default-clause-there c = λ place d h.
    absurd (none_some place (sym (absent c.args.no c.args.self.now.entries.entries c.requires.named (sym c.in_default.ensures.value)) ∙ h))
