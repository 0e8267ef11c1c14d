use Rattle.std.proofs.Common.{◌≡◌, ◌+◌, ℕ, List, [], ◌∷◌, ◌++◌, ◌∙◌, length, ap, sym, subst, arith}
use Rattle.std.specs.Map.{set_value}
use Rattle.std.specs.BTreeMap.{is_at}
use Rattle.std.specs.Ordering.{nat_cmp}
use Rattle.footprint.specs.declared.resource.Resource.{Resource}
use Rattle.lock_tree.specs.Entered.{Enqueued}
use Rattle.lock_tree.specs.Locks.{Waiting}
use Rattle.lock_tree.specs.Queues.{asks, mode_on}
use Rattle.lock_tree.specs.Lines.{line}
use Rattle.lock_tree.specs.Known.{AreKnown}
use Rattle.lock_tree.specs.Chained.{AreChained}
use Rattle.lock_tree.specs.Steps.{OthersChained, HasRoomFor, AreEnqueued}
use Rattle.lock_tree.specs.Views.{waiting_of, all_waiting, enqueued}
use Rattle.lock_tree.proofs.Queueing.{known_before, knows_exactly, known_and}
use Rattle.lock_tree.proofs.Chaining.{chained_below, chained_and}
use Rattle.lock_tree.proofs.Places.{none_some}
use Rattle.lock_tree.proofs.Marks.{waiting_end}
use Rattle.lock_tree.proofs.Named.{found, absent, last_found, last_there}
use Rattle.lock_tree.proofs.Changed.{room_after_push, settled, settled_index}
use Rattle.lock_tree.proofs.enqueueing.enqueue_transaction.Goals as goal
use Rattle.lock_tree.proofs.enqueueing.enqueue_transaction.Goals.{In-Some, After-push_open}

pub unreachable-requires : goal.unreachable-requires
unreachable-requires c =
    let k = c.args.no in let es = enqueued c.args.transactions.now in let now = c.push.new.self in
    none_some (length es) (sym (absent k now.entries.entries c.push.ensures.indexed.named (sym c.in_default.ensures.value)) ∙ last_there k (enqueued now) es c.args.entry c.in_ok-push.ensures.entries (sym c.requires.entry.owned) c.requires.below)

-- what is found is the one that was put there
it : (c : In-Some) → c.in-Some.entry.now ≡ c.args.entry
it c =
    let k = c.args.no in let now = c.push.new.self in let e = c.in-Some.entry.now in
    last_found k (enqueued now) (enqueued c.args.transactions.now) c.args.entry e c.in_ok-push.ensures.entries (sym c.requires.entry.owned) c.requires.below (found k now.entries.entries e c.push.ensures.indexed.named (sym c.in-Some.ensures.value))

pub enqueue_entry-requires-clause-room : goal.enqueue_entry-requires-clause-room
enqueue_entry-requires-clause-room c =
    subst (λ (e : Enqueued). HasRoomFor c.args.lines.now e.no e.plan.value) (sym (it (goal.at.enqueue_entry-requires-clause-room c).In-Some)) c.requires.room

pub enqueue_entry-requires-clause-plan : goal.enqueue_entry-requires-clause-plan
enqueue_entry-requires-clause-plan c = ap (λ (e : Enqueued). e.plan.value) (it (goal.at.enqueue_entry-requires-clause-plan c).In-Some) ∙ c.requires.entry.asks_for

pub enqueue_entry-requires-clause-owner : goal.enqueue_entry-requires-clause-owner
enqueue_entry-requires-clause-owner c = ap (λ (e : Enqueued). e.no) (it (goal.at.enqueue_entry-requires-clause-owner c).In-Some) ∙ c.requires.entry.owned

pub push_open-requires-clause-owner : goal.push_open-requires-clause-owner
push_open-requires-clause-owner c =
    ap (λ (x : Waiting). x.no) c.enqueue_entry.ensures.same ∙ ap (λ (e : Enqueued). e.no) (it (goal.at.push_open-requires-clause-owner c).In-Some) ∙ c.requires.entry.owned

pub push_open-requires-clause-room : goal.push_open-requires-clause-room
push_open-requires-clause-room c =
    let now = c.push.new.self in
    let enough = room_after_push c.args.transactions.now now c.args.entry c.in_ok-push.ensures.entries c.push.ensures.indexed c.requires.entry.waits in
    let n = now.open.ok.0 in
    omega (arith, enough, n)

-- it has the same number since
abbrev IsIt : (c : After-push_open) → Type 0
IsIt c = c.in-Some.entry.now ≡ c.args.entry

number : (c : After-push_open) → IsIt c → c.enqueue_entry.new.entry.no ≡ c.args.entry.no
number c is = ap (λ (x : Waiting). x.no) c.enqueue_entry.ensures.same ∙ ap (λ (x : Enqueued). x.no) is

-- it is changed where its number stands
set_there : (c : After-push_open) → (c.get_mut.follows.lender c.enqueue_entry.new.entry).entries ≡ set_value (is_at (nat_cmp c.args.entry.no)) c.push.new.self.entries.entries c.enqueue_entry.new.entry
set_there c =
    let w = c.enqueue_entry.new.entry in
    subst (λ (k : ℕ). (c.get_mut.follows.lender w).entries ≡ set_value (is_at (nat_cmp k)) c.push.new.self.entries.entries w) (sym c.requires.entry.owned) (c.get_mut.follows.holds w).0

joined : (c : After-push_open) → IsIt c → enqueued (record { entries = c.get_mut.follows.lender c.enqueue_entry.new.entry; «open» = c.push_open.new.numbers }) ≡ enqueued c.args.transactions.now ++ c.enqueue_entry.new.entry ∷ []
joined c is =
    let w = c.enqueue_entry.new.entry in
    settled c.args.transactions.now c.push.new.self c.args.entry c.in_ok-push.ensures.entries c.push.ensures.indexed c.requires.entry.waits (record { entries = c.get_mut.follows.lender w; «open» = c.push_open.new.numbers }) w
    c.requires.below (number c is) (set_there c)

more : (c : After-push_open) → IsIt c → (other : Resource) → line c.enqueue_entry.new.lines other ≡ line c.args.lines.now other ++ asks c.args.entry.no (mode_on other c.args.entry.plan.value) []
more c is = subst (λ (e : Enqueued). (other : Resource) → line c.enqueue_entry.new.lines other ≡ line c.args.lines.now other ++ asks e.no (mode_on other e.plan.value) []) is c.enqueue_entry.ensures.enqueued.lines

pub returns-clause-enqueued : goal.returns-clause-enqueued
returns-clause-enqueued c =
    subst (λ (e : Enqueued). AreEnqueued c.args.lines.now e.no e.plan.value c.enqueue_entry.new.lines) (it (goal.at.returns-clause-enqueued c).In-Some) c.enqueue_entry.ensures.enqueued

pub returns-clause-waiting : goal.returns-clause-waiting
returns-clause-waiting c =
    let es = enqueued c.args.transactions.now in let d = (goal.at.returns-clause-waiting c).After-push_open in let is = it (goal.at.returns-clause-waiting c).In-Some in
    ap all_waiting (joined d is) ∙ waiting_end es c.enqueue_entry.new.entry ∙ ap (λ (x : Waiting). all_waiting es ++ x ∷ []) (c.enqueue_entry.ensures.same ∙ ap waiting_of is)

pub returns-clause-agree : goal.returns-clause-agree
returns-clause-agree c =
    let old = line c.args.lines.now in let now = c.enqueue_entry.new.lines in let e = c.args.entry in let w = c.enqueue_entry.new.entry in let es = enqueued c.args.transactions.now in
    let d = (goal.at.returns-clause-agree c).After-push_open in let is = it (goal.at.returns-clause-agree c).In-Some in
    record {
      numbered = c.enqueue_entry.ensures.enqueued.numbered;
      granted = c.enqueue_entry.ensures.enqueued.granted;
      indexed =
          settled_index c.args.transactions.now c.push.new.self e c.in_ok-push.ensures.entries c.push.ensures.indexed c.requires.entry.waits (record { entries = c.get_mut.follows.lender w; «open» = c.push_open.new.numbers }) w
          c.requires.below (number d is) (set_there d) c.requires.agree.indexed c.push_open.ensures.items c.push_open.ensures.capacity;
      known =
          subst (λ (xs : List Enqueued). AreKnown (line now) [] xs) (sym (joined d is))
          (known_and (line now) es w (known_before e.no old (line now) (λ x. mode_on x e.plan.value) (more d is) es c.requires.below c.requires.agree.known) (knows_exactly (line now) w c.enqueue_entry.ensures.ready));
      chained =
          subst (λ (xs : List Enqueued). AreChained now xs) (sym (joined d is))
          (chained_and now es w
          (chained_below e.no c.args.lines.now now (subst (λ (x : Enqueued). OthersChained x.no c.args.lines.now now) is c.enqueue_entry.ensures.enqueued.others_chained) es c.requires.below c.requires.agree.chained) c.enqueue_entry.ensures.chained);
    }
