-- What a scheduler keeps to stays so at each of its steps.
use Rattle.std.proofs.Common.{◌≡◌, ◌≢◌, ◌<◌, ◌≤◌, ◌+◌, ◌++◌, ℕ, Bool, true, false, cond, List, [], ◌∷◌, length, map, Option, Some, None, slice_get, slice_set, refl, sym, ap, ◌∙◌, subst, arith, inl, inr, if◌then◌else◌, nat_lt, Less, Equal, Greater}
use Rattle.std.proofs.lemmas.Bool.Decides.{nat_tests}
use Rattle.std.proofs.lemmas.Option.{slice_get_within}
use Rattle.std.specs.FinMap.{FinMap, get, get-insert, get-remove, insert, remove}
use Rattle.std.specs.Cmp.{nat_cmp_total, nat_cmp_is}
use Rattle.std.specs.Ordering.{nat_cmp, eq_by_cmp, is_eq}
use Rattle.values.specs.declared.name.RowName.{RowName}
use Rattle.values.specs.Database.{Database}
use Rattle.proclang_types.specs.declared.right.Right.TheVariants.{Write}
use Rattle.coarsen.specs.Subtrees.{Requests}
use Rattle.coarsen.specs.Clashes.{locks_row}
use Rattle.lock_tree.specs.Locks.{Locks, Waiting, with_mark, without}
use Rattle.lock_tree.specs.Ready.{ready}
use Rattle.meaning.specs.declared.outcome.Outcome.{Outcome}
use Rattle.meaning.specs.Outcomes.{as_reply}
use Rattle.row_store.specs.Stock.{Stock}
use Rattle.scheduler.specs.JobRuns.{JobOf, transaction_of}
use Rattle.scheduler_core.specs.declared.phase.Phase.{Phase}
use Rattle.scheduler_core.specs.declared.phase.Phase.TheVariants as phase
use Rattle.scheduler_core.specs.Transactions.{Transaction}
use Rattle.scheduler_core.specs.Phases.{is_out}
use Rattle.scheduler_core.specs.Events.{waiting, OutAreReady}
use Rattle.scheduler_core.specs.Sound as core
use Rattle.scheduler_core.specs.Laws.{StaysSound, FollowsPhases}
use Rattle.scheduler.specs.declared.slot.Slot.{Slot}
use Rattle.scheduler.specs.declared.slot.Slot.TheVariants.{Idle, Settled}
use Rattle.scheduler.specs.Schedules.{Work, log_of, phase_in}
use Rattle.scheduler.specs.Jobs.{IsRunAt}
use Rattle.scheduler.specs.Scheduled.{Fits, plan_out, lent_to, IsScheduled}
use Rattle.scheduler.proofs.Places.{push_end, push_before, set_here, set_elsewhere, map_push, map_set, set_back, length_map}
use Rattle.scheduler.proofs.Slots.{phase_at}
use Rattle.scheduler.proofs.Numbers.{same_number, lent_here, lent_changes, lent_pushed}

-- maps from numbers
more : (i j : ℕ) → j ≤ i → i ≢ j → j < i
more i j m n = elim (nat_lt j i) as (λ b. nat_lt j i ≡ b → j < i) [
  | true ↦ λ e. grind (arith, nat_tests)
  | false ↦ λ e. let k : i ≤ j = grind (arith, nat_tests) in absurd (n (omega (arith, m, k)))
] refl

eq_is : (i j : ℕ) → i ≡ j → eq_by_cmp nat_cmp i j ≡ true
eq_is i j e = ap is_eq (sym (nat_cmp_is i j Equal e))

eq_not : (i j : ℕ) → i ≢ j → eq_by_cmp nat_cmp i j ≡ false
eq_not i j n = elim (nat_lt i j) as (λ b. nat_lt i j ≡ b → eq_by_cmp nat_cmp i j ≡ false) [
  | true ↦ λ e. ap is_eq (sym (nat_cmp_is i j Less (grind (arith, nat_tests))))
  | false ↦ λ e. ap is_eq (sym (nat_cmp_is i j Greater (let m : j ≤ i = grind (arith, nat_tests) in more i j m n)))
] refl

pub inserted : (m new : FinMap nat_cmp Requests) (k : ℕ) (p : Requests) → new ≡ insert m k p → get new k ≡ Some p
inserted m new k p e = ap (λ (x : FinMap nat_cmp Requests). get x k) e ∙ get-insert nat_cmp_total m k p k ∙ ap (λ b. cond b (Some p) (get m k)) (eq_is k k refl)

pub not_inserted : (m new : FinMap nat_cmp Requests) (k : ℕ) (p : Requests) → new ≡ insert m k p → (i : ℕ) → i ≢ k → get new i ≡ get m i
not_inserted m new k p e i n = ap (λ (x : FinMap nat_cmp Requests). get x i) e ∙ get-insert nat_cmp_total m k p i ∙ ap (λ b. cond b (Some p) (get m i)) (eq_not i k n)

pub removed : (m new : FinMap nat_cmp Requests) (k : ℕ) → new ≡ remove m k → get new k ≡ None
removed m new k e = ap (λ (x : FinMap nat_cmp Requests). get x k) e ∙ get-remove nat_cmp_total m k k ∙ ap (λ b. cond b None (get m k)) (eq_is k k refl)

pub not_removed : (m new : FinMap nat_cmp Requests) (k : ℕ) → new ≡ remove m k → (i : ℕ) → i ≢ k → get new i ≡ get m i
not_removed m new k e i n = ap (λ (x : FinMap nat_cmp Requests). get x i) e ∙ get-remove nat_cmp_total m k i ∙ ap (λ b. cond b None (get m i)) (eq_not i k n)

-- what is kept, with one slot changed or one more
kept_set : (w : Work) (slots : List Slot) (place : ℕ) (old new : Slot) → ((k : ℕ) (slot : Slot) → slice_get slots k ≡ Some slot → Fits w k slot) → slice_get slots place ≡ Some old
    → Fits w place new → (k : ℕ) (slot : Slot) → slice_get (slice_set slots place new) k ≡ Some slot → Fits w k slot
kept_set w slots place old new kept is fits k slot at = elim (same_number k place) [
  | inl e ↦
      let here : slice_get (slice_set slots place new) k ≡ Some new = ap (slice_get (slice_set slots place new)) e ∙ set_here slots place old new is in
      let same : new ≡ slot = let g : Some new ≡ Some slot = sym here ∙ at in cc in
      subst (λ (s : Slot). Fits w k s) same (subst (λ (n : ℕ). Fits w n new) (sym e) fits)
  | inr n ↦ kept k slot (sym (set_elsewhere slots place k new n) ∙ at)
]

kept_more : (w : Work) (slots : List Slot) → ((k : ℕ) (slot : Slot) → slice_get slots k ≡ Some slot → Fits w k slot)
    → (k : ℕ) (slot : Slot) → slice_get (slots ++ Idle ∷ []) k ≡ Some slot → Fits w k slot
kept_more w slots kept k slot at = elim (same_number k (length slots)) [
  | inl e ↦
      let here : slice_get (slots ++ Idle ∷ []) k ≡ Some Idle = ap (slice_get (slots ++ Idle ∷ [])) e ∙ push_end slots Idle in
      let same : Idle ≡ slot = let g : Some Idle ≡ Some slot = sym here ∙ at in cc in
      subst (λ (s : Slot). Fits w k s) same tt
  | inr n ↦ kept k slot (sym (push_before slots Idle k n) ∙ at)
]

module _ (w : Work) (sound : StaysSound w.tables w.first (log_of w) w.start) (follows : FollowsPhases w.first (log_of w)) where
  abbrev Good : List Slot → Stock → Locks → Type 0
  Good slots stock tree = IsScheduled w slots stock tree

  abbrev tree_at : List Phase → Locks
  tree_at ps = record { arena = w.arena; waiting = waiting w.first (log_of w) ps }

  tree_same : (ps qs : List Phase) → ps ≡ qs → tree_at ps ≡ tree_at qs
  tree_same ps qs e = ap tree_at e

  still_ready : {ps qs : List Phase} → qs ≡ ps → OutAreReady w.first (log_of w) ps → OutAreReady w.first (log_of w) qs
  still_ready e ready = subst (OutAreReady w.first (log_of w)) (sym e) ready

  pub admitted : (slots : List Slot) (stock : Stock) (tree new : Locks) (t : Transaction) (number : ℕ) → Good slots stock tree → slice_get (log_of w) (length slots) ≡ Some t → number ≡ w.first + length slots
      → new ≡ record tree { waiting = tree.waiting ++ record { no = number; plan = t.plan; marked = false } ∷ [] } → Good (slots ++ Idle ∷ []) stock new
  admitted slots stock tree new t number s at n is =
      let ps = map phase_in slots in
      let count : length ps ≡ length slots = length_map phase_in slots in
      let at_end : slice_get (log_of w) (length ps) ≡ Some t = ap (slice_get (log_of w)) count ∙ at in
      let less : length ps < length (log_of w) = slice_get_within (log_of w) (length ps) t at_end in
      let more : map phase_in (slots ++ Idle ∷ []) ≡ ps ++ phase.Idle ∷ [] = map_push phase_in slots Idle in
      let k : number ≡ w.first + length ps = n ∙ ap (λ c. w.first + c) (sym count) in
      record {
        tables = s.tables;
        sound = subst (λ (qs : List Phase). core.IsSound w.tables (log_of w) w.start qs stock.rows) (sym more) (sound.admits ps stock.rows s.sound less);
        ready = still_ready more (follows.stays_ready.admits ps t at_end s.ready);
        kept = kept_more w slots s.kept;
        tree_is =
            is ∙ ap (λ (l : Locks). record { arena = l.arena; waiting = l.waiting ++ record { no = number; plan = t.plan; marked = false } ∷ [] }) s.tree_is
            ∙ ap (λ (c : ℕ). record { arena = w.arena; waiting = waiting w.first (log_of w) ps ++ record { no = c; plan = t.plan; marked = false } ∷ [] }) k
            ∙ ap (λ (ws : List Waiting). record { arena = w.arena; waiting = ws }) (sym (follows.admits ps t at_end))
            ∙ tree_same (ps ++ phase.Idle ∷ []) (map phase_in (slots ++ Idle ∷ [])) (sym more);
        lent_is = λ i. s.lent_is i ∙ sym (lent_pushed w ps phase.Idle i refl) ∙ ap (λ (qs : List Phase). lent_to w qs i) (sym more);
      }

  pub lent : (slots : List Slot) (stock new : Stock) (tree later : Locks) (place : ℕ) (t : Transaction) (slot : Slot) → Good slots stock tree
      → slice_get slots place ≡ Some Idle → ready tree.waiting (w.first + place) ≡ true → slice_get (log_of w) place ≡ Some t
      → new.tables ≡ stock.tables → new.rows ≡ stock.rows → new.lent ≡ insert stock.lent (w.first + place) t.plan
      → later ≡ record tree { waiting = with_mark (w.first + place) true tree.waiting }
      → phase_in slot ≡ phase.Out → Fits w place slot → Good (slice_set slots place slot) new later
  lent slots stock new tree later place t slot s is r at tables rows lent_is later_is out fits =
      let ps = map phase_in slots in
      let idle : slice_get ps place ≡ Some phase.Idle = phase_at slots place Idle is in
      let set : map phase_in (slice_set slots place slot) ≡ slice_set ps place phase.Out = map_set phase_in slots place slot ∙ ap (slice_set ps place) out in
      let r2 : ready (waiting w.first (log_of w) ps) (w.first + place) ≡ true = sym (ap (λ (l : Locks). ready l.waiting (w.first + place)) s.tree_is) ∙ r in
      record {
        tables = tables ∙ s.tables;
        sound = subst (λ (qs : List Phase). core.IsSound w.tables (log_of w) w.start qs new.rows) (sym set)
            (subst (λ (d : Database). core.IsSound w.tables (log_of w) w.start (slice_set ps place phase.Out) d) (sym rows) (sound.lends ps stock.rows place s.sound idle r2));
        ready = still_ready set (follows.stays_ready.lends ps place idle r2 s.ready);
        kept = kept_set w slots place Idle slot s.kept is fits;
        tree_is =
            later_is ∙ ap (λ (l : Locks). record { arena = l.arena; waiting = with_mark (w.first + place) true l.waiting }) s.tree_is
            ∙ ap (λ (ws : List Waiting). record { arena = w.arena; waiting = ws }) (sym (follows.lends ps place idle))
            ∙ tree_same (slice_set ps place phase.Out) (map phase_in (slice_set slots place slot)) (sym set);
        lent_is = λ i.
            lent_changes w ps stock.lent new.lent place phase.Idle phase.Out s.lent_is idle (inserted stock.lent new.lent (w.first + place) t.plan lent_is ∙ sym (ap (λ o. plan_out o (Some phase.Out)) at))
            (not_inserted stock.lent new.lent (w.first + place) t.plan lent_is) i
            ∙ ap (λ (qs : List Phase). lent_to w qs i) (sym set);
      }

  -- a job is run: nothing changes but its slot
  pub ran : (slots : List Slot) (stock : Stock) (tree : Locks) (place : ℕ) (old slot : Slot) (t : Transaction) → Good slots stock tree
      → slice_get slots place ≡ Some old → phase_in old ≡ phase.Out → slice_get (log_of w) place ≡ Some t → phase_in slot ≡ phase.Ran → Fits w place slot → Good (slice_set slots place slot) stock tree
  ran slots stock tree place old slot t s is out at run fits =
      let ps = map phase_in slots in
      let was : slice_get ps place ≡ Some phase.Out = phase_at slots place old is ∙ ap (λ (p : Phase). Some p) out in
      let set : map phase_in (slice_set slots place slot) ≡ slice_set ps place phase.Ran = map_set phase_in slots place slot ∙ ap (slice_set ps place) run in
      record {
        tables = s.tables;
        sound = subst (λ (qs : List Phase). core.IsSound w.tables (log_of w) w.start qs stock.rows) (sym set) (sound.runs ps stock.rows place s.sound was);
        ready = still_ready set (follows.stays_ready.runs ps place was s.ready);
        kept = kept_set w slots place old slot s.kept is fits;
        tree_is =
            s.tree_is ∙ ap (λ (ws : List Waiting). record { arena = w.arena; waiting = ws }) (sym (follows.runs ps place was))
            ∙ tree_same (slice_set ps place phase.Ran) (map phase_in (slice_set slots place slot)) (sym set);
        lent_is = λ i.
            lent_changes w ps stock.lent stock.lent place phase.Out phase.Ran s.lent_is was
            (s.lent_is (w.first + place) ∙ lent_here w ps place t phase.Out at was refl ∙ sym (ap (λ o. plan_out o (Some phase.Ran)) at)) (λ j n. refl) i
            ∙ ap (λ (qs : List Phase). lent_to w qs i) (sym set);
      }

  -- the rows of a job that is given back are the store's
  pub taken_back : (slots : List Slot) (stock new : Stock) (tree later : Locks) (place : ℕ) (old : Slot) (t : Transaction) → Good slots stock tree
      → slice_get slots place ≡ Some old → is_out (Some (phase_in old)) ≡ true → slice_get (log_of w) place ≡ Some t
      → new.tables ≡ stock.tables → ((name : RowName) → get new.rows name ≡ get stock.rows name) → new.lent ≡ remove stock.lent (w.first + place)
      → later ≡ record tree { waiting = with_mark (w.first + place) false tree.waiting } → Good (slice_set slots place Idle) new later
  taken_back slots stock new tree later place old t s is out at tables rows lent_is later_is =
      let ps = map phase_in slots in
      let was : slice_get ps place ≡ Some (phase_in old) = phase_at slots place old is in
      let is_out_there : is_out (slice_get ps place) ≡ true = ap (λ (o : Option Phase). is_out o) was ∙ out in
      let set : map phase_in (slice_set slots place Idle) ≡ slice_set ps place phase.Idle = map_set phase_in slots place Idle in
      record {
        tables = tables ∙ s.tables;
        sound = subst (λ (qs : List Phase). core.IsSound w.tables (log_of w) w.start qs new.rows) (sym set)
            (sound.same_rows (slice_set ps place phase.Idle) stock.rows new.rows (sound.takes_back ps stock.rows place s.sound is_out_there) rows);
        ready = still_ready set (follows.stays_ready.takes_back ps place is_out_there s.ready);
        kept = kept_set w slots place old Idle s.kept is tt;
        tree_is =
            later_is ∙ ap (λ (l : Locks). record { arena = l.arena; waiting = with_mark (w.first + place) false l.waiting }) s.tree_is
            ∙ ap (λ (ws : List Waiting). record { arena = w.arena; waiting = ws }) (sym (follows.takes_back ps place is_out_there))
            ∙ tree_same (slice_set ps place phase.Idle) (map phase_in (slice_set slots place Idle)) (sym set);
        lent_is = λ i.
            lent_changes w ps stock.lent new.lent place (phase_in old) phase.Idle s.lent_is was
            (removed stock.lent new.lent (w.first + place) lent_is ∙ sym (ap (λ o. plan_out o (Some phase.Idle)) at)) (not_removed stock.lent new.lent (w.first + place) lent_is) i
            ∙ ap (λ (qs : List Phase). lent_to w qs i) (sym set);
      }

  pub settled : (slots : List Slot) (stock new : Stock) (tree later : Locks) (place : ℕ) (old : Slot) (job : JobOf) (outcome : Outcome) → Good slots stock tree
      → slice_get slots place ≡ Some old → is_out (Some (phase_in old)) ≡ true → IsRunAt w place job outcome
      → new.tables ≡ stock.tables → ((name : RowName) → get new.rows name ≡ (if locks_row job.loan.tables job.loan.plan name Write then get job.loan.rows name else get stock.rows name))
      → new.lent ≡ remove stock.lent (w.first + place) → later ≡ record tree { waiting = without (w.first + place) tree.waiting }
      → Good (slice_set slots place (Settled outcome)) new later
  settled slots stock new tree later place old job outcome s is out run tables rows lent_is later_is =
      let ps = map phase_in slots in
      let t = transaction_of job in
      let at : slice_get (log_of w) place ≡ Some t = run.job_at.transaction in
      let was : slice_get ps place ≡ Some (phase_in old) = phase_at slots place old is in
      let is_out_there : is_out (slice_get ps place) ≡ true = ap (λ (o : Option Phase). is_out o) was ∙ out in
      let set : map phase_in (slice_set slots place (Settled outcome)) ≡ slice_set ps place phase.Settled = map_set phase_in slots place (Settled outcome) in
      let over : (name : RowName) → locks_row job.loan.tables job.loan.plan name Write ≡ locks_row w.tables t.plan name Write = λ name. ap (λ ts. locks_row ts job.loan.plan name Write) run.job_at.tables in
      record {
        tables = tables ∙ s.tables;
        sound = subst (λ (qs : List Phase). core.IsSound w.tables (log_of w) w.start qs new.rows) (sym set)
            (sound.settles ps stock.rows new.rows place t (as_reply outcome) job.loan.rows s.sound is_out_there at run.run
            (λ name locked. rows name ∙ ap (λ (b : Bool). if b then get job.loan.rows name else get stock.rows name) (over name ∙ locked))
            (λ name free. rows name ∙ ap (λ (b : Bool). if b then get job.loan.rows name else get stock.rows name) (over name ∙ free)));
        ready = still_ready set (follows.stays_ready.settles ps place is_out_there s.ready);
        kept = kept_set w slots place old (Settled outcome) s.kept is run.run.replied;
        tree_is =
            later_is ∙ ap (λ (l : Locks). record { arena = l.arena; waiting = without (w.first + place) l.waiting }) s.tree_is
            ∙ ap (λ (ws : List Waiting). record { arena = w.arena; waiting = ws }) (sym (follows.settles ps place is_out_there))
            ∙ tree_same (slice_set ps place phase.Settled) (map phase_in (slice_set slots place (Settled outcome))) (sym set);
        lent_is = λ i.
            lent_changes w ps stock.lent new.lent place (phase_in old) phase.Settled s.lent_is was
            (removed stock.lent new.lent (w.first + place) lent_is ∙ sym (ap (λ o. plan_out o (Some phase.Settled)) at)) (not_removed stock.lent new.lent (w.first + place) lent_is) i
            ∙ ap (λ (qs : List Phase). lent_to w qs i) (sym set);
      }

  -- a slot that stands for the same
  pub same_phase : (slots : List Slot) (stock : Stock) (tree : Locks) (place : ℕ) (old slot : Slot) → Good slots stock tree
      → slice_get slots place ≡ Some old → phase_in slot ≡ phase_in old → Fits w place slot → Good (slice_set slots place slot) stock tree
  same_phase slots stock tree place old slot s is e fits =
      let ps = map phase_in slots in
      let set : map phase_in (slice_set slots place slot) ≡ ps = map_set phase_in slots place slot ∙ ap (slice_set ps place) e ∙ set_back ps place (phase_in old) (phase_at slots place old is) in
      record {
        tables = s.tables;
        sound = subst (λ (qs : List Phase). core.IsSound w.tables (log_of w) w.start qs stock.rows) (sym set) s.sound;
        ready = still_ready set s.ready;
        kept = kept_set w slots place old slot s.kept is fits;
        tree_is = s.tree_is ∙ tree_same ps (map phase_in (slice_set slots place slot)) (sym set);
        lent_is = λ i. s.lent_is i ∙ ap (λ (qs : List Phase). lent_to w qs i) (sym set);
      }
