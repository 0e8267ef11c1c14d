-- The next transaction run at once, where it is ready as soon as it is admitted.
use Rattle.std.proofs.Common.{◌≡◌, ◌<◌, ◌≤◌, ◌+◌, ◌++◌, ◌&&◌, ℕ, zero, suc, nat_lt, Bool, true, false, List, [], ◌∷◌, length, map, Some, None, slice_get, slice_set, refl, sym, ap, ◌∙◌, subst, arith, inl, inr, if◌then◌else◌}
use Rattle.std.proofs.lemmas.Bool.Decides.{nat_tests}
use Rattle.std.proofs.lemmas.Option.{slice_get_within}
use Rattle.std.specs.List.{list_all}
use Rattle.std.specs.FinMap.{get}
use Rattle.values.specs.declared.name.RowName.{RowName}
use Rattle.values.specs.Database.{Database}
use Rattle.proclang_types.specs.declared.right.Right.TheVariants.{Read, Write}
use Rattle.coarsen.specs.Subtrees.{Requests}
use Rattle.coarsen.specs.Plans.{IsWellFormed}
use Rattle.coarsen.specs.Clashes.{locks_row, ModesClash}
use Rattle.coarsen.specs.Laws.{ClashEitherWay}
use Rattle.lock_tree.specs.Locks.{Locks, Waiting}
use Rattle.lock_tree.specs.Ready.{ready}
use Rattle.lock_tree.specs.Laws.{FirstReady}
use Rattle.meaning.specs.declared.outcome.Outcome.{Outcome}
use Rattle.meaning.specs.Entries.{EntryShape, Reply, meaning}
use Rattle.meaning.specs.Frame.{Agree, StaysInFootprint, touches}
use Rattle.meaning.specs.Outcomes.{as_reply}
use Rattle.row_store.specs.Laws.{FreeWhereApart}
use Rattle.row_store.specs.Stock.{Stock, is_free}
use Rattle.scheduler_core.specs.declared.event.Event.TheVariants as event
use Rattle.scheduler_core.specs.declared.phase.Phase.{Phase}
use Rattle.scheduler_core.specs.declared.phase.Phase.TheVariants as phase
use Rattle.scheduler_core.specs.Transactions.{Transaction}
use Rattle.scheduler_core.specs.Phases.{is_idle, is_out, is_settled, phase_of}
use Rattle.scheduler_core.specs.Events.{waiting}
use Rattle.scheduler_core.specs.Sound as core
use Rattle.scheduler_core.specs.Laws.{StaysSound, FollowsPhases, RunOnShownRows}
use Rattle.scheduler.specs.declared.slot.Slot.{Slot}
use Rattle.scheduler.specs.declared.slot.Slot.TheVariants.{Idle, Lent, Settled}
use Rattle.interp.specs.Entries.{EntryParts, entry_shape}
use Rattle.scheduler.specs.Logs.{transactions_of}
use Rattle.scheduler.specs.Schedules.{Work, Schedule, log_of, phases_of, phase_in}
use Rattle.scheduler.specs.Moments.{can_make, with_next, is_between, is_next_ready}
use Rattle.scheduler.specs.Scheduled.{Fits, lent_to, IsFitting, IsScheduled, AreSettledBefore}
use Rattle.scheduler.proofs.Places.{push_end, push_before, map_push, length_map}
use Rattle.scheduler.proofs.Numbers.{same_number, at_place, who, lent_pushed, log_length}
use Rattle.scheduler.proofs.Ends.{settled_one, all_where, both}

-- ---- phases that are all settled

abbrev pub all_settled : List Phase → Bool
all_settled ps = list_all settled_one ps

-- then nobody waits
none_waits : (first : ℕ) (log : List Transaction) (ps : List Phase) → all_settled ps ≡ true → waiting first log ps ≡ []
none_waits first [] ps all = refl
none_waits first (t ∷ log) [] all = refl
none_waits first (t ∷ log) (p ∷ ps) all = let b = both (settled_one p) (all_settled ps) all in rw b.0 (none_waits (suc first) log ps b.1)

out_within : (ps : List Phase) (place : ℕ) → is_out (slice_get ps place) ≡ true → place < length ps
out_within [] place out = absurd (let g : false ≡ true = out in cc)
out_within (p ∷ ps) zero out = omega arith
out_within (p ∷ ps) (suc place) out = let l = out_within ps place out in omega (arith, l)

-- what is settled stands in nobody's way
waits_none : (first : ℕ) (log : List Transaction) → waiting first log [] ≡ []
waits_none first [] = refl
waits_none first (t ∷ log) = refl

waits_same : (first : ℕ) (log : List Transaction) (ps : List Phase) → waiting first log (ps ++ phase.Settled ∷ []) ≡ waiting first log ps
waits_same first [] ps = refl
waits_same first (t ∷ log) [] = waits_none (suc first) log
waits_same first (t ∷ log) (p ∷ ps) =
    elim (is_settled (Some p)) as (λ b. (if b then waiting (suc first) log (ps ++ phase.Settled ∷ []) else record { no = first; plan = t.plan; marked = is_out (Some p) } ∷ waiting (suc first) log (ps ++ phase.Settled ∷ []))
    ≡ (if b then waiting (suc first) log ps else record { no = first; plan = t.plan; marked = is_out (Some p) } ∷ waiting (suc first) log ps)) [
      | true ↦ waits_same (suc first) log ps
      | false ↦ ap (λ (ws : List Waiting). record { no = first; plan = t.plan; marked = is_out (Some p) } ∷ ws) (waits_same (suc first) log ps)
    ]

-- what is out, with one more at the end that isn't
still_out : (ps : List Phase) (p : Phase) (place : ℕ) → is_out (Some p) ≡ false → is_out (slice_get (ps ++ p ∷ []) place) ≡ true → is_out (slice_get ps place) ≡ true
still_out ps p place here out = elim (same_number place (length ps)) [
  | inl e ↦ absurd (let g : false ≡ true = sym here ∙ sym (ap is_out (ap (slice_get (ps ++ p ∷ [])) e ∙ push_end ps p)) ∙ out in cc)
  | inr n ↦ sym (ap is_out (push_before ps p place n)) ∙ out
]

out_more : (ps : List Phase) (p : Phase) (place : ℕ) → is_out (slice_get ps place) ≡ true → is_out (slice_get (ps ++ p ∷ []) place) ≡ true
out_more ps p place out = ap is_out (push_before ps p place (λ e. let l = out_within ps place out in absurd (omega (arith, e, l)))) ∙ out

-- one phase at the end, set and set again
set_end : (ps : List Phase) (p q r : Phase) → slice_set (slice_set (ps ++ p ∷ []) (length ps) q) (length ps) r ≡ ps ++ r ∷ []
set_end [] p q r = refl
set_end (x ∷ ps) p q r = ap (λ ys. x ∷ ys) (set_end ps p q r)

end_set : (ps : List Phase) (p q : Phase) → slice_get (slice_set (ps ++ p ∷ []) (length ps) q) (length ps) ≡ Some q
end_set [] p q = refl
end_set (x ∷ ps) p q = end_set ps p q

-- ---- slots

kept_settled : (w : Work) (slots : List Slot) (outcome : Outcome) → ((k : ℕ) (slot : Slot) → slice_get slots k ≡ Some slot → Fits w k slot) → Fits w (length slots) (Settled outcome)
    → (k : ℕ) (slot : Slot) → slice_get (slots ++ Settled outcome ∷ []) k ≡ Some slot → Fits w k slot
kept_settled w slots outcome kept fits k slot at = elim (same_number k (length slots)) [
  | inl e ↦
      let here : slice_get (slots ++ Settled outcome ∷ []) k ≡ Some (Settled outcome) = ap (slice_get (slots ++ Settled outcome ∷ [])) e ∙ push_end slots (Settled outcome) in
      let same : Settled outcome ≡ slot = let g : Some (Settled outcome) ≡ Some slot = sym here ∙ at in cc in
      subst (λ (s : Slot). Fits w k s) same (subst (λ (n : ℕ). Fits w n (Settled outcome)) (sym e) fits)
  | inr n ↦ kept k slot (sym (push_before slots (Settled outcome) k n) ∙ at)
]

-- whether a right is taken, where it isn't lacking
not_false : (b : Bool) → (b ≡ false → ⊥) → b ≡ true
not_false true h = refl
not_false false h = absurd (h refl)

not_true : (b : Bool) → (b ≡ true → ⊥) → b ≡ false
not_true true h = absurd (h refl)
not_true false h = refl

-- ---- whether all that are admitted are settled

pub all_leading : (slots : List Slot) (n : ℕ) → AreSettledBefore slots n → length slots ≤ n → all_settled (map phase_in slots) ≡ true
all_leading slots n s enough = all_where (map phase_in slots) (λ i less. s.before i (let count : length (map phase_in slots) ≡ length slots = length_map phase_in slots in omega (arith, less, count, enough)))

-- then nothing waits in the lock tree
pub none_waiting : (w : Work) (slots : List Slot) (stock : Stock) (tree : Locks) → IsScheduled w slots stock tree → (n : ℕ) → AreSettledBefore slots n → length slots ≤ n → tree.waiting ≡ []
none_waiting w slots stock tree s n leading enough =
    ap (λ (l : Locks). l.waiting) s.tree_is ∙ none_waits w.first (log_of w) (map phase_in slots) (all_leading slots n leading enough)

pub none_more : (s : Schedule) → length s.work.entries ≤ length s.slots → is_next_ready s ≡ false
none_more s past =
    let e : nat_lt (length s.slots) (length s.work.entries) ≡ false = grind (arith, nat_tests) in
    ap (λ b. b && can_make (with_next s) (event.Lend (s.work.first + length s.slots))) e

pub one_more : (s : Schedule) → length s.slots < length s.work.entries → is_next_ready s ≡ can_make (with_next s) (event.Lend (s.work.first + length s.slots))
one_more s less =
    let e : nat_lt (length s.slots) (length s.work.entries) ≡ true = grind (arith, nat_tests) in
    ap (λ b. b && can_make (with_next s) (event.Lend (s.work.first + length s.slots))) e

-- so there is one
pub there_is : (s : Schedule) → is_next_ready s ≡ true → length s.slots < length s.work.entries
there_is s is =
    let e : nat_lt (length s.slots) (length s.work.entries) ≡ true = (both (nat_lt (length s.slots) (length s.work.entries)) (can_make (with_next s) (event.Lend (s.work.first + length s.slots))) is).0 in
    grind (arith, nat_tests)

pub between_parts : (s : Schedule) → is_between s ≡ true → (all_settled (phases_of s) ≡ true) × (length s.slots < length s.work.entries)
between_parts s is =
    let p = both (all_settled (phases_of s)) (nat_lt (length s.slots) (length s.work.entries)) is in
    let e : nat_lt (length s.slots) (length s.work.entries) ≡ true = p.1 in
    (p.0, grind (arith, nat_tests))

-- one more that is settled
length_pushed : (slots : List Slot) (slot : Slot) → length (slots ++ slot ∷ []) ≡ length slots + 1
length_pushed [] slot = refl
length_pushed (x ∷ slots) slot = let e = length_pushed slots slot in omega (arith, e)

-- those that lead stay settled where one more stands at the end
module _ (slots : List Slot) (outcome : Outcome) (n : ℕ) (s : AreSettledBefore slots n) where
  pub still_lead : (k : ℕ) → k < n → is_settled (slice_get (map phase_in (slots ++ Settled outcome ∷ [])) k) ≡ true
  still_lead k less =
      let count : length (map phase_in slots) ≡ length slots = length_map phase_in slots in
      let within : n ≤ length slots = s.within in
      ap (λ (ps : List Phase). is_settled (slice_get ps k)) (map_push phase_in slots (Settled outcome))
      ∙ ap is_settled (push_before (map phase_in slots) phase.Settled k (λ e. absurd (omega (arith, e, less, count, within)))) ∙ s.before k less

  pub lead_within : n ≤ length (slots ++ Settled outcome ∷ [])
  lead_within = let long : length (slots ++ Settled outcome ∷ []) ≡ length slots + 1 = length_pushed slots (Settled outcome) in let within : n ≤ length slots = s.within in omega (arith, long, within)

-- no job is with the caller
pub keeps_on : (slots : List Slot) (outcome : Outcome) → ((k : ℕ) → slice_get slots k ≡ Some Lent → ⊥) → (k : ℕ) → slice_get (slots ++ Settled outcome ∷ []) k ≡ Some Lent → ⊥
keeps_on slots outcome keeps k lent = elim (same_number k (length slots)) [
  | inl e ↦ let g : Some (Settled outcome) ≡ Some Lent = sym (ap (slice_get (slots ++ Settled outcome ∷ [])) e ∙ push_end slots (Settled outcome)) ∙ lent in cc
  | inr n ↦ keeps k (sym (push_before slots (Settled outcome) k n) ∙ lent)
]

-- the transaction of an entry
pub entry_there : (entries : List EntryParts) (plans : List Requests) (place : ℕ) (e : EntryParts) → length plans ≡ length entries → slice_get entries place ≡ Some e
    → (plan : Requests) × (slice_get (transactions_of entries plans) place ≡ Some (record { entry = entry_shape e; plan = plan }))
entry_there [] plans place e same is = absurd (let g : None ≡ Some e = is in cc)
entry_there (x ∷ entries) [] place e same is = absurd (omega (arith, same))
entry_there (x ∷ entries) (p ∷ plans) zero e same is = (p, let g : x ≡ e = cc in rw g refl)
entry_there (x ∷ entries) (p ∷ plans) (suc place) e same is = entry_there entries plans place e (omega (arith, same)) is

-- whether the next one would be ready, by what waits
pub lend_is : (w : Work) (slots : List Slot) → can_make (with_next (record { work = w; slots = slots })) (event.Lend (w.first + length slots))
    ≡ ready (waiting w.first (log_of w) (map phase_in slots ++ phase.Idle ∷ [])) (w.first + length slots)
lend_is w slots =
    let more : map phase_in (slots ++ Idle ∷ []) ≡ map phase_in slots ++ phase.Idle ∷ [] = map_push phase_in slots Idle in
    let count : length (map phase_in slots) ≡ length slots = length_map phase_in slots in
    let here : is_idle (phase_of w.first (map phase_in slots ++ phase.Idle ∷ []) (w.first + length slots)) ≡ true =
    ap is_idle (at_place w.first (map phase_in slots ++ phase.Idle ∷ []) (length slots) ∙ ap (slice_get (map phase_in slots ++ phase.Idle ∷ [])) (sym count) ∙ push_end (map phase_in slots) phase.Idle) in
    ap (λ (ps : List Phase). is_idle (phase_of w.first ps (w.first + length slots)) && ready (waiting w.first (log_of w) ps) (w.first + length slots)) more
    ∙ ap (λ b. b && ready (waiting w.first (log_of w) (map phase_in slots ++ phase.Idle ∷ [])) (w.first + length slots)) here

-- where all that are admitted are settled, it would be
pub ready_alone : (w : Work) → FollowsPhases w.first (log_of w) → FirstReady → (slots : List Slot) (t : Transaction) → slice_get (log_of w) (length slots) ≡ Some t → all_settled (map phase_in slots) ≡ true
    → ready (waiting w.first (log_of w) (map phase_in slots ++ phase.Idle ∷ [])) (w.first + length slots) ≡ true
ready_alone w follows first slots t at all =
    let ps = map phase_in slots in
    let count : length ps ≡ length slots = length_map phase_in slots in
    let alone : waiting w.first (log_of w) (ps ++ phase.Idle ∷ []) ≡ record { no = w.first + length ps; plan = t.plan; marked = false } ∷ [] =
    follows.admits ps t (ap (slice_get (log_of w)) count ∙ at) ∙ ap (λ (ws : List Waiting). ws ++ record { no = w.first + length ps; plan = t.plan; marked = false } ∷ []) (none_waits w.first (log_of w) ps all) in
    ap (λ (n : ℕ). ready (waiting w.first (log_of w) (ps ++ phase.Idle ∷ [])) (w.first + n)) (sym count)
    ∙ ap (λ (ws : List Waiting). ready ws (w.first + length ps)) alone ∙ first (record { no = w.first + length ps; plan = t.plan; marked = false }) []

module _ (w : Work) (sound : StaysSound w.tables w.first (log_of w) w.start) (follows : FollowsPhases w.first (log_of w)) (shown : RunOnShownRows)
    (frame : (entry : EntryShape) (one two : Database) → Agree entry one two → StaysInFootprint entry one two) (turn : ClashEitherWay) (free : FreeWhereApart) (fits : IsFitting w)
    (slots : List Slot) (stock : Stock) (tree : Locks) (s : IsScheduled w slots stock tree)
    (joins : ready (waiting w.first (log_of w) (map phase_in slots ++ phase.Idle ∷ [])) (w.first + length slots) ≡ true) where
  abbrev ps : List Phase
  ps = map phase_in slots

  count : length ps ≡ length slots
  count = length_map phase_in slots

  is_ready : ready (waiting w.first (log_of w) (ps ++ phase.Idle ∷ [])) (w.first + length ps) ≡ true
  is_ready = ap (λ (n : ℕ). ready (waiting w.first (log_of w) (ps ++ phase.Idle ∷ [])) (w.first + n)) count ∙ joins

  idle_at : slice_get (ps ++ phase.Idle ∷ []) (length ps) ≡ Some phase.Idle
  idle_at = push_end ps phase.Idle

  module _ (t : Transaction) (at : slice_get (log_of w) (length ps) ≡ Some t) where
    less : length ps < length (log_of w)
    less = slice_get_within (log_of w) (length ps) t at

    admitted : core.IsSound w.tables (log_of w) w.start (ps ++ phase.Idle ∷ []) stock.rows
    admitted = sound.admits ps stock.rows s.sound less

    -- a plan that is lent is well formed, and in no conflict with the next one
    apart : (number : ℕ) (other : Requests) → get stock.lent number ≡ Some other → IsWellFormed other × (ModesClash other t.plan → ⊥)
    apart number other is =
        let u = who w ps number other (sym (s.lent_is number) ∙ is) in (
          subst IsWellFormed (sym u.4) (fits.planned u.0 u.1 u.2).sound,
          λ conflict.
              sound.lends_apart (ps ++ phase.Idle ∷ []) stock.rows (length ps) u.0 t u.1 admitted idle_at is_ready (out_more ps phase.Idle u.0 u.3) at u.2
              (turn.requests u.1.plan t.plan (subst (λ q. ModesClash q t.plan) u.4 conflict)),
        )

    -- so what it may read is free
    pub all_free : (name : RowName) → touches t.entry name Read ≡ true → is_free stock.tables stock.lent name ≡ true
    all_free name touched =
        free stock.tables stock.lent t.plan (fits.planned (length ps) t at).sound apart name
        (ap (λ ts. locks_row ts t.plan name Read) s.tables ∙ (fits.planned (length ps) t at).locks name Read touched)

  module _ (t : Transaction) (at : slice_get (log_of w) (length ps) ≡ Some t) (new : Database) (reply : Reply) (ran : meaning t.entry stock.rows ≡ (reply, new)) where
    rows_after : (meaning t.entry stock.rows).1 ≡ new
    rows_after = ap (λ (r : Reply × Database). r.1) ran

    -- a row name that the plan doesn't lock to write keeps its row
    others : (name : RowName) → locks_row w.tables t.plan name Write ≡ false → get new name ≡ get stock.rows name
    others name free =
        let untouched : touches t.entry name Write ≡ false = not_true (touches t.entry name Write) (λ e. let g : true ≡ false = sym ((fits.planned (length ps) t at).locks name Write e) ∙ free in cc) in
        ap (λ (db : Database). get db name) (sym rows_after) ∙ (frame t.entry stock.rows stock.rows (λ q e. refl)).others name untouched

    lent : core.IsSound w.tables (log_of w) w.start (slice_set (ps ++ phase.Idle ∷ []) (length ps) phase.Out) stock.rows
    lent = sound.lends (ps ++ phase.Idle ∷ []) stock.rows (length ps) (admitted t at) idle_at is_ready

    shows : core.IsLent w.tables (log_of w) w.start (length ps) stock.rows
    shows = sound.lent_rows (ps ++ phase.Idle ∷ []) stock.rows (length ps) t stock.rows (admitted t at) idle_at is_ready at (λ name e. refl)

    run_of : core.IsRunOf w.tables t stock.rows reply new
    run_of = subst (λ (r : Reply). core.IsRunOf w.tables t stock.rows r new) (ap (λ (r : Reply × Database). r.0) ran)
        (shown w.tables t stock.rows new (fits.planned (length ps) t at) (λ name e. ap (λ (db : Database). get db name) (sym rows_after)))

    is_run : core.IsRun w.tables (log_of w) w.start (length ps) reply new
    is_run = sound.run_rows (length ps) t stock.rows reply new at shows run_of

    settled : core.IsSound w.tables (log_of w) w.start (ps ++ phase.Settled ∷ []) new
    settled = subst (λ (qs : List Phase). core.IsSound w.tables (log_of w) w.start qs new) (set_end ps phase.Idle phase.Out phase.Settled)
        (sound.settles (slice_set (ps ++ phase.Idle ∷ []) (length ps) phase.Out) stock.rows new (length ps) t reply new lent
        (ap is_out (end_set ps phase.Idle phase.Out)) at is_run (λ name e. refl) others)

  -- what the scheduler keeps to stays so
  pub goes_straight : (t : Transaction) (later : Stock) (outcome : Outcome) → slice_get (log_of w) (length slots) ≡ Some t → meaning t.entry stock.rows ≡ (as_reply outcome, later.rows)
      → later.tables ≡ stock.tables → later.lent ≡ stock.lent → IsScheduled w (slots ++ Settled outcome ∷ []) later tree
  goes_straight t later outcome at ran tables unlent =
      let here : slice_get (log_of w) (length ps) ≡ Some t = ap (slice_get (log_of w)) count ∙ at in
      let more : map phase_in (slots ++ Settled outcome ∷ []) ≡ ps ++ phase.Settled ∷ [] = map_push phase_in slots (Settled outcome) in
      let waits : waiting w.first (log_of w) (map phase_in (slots ++ Settled outcome ∷ [])) ≡ waiting w.first (log_of w) ps = ap (waiting w.first (log_of w)) more ∙ waits_same w.first (log_of w) ps in
      record {
        tables = tables ∙ s.tables;
        sound = subst (λ (qs : List Phase). core.IsSound w.tables (log_of w) w.start qs later.rows) (sym more) (settled t here later.rows (as_reply outcome) ran);
        ready = λ place out.
            ap (λ (ws : List Waiting). ready ws (w.first + place)) waits
            ∙ s.ready place (still_out ps phase.Settled place refl (sym (ap (λ (qs : List Phase). is_out (slice_get qs place)) more) ∙ out));
        kept = kept_settled w slots outcome s.kept (subst (λ (n : ℕ). Fits w n (Settled outcome)) count (is_run t here later.rows (as_reply outcome) ran).replied);
        tree_is = s.tree_is ∙ ap (λ (ws : List Waiting). record { arena = w.arena; waiting = ws }) (sym waits);
        lent_is = λ number. ap (λ m. get m number) unlent ∙ s.lent_is number ∙ sym (lent_pushed w ps phase.Settled number refl) ∙ ap (λ (qs : List Phase). lent_to w qs number) (sym more);
      }

some_transaction : (log : List Transaction) (n : ℕ) → n < length log → (t : Transaction) × (slice_get log n ≡ Some t)
some_transaction [] n less = absurd (omega (arith, less))
some_transaction (t ∷ log) zero less = (t, refl)
some_transaction (t ∷ log) (suc n) less = some_transaction log n (omega (arith, less))

pub transaction_at : (w : Work) → IsFitting w → (n : ℕ) → n < length w.entries → (t : Transaction) × (slice_get (log_of w) n ≡ Some t)
transaction_at w fits n less = some_transaction (log_of w) n (let e = log_length w.entries w.plans fits.plans in omega (arith, e, less))

-- what the lock tree says of the next one
pub joins_as : (w : Work) → FollowsPhases w.first (log_of w) → (slots : List Slot) (stock : Stock) (tree : Locks) → IsScheduled w slots stock tree → (t : Transaction) (plan : Requests)
    → slice_get (log_of w) (length slots) ≡ Some t → t.plan ≡ plan
    → ready (tree.waiting ++ record { no = w.first + length slots; plan = plan; marked = false } ∷ []) (w.first + length slots)
    ≡ ready (waiting w.first (log_of w) (map phase_in slots ++ phase.Idle ∷ [])) (w.first + length slots)
joins_as w follows slots stock tree s t plan at of_plan =
    let ps = map phase_in slots in
    let n = w.first + length slots in
    let count : length ps ≡ length slots = length_map phase_in slots in
    let admits = follows.admits ps t (ap (slice_get (log_of w)) count ∙ at) in
    ap (λ (l : Locks). ready (l.waiting ++ record { no = n; plan = plan; marked = false } ∷ []) n) s.tree_is
    ∙ ap (λ (p : Requests). ready (waiting w.first (log_of w) ps ++ record { no = n; plan = p; marked = false } ∷ []) n) (sym of_plan)
    ∙ ap (λ (k : ℕ). ready (waiting w.first (log_of w) ps ++ record { no = w.first + k; plan = t.plan; marked = false } ∷ []) n) (sym count)
    ∙ ap (λ (ws : List Waiting). ready ws n) (sym admits)

-- between two transactions the next one is ready
pub between_is : (w : Work) → FollowsPhases w.first (log_of w) → FirstReady → IsFitting w → (slots : List Slot)
    → is_between (record { work = w; slots = slots }) ≡ true → is_next_ready (record { work = w; slots = slots }) ≡ true
between_is w follows first fits slots is =
    let p = between_parts (record { work = w; slots = slots }) is in
    let t = transaction_at w fits (length slots) p.1 in
    one_more (record { work = w; slots = slots }) p.1 ∙ lend_is w slots ∙ ready_alone w follows first slots t.0 t.1 p.0
