-- What a run leaves on the names that its loan's plan locks.
use Rattle.std.proofs.Common.{◌≡◌, ℕ, Bool, true, false, cond, List, [], ◌∷◌, refl, sym, ap, ◌∙◌, Option, Some, None, IsSome}
use Rattle.std.specs.Map.{lookup}
use Rattle.std.specs.BTreeMap.{is_at}
use Rattle.std.specs.FinMap.{get, get-insert, get-remove}
use Rattle.std.specs.Cmp.{IsTotalOrder}
use Rattle.std.specs.Ordering.{eq_by_cmp}
use Rattle.values.specs.declared.name.RowName.{RowName}
use Rattle.catalogue.specs.Shapes.{TableShape}
use Rattle.coarsen.specs.Subtrees.{Requests}
use Rattle.values.specs.Database.{Database, RowOf, name_cmp}
use Rattle.proclang_types.specs.declared.right.Right.TheVariants.{Read, Write}
use Rattle.coarsen.specs.Clashes.{locks_row}
use Rattle.meaning.specs.declared.outcome.Outcome.{Outcome}
use Rattle.meaning.specs.Entries.{Reply, meaning}
use Rattle.meaning.specs.Frame.{touches, Agree}
use Rattle.meaning.specs.Outcomes.{as_reply}
use Rattle.workspace.specs.Overlay.{with_write, applied}
use Rattle.interp.specs.Entries.{EntryParts, entry_shape}
use Rattle.interp.specs.Touched.{ShowsTouched, OnlyTouched}
use Rattle.scheduler_core.specs.Transactions.{AgreeOnLocked}
use Rattle.scheduler_core.specs.Sound.{IsRunOf}
use Rattle.row_store.specs.Stock.{Lent}
use Rattle.scheduler.specs.JobRuns.{JobOf, LocksTouched, transaction_of}
use Rattle.values.specs.contracts.name.RowNameOrd.TheImpl.Laws as laws

names_total : IsTotalOrder name_cmp
names_total = laws.lawful.total

-- the same writes leave the same row where the same row was
after_write : (a b : Database) (name : RowName) (write : Option RowOf) (q : RowName) → get a q ≡ get b q → get (with_write a (name, write)) q ≡ get (with_write b (name, write)) q
after_write a b name None q h = get-remove names_total a name q ∙ ap (cond (eq_by_cmp name_cmp q name) None) h ∙ sym (get-remove names_total b name q)
after_write a b name (Some row) q h = get-insert names_total a name row q ∙ ap (cond (eq_by_cmp name_cmp q name) (Some row)) h ∙ sym (get-insert names_total b name row q)

after_writes : (ws : List (RowName × Option RowOf)) (a b : Database) (q : RowName) → get a q ≡ get b q → get (applied ws a) q ≡ get (applied ws b) q
after_writes [] a b q h = h
after_writes (w ∷ ws) a b q h = after_write (applied ws a) (applied ws b) w.0 w.1 q (after_writes ws a b q h)

touched : (b : Bool) (o : Option (Option RowOf)) → (b ≡ false → o ≡ None) → IsSome o → b ≡ true
touched true o h i = refl
touched false None h i = absurd (cc)
touched false (Some x) h i = let g : Some x ≡ None = h refl in cc

-- each write is of a name that the plan locks to write
pub writes_locked : (job : JobOf) (ws : List (RowName × Option RowOf)) → LocksTouched job.entry job.loan → OnlyTouched (entry_shape job.entry) ws
    → (name : RowName) → IsSome (lookup (is_at (name_cmp name)) ws) → locks_row job.loan.tables job.loan.plan name Write ≡ true
writes_locked job ws locks only name there = locks name Write (touched (touches (entry_shape job.entry) name Write) (lookup (is_at (name_cmp name)) ws) (only.others name) there)

-- the loan shows each name that the entry may read
pub shows_touched : (job : JobOf) → LocksTouched job.entry job.loan → ShowsTouched (entry_shape job.entry) (λ name. locks_row job.loan.tables job.loan.plan name Read)
shows_touched job locks = record { shown = λ name e. locks name Read e }

pub is_run : (job : JobOf) (outcome : Outcome) (ws : List (RowName × Option RowOf)) (left : Database) → LocksTouched job.entry job.loan
    → ((db : Database) → Agree (entry_shape job.entry) job.loan.rows db → meaning (entry_shape job.entry) db ≡ (as_reply outcome, applied ws db))
    → left ≡ applied ws job.loan.rows → IsRunOf job.loan.tables (transaction_of job) job.loan.rows (as_reply outcome) left
is_run job outcome ws left locks ran e =
    let agree : (db : Database) → AgreeOnLocked job.loan.tables job.loan.plan job.loan.rows db → Agree (entry_shape job.entry) job.loan.rows db = λ db h name t. sym (h name (locks name Read t)) in
    record {
      replies = λ db h. ap (λ (r : Reply × Database). r.0) (ran db (agree db h));
      leaves = λ db h name locked.
          ap (λ (d : Database). get d name) e
          ∙ after_writes ws job.loan.rows db name (h name locked)
          ∙ sym (ap (λ (r : Reply × Database). get r.1 name) (ran db (agree db h)));
    }

-- a job whose loan has other rows
pub with_rows_left : (number : ℕ) (entry : EntryParts) (old new : Lent) → new.tables ≡ old.tables → new.plan ≡ old.plan
    → ◌≡◌ {A = JobOf} (record { no = number; entry = entry; loan = new }) (record { no = number; entry = entry; loan = record { tables = old.tables; plan = old.plan; rows = new.rows } })
with_rows_left number entry old new t p =
    ap (λ (x : List TableShape × Requests). record { no = number; entry = entry; loan = record { tables = x.0; plan = x.1; rows = new.rows } }) (ap (λ x. (x, new.plan)) t ∙ ap (λ x. (old.tables, x)) p)
