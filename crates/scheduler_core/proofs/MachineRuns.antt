-- Every run of the machine is serial.
use Rattle.std.proofs.Common.{◌≡◌, ℕ, inl, inr, ◌==◌, true, List, [], ◌∷◌, ◌++◌, length, map, Option, None, Some, refl, sym, ◌∙◌, ap, subst, arith, slice_get, slice_set}
use Rattle.std.specs.List.{list_all}
use Rattle.catalogue.specs.Shapes.{TableShape}
use Rattle.values.specs.Database.{Database}
use Rattle.lock_tree.specs.Locks.{Waiting}
use Rattle.meaning.specs.Entries.{Reply}
use Rattle.meaning.specs.Serial.{serial_replies}
use Rattle.scheduler_core.specs.declared.event.Event.{Event}
use Rattle.scheduler_core.specs.declared.event.Event.TheVariants.{Admit, Lend, Run, Settle}
use Rattle.scheduler_core.specs.declared.phase.Phase.{Phase}
use Rattle.scheduler_core.specs.declared.phase.Phase.TheVariants as phase
use Rattle.scheduler_core.specs.Transactions.{Transaction, entries_of, ArePlanned}
use Rattle.scheduler_core.specs.Serial.{serial_reply}
use Rattle.scheduler_core.specs.Phases.{is_out, is_settled, is_done, at_number, with_number}
use Rattle.scheduler_core.specs.Events.{waiting, has_room, enabled}
use Rattle.scheduler_core.specs.Sound.{IsSound, IsLent, IsRun}
use Rattle.scheduler_core.specs.Machine.{Stage, idle, lent, ran, settled, Machine, phase_in, phases_of, at_start, Lends, Executes, Settles, TakesBack, Does, Move, makes, takes_back, Moves, Runs}
use Rattle.scheduler_core.specs.Laws.{IsSerial, EveryRunIsSerial}
use Rattle.scheduler_core.proofs.Lists.{both, split, some_is, none_some, get_within, get_push_end, get_push_other, get_set_same, get_set_other, length_mapped, map_push, map_set, get_mapped, mapped_from, same_places, each_passes}
use Rattle.scheduler_core.proofs.Numbers.{numbers_same, at_place, with_place, placed}
use Rattle.scheduler_core.proofs.SerialRun.{reply_count}
use Rattle.scheduler_core.proofs.LowerLaws.{LowerLaws}
use Rattle.scheduler_core.proofs.Readies.{lend_from}
use Rattle.scheduler_core.proofs.Soundness.{sound_start, sound_admit, sound_lend, lent_serial, sound_run, run_serial, sound_take_back, sound_settle, outs_are_apart, ends_serially}

-- a test of a next transaction that there is
pub room_for : (arena : ℕ) (waits : List Waiting) (o : Option Transaction) → has_room arena waits o ≡ true → (t : Transaction) × (o ≡ Some t)
room_for arena waits None h = absurd (cc)
room_for arena waits (Some t) h = (t, refl)

settled_stage : (x : Stage) → is_settled (Some (phase_in x)) ≡ true → (reply : Reply) × (x ≡ settled reply)
settled_stage idle h = absurd (cc)
settled_stage (lent shown) h = absurd (cc)
settled_stage (ran reply after) h = absurd (cc)
settled_stage (settled reply) h = (reply, refl)

module _ (tables : List TableShape) (log : List Transaction) (start : Database) where
  -- what is in hand is what the serial run has there
  abbrev pub Fits : ℕ → Stage → Type 0
  Fits place idle = Unit {0}
  Fits place (lent shown) = IsLent tables log start place shown
  Fits place (ran reply after) = IsRun tables log start place reply after
  Fits place (settled reply) = serial_reply log start place ≡ Some reply

  abbrev pub AllFit : List Stage → Type 0
  AllFit stages = (place : ℕ) (x : Stage) → slice_get stages place ≡ Some x → Fits place x

  pub record IsKept (now : Machine) : Type 0 where
    pub sound : IsSound tables log start (phases_of now.stages) now.rows
    pub fits : AllFit now.stages

  fits_pushed : (stages : List Stage) → AllFit stages → AllFit (stages ++ idle ∷ [])
  fits_pushed stages fits place x is = elim (split place (length stages)) [
    | inl below ↦ fits place x (sym (get_push_other stages idle place (λ e. omega arith)) ∙ is)
    | inr rest ↦ elim rest [
      | inl here ↦
          let one : x ≡ idle = some_is x idle (sym is ∙ ap (slice_get (stages ++ idle ∷ [])) here ∙ get_push_end stages idle) in
          subst (λ (y : Stage). Fits place y) (sym one) tt
      | inr above ↦ fits place x (sym (get_push_other stages idle place (λ e. omega arith)) ∙ is)
    ]
  ]

  fits_set : (stages : List Stage) (place : ℕ) (old new : Stage) → AllFit stages → slice_get stages place ≡ Some old → Fits place new → AllFit (slice_set stages place new)
  fits_set stages place old new fits is fit i x at = elim (split i place) [
    | inl below ↦ fits i x (sym (get_set_other stages place i new (λ e. omega arith)) ∙ at)
    | inr rest ↦ elim rest [
      | inl here ↦
          let one : x ≡ new = some_is x new (sym at ∙ ap (slice_get (slice_set stages place new)) here ∙ get_set_same stages place old new is) in
          subst (λ (y : Stage). Fits i y) (sym one) (subst (λ (w : ℕ). Fits w new) (sym here) fit)
      | inr above ↦ fits i x (sym (get_set_other stages place i new (λ e. omega arith)) ∙ at)
    ]
  ]

  -- a transaction has something else in hand
  changed : (old : Machine) (rows : Database) (stages : List Stage) (place : ℕ) (x y : Stage) → AllFit old.stages → slice_get old.stages place ≡ Some x
      → stages ≡ slice_set old.stages place y → IsSound tables log start (slice_set (phases_of old.stages) place (phase_in y)) rows → Fits place y
      → IsKept (record { rows = rows; stages = stages })
  changed old rows stages place x y fits is stages_are sound fit = record {
    sound = subst (λ (ps : List Phase). IsSound tables log start ps rows) (sym (ap phases_of stages_are ∙ map_set phase_in old.stages place y)) sound;
    fits = subst (λ (ss : List Stage). AllFit ss) (sym stages_are) (fits_set old.stages place x y fits is fit);
  }

  module _ (laws : LowerLaws) (planned : ArePlanned tables log) (arena first : ℕ) where
    kept_at_start : IsKept (at_start start)
    kept_at_start = record { sound = sound_start tables log start laws planned; fits = λ place x is. absurd (none_some x is) }

    admitted : (old : Machine) → IsKept old → enabled arena first log (phases_of old.stages) Admit ≡ true → IsKept (record old { stages = old.stages ++ idle ∷ [] })
    admitted old k can =
        let (t, is) = room_for arena (waiting first log (phases_of old.stages)) (slice_get log (length (phases_of old.stages))) can in
        record {
          sound = subst (λ (ps : List Phase). IsSound tables log start ps old.rows) (sym (map_push phase_in old.stages idle))
              (sound_admit tables log start (phases_of old.stages) old.rows k.sound (get_within log (length (phases_of old.stages)) t is));
          fits = fits_pushed old.stages k.fits;
        }

    kept_lend : (old : Machine) (number : ℕ) (new : Machine) → IsKept old → enabled arena first log (phases_of old.stages) (Lend number) ≡ true
        → Lends tables first log old number new → IsKept new
    kept_lend old number new k can h =
        let (place, numbered, is_idle, is_ready) = lend_from arena first log (phases_of old.stages) number can in
        let (x, is, phase_is) = mapped_from phase_in old.stages place phase.Idle is_idle in
        let at : slice_get log place ≡ Some h.transaction = sym (ap (at_number first log) numbered ∙ at_place first log place) ∙ h.numbered in
        let stages_are : with_number first old.stages number (lent h.shown) ≡ slice_set old.stages place (lent h.shown) =
        ap (λ (n : ℕ). with_number first old.stages n (lent h.shown)) numbered ∙ with_place first old.stages place (lent h.shown) in
        subst (λ (m : Machine). IsKept m) (sym h.new_is)
        (changed old old.rows (with_number first old.stages number (lent h.shown)) place x (lent h.shown) k.fits is stages_are
        (sound_lend tables log start laws planned first (phases_of old.stages) old.rows place k.sound is_idle is_ready)
        (lent_serial tables log start laws planned first (phases_of old.stages) old.rows place h.transaction h.shown k.sound is_idle is_ready at h.shows))

    kept_run : (old : Machine) (number : ℕ) (new : Machine) → IsKept old → Executes tables first log old number new → IsKept new
    kept_run old number new k h =
        let (place, numbered, is) = placed first old.stages number (lent h.shown) h.has in
        let at : slice_get log place ≡ Some h.transaction = sym (ap (at_number first log) numbered ∙ at_place first log place) ∙ h.numbered in
        let later = ran h.reply h.after in
        let stages_are : with_number first old.stages number (ran h.reply h.after) ≡ slice_set old.stages place (ran h.reply h.after) =
        ap (λ (n : ℕ). with_number first old.stages n (ran h.reply h.after)) numbered ∙ with_place first old.stages place (ran h.reply h.after) in
        subst (λ (m : Machine). IsKept m) (sym h.new_is)
        (changed old old.rows (with_number first old.stages number (ran h.reply h.after)) place (lent h.shown) (ran h.reply h.after) k.fits is stages_are
        (sound_run tables log start (phases_of old.stages) old.rows place k.sound (get_mapped phase_in old.stages place (lent h.shown) is))
        (run_serial tables log start laws planned place h.transaction h.shown h.reply h.after at (k.fits place (lent h.shown) is) h.runs))

    kept_settle : (old : Machine) (number : ℕ) (new : Machine) → IsKept old → Settles tables first log old number new → IsKept new
    kept_settle old number new k h =
        let (place, numbered, is) = placed first old.stages number (ran h.reply h.after) h.has in
        let at : slice_get log place ≡ Some h.transaction = sym (ap (at_number first log) numbered ∙ at_place first log place) ∙ h.numbered in
        let stages_are : new.stages ≡ slice_set old.stages place (settled h.reply) =
        h.stages ∙ ap (λ (n : ℕ). with_number first old.stages n (settled h.reply)) numbered ∙ with_place first old.stages place (settled h.reply) in
        let run : IsRun tables log start place h.reply h.after = k.fits place (ran h.reply h.after) is in
        changed old new.rows new.stages place (ran h.reply h.after) (settled h.reply) k.fits is stages_are
        (sound_settle tables log start laws planned (phases_of old.stages) old.rows new.rows place h.transaction h.reply h.after k.sound
        (ap is_out (get_mapped phase_in old.stages place (ran h.reply h.after) is)) at run h.written h.others)
        run.replied

    kept_take_back : (old : Machine) (number : ℕ) (new : Machine) → IsKept old → TakesBack tables first log old number new → IsKept new
    kept_take_back old number new k h =
        let (place, numbered, is) = placed first old.stages number (lent h.shown) h.has in
        let stages_are : with_number first old.stages number idle ≡ slice_set old.stages place idle =
        ap (λ (n : ℕ). with_number first old.stages n idle) numbered ∙ with_place first old.stages place idle in
        subst (λ (m : Machine). IsKept m) (sym h.new_is)
        (changed old old.rows (with_number first old.stages number idle) place (lent h.shown) idle k.fits is stages_are
        (sound_take_back tables log start (phases_of old.stages) old.rows place k.sound (ap is_out (get_mapped phase_in old.stages place (lent h.shown) is))) tt)

    kept_event : (old : Machine) (event : Event) (new : Machine) → IsKept old → enabled arena first log (phases_of old.stages) event ≡ true
        → Does tables first log old event new → IsKept new
    kept_event old Admit new k can does = subst (λ (m : Machine). IsKept m) (sym does) (admitted old k can)
    kept_event old (Lend number) new k can does = kept_lend old number new k can does
    kept_event old (Run number) new k can does = kept_run old number new k does
    kept_event old (Settle number) new k can does = kept_settle old number new k does

    kept_move : (old : Machine) (move : Move) (new : Machine) → IsKept old → Moves tables arena first log old move new → IsKept new
    kept_move old (makes event) new k moves = kept_event old event new k moves.0 moves.1
    kept_move old (takes_back number) new k moves = kept_take_back old number new k moves

    kept_runs : (moves : List Move) (old new : Machine) → IsKept old → Runs tables arena first log old moves new → IsKept new
    kept_runs [] old new k runs = subst (λ (m : Machine). IsKept m) (sym runs) k
    kept_runs (move ∷ moves) old new k (mid, one, rest) = kept_runs moves mid new (elim one [
      | inl made ↦ kept_move old move mid k made
      | inr still ↦ subst (λ (m : Machine). IsKept m) (sym still) k
    ]) rest

    all_settled : (now : Machine) → IsKept now → is_done log (phases_of now.stages) ≡ true → now.stages ≡ map settled (serial_replies (entries_of log) start)
    all_settled now k done =
        let parts = both (length (phases_of now.stages) == length log) (list_all (λ p. is_settled (Some p)) (phases_of now.stages)) done in
        let count : length (phases_of now.stages) ≡ length log = numbers_same (length (phases_of now.stages)) (length log) parts.0 in
        let replies = serial_replies (entries_of log) start in
        same_places now.stages (map settled replies)
        (sym (length_mapped phase_in now.stages) ∙ count ∙ sym (length_mapped settled replies ∙ reply_count (entries_of log) start ∙ length_mapped (λ (t : Transaction). t.entry) log))
        (λ place x is.
        let (reply, x_is) = settled_stage x (each_passes (λ p. is_settled (Some p)) (phases_of now.stages) place (phase_in x) parts.1 (get_mapped phase_in now.stages place x is)) in
        let at : slice_get now.stages place ≡ Some (settled reply) = is ∙ ap (λ (y : Stage). Some y) x_is in
        get_mapped settled replies place reply (k.fits place (settled reply) at) ∙ ap (λ (y : Stage). Some y) (sym x_is))

    kept_serial : (now : Machine) → IsKept now → IsSerial tables log start now
    kept_serial now k = record {
      replies = λ place reply is. k.fits place (settled reply) is;
      jobs = λ place shown is. k.fits place (lent shown) is;
      apart = λ i j t u differ at_i at_j out_i out_j. outs_are_apart tables log start laws planned (phases_of now.stages) now.rows i j t u k.sound differ out_i out_j at_i at_j;
      end = ends_serially tables log start laws planned (phases_of now.stages) now.rows k.sound;
      all_replies = all_settled now k;
    }

    pub kept_to : (moves : List Move) (now : Machine) → Runs tables arena first log (at_start start) moves now → IsKept now
    kept_to moves now runs = kept_runs moves (at_start start) now kept_at_start runs

    pub run_is_serial : (moves : List Move) (now : Machine) → Runs tables arena first log (at_start start) moves now → IsSerial tables log start now
    run_is_serial moves now runs = kept_serial now (kept_to moves now runs)

pub every_run : LowerLaws → EveryRunIsSerial
every_run laws tables arena first log start moves now planned runs = run_is_serial tables log start laws planned arena first moves now runs
