-- Enabled events can be made.
use Rattle.std.proofs.Common.{◌≡◌, ℕ, ◌+◌, not, Bool, true, false, cond, List, [], ◌∷◌, ◌++◌, Option, None, Some, refl, sym, ◌∙◌, ap, arith, slice_get, Equal}
use Rattle.std.specs.Ordering.{eq_by_cmp}
use Rattle.std.specs.FinMap.Entries.{find}
use Rattle.std.specs.FinMap.{get, entries, get-entries, insert, get-insert, retain_keys, get-retain_keys}
use Rattle.values.specs.declared.name.RowName.{RowName}
use Rattle.catalogue.specs.Shapes.{TableShape}
use Rattle.values.specs.Database.{Database, RowOf, name_cmp}
use Rattle.proclang_types.specs.declared.right.Right.TheVariants.{Write}
use Rattle.coarsen.specs.Clashes.{locks_row}
use Rattle.meaning.specs.Entries.{Reply, meaning}
use Rattle.scheduler_core.specs.declared.event.Event.{Event}
use Rattle.scheduler_core.specs.declared.event.Event.TheVariants.{Admit, Lend, Run, Settle}
use Rattle.scheduler_core.specs.declared.phase.Phase.{Phase}
use Rattle.scheduler_core.specs.declared.phase.Phase.TheVariants as phase
use Rattle.scheduler_core.specs.Transactions.{Transaction, ArePlanned}
use Rattle.scheduler_core.specs.Phases.{phase_of, at_number, with_number}
use Rattle.scheduler_core.specs.Events.{enabled}
use Rattle.scheduler_core.specs.Machine.{Stage, idle, lent, ran, settled, Machine, phase_in, phases_of, Lends, Executes, Settles, Does}
use Rattle.scheduler_core.specs.Laws.{EnabledCanBeMade}
use Rattle.scheduler_core.proofs.Lists.{get_at, get_within, mapped_from}
use Rattle.scheduler_core.proofs.Numbers.{at_place, placed}
use Rattle.scheduler_core.proofs.PhaseTests.{lent_is, ran_is}
use Rattle.scheduler_core.proofs.Readies.{lend_from}
use Rattle.scheduler_core.proofs.LowerLaws.{LowerLaws}
use Rattle.scheduler_core.proofs.Names.{names_total, exact_names}
use Rattle.scheduler_core.proofs.RunOnShown.{shown_run}
use Rattle.scheduler_core.proofs.MachineRuns.{IsKept, kept_to}

-- ---- rows of one database on some names, and of another on the others

put_over : Database → List (RowName × RowOf) → Database
put_over base [] = base
put_over base (e ∷ es) = insert (put_over base es) e.0 e.1

or_else : Option RowOf → Option RowOf → Option RowOf
or_else (Some row) other = Some row
or_else None other = other

first_found : (b : Bool) (row : RowOf) (o other : Option RowOf) → cond b (Some row) (or_else o other) ≡ or_else (cond b (Some row) o) other
unfolding or_else
first_found true row o other = refl
first_found false row o other = refl

get-put_over : (base : Database) (es : List (RowName × RowOf)) (q : RowName) → get (put_over base es) q ≡ or_else (find name_cmp q es) (get base q)
unfolding put_over or_else
get-put_over base [] q = refl
get-put_over base (e ∷ es) q =
    get-insert names_total (put_over base es) e.0 e.1 q
    ∙ ap (λ o. cond (eq_by_cmp name_cmp q e.0) (Some e.1) o) (get-put_over base es q)
    ∙ first_found (eq_by_cmp name_cmp q e.0) e.1 (find name_cmp q es) (get base q)

module _ (test : RowName → Bool) (one two : Database) where
  merged : Database
  merged = put_over (retain_keys two (λ q. not (test q))) (entries (retain_keys one test))

  alike : (p : RowName → Bool) (q x : RowName) → name_cmp q x ≡ Equal → p x ≡ p q
  alike p q x tied = sym (ap p (exact_names q x tied))

  merged_is : (q : RowName) → get merged q ≡ or_else (cond (test q) (get one q) None) (cond (not (test q)) (get two q) None)
  unfolding merged
  merged_is q =
      get-put_over (retain_keys two (λ x. not (test x))) (entries (retain_keys one test)) q
      ∙ ap (λ o. or_else o (get (retain_keys two (λ x. not (test x))) q)) (sym (get-entries (retain_keys one test) q) ∙ get-retain_keys one test q (alike test q))
      ∙ ap (λ o. or_else (cond (test q) (get one q) None) o) (get-retain_keys two (λ x. not (test x)) q (alike (λ x. not (test x)) q))

  one_or_nothing : (o : Option RowOf) → or_else o None ≡ o
  unfolding or_else
  one_or_nothing None = refl
  one_or_nothing (Some row) = refl

  picked : (b : Bool) (a o : Option RowOf) → or_else (cond b a None) (cond (not b) o None) ≡ cond b a o
  unfolding or_else
  picked true a o = one_or_nothing a
  picked false a o = refl

  get-merged : (q : RowName) → get merged q ≡ cond (test q) (get one q) (get two q)
  get-merged q = merged_is q ∙ picked (test q) (get one q) (get two q)

-- ---- what is in hand, by its phase

lent_stage : (x : Stage) → phase_in x ≡ phase.Out → (shown : Database) × (x ≡ lent shown)
lent_stage idle is = absurd (cc)
lent_stage (lent shown) is = (shown, refl)
lent_stage (ran reply after) is = absurd (cc)
lent_stage (settled reply) is = absurd (cc)

record HasRun (x : Stage) : Type 0 where
  pub reply : Reply
  pub after : Database
  pub is : x ≡ ran reply after

ran_stage : (x : Stage) → phase_in x ≡ phase.Ran → HasRun x
ran_stage idle is = absurd (cc)
ran_stage (lent shown) is = absurd (cc)
ran_stage (ran reply after) is = record { reply = reply; after = after; is = refl }
ran_stage (settled reply) is = absurd (cc)

module _ (laws : LowerLaws) (tables : List TableShape) (arena first : ℕ) (log : List Transaction) (start : Database) (planned : ArePlanned tables log) (now : Machine) (kept : IsKept tables log start now) where
  -- the transaction of a phase that is there
  numbered_at : (number place : ℕ) (p : Phase) → number ≡ first + place → slice_get (phases_of now.stages) place ≡ Some p
      → (t : Transaction) × (at_number first log number ≡ Some t) × (slice_get log place ≡ Some t)
  numbered_at number place p numbered is =
      let inside = get_within (phases_of now.stages) place p is in
      let within = kept.sound.within in
      let (t, at) = get_at log place (omega (arith, inside, within)) in
      (t, ap (at_number first log) numbered ∙ at_place first log place ∙ at, at)

  stage_at : (number place : ℕ) (x y : Stage) → number ≡ first + place → slice_get now.stages place ≡ Some x → x ≡ y → at_number first now.stages number ≡ Some y
  stage_at number place x y numbered is same = ap (at_number first now.stages) numbered ∙ at_place first now.stages place ∙ is ∙ ap (λ (z : Stage). Some z) same

  can_lend : (number : ℕ) → enabled arena first log (phases_of now.stages) (Lend number) ≡ true → (new : Machine) × Lends tables first log now number new
  can_lend number can =
      let (place, numbered, is, is_ready) = lend_from arena first log (phases_of now.stages) number can in
      let (t, at, there) = numbered_at number place phase.Idle numbered is in (
        record now { stages = with_number first now.stages number (lent now.rows) },
        record { transaction = t; numbered = at; shown = now.rows; shows = λ name locked. refl; new_is = refl },
      )

  can_run : (number : ℕ) → enabled arena first log (phases_of now.stages) (Run number) ≡ true → (new : Machine) × Executes tables first log now number new
  can_run number can =
      let (place, numbered, is) = placed first (phases_of now.stages) number phase.Out (lent_is (phase_of first (phases_of now.stages) number) can) in
      let (t, at, there) = numbered_at number place phase.Out numbered is in
      let (x, x_at, x_is) = mapped_from phase_in now.stages place phase.Out is in
      let (shown, same) = lent_stage x x_is in
      let reply = (meaning t.entry shown).0 in
      let after = (meaning t.entry shown).1 in (
        record now { stages = with_number first now.stages number (ran reply after) },
        record {
          transaction = t;
          numbered = at;
          shown = shown;
          has = stage_at number place x (lent shown) numbered x_at same;
          reply = reply;
          after = after;
          runs = shown_run laws.frame tables t shown after (planned place t there) (λ name locked. refl);
          new_is = refl;
        },
      )

  can_settle : (number : ℕ) → enabled arena first log (phases_of now.stages) (Settle number) ≡ true → (new : Machine) × Settles tables first log now number new
  can_settle number can =
      let (place, numbered, is) = placed first (phases_of now.stages) number phase.Ran (ran_is (phase_of first (phases_of now.stages) number) can) in
      let (t, at, there) = numbered_at number place phase.Ran numbered is in
      let (x, x_at, x_is) = mapped_from phase_in now.stages place phase.Ran is in
      let h = ran_stage x x_is in
      let test : RowName → Bool = λ name. locks_row tables t.plan name Write in (
        record { rows = merged test h.after now.rows; stages = with_number first now.stages number (settled h.reply) },
        record {
          transaction = t;
          numbered = at;
          reply = h.reply;
          after = h.after;
          has = stage_at number place x (ran h.reply h.after) numbered x_at h.is;
          stages = refl;
          written = λ name locked. get-merged test h.after now.rows name ∙ ap (λ b. cond b (get h.after name) (get now.rows name)) locked;
          others = λ name free. get-merged test h.after now.rows name ∙ ap (λ b. cond b (get h.after name) (get now.rows name)) free;
        },
      )

  can : (event : Event) → enabled arena first log (phases_of now.stages) event ≡ true → (new : Machine) × Does tables first log now event new
  can Admit h = (record now { stages = now.stages ++ idle ∷ [] }, refl)
  can (Lend number) h = can_lend number h
  can (Run number) h = can_run number h
  can (Settle number) h = can_settle number h

pub can_be_made : LowerLaws → EnabledCanBeMade
can_be_made laws tables arena first log start moves now planned runs event enabled_now =
    can laws tables arena first log start planned now (kept_to tables log start laws planned arena first moves now runs) event enabled_now
