-- At the start of its batch no entry is stale.
use Rattle.std.proofs.Common.{◌≡◌, Bool, true, false, List, [], ◌∷◌, map, Some, slice_get, refl, Result, Ok, Err}
use Rattle.values.specs.Database.{Database}
use Rattle.catalogue.specs.Shapes.{TableShape}
use Rattle.proclang_types.specs.Procedures.{proc_syntax}
use Rattle.proclang_types.specs.Syntax.{FootprintSyntax, declared_by, found_by_recon, is_recon, block_of}
use Rattle.footprint.specs.declared.abort_code.AbortCode.{AbortCode}
use Rattle.footprint.specs.declared.abort_code.AbortCode.TheVariants.{Uncovered}
use Rattle.footprint.specs.Declaration.{declared_footprint}
use Rattle.footprint.specs.Rights.{FootprintOf, covers}
use Rattle.requests.specs.Requests.{Call}
use Rattle.meaning.specs.declared.outcome.Ending.{Ending}
use Rattle.meaning.specs.declared.outcome.Ending.TheVariants as endings
use Rattle.meaning.specs.Runs.{State, Ran, continued, and_then, passing, tested, covered}
use Rattle.meaning.specs.Entries.{Reply, Footing, stale, start, finished, end_of, nothing, meaning, meaning_by}
use Rattle.meaning.proofs.Related.{Any, Relation, block_related}
use Rattle.sequencer.specs.Attempts.{Attempt}
use Rattle.sequencer.specs.Entries.{footing_of, footing_on, prepared}
use Rattle.retries.specs.Standings.{Standing, attempts_at, transaction_of, replies_at}
use Rattle.meaning.specs.Serial.{serial_replies}
use Rattle.report_text.specs.Report.{entries_in}

-- ---- a run that tests its accesses against a declared footprint

-- a value of Q, or an abort
abbrev Gives : {A : Type 0} → (A → Type 0) → Result A Ending → Type 0
Gives Q (Ok x) = Q x
Gives Q (Err (endings.Abort code)) = Unit {0}
Gives Q (Err endings.Stale) = ⊥

then_gives : {A B : Type 0} (Q : A → Type 0) (P : B → Type 0) (r : Result A Ending × State) (h : A → Ran B) → Gives Q r.0
    → ((x : A) → Q x → (s : State) → Gives P (h x s).0) → Gives P (continued r h).0
then_gives Q P (Ok x, t) h a n = n x a t
then_gives Q P (Err (endings.Abort code), t) h a n = tt
then_gives Q P (Err endings.Stale, t) h a n = absurd a

passing_gives : (b : Bool) (s : State) → Gives Any (passing b (endings.Abort Uncovered) s).0
passing_gives true s = tt
passing_gives false s = tt

module _ (tables : List TableShape) (fo : FootprintOf) where
  -- the run gives a value, or is aborted
  abbrev AllGive : {A : Type 0} → (A → Type 0) → Ran A → Ran A → Type 0
  AllGive Q f g = (s : State) → Gives Q (f s).0

  chain : {A B : Type 0} (Q : A → Type 0) (P : B → Type 0) (f g : Ran A) (h k : A → Ran B) → AllGive Q f g → ((x : A) → Q x → AllGive P (h x) (k x)) → AllGive P (and_then f h) (and_then g k)
  unfolding and_then
  chain Q P f g h k a n s = then_gives Q P (f s) h (a s) n

  abbrev giving : Relation tables (tested fo (endings.Abort Uncovered)) (tested fo (endings.Abort Uncovered))
  giving = record {
    Related = AllGive;
    Passed = λ resource right. Unit {0};
    chain = chain;
    go_on = λ Q x is s. is;
    aborted = λ code s. tt;
    looked = λ f h s. tt;
    altered = λ f h s. tt;
    access = λ resource right s. passing_gives (covers fo resource right) s;
    part_seen = λ table part passed s. tt;
    row_seen = λ right name passed s. tt;
    row_set = λ name row passed s. tt;
    row_removed = λ name passed s. tt;
  }

isnt_stale : (db : Database) (r : Result (Unit {0}) Ending × State) → Gives Any r.0 → ¬ ((finished db r).0 ≡ stale)
isnt_stale db (Ok x, s) a e = absurd (cc)
isnt_stale db (Err (endings.Abort code), s) a e = absurd (cc)
isnt_stale db (Err endings.Stale, s) a e = a

-- ---- entries

-- the meaning of an entry on that footing
abbrev ends_on : Call → Database → Footing → Reply
ends_on call db footing = (meaning_by nothing call.proc.tables (proc_syntax call.proc).body call.args footing db).0

declared_isnt : (call : Call) (db : Database) (footprint : Result FootprintOf AbortCode) → ¬ (ends_on call db (footing_of footprint) ≡ stale)
declared_isnt call db (Ok fo) =
    isnt_stale db (end_of nothing (covered call.proc.tables fo (endings.Abort Uncovered)) (proc_syntax call.proc).body call.args db)
    (block_related (giving call.proc.tables fo) nothing (block_of (proc_syntax call.proc).body) (start call.args db))
declared_isnt call db (Err code) = λ e. absurd cc

by_footprint : (call : Call) (db : Database) (footprint : FootprintSyntax) → (is_recon footprint ≡ true → ¬ (ends_on call db (footing_on db call footprint) ≡ stale))
    → ¬ (ends_on call db (footing_on db call footprint) ≡ stale)
by_footprint call db (declared_by entries) found = declared_isnt call db (declared_footprint call.proc.tables call.args entries)
by_footprint call db found_by_recon found = found refl

module _ (found : (call : Call) (db : Database) → is_recon (proc_syntax call.proc).footprint ≡ true → ¬ ((meaning (prepared db call) db).0 ≡ stale)) where
  pub entry_isnt : (call : Call) (db : Database) → ¬ ((meaning (prepared db call) db).0 ≡ stale)
  entry_isnt call db = by_footprint call db (proc_syntax call.proc).footprint (found call db)

  some_is : (x y : Reply) → Some x ≡ Some y → x ≡ y
  some_is x y h = cc

  first_of_isnt : (db : Database) (attempts : List Attempt) → ¬ (slice_get (serial_replies (entries_in (map (transaction_of db) attempts)) db) 0 ≡ Some stale)
  first_of_isnt db [] e = absurd cc
  first_of_isnt db (a ∷ attempts) e = entry_isnt a.request db (some_is _ _ e)

  pub first_isnt : (s : Standing) (calls : List Call) → ¬ (slice_get (replies_at s calls) 0 ≡ Some stale)
  first_isnt s calls = first_of_isnt s.rows (attempts_at s calls)
