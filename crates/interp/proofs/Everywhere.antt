-- What a run comes to on one database it comes to on each that agrees with it on what the entry may read.
use Rattle.std.proofs.Common.{◌≡◌, Bool, true, false, List, refl, sym, ap, ◌∙◌, Option, Some, None, Result, Ok, Err, IfOk}
use Rattle.std.specs.Map.{lookup}
use Rattle.std.specs.BTreeMap.{is_at}
use Rattle.std.specs.FinMap.{get, same_map}
use Rattle.values.specs.declared.name.RowName.{RowName}
use Rattle.catalogue.specs.Shapes.{TableShape}
use Rattle.values.specs.Database.{Database, RowOf, name_cmp}
use Rattle.proclang_types.specs.declared.right.Right.TheVariants.{Read, Write}
use Rattle.footprint.specs.Rights.{FootprintOf}
use Rattle.meaning.specs.Entries.{EntryShape, Reply, meaning, footprint_of}
use Rattle.meaning.specs.Frame.{touches, may_touch, Agree, StaysInFootprint}
use Rattle.workspace.specs.Overlay.{applied}
use Rattle.meaning.proofs.Names.{names_total, exact_names}
use Rattle.workspace.proofs.Covered.{covers_read}
use Rattle.workspace.proofs.Writes.{after_write, get_applied}
use Rattle.interp.specs.declared.effect.Effect.{Effect}
use Rattle.meaning.specs.Outcomes.{as_reply}
use Rattle.interp.specs.Touched.{OnlyTouched}

reads_what_it_writes : (tables : List TableShape) (fo : Option FootprintOf) (name : RowName) → may_touch tables fo name Write ≡ true → may_touch tables fo name Read ≡ true
reads_what_it_writes tables None name e = e
reads_what_it_writes tables (Some fo) name e = covers_read tables fo name Write e

no_write : (b : Bool) → (b ≡ true → true ≡ false) → b ≡ false
no_write true f = f refl
no_write false f = refl

agree_back : (entry : EntryShape) (one two : Database) → Agree entry one two → Agree entry two one
agree_back entry one two h = λ name e. sym (h name e)

abbrev Law : EntryShape → Type 0
Law entry = (one two : Database) → Agree entry one two → StaysInFootprint entry one two

module _ (entry : EntryShape) (here db : Database) (reply : Reply) (ws : List (RowName × Option RowOf))
    (law : Law entry) (only : OnlyTouched entry ws) (agree : Agree entry here db) (ran : meaning entry here ≡ (reply, applied ws here)) where
  at_touched : (q : RowName) → touches entry q Read ≡ true → get (meaning entry db).1 q ≡ get (applied ws db) q
  at_touched q e =
      (law here db agree).agree q e
      ∙ ap (λ (r : Reply × Database). get r.1 q) ran
      ∙ get_applied ws here q
      ∙ ap (after_write (lookup (is_at (name_cmp q)) ws)) (sym (agree q e))
      ∙ sym (get_applied ws db q)

  at_other : (q : RowName) → touches entry q Write ≡ false → get (meaning entry db).1 q ≡ get (applied ws db) q
  at_other q n =
      (law db here (agree_back entry here db agree)).others q n
      ∙ ap (λ o. after_write o (get db q)) (sym (only.others q n))
      ∙ sym (get_applied ws db q)

  at_each : (q : RowName) (b : Bool) → touches entry q Read ≡ b → get (meaning entry db).1 q ≡ get (applied ws db) q
  at_each q true e = at_touched q e
  at_each q false n = at_other q (no_write (touches entry q Write) (λ w. sym (reads_what_it_writes entry.tables (footprint_of entry.footing) q w) ∙ n))

  pub everywhere : meaning entry db ≡ (reply, applied ws db)
  everywhere =
      let outcome : (meaning entry db).0 ≡ reply = (law here db agree).outcome ∙ ap (λ (r : Reply × Database). r.0) ran in
      let left : (meaning entry db).1 ≡ applied ws db = same_map names_total exact_names _ _ (λ q. at_each q (touches entry q Read) refl) in
      ap (λ (r : Reply). (r, (meaning entry db).1)) outcome ∙ ap (λ (d : Database). (reply, d)) left

pub everywhere_ok : {E : Type 0} (entry : EntryShape) (here : Database) (r : Result Effect E) → Law entry
    → IfOk r (λ e. OnlyTouched entry e.writes.entries) → IfOk r (λ e. meaning entry here ≡ (as_reply e.outcome, applied e.writes.entries here))
    → IfOk r (λ e. (db : Database) → Agree entry here db → meaning entry db ≡ (as_reply e.outcome, applied e.writes.entries db))
everywhere_ok entry here (Ok e) law only ran = λ db agree. everywhere entry here db (as_reply e.outcome) e.writes.entries law only agree ran
everywhere_ok entry here (Err e) law only ran = tt
