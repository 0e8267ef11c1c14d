-- The run of an entry on the rows that a job shows.
use Rattle.std.proofs.Common.{◌≡◌, inl, inr, ◌||◌, Bool, true, false, List, [], ◌∷◌, Option, None, Some, refl, sym, ◌∙◌}
use Rattle.std.specs.List.{list_any}
use Rattle.std.specs.FinMap.{get}
use Rattle.values.specs.declared.name.RowName.{RowName}
use Rattle.catalogue.specs.Shapes.{TableShape}
use Rattle.values.specs.Database.{Database}
use Rattle.proclang_types.specs.declared.right.Right.{Right}
use Rattle.proclang_types.specs.declared.right.Right.TheVariants.{Read, Write}
use Rattle.footprint.specs.declared.resource.Resource.{Resource}
use Rattle.footprint.specs.Tree.{ancestors_of, row_resource}
use Rattle.footprint.specs.Rights.{FootprintOf, is_at_least}
use Rattle.meaning.specs.Entries.{EntryShape, footprint_of, meaning}
use Rattle.meaning.specs.Frame.{may_touch, touches, Agree}
use Rattle.scheduler_core.specs.Transactions.{Transaction, IsPlanned, AgreeOnLocked}
use Rattle.scheduler_core.specs.Sound.{IsRunOf}
use Rattle.scheduler_core.specs.Laws.{RunOnShownRows}
use Rattle.scheduler_core.proofs.Lists.{cases, true_false}
use Rattle.scheduler_core.proofs.LowerLaws.{FrameLaw}

-- who may write may read
reads_more : (given : Option Right) → is_at_least Write given ≡ true → is_at_least Read given ≡ true
reads_more None h = absurd (cc)
reads_more (Some Read) h = refl
reads_more (Some Write) h = refl

either : (a b c d : Bool) → (a ≡ true → c ≡ true) → (b ≡ true → d ≡ true) → (a || b) ≡ true → (c || d) ≡ true
either a b true d first second h = refl
either true b false d first second h = absurd (true_false false (first refl) refl)
either false b false d first second h = second h

some_reads : (footprint : FootprintOf) (rs : List Resource) → list_any (λ r. is_at_least Write (get footprint r)) rs ≡ true → list_any (λ r. is_at_least Read (get footprint r)) rs ≡ true
some_reads footprint [] h = h
some_reads footprint (r ∷ rs) h =
    either (is_at_least Write (get footprint r)) (list_any (λ q. is_at_least Write (get footprint q)) rs)
    (is_at_least Read (get footprint r)) (list_any (λ q. is_at_least Read (get footprint q)) rs)
    (reads_more (get footprint r)) (some_reads footprint rs) h

may_read : (tables : List TableShape) (o : Option FootprintOf) (name : RowName) → may_touch tables o name Write ≡ true → may_touch tables o name Read ≡ true
may_read tables None name h = h
may_read tables (Some footprint) name h = some_reads footprint (row_resource tables name ∷ ancestors_of (row_resource tables name)) h

unread_unwritten : (e : EntryShape) (name : RowName) → touches e name Read ≡ false → touches e name Write ≡ false
unread_unwritten e name unread = elim (cases (touches e name Write)) [
  | inr not ↦ not
  | inl writes ↦ absurd (true_false (touches e name Read) (may_read e.tables (footprint_of e.footing) name writes) unread)
]

module _ (frame : FrameLaw) (tables : List TableShape) (t : Transaction) (shown after : Database) (planned : IsPlanned tables t) (leaves : AgreeOnLocked tables t.plan after (meaning t.entry shown).1) where
  agrees : (db : Database) → AgreeOnLocked tables t.plan shown db → Agree t.entry shown db
  agrees db same name touched = sym (same name (planned.locks name Read touched))

  -- it leaves alike rows on what the plan locks: those that the entry may read by the frame law, the others unchanged
  alike : (db : Database) → AgreeOnLocked tables t.plan shown db → AgreeOnLocked tables t.plan after (meaning t.entry db).1
  alike db same name locked =
      let law = frame t.entry shown db (agrees db same) in
      let back = frame t.entry db shown (λ q touched. sym (agrees db same q touched)) in
      leaves name locked ∙ elim (cases (touches t.entry name Read)) [
        | inl reads ↦ sym (law.agree name reads)
        | inr unread ↦
            let unwritten = unread_unwritten t.entry name unread in
            law.others name unwritten ∙ same name locked ∙ sym (back.others name unwritten)
      ]

  pub shown_run : IsRunOf tables t shown (meaning t.entry shown).0 after
  shown_run = record { replies = λ db same. (frame t.entry shown db (agrees db same)).outcome; leaves = alike }

pub run_on_shown : FrameLaw → RunOnShownRows
run_on_shown frame tables t shown after planned leaves = shown_run frame tables t shown after planned leaves
