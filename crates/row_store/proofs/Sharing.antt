-- What is shared with a loan.
use Rattle.std.proofs.Common.{◌≡◌, Bool, true, false, not, ◌||◌, ◌&&◌, if◌then◌else◌, List, None, refl, sym, ap, ◌∙◌}
use Rattle.values.specs.declared.name.RowName.{RowName}
use Rattle.catalogue.specs.Shapes.{TableShape}
use Rattle.proclang_types.specs.declared.right.Right.TheVariants.{Read}
use Rattle.footprint.specs.declared.resource.Resource.{Resource}
use Rattle.coarsen.specs.Subtrees.{Requests}
use Rattle.coarsen.specs.Plans.{IsPlanOver}
use Rattle.coarsen.specs.Clashes.{locks_row}
use Rattle.shelves.specs.Places.{Shelves, PlaceOf, has_shelf, is_away, seen_at, full, as_it_stands, among, is_named}
use Rattle.shelves.specs.Shelving.{shelf_of}
use Rattle.row_store.specs.Locked.{locks_shelf, locks_itself}
use Rattle.shelves.specs.Exchange.{AreShelvesShared}
use Rattle.row_store.specs.Moving.{AreShared}
use Rattle.row_store.specs.Held.{AreHere, AreReadShelves}
use Rattle.shelves.specs.Rows.{found}
use Rattle.row_store.proofs.Locks.{locks_either}
use Rattle.shelves.proofs.Booleans.{or_right}

-- the shelves that are locked whole to read, beside those that will be moved
pub shelves_read : (tables : List TableShape) (plan : Requests) (s made copies : Shelves) (moved rs : List Resource)
    → ((d : Resource) (q : RowName) → seen_at made d q ≡ full None)
    → ((d : Resource) → has_shelf made d ≡ among moved d)
    → ((q : RowName) → among rs (shelf_of tables q) ≡ locks_shelf plan Read (shelf_of tables q))
    → AreShelvesShared rs s made copies → AreReadShelves tables plan moved s copies
shelves_read tables plan s made copies moved rs none slots shelves shared = λ q here.
    let d : Resource = shelf_of tables q in
    let p : PlaceOf = found tables s q in
    shared d q (λ h. here (sym (shelves q) ∙ h))
    ∙ ap (λ b. if b && not (has_shelf made d) then p else seen_at made d q) (shelves q)
    ∙ ap (λ b. if locks_shelf plan Read d && not b then p else seen_at made d q) (slots d)
    ∙ ap (λ o. if locks_shelf plan Read d && not (among moved d) then p else o) (none d q)

-- what is here is here where nothing is seen to change
pub still_here : (tables : List TableShape) (plan : Requests) (old new : Shelves) → ((d : Resource) (q : RowName) → seen_at new d q ≡ seen_at old d q)
    → ((d : Resource) → is_away new d ≡ is_away old d) → AreHere tables plan old → AreHere tables plan new
still_here tables plan old new same away here q reads =
    let d : Resource = shelf_of tables q in (
      ap (λ p. p.row) (same d q) ∙ (here q reads).0 ∙ sym (ap (λ p. p.counts_as) (same d q)),
      away d ∙ (here q reads).1,
    )

-- a plan that locks a shelf locks the names of the shelf
reads_all : (tables : List TableShape) (plan : Requests) → IsPlanOver tables plan → (q : RowName) → locks_shelf plan Read (shelf_of tables q) ≡ true → locks_row tables plan q Read ≡ true
reads_all tables plan over q h = locks_either tables plan over Read q ∙ or_right (locks_itself plan Read q) (locks_shelf plan Read (shelf_of tables q)) h

here_settled : (p : PlaceOf) → p.row ≡ p.counts_as → p ≡ as_it_stands p
here_settled p h = ap (λ c. record { row = p.row; counts_as = c }) (sym h)

shared_place : (n b : Bool) (p o : PlaceOf) → n || b ≡ true → p ≡ as_it_stands p → (if n then as_it_stands p else (if b && true then p else o)) ≡ as_it_stands p
shared_place true b p o h is = refl
shared_place false true p o h is = is
shared_place false false p o h is = absurd (cc)

here_place : (n b m : Bool) (p : PlaceOf) → (b ≡ true → p.row ≡ p.counts_as)
    → (if n then as_it_stands p else (if b && m then p else full None)).row ≡ (if n then as_it_stands p else (if b && m then p else full None)).counts_as
here_place true b m p h = refl
here_place false true true p h = h refl
here_place false true false p h = refl
here_place false false m p h = refl

place_held : (tables : List TableShape) (plan : Requests) (s then_s held copies : Shelves) (moved : List Resource) (ns : List RowName)
    → IsPlanOver tables plan → AreHere tables plan s → ((d : Resource) (q : RowName) → seen_at then_s d q ≡ seen_at s d q)
    → AreReadShelves tables plan moved s held → AreShared tables ns then_s held copies → (q : RowName)
    → found tables copies q ≡ (if is_named ns q then as_it_stands (found tables s q) else (if locks_shelf plan Read (shelf_of tables q) && not (among moved (shelf_of tables q)) then found tables s q else full None))
place_held tables plan s then_s held copies moved ns over here same shelves names q =
    names q
    ∙ ap (λ x. if is_named ns q then as_it_stands x else found tables held q) (same (shelf_of tables q) q)
    ∙ ap (λ x. if is_named ns q then as_it_stands (found tables s q) else x) (shelves q (λ h. (here q (reads_all tables plan over q h)).1))

pub shared_rows : (tables : List TableShape) (plan : Requests) (s then_s held copies : Shelves) (moved : List Resource) (ns : List RowName)
    → IsPlanOver tables plan → AreHere tables plan s → ((d : Resource) (q : RowName) → seen_at then_s d q ≡ seen_at s d q)
    → ((q : RowName) → is_named ns q ≡ locks_itself plan Read q)
    → AreReadShelves tables plan moved s held → AreShared tables ns then_s held copies
    → (q : RowName) → locks_row tables plan q Read ≡ true → among moved (shelf_of tables q) ≡ false → found tables copies q ≡ as_it_stands (found tables s q)
shared_rows tables plan s then_s held copies moved ns over here same are shelves names q locks off =
    let d : Resource = shelf_of tables q in
    let p : PlaceOf = found tables s q in
    let on : is_named ns q || locks_shelf plan Read d ≡ true =
    ap (λ b. b || locks_shelf plan Read d) (are q) ∙ sym (locks_either tables plan over Read q) ∙ locks in
    place_held tables plan s then_s held copies moved ns over here same shelves names q
    ∙ ap (λ b. if is_named ns q then as_it_stands p else (if locks_shelf plan Read d && not b then p else full None)) off
    ∙ shared_place (is_named ns q) (locks_shelf plan Read d) p (full None) on (here_settled p (here q locks).0)

pub shared_here : (tables : List TableShape) (plan : Requests) (s then_s held copies : Shelves) (moved : List Resource) (ns : List RowName)
    → IsPlanOver tables plan → AreHere tables plan s → ((d : Resource) (q : RowName) → seen_at then_s d q ≡ seen_at s d q)
    → AreReadShelves tables plan moved s held → AreShared tables ns then_s held copies
    → (q : RowName) → (found tables copies q).row ≡ (found tables copies q).counts_as
shared_here tables plan s then_s held copies moved ns over here same shelves names q =
    let d : Resource = shelf_of tables q in
    let p : PlaceOf = found tables s q in
    let is = place_held tables plan s then_s held copies moved ns over here same shelves names q in
    ap (λ x. x.row) is
    ∙ here_place (is_named ns q) (locks_shelf plan Read d) (not (among moved d)) p (λ h. (here q (reads_all tables plan over q h)).0)
    ∙ sym (ap (λ x. x.counts_as) is)
