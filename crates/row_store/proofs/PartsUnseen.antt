-- A loan that has its rows by their names shows no partition with a name.
use Rattle.std.proofs.Common.{◌≡◌, ℕ, ◌^◌, Bool, true, false, ◌&&◌, ◌||◌, if◌then◌else◌, List, [], ◌∷◌, refl, sym, ap, ◌∙◌, inl, inr, Some, None}
use Rattle.std.specs.Prelude.{nat_lt}
use Rattle.values.specs.declared.name.RowName.{RowName}
use Rattle.catalogue.specs.Shapes.{TableShape}
use Rattle.proclang_types.specs.declared.right.Right.TheVariants.{Read}
use Rattle.footprint.specs.declared.resource.Resource.{Resource}
use Rattle.footprint.specs.declared.resource.Resource.TheVariants.{Db, Table}
use Rattle.footprint.specs.declared.resource.InTable.TheVariants.{WholeTable, Part}
use Rattle.footprint.specs.declared.resource.InPart.TheVariants.{WholePart, Row}
use Rattle.coarsen.specs.Subtrees.{Requests}
use Rattle.coarsen.specs.Clashes.{locks_row}
use Rattle.workspace.specs.Scan.{is_in_part, ShowsPart}
use Rattle.row_store.specs.declared.held.HeldRows.{HeldRows}
use Rattle.shelves.specs.Places.{is_same_name}
use Rattle.shelves.specs.Shelving.{HasEnds}
use Rattle.row_store.specs.Locked.{gives, name_of, is_of, locks_itself}
use Rattle.row_store.specs.Held.{IsLoanByName}
use Rattle.row_store.proofs.ByName.{locked_alone}
use Rattle.shelves.proofs.Exact.{same_name}
use Rattle.shelves.proofs.Booleans.{cases}

not_long : (t k : ℕ) (q : RowName) (b : Bool) → nat_lt k (2 ^ 63) ≡ b → nat_lt q.key (2 ^ 63) ≡ false → is_of (if b then Some (record { table = t; key = k }) else None) q ≡ false
not_long t k q false is long = refl
not_long t k q true is long = elim (cases (is_same_name (record { table = t; key = k }) q)) [
  | inl on ↦
      let same : k ≡ q.key = ap (λ (x : RowName). x.key) (same_name (record { table = t; key = k }) q on) in
      let clash : true ≡ false = sym is ∙ ap (λ n. nat_lt n (2 ^ 63)) same ∙ long in
      absurd (cc)
  | inr off ↦ off
]

long_of : (r : Resource) (q : RowName) → nat_lt q.key (2 ^ 63) ≡ false → is_of (name_of r) q ≡ false
long_of Db q long = refl
long_of (Table t WholeTable) q long = refl
long_of (Table t (Part p WholePart)) q long = refl
long_of (Table t (Part p (Row k))) q long = not_long t k q (nat_lt k (2 ^ 63)) refl long

two_off : (g a b : Bool) → a ≡ false → b ≡ false → (g && a) || b ≡ false
two_off true a b h k = ap (λ x. x || b) h ∙ k
two_off false a b h k = k

no_long : (plan : Requests) (q : RowName) → nat_lt q.key (2 ^ 63) ≡ false → locks_itself plan Read q ≡ false
no_long [] q long = refl
no_long (e ∷ es) q long = two_off (gives Read e.1) (is_of (name_of e.0) q) (locks_itself es Read q) (long_of e.0 q long) (no_long es q long)

-- a loan that has its rows by their names shows no partition with a name
pub no_part : (tables : List TableShape) (plan : Requests) (held : HeldRows) → IsLoanByName tables plan held → HasEnds tables → (table part : ℕ)
    → ShowsPart tables (λ q. locks_row tables plan q Read) table part → (q : RowName) → is_in_part tables table part q ≡ true → ⊥
no_part tables plan held loan ends table part shows q h =
    let end = ends table part q h in
    let on : locks_itself plan Read end.0 ≡ true = sym (locked_alone tables plan loan.over end.0 (loan.no_shelf end.0)) ∙ shows.shown end.0 end.1 in
    elim end.2 [
      | inl last ↦ let clash : true ≡ false = sym last ∙ loan.no_end end.0 on in cc
      | inr long ↦ let clash : true ≡ false = sym on ∙ no_long plan end.0 long in cc
    ]
