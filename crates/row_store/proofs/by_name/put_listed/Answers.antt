use Rattle.std.proofs.Common.{◌≡◌, inl, inr, Bool, true, false, ◌&&◌, ◌||◌, ◌∷◌, if◌then◌else◌, List, Option, sym, ap, subst, ◌∙◌}
use Rattle.std.specs.Vec.Iter.{into_iter_items}
use Rattle.values.specs.declared.name.RowName.{RowName}
use Rattle.values.specs.Database.{RowOf}
use Rattle.footprint.specs.declared.resource.Resource.{Resource}
use Rattle.shelves.specs.declared.named.NamedRow.{NamedRow}
use Rattle.shelves.specs.Places.{PlaceOf, has_place, seen_at, full, written, shared_row, is_same_shelf, is_same_name}
use Rattle.shelves.specs.Shelving.{shelf_of}
use Rattle.row_store.specs.Named.{AreDistinct}
use Rattle.shelves.specs.Named.{listed, is_listed, names_listed}
use Rattle.shelves.proofs.Exact.{own_place, same_name}
use Rattle.shelves.proofs.Booleans.{cases, neither, or_left, or_right}
use Rattle.row_store.proofs.Lists.{none_listed, there_step, back_step}
use Rattle.row_store.proofs.by_name.put_listed.Goals as goal

pub loop-name-preserved : goal.loop-name-preserved
loop-name-preserved c =
    let x : NamedRow = c.in-Some.field-0 in
    let n : RowName = x.name in
    let r : Option RowOf = shared_row x.row in
    let es : List NamedRow = into_iter_items c.next.new.self in
    let sh : RowName → Resource = shelf_of c.args.catalogue.now in
    let steps : into_iter_items c.loop-name.name-iterator ≡ x ∷ es = c.in-Some.ensures.steps.0 in
    let apart : AreDistinct (names_listed (x ∷ es)) = subst (λ (ys : List NamedRow). AreDistinct (names_listed ys)) steps c.loop-name.invariant.1 in
    let there : (q : RowName) → is_same_name n q || is_listed es q ≡ true → has_place c.loop-name.shelves (sh q) q ≡ true =
    λ q h. c.loop-name.invariant.0 q (ap (λ ys. is_listed ys q) steps ∙ h) in
    let none : (q : RowName) → is_same_name n q ≡ true → is_listed es q ≡ false = λ q h. ap (is_listed es) (sym (same_name n q h)) ∙ apart.0 in
    let kept : (q : RowName) → is_same_name n q ≡ false → has_place c.put_row.new.shelves (sh q) q ≡ has_place c.loop-name.shelves (sh q) q =
    λ q off. c.put_row.ensures.kept (sh q) q
    (ap (λ (d : Resource). is_same_shelf d (sh q) && is_same_name n q) c.shelf_of.ensures ∙ own_place c.args.catalogue.now n q ∙ off) in (
      λ q h. elim (cases (is_same_name n q)) [
        | inl on ↦ let clash : true ≡ false = sym h ∙ none q on in absurd (cc)
        | inr off ↦ kept q off ∙ there q (or_right (is_same_name n q) (is_listed es q) h)
      ],
      apart.1,
      λ q.
          let k : Bool = has_place c.loop-name.shelves (sh q) q in
          let s : PlaceOf = seen_at c.loop-name.shelves (sh q) q in
          ap (written (listed es q))
          (c.put_row.ensures.seen (sh q) q
          ∙ ap (λ (d : Resource). if is_same_shelf d (sh q) && (is_same_name n q && k) then full r else s) c.shelf_of.ensures
          ∙ there_step (is_same_shelf (sh n) (sh q)) (is_same_name n q) k (full r) s (own_place c.args.catalogue.now n q) (λ h. there q (or_left (is_same_name n q) (is_listed es q) h)))
          ∙ back_step (is_same_name n q) (listed es q) r s (λ h. none_listed es q (none q h))
          ∙ sym (ap (λ (ys : List NamedRow). written (listed ys q) s) steps)
          ∙ c.loop-name.invariant.2 q,
      λ q h.
          let was = c.loop-name.invariant.3 q h in
          let both = neither (is_same_name n q) (is_listed es q) (sym (ap (λ ys. is_listed ys q) steps) ∙ was.0) in
          (both.1, kept q both.0 ∙ was.1),
      λ d. c.put_row.ensures.shelves d ∙ c.loop-name.invariant.4 d,
      λ d. c.put_row.ensures.away d ∙ c.loop-name.invariant.5 d,
    )
