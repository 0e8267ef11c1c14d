use Rattle.std.proofs.Common.{◌≡◌, inl, inr, ◌+◌, Bool, true, false, ◌&&◌, ◌||◌, if◌then◌else◌, take, Option, Some, None, is_some, sym, ap, subst, ◌∙◌, arith}
use Rattle.std.proofs.lemmas.Grind.{common_steps}
use Rattle.std.proofs.lemmas.List.{map_push}
use Rattle.std.specs.Option.{option_or}
use Rattle.values.specs.declared.name.RowName.{RowName}
use Rattle.values.specs.Database.{RowOf}
use Rattle.proclang_types.specs.declared.right.Right.TheVariants.{Write}
use Rattle.footprint.specs.declared.resource.Resource.{Resource}
use Rattle.shelves.specs.declared.named.NamedRow.{NamedRow}
use Rattle.shelves.specs.Places.{seen_at, has_place, has_shelf, is_away, shared_row, is_same_name}
use Rattle.shelves.specs.Shelving.{shelf_of}
use Rattle.row_store.specs.Locked.{gives, name_of, is_of, locks_itself}
use Rattle.row_store.specs.Named.{AreDistinct}
use Rattle.shelves.specs.Named.{listed, names_listed}
use Rattle.shelves.proofs.Exact.{same_name, is_name_itself}
use Rattle.shelves.proofs.Booleans.{either}
use Rattle.row_store.proofs.Lists.{list_step, some_test, distinct_push}
use Rattle.shelves.proofs.Lists.{listed_names, listed_push}
use Rattle.row_store.proofs.Ordered.{fresh, of_tested, or_false, tested}
use Rattle.row_store.proofs.by_name.written_rows.Goals.{in-Some+in_ok-row+in_ok-push, in_default}
use Rattle.row_store.proofs.by_name.written_rows.Goals as goal

pub loop-resource-preserved : goal.loop-resource-preserved
loop-resource-preserved c =
    let sh : RowName → Resource = shelf_of c.args.catalogue.now in
    let before : RowName → Bool = locks_itself (take c.loop-resource.resource-index c.args.requests.now) Write in
    let y : RowName → Bool = λ q. gives Write c.loop-resource-item.result.1 && is_of (name_of c.loop-resource-item.result.0) q in
    let row : RowName → Option RowOf = λ q. (seen_at c.args.shelves.now (sh q) q).row in
    let more : (q : RowName) → locks_itself (take (c.loop-resource.resource-index + 1) c.args.requests.now) Write q ≡ (before q || y q) = λ q. grind (arith, common_steps) in
    let said : (q : RowName) → is_of c.written_name.result q ≡ y q =
    λ q. ap (λ o. is_of o q) c.written_name.ensures ∙ of_tested (gives Write c.loop-resource-item.result.1) (name_of c.loop-resource-item.result.0) q in
    elim c.match-written_name.branch [
      | in-Some+in_ok-row+in_ok-push w ↦
          let n : RowName = w.in-Some.name in
          let x : NamedRow = record { name = n; row = w.in_ok-row.row } in
          let its : (q : RowName) → is_same_name n q ≡ y q = λ q. ap (λ o. is_of o q) (sym w.in-Some.is) ∙ said q in
          let all : (q : RowName) → (before q || is_same_name n q) ≡ locks_itself (take (c.loop-resource.resource-index + 1) c.args.requests.now) Write q = λ q. ap (λ b. before q || b) (its q) ∙ sym (more q) in
          let name : name_of c.loop-resource-item.result.0 ≡ Some n = tested (gives Write c.loop-resource-item.result.1) (name_of c.loop-resource-item.result.0) n (sym c.written_name.ensures ∙ w.in-Some.is) in
          let new : before n ≡ false =
          fresh c.args.catalogue.now c.args.requests.now c.requires.over c.requires.sorted c.loop-resource.resource-index c.loop-resource-item.result c.loop-resource-test.true c.loop-resource-item.is
          (c.requires.over c.loop-resource-item.result (c.loop-resource.resource-index, omega arith, sym c.loop-resource-item.is)) n
          (ap (λ o. is_of o n) name ∙ is_name_itself n) in
          let there : has_place w.lend_row.new.shelves (sh n) n ≡ true = ap (λ (d : Resource). has_place w.lend_row.new.shelves d n) (sym w.shelf_of.ensures) ∙ w.in_ok-row.ensures.there in (
            λ d q. ap (λ s. seen_at s d q) w.shelves-is ∙ w.lend_row.ensures.seen d q ∙ c.loop-resource.invariant.0 d q,
            λ d q h. ap (λ s. has_place s d q) w.shelves-is ∙ w.lend_row.ensures.kept d q (c.loop-resource.invariant.1 d q h),
            λ d h. ap (λ s. has_shelf s d) w.shelves-is ∙ w.lend_row.ensures.shelves d (c.loop-resource.invariant.2 d h),
            λ d. ap (λ s. is_away s d) w.shelves-is ∙ w.lend_row.ensures.away d ∙ c.loop-resource.invariant.3 d,
            λ q.
                ap (λ v. listed v.items q) w.rows-is
                ∙ ap (λ ys. listed ys q) w.in_ok-push.ensures.items ∙ listed_push c.loop-resource.rows.items x q
                ∙ ap (λ o. option_or o (if is_same_name n q then Some (shared_row x.row) else None)) (c.loop-resource.invariant.4 q)
                ∙ list_step (before q) (is_same_name n q) (row q) (shared_row x.row)
                (λ h. w.in_ok-row.ensures.row ∙ ap (λ (d : Resource). (seen_at c.loop-resource.shelves d n).row) w.shelf_of.ensures
                ∙ ap (λ p. p.row) (c.loop-resource.invariant.0 (sh n) n) ∙ ap row (same_name n q h))
                ∙ ap (λ b. if b then Some (row q) else None) (all q),
            λ q h. ap (λ s. has_place s (sh q) q) w.shelves-is ∙ elim (either (before q) (is_same_name n q) (all q ∙ h)) [
              | inl old ↦ w.lend_row.ensures.kept (sh q) q (c.loop-resource.invariant.5 q old)
              | inr same ↦ ap (λ m. has_place w.lend_row.new.shelves (sh m) m) (sym (same_name n q same)) ∙ there
            ],
            subst AreDistinct (sym (ap (λ v. names_listed v.items) w.rows-is ∙ ap names_listed w.in_ok-push.ensures.items ∙ map_push (λ (e : NamedRow). e.name) c.loop-resource.rows.items x))
                (distinct_push (names_listed c.loop-resource.rows.items) n c.loop-resource.invariant.6
                (sym (listed_names c.loop-resource.rows.items n) ∙ ap is_some (c.loop-resource.invariant.4 n) ∙ some_test (before n) (row n) ∙ new)),
          )
      | in_default w ↦
          let same : (q : RowName) → locks_itself (take (c.loop-resource.resource-index + 1) c.args.requests.now) Write q ≡ before q =
          λ q. more q ∙ ap (λ b. before q || b) (sym (said q) ∙ ap (λ o. is_of o q) w.in_default.is) ∙ or_false (before q) in (
            λ d q. ap (λ s. seen_at s d q) w.shelves-is ∙ c.loop-resource.invariant.0 d q,
            λ d q h. ap (λ s. has_place s d q) w.shelves-is ∙ c.loop-resource.invariant.1 d q h,
            λ d h. ap (λ s. has_shelf s d) w.shelves-is ∙ c.loop-resource.invariant.2 d h,
            λ d. ap (λ s. is_away s d) w.shelves-is ∙ c.loop-resource.invariant.3 d,
            λ q. ap (λ v. listed v.items q) w.rows-is ∙ c.loop-resource.invariant.4 q ∙ ap (λ b. if b then Some (row q) else None) (sym (same q)),
            λ q h. ap (λ s. has_place s (sh q) q) w.shelves-is ∙ c.loop-resource.invariant.5 q (sym (same q) ∙ h),
            subst AreDistinct (sym (ap (λ v. names_listed v.items) w.rows-is)) c.loop-resource.invariant.6,
          )
    ]
