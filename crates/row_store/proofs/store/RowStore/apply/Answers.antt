use Rattle.std.proofs.Common.{◌≡◌, sym, ap, ◌∙◌}
use Rattle.std.specs.BTreeMap as tree
use Rattle.std.specs.FinMap as finite
use Rattle.values.specs.declared.name.RowName.{RowName}
use Rattle.values.specs.Database.{Database, name_cmp}
use Rattle.workspace.specs.Overlay.{applied}
use Rattle.row_store.specs.Forgetting.{has_write}
use Rattle.row_store.specs.Stock.{Stock}
use Rattle.shelves.specs.Rows.{found, rows_of}
use Rattle.shelves.specs.Shelving.{shelf_of}
use Rattle.row_store.specs.Views.{lent_of}
use Rattle.shelves.proofs.Rows.{same_rows, rows_written}
use Rattle.row_store.proofs.Forgotten.{digest_still_kept, not_changed, still_kept, store_over, written_here}
use Rattle.row_store.proofs.Kept.{on_err}
use Rattle.row_store.proofs.store.RowStore.apply.Goals as goal

pub invariant_of-self : goal.invariant_of-self
invariant_of-self c =
    let same : (q : RowName) → found c.self.inside.catalogue c.write.new.shelves q ≡ found c.self.inside.catalogue c.self.inside.shelves q = λ q. c.in_err-write.ensures.err (shelf_of c.self.inside.catalogue q) q in
    let rows = same_rows c.self.inside.catalogue c.self.inside.shelves c.write.new.shelves (λ q. ap (λ p. p.counts_as) (same q)) in (
      store_over c.self.inside.catalogue c.self.inside.shelves c.write.new.shelves c.self.inside.lent
          (λ q h. ap (λ p. p.row) (same q) ∙ h ∙ sym (ap (λ p. p.counts_as) (same q)))
          c.write.ensures.kept c.write.ensures.shelves c.write.ensures.away c.self.invariant.0,
      still_kept c.self.inside.catalogue (rows_of c.self.inside.catalogue c.self.inside.shelves) (rows_of c.self.inside.catalogue c.write.new.shelves) c.self.inside.kept c.forget_written.new.kept
          (has_write c.self.inside.catalogue c.args.writes.entries) c.forget_written.ensures (λ q off. ap (λ (db : Database). finite.get db q) rows) c.self.invariant.1,
      digest_still_kept c.self.inside.catalogue c.args.writes.entries (rows_of c.self.inside.catalogue c.self.inside.shelves) (rows_of c.self.inside.catalogue c.write.new.shelves) c.self.inside.all_rows_digest c.keep_unless_written.new.kept
          c.keep_unless_written.ensures (λ none. rows) c.self.invariant.2,
    )

pub invariant_of-self-2 : goal.invariant_of-self-2
invariant_of-self-2 c = (
  store_over c.self.inside.catalogue c.self.inside.shelves c.write.new.shelves c.self.inside.lent
      (λ q h.
      ap (λ p. p.row) (c.in_ok-write.ensures.seen q)
      ∙ written_here (tree.get name_cmp c.args.writes q) (found c.self.inside.catalogue c.self.inside.shelves q) h
      ∙ sym (ap (λ p. p.counts_as) (c.in_ok-write.ensures.seen q)))
      c.write.ensures.kept c.write.ensures.shelves c.write.ensures.away c.self.invariant.0,
  still_kept c.self.inside.catalogue (rows_of c.self.inside.catalogue c.self.inside.shelves) (rows_of c.self.inside.catalogue c.write.new.shelves) c.self.inside.kept c.forget_written.new.kept
      (has_write c.self.inside.catalogue c.args.writes.entries) c.forget_written.ensures
      (not_changed c.self.inside.catalogue c.self.inside.shelves c.write.new.shelves c.args.writes c.in_ok-write.ensures.seen) c.self.invariant.1,
  digest_still_kept c.self.inside.catalogue c.args.writes.entries (rows_of c.self.inside.catalogue c.self.inside.shelves) (rows_of c.self.inside.catalogue c.write.new.shelves) c.self.inside.all_rows_digest c.keep_unless_written.new.kept
      c.keep_unless_written.ensures
      (λ none. rows_written c.self.inside.catalogue c.self.inside.shelves c.write.new.shelves c.args.writes c.in_ok-write.ensures.seen ∙ ap (λ es. applied es (rows_of c.self.inside.catalogue c.self.inside.shelves)) none)
      c.self.invariant.2,
)

pub returns-in_err-write-clause-err : goal.returns-in_err-write-clause-err
returns-in_err-write-clause-err c =
    let rows = same_rows c.self.inside.catalogue c.self.inside.shelves c.write.new.shelves (λ q. ap (λ p. p.counts_as) (c.in_err-write.ensures.err (shelf_of c.self.inside.catalogue q) q)) in
    on_err c.from_residual.result _
    (ap (λ (r : Database). record { tables = c.self.inside.catalogue; rows = r; lent = lent_of c.self.inside.lent }) rows ∙ c.self.view_is)

pub returns-clause-rows : goal.returns-clause-rows
returns-clause-rows c =
    rows_written c.self.inside.catalogue c.self.inside.shelves c.write.new.shelves c.args.writes c.in_ok-write.ensures.seen
    ∙ ap (λ (s : Stock). applied c.args.writes.entries s.rows) c.self.view_is
