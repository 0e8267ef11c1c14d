use Rattle.std.proofs.Common.{◌≡◌, ◌+◌, sym, ap, ◌∙◌, subst}
use Rattle.footprint.specs.OfCatalogue.{IsFootprintOf}
use Rattle.footprint.specs.Rights.{FootprintOf, with_right, with_rights}
use Rattle.footprint.specs.Tree.{row_resource}
use Rattle.footprint.proofs.OfCatalogue.{more_of_catalogue}
use Rattle.footprint.proofs.Ranges.{rows_left, none_done, one_more, all_done}
use Rattle.footprint.proofs.grant.add_rows.Goals as goal

pub loop-distance-init : goal.loop-distance-init
loop-distance-init c = record {
  added = ap (with_rights c.args.footprint.now) (none_done c.args.catalogue.now c.args.right c.args.table c.args.count c.args.first);
  of_catalogue = λ of. of;
}

pub loop-distance-preserved : goal.loop-distance-preserved
loop-distance-preserved c = record {
  added =
      let is : c.add.new.self ≡ with_right c.loop-distance.footprint (row_resource c.args.catalogue.now (record { table = c.args.table; key = c.args.first + c.loop-distance.distance })) c.args.right = (let a = c.in_ok-add.ensures.added in let r = c.row.ensures.exact in let n = c.new.ensures in let k = c.key_above-key.ensures in cc) in
      ap (λ (f : FootprintOf). with_rights f (rows_left c.args.catalogue.now c.args.right c.args.table c.args.count c.args.first (c.loop-distance.distance + 1))) is
      ∙ sym (one_more c.loop-distance.footprint c.args.catalogue.now c.args.right c.args.table c.args.count c.args.first c.loop-distance.distance c.loop-distance-test.true)
      ∙ c.loop-distance.invariant.added;
  of_catalogue = λ of. subst (IsFootprintOf c.args.catalogue.now) (sym c.in_ok-add.ensures.added)
      (more_of_catalogue c.args.catalogue.now c.loop-distance.footprint c.row.result c.args.right (c.loop-distance.invariant.of_catalogue of) c.row.ensures.of_catalogue);
}

pub returns-clause-added : goal.returns-clause-added
returns-clause-added c =
    sym (all_done c.loop-distance.footprint c.args.catalogue.now c.args.right c.args.table c.args.count c.args.first c.loop-distance.distance c.loop-distance-test.false)
    ∙ c.loop-distance.invariant.added
