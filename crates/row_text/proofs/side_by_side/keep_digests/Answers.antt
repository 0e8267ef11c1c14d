use Rattle.std.proofs.Common.{◌≡◌, ◌∙◌, ap, map}
use Rattle.row_text.specs.Kept.{IsKept, IsPartitionOf}
use Rattle.row_text.specs.SideBySide.{partition_of}
use Rattle.row_text.proofs.SideBySide.{all_of, each_of, on_ok, whole}
use Rattle.row_text.proofs.side_by_side.keep_digests.Goals as goal

pub keep_all-requires-clause-parts : goal.keep_all-requires-clause-parts
keep_all-requires-clause-parts g c =
    let made : c.as_slice.result.now ≡ c.make_all.new.hashings =
    whole _ _ _ _ c.as_slice.ensures.value (c.make_all.auto.hashings ∙ c.as_mut_slice.ensures.len) in
    let same : map partition_of c.as_slice.result.now ≡ c.args.parts.now =
    ap (map partition_of) made ∙ c.make_all.ensures.partitions ∙ ap (map partition_of) c.as_mut_slice.ensures.value
    ∙ c.in_ok-hashings.ensures in
    each_of (IsPartitionOf c.args.catalogue.now) c.as_slice.result.now c.args.parts.now same c.requires.parts

pub returns-clause-all : goal.returns-clause-all
returns-clause-all g c =
    let made : c.as_slice.result.now ≡ c.make_all.new.hashings =
    whole _ _ _ _ c.as_slice.ensures.value (c.make_all.auto.hashings ∙ c.as_mut_slice.ensures.len) in
    let same : map partition_of c.as_slice.result.now ≡ c.args.parts.now =
    ap (map partition_of) made ∙ c.make_all.ensures.partitions ∙ ap (map partition_of) c.as_mut_slice.ensures.value
    ∙ c.in_ok-hashings.ensures in
    on_ok _ _ c.keep_all.result
    (all_of (IsKept c.args.catalogue.now (g.V.RowView.rows c.args.view.now) c.keep_all.new.kept) c.as_slice.result.now
    c.args.parts.now same)
    c.keep_all.ensures.all
