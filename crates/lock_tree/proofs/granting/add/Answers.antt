use Rattle.std.proofs.Common.{◌≡◌, length, Some, refl, sym, ap, ◌∙◌, subst}
use Rattle.std.specs.Prelude.{slice_set}
use Rattle.std.specs.Option.{option_or}
use Rattle.std.specs.Vec.{with_item}
use Rattle.std.proofs.lemmas.Option.{slice_get_read}
use Rattle.std.proofs.lemmas.List.{length-set}
use Rattle.lock_tree.specs.declared.line.Line.{Line}
use Rattle.lock_tree.specs.Lines.{Lines, nodes_of, in_order}
use Rattle.lock_tree.specs.Granted.{IsFront}
use Rattle.lock_tree.proofs.Positions.{some_is, get_set_same}
use Rattle.lock_tree.proofs.Adding.{now_numbered, now_few, now_free, order_here, order_elsewhere, front_here, now_granted}
use Rattle.lock_tree.proofs.granting.add.Goals as goal

pub extended-requires-clause-few : goal.extended-requires-clause-few
extended-requires-clause-few c =
    let l = c.args.lines.now in
    now_few l (record l { nodes = c.push-node.new.nodes }) c.args.number c.push-node.result c.args.tail c.args.request c.requires.numbered c.requires.within refl refl c.nodes_stand_apart.ensures.live c.push-node.ensures

pub extended-requires-clause-front : goal.extended-requires-clause-front
extended-requires-clause-front c = λ x there.
    let l = c.args.lines.now in let q = c.args.number in let m = c.index_mut.result.now in
    let y : Line = record m { waiting = c.or-waiting.result } in
    let at = slice_get_read l.lines.items (length l.lines.items) q m refl c.requires.within c.index_mut.ensures.value in
    let also = slice_get_read l.lines.items (length l.lines.items) q c.index.result.now refl c.requires.within c.index.ensures in
    let same : c.index.result.now ≡ m = some_is c.index.result.now m (sym also ∙ at) in
    let is : y ≡ x = some_is y x (sym (get_set_same l.lines.items q y c.requires.within) ∙ there) in
    subst (IsFront (in_order c.push-node.new.nodes q) (nodes_of c.push-node.new.nodes q)) is
    (front_here l (record l { nodes = c.push-node.new.nodes }) q c.push-node.result c.args.tail c.args.request c.requires.numbered c.requires.within refl refl c.nodes_stand_apart.ensures.live c.push-node.ensures
    m y (c.requires.granted q m at) refl refl (c.or-waiting.ensures ∙ ap (λ (z : Line). option_or z.waiting (Some c.push-node.result)) same))

pub returns : goal.returns
returns c =
    let l = c.args.lines.now in let q = c.args.number in let m = c.index_mut.result.now in
    let y : Line = record m { waiting = c.or-waiting.result } in let z = c.extended.result in
    let now : Lines = record l { nodes = c.push-node.new.nodes; lines = with_item (with_item l.lines q y) q z } in
    let many : length now.lines.items ≡ length l.lines.items = length-set (slice_set l.lines.items q y) q z ∙ length-set l.lines.items q y in
    let at = slice_get_read l.lines.items (length l.lines.items) q m refl c.requires.within c.index_mut.ensures.value in
    record {
      numbered = now_numbered l now q c.push-node.result c.args.tail c.args.request c.requires.numbered c.requires.within many refl c.nodes_stand_apart.ensures.live c.push-node.ensures;
      granted = now_granted l now q c.push-node.result c.args.tail c.args.request c.requires.numbered c.requires.within many refl c.nodes_stand_apart.ensures.live c.push-node.ensures m y z c.requires.granted at c.requires.above refl
          c.extended.ensures.front c.extended.ensures.all;
      numbers = refl;
      free = now_free l now q c.push-node.result c.args.tail c.args.request c.requires.numbered c.requires.within many refl c.nodes_stand_apart.ensures.live c.push-node.ensures;
      live = c.nodes_stand_apart.ensures.live;
      pushed = c.push-node.ensures;
      here = order_here l now q c.push-node.result c.args.tail c.args.request c.requires.numbered c.requires.within many refl c.nodes_stand_apart.ensures.live c.push-node.ensures;
      elsewhere = order_elsewhere l now q c.push-node.result c.args.tail c.args.request c.requires.numbered c.requires.within many refl c.nodes_stand_apart.ensures.live c.push-node.ensures;
    }
