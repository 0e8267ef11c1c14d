use Rattle.std.proofs.Common.{◌≡◌, length, get_or, refl, sym, ◌∙◌, subst, arith}
use Rattle.std.specs.Prelude.{slice_set}
use Rattle.std.specs.Vec.{with_item}
use Rattle.std.proofs.lemmas.Option.{slice_get-get_or}
use Rattle.std.proofs.lemmas.List.{length-set}
use Rattle.lock_tree.specs.Lines.{Lines, nodes_of, in_order}
use Rattle.lock_tree.specs.Granted.{IsFront}
use Rattle.lock_tree.proofs.Positions.{some_is, get_set_same}
use Rattle.lock_tree.proofs.Parting.{now_numbered, now_few, now_free, order_here, order_elsewhere, front_here, now_granted}
use Rattle.lock_tree.proofs.granting.leave.Goals as goal

pub without-line-requires-clause-queue : goal.without-line-requires-clause-queue
without-line-requires-clause-queue c = let w = c.requires.within in let few = c.requires.numbered.few in let many = c.requires.numbered.many in omega (arith, w, few, many)

pub extended-requires-clause-few : goal.extended-requires-clause-few
extended-requires-clause-few c =
    let l = c.args.lines.now in
    now_few l (record l { nodes = c.take_out-successor.new.nodes }) c.args.number c.requires.there.0 c.args.node c.take_out-successor.result c.requires.numbered c.requires.within refl refl
    c.nodes_stand_apart.ensures.live c.nodes_stand_apart.ensures.apart c.requires.there.1 c.take_out-successor.ensures

pub extended-requires-clause-front : goal.extended-requires-clause-front
extended-requires-clause-front c = λ x there.
    let l = c.args.lines.now in let q = c.args.number in let y = c.without-line.result in
    let at = slice_get-get_or l.lines.items q y c.requires.within in
    let is : y ≡ x = some_is y x (sym (get_set_same l.lines.items q y c.requires.within) ∙ there) in
    subst (IsFront (in_order c.take_out-successor.new.nodes q) (nodes_of c.take_out-successor.new.nodes q)) is
    (front_here l (record l { nodes = c.take_out-successor.new.nodes }) q c.requires.there.0 c.args.node c.take_out-successor.result c.requires.numbered c.requires.within refl refl
    c.nodes_stand_apart.ensures.live c.nodes_stand_apart.ensures.apart c.requires.there.1 c.take_out-successor.ensures
    c.args.no c.requires.owned (get_or l.lines.items q y) (c.requires.granted q (get_or l.lines.items q y) at) y c.without-line.ensures)

pub returns-clause-left : goal.returns-clause-left
returns-clause-left c =
    let l = c.args.lines.now in let q = c.args.number in let y = c.without-line.result in let z = c.extended.result in
    let now : Lines = record l { nodes = c.take_out-successor.new.nodes; lines = with_item (with_item l.lines q y) q z } in
    let many : length now.lines.items ≡ length l.lines.items = length-set (slice_set l.lines.items q y) q z ∙ length-set l.lines.items q y in
    let at = slice_get-get_or l.lines.items q y c.requires.within in
    let x = get_or l.lines.items q y in
    record {
      numbered = now_numbered l now q c.requires.there.0 c.args.node c.take_out-successor.result c.requires.numbered c.requires.within many refl
          c.nodes_stand_apart.ensures.live c.nodes_stand_apart.ensures.apart c.requires.there.1 c.take_out-successor.ensures;
      granted = now_granted l now q c.requires.there.0 c.args.node c.take_out-successor.result c.requires.numbered c.requires.within many refl
          c.nodes_stand_apart.ensures.live c.nodes_stand_apart.ensures.apart c.requires.there.1 c.take_out-successor.ensures
          c.args.no c.requires.owned x (c.requires.granted q x at) y z c.requires.granted refl c.extended.ensures.front c.extended.ensures.all;
      numbers = refl;
      many = many;
      free = now_free l now q c.requires.there.0 c.args.node c.take_out-successor.result c.requires.numbered c.requires.within many refl
          c.nodes_stand_apart.ensures.live c.nodes_stand_apart.ensures.apart c.requires.there.1 c.take_out-successor.ensures;
      live = c.nodes_stand_apart.ensures.live;
      removed = c.take_out-successor.ensures;
      here = order_here l now q c.requires.there.0 c.args.node c.take_out-successor.result c.requires.numbered c.requires.within many refl
          c.nodes_stand_apart.ensures.live c.nodes_stand_apart.ensures.apart c.requires.there.1 c.take_out-successor.ensures
          c.args.no c.requires.owned x (c.requires.granted q x at);
      elsewhere = order_elsewhere l now q c.requires.there.0 c.args.node c.take_out-successor.result c.requires.numbered c.requires.within many refl
          c.nodes_stand_apart.ensures.live c.nodes_stand_apart.ensures.apart c.requires.there.1 c.take_out-successor.ensures;
    }
