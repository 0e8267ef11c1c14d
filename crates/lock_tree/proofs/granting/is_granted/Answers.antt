use Rattle.std.proofs.Common.{length, refl, sym, ap, ◌∙◌}
use Rattle.std.proofs.lemmas.Option.{slice_get_read}
use Rattle.lock_tree.specs.Lines.{nodes_of, asked}
use Rattle.lock_tree.proofs.Fronting.{all_are, before_first}
use Rattle.lock_tree.proofs.granting.is_granted.Goals as goal

pub get-requires : goal.get-requires
get-requires c =
    let items = c.args.lines.now.lines.items in let x = c.index.result.now in
    let ok = c.requires.granted c.args.number x (slice_get_read items (length items) c.args.number x refl c.requires.within c.index.ensures) in
    c.nodes_stand_apart.ensures.live c.args.number x.granted c.in-Some.node (sym ok.front.waiting ∙ c.in-Some.is)

pub returns-in-Some : goal.returns-in-Some
returns-in-Some c =
    let items = c.args.lines.now.lines.items in let x = c.index.result.now in
    let ok = c.requires.granted c.args.number x (slice_get_read items (length items) c.args.number x refl c.requires.within c.index.ensures) in
    let r = c.requires.there in
    before_first c.args.lines.now.nodes.held (nodes_of c.args.lines.now.nodes c.args.number) x ok c.args.no r.0 r.1 r.2 r.3 c.in-Some.node c.get.result.no c.in-Some.is (ap (λ h. (asked h).0) c.get.ensures.1)

pub returns-in-None : goal.returns-in-None
returns-in-None c =
    let items = c.args.lines.now.lines.items in let x = c.index.result.now in
    let ok = c.requires.granted c.args.number x (slice_get_read items (length items) c.args.number x refl c.requires.within c.index.ensures) in
    let r = c.requires.there in
    all_are c.args.lines.now.nodes.held (nodes_of c.args.lines.now.nodes c.args.number) x ok c.args.no r.0 r.1 r.2 r.3 c.in-None.is
