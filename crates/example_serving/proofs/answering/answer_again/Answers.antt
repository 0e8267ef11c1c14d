use Rattle.std.proofs.Common.{◌≡◌, ◌<◌, ◌∷◌, ◌∙◌, drop, length, map, sym, ap, rules}
use Rattle.std.specs.Vec.Iter.{into_iter_items}
use Rattle.std.proofs.lemmas.List.{map-append}
use Rattle.example_serving.specs.Serving.{said_in}
use Rattle.example_serving.proofs.Again.{dropped_more, said_more}
use Rattle.example_serving.proofs.answering.answer_again.Goals as goal

pub loop-preserved : goal.loop-preserved
loop-preserved c =
    let inv = c.loop.invariant in
    let replies = into_iter_items c.args.replies.now in
    let rest = into_iter_items c.next.new.self in
    let within : c.loop.counter < length replies = search rules in
    let turn : into_iter_items c.loop.replies ≡ c.in-Some.reply ∷ rest = search rules in
    let there : c.in-Some.reply ∷ rest ≡ drop c.loop.counter replies = sym turn ∙ inv.replies in
    record {
      told = ap (map said_in) c.push_reserved.ensures.items ∙ map-append said_in c.loop.told.items _
          ∙ said_more c.loop.counter replies c.in-Some.reply rest (map said_in c.args.told.now.items) (map said_in c.loop.told.items) within there inv.told;
      replies = dropped_more c.loop.counter replies c.in-Some.reply rest within there;
      count = search rules;
      room = search rules;
    }
