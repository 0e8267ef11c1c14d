use Rattle.std.proofs.Common.{arith}
use Rattle.lock_tree.proofs.Vacancies.{all_free, none_numbered}
use Rattle.lock_tree.proofs.lines.Lines.new.Goals as goal

pub returns-clause-numbered : goal.returns-clause-numbered
returns-clause-numbered c =
    let resources = c.in_ok-with_capacity in let lines = c.in_ok-with_capacity-2 in let vacant = c.in_ok-with_capacity-3 in
    none_numbered (record { nodes = c.in_ok-nodes.nodes; numbers = c.new.result; resources = resources.field-0; lines = lines.field-0; vacant = vacant.field-0 }) c.args.arena
    (let few = c.nodes_are_few.ensures in omega (arith, few)) c.in_ok-nodes.ensures c.new.ensures.empty lines.ensures.items vacant.ensures.items resources.ensures.items lines.ensures.capacity vacant.ensures.capacity resources.ensures.capacity

pub returns-clause-free : goal.returns-clause-free
returns-clause-free c = all_free c.in_ok-nodes.nodes c.args.arena c.in_ok-nodes.ensures
