use Rattle.std.proofs.Common.{arith}
use Rattle.session.proofs.Numbers.{number_few, number_is}
use Rattle.session.proofs.work.Work.next_number.Goals as goal

pub overflow_add-before : goal.overflow_add-before
overflow_add-before c =
    let few = number_few c.args.self.now c.requires in
    let is = number_is c.args.self.now in
    let carried = c.carried.ensures.same in
    let waiting = c.len.ensures in
    omega (arith, few, is, carried, waiting)

pub overflow_add-result : goal.overflow_add-result
overflow_add-result c =
    let few = number_few c.args.self.now c.requires in
    let is = number_is c.args.self.now in
    let next = c.transactions.ensures in
    let carried = c.carried.ensures.same in
    let waiting = c.len.ensures in
    omega (arith, few, is, next, carried, waiting)

pub returns : goal.returns
returns c =
    let is = number_is c.args.self.now in
    let next = c.transactions.ensures in
    let carried = c.carried.ensures.same in
    let waiting = c.len.ensures in
    omega (arith, is, next, carried, waiting)
