use Rattle.std.proofs.Common.{arith}
use Rattle.board_items.proofs.TakenOut.{few_of}
use Rattle.board_items.proofs.board.Board.count_of.Goals as goal

pub overflow_add-count : goal.overflow_add-count
overflow_add-count c =
    let few = few_of c.args.unit c.args.self.now.items in
    let all = c.of_unit-item-items.ensures.sound.few in
    let left = c.loop-item.invariant in
    omega (arith, few, all, left)
