use Rattle.std.proofs.Common.{◌≡◌, ◌++◌, ◌+◌, ◌-◌, ◌/◌, arith}
use Rattle.std.proofs.lemmas.Grind.{common_steps}
use Rattle.made_board.specs.MadeBoard.{item_lines}
use Rattle.made_board.proofs.MadeLines.{item_lines_in_parts}
use Rattle.made_board.proofs.made.+fn-with_halves-join+arg2+fn-with_halves-join+arg3+with_halves.Goals as goal

pub returns : goal.returns
returns g t c =
    let low = c.args.count / 2 in
    let high = c.args.count - low in
    let prefix : c.in_ok-whole.whole.items ≡ c.args.text.items ++ item_lines c.args.first low = grind (arith, common_steps) in
    let back : c.deref.result.now ≡ item_lines (c.args.first + low) high = grind (arith, common_steps) in
    rw (c.in_ok-push_piece.ensures, prefix, back) (item_lines_in_parts c.args.text.items c.args.first low high c.args.count (omega arith))
