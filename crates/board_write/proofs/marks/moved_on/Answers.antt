use Rattle.std.proofs.Common.{◌≡◌, ◌∙◌, sym, ap, subst}
use Rattle.int_algebra.proofs.Scalars.{clean}
use Rattle.board_write.specs.declared.marks.Mark.{Mark}
use Rattle.board_write.specs.Marks.{plain_mark, moved_on, IsShortShift}
use Rattle.board_write.proofs.Standing.{held, moves_same, sum_passed}
use Rattle.board_write.proofs.marks.moved_on.Goals as goal

pub returns-in-Moved : goal.returns-in-Moved
returns-in-Moved c =
    let short = subst (λ (m : Mark). IsShortShift 4294967294 (plain_mark m)) c.in-Moved.is c.requires in
    let x : c.from-in-Moved.result ≡ c.args.dx = c.from-in-Moved.ensures ∙ clean c.args.dx c.ranges.dx in
    let y : c.from-in-Moved-2.result ≡ c.args.dy = c.from-in-Moved-2.ensures ∙ clean c.args.dy c.ranges.dy in
    moves_same _ _ _ _ (sum_passed c.in-Moved.by.dx c.from-in-Moved.result c.args.dx short.0 (held c.args.dx c.ranges.dx) x) (sum_passed c.in-Moved.by.dy c.from-in-Moved-2.result c.args.dy short.1 (held c.args.dy c.ranges.dy) y)
    ∙ ap (λ (m : Mark). moved_on c.args.dx c.args.dy (plain_mark m)) (sym c.in-Moved.is)
