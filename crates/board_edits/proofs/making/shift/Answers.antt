use Rattle.std.proofs.Common.{ap, subst, ◌∙◌, ℤ}
use Rattle.int_algebra.proofs.Scalars.{passed, clean, cleaned}
use Rattle.board_items.specs.UnitMoves.{unit_stays, IsMoved}
use Rattle.board_edits.proofs.MovedUnits.{moved_small, small_passed, back_passed, moved_made}
use Rattle.board_edits.proofs.making.shift.Goals as goal

pub shift_unit-requires : goal.shift_unit-requires
shift_unit-requires c =
    ap (λ (d : ℤ). unit_stays c.args.unit d (passed c.args.dy) c.args.board.now.items) (clean c.args.dx c.ranges.dx)
    ∙ (ap (λ (d : ℤ). unit_stays c.args.unit c.args.dx d c.args.board.now.items) (clean c.args.dy c.ranges.dy) ∙ c.requires.stays)

pub shifted_back-back-requires : goal.shifted_back-back-requires
shifted_back-back-requires c = λ some.
    small_passed c.args.dx c.args.dy c.ranges.dx c.ranges.dy (moved_small c.args.board.now c.args.unit c.args.dx c.args.dy c.deref.result.now c.soundness.ensures.sound c.requires.stays (c.deref.ensures.value ∙ c.requires.ids) some)

pub returns : goal.returns
returns c =
    let moved =
    cleaned (λ (d : ℤ). IsMoved c.args.unit d c.args.dy c.args.board.now c.shift_unit.new.self) c.args.dx c.ranges.dx
    (cleaned (λ (d : ℤ). IsMoved c.args.unit (passed c.args.dx) d c.args.board.now c.shift_unit.new.self) c.args.dy c.ranges.dy c.shift_unit.ensures.moved) in
    moved_made c.moved.ensures c.moved_by_nothing.ensures c.moved_nowhere.ensures c.moved_back.ensures c.args.board.now c.shift_unit.new.self c.args.unit c.args.dx c.args.dy _ c.soundness.ensures.sound c.soundness-2.ensures.sound
    moved c.shift_unit.ensures.points (c.shifted_back-back.ensures ∙ back_passed c.args.unit c.args.dx c.args.dy c.args.ids.items c.deref.result.now c.ranges.dx c.ranges.dy c.deref.ensures.value) c.requires.ids
