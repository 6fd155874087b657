use Rattle.std.proofs.Common.{refl}
use Rattle.geo_seg.proofs.Passed.{before_is, left_in_range, right_in_range}
use Rattle.geo_seg.proofs.Choices.{or_first, or_second}
use Rattle.geo_seg.proofs.boxes.Bounds.is_clear_in_x.Goals as goal

pub returns-then-is_before : goal.returns-then-is_before
returns-then-is_before c =
    let b = c.args.self in let k = c.args.other in
    or_first _ _ (before_is b.right k.left c.args.d _ (right_in_range 1500000000 b c.requires.first) (left_in_range 1500000000 k c.requires.second) c.requires.range.from c.requires.range.to c.is_before.ensures) c.if-is_before.true refl

pub returns-else-is_before : goal.returns-else-is_before
returns-else-is_before c =
    let b = c.args.self in let k = c.args.other in
    or_second _ _ _ (before_is b.right k.left c.args.d _ (right_in_range 1500000000 b c.requires.first) (left_in_range 1500000000 k c.requires.second) c.requires.range.from c.requires.range.to c.is_before.ensures)
    (before_is k.right b.left c.args.d _ (right_in_range 1500000000 k c.requires.second) (left_in_range 1500000000 b c.requires.first) c.requires.range.from c.requires.range.to c.is_before-else-is_before.ensures) c.if-is_before.false refl
