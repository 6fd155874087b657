use Rattle.std.proofs.Common.{refl, ℤ}
use Rattle.geo_seg.specs.Boxes.{IsClearOf}
use Rattle.geo_seg.proofs.Passed.{at_reach}
use Rattle.geo_seg.proofs.Choices.{or_first, or_second}
use Rattle.geo_seg.proofs.boxes.Bounds.is_clear.Goals as goal

pub returns-then-is_clear_in_x : goal.returns-then-is_clear_in_x
returns-then-is_clear_in_x c =
    let b = c.args.self in let k = c.args.other in
    or_first _ _ (at_reach (λ (z : ℤ). IsClearOf b.left b.right k.left k.right z) c.args.d _ c.requires.range.from c.requires.range.to c.is_clear_in_x.ensures) c.if-is_clear_in_x.true refl

pub returns-else-is_clear_in_x : goal.returns-else-is_clear_in_x
returns-else-is_clear_in_x c =
    let b = c.args.self in let k = c.args.other in
    or_second _ _ _ (at_reach (λ (z : ℤ). IsClearOf b.left b.right k.left k.right z) c.args.d _ c.requires.range.from c.requires.range.to c.is_clear_in_x.ensures)
    (at_reach (λ (z : ℤ). IsClearOf b.top b.bottom k.top k.bottom z) c.args.d _ c.requires.range.from c.requires.range.to c.is_clear_in_y.ensures) c.if-is_clear_in_x.false refl
