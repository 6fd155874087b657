use Rattle.std.proofs.Common.{◌≡◌, true, sym, subst, arith}
use Rattle.geo_seg.specs.Shifts.{core_stays}
use Rattle.geo_seg.proofs.Rewritten.{not_yet, one_written, all_written}
use Rattle.geo_seg.proofs.Shifted.{all_at}
use Rattle.one_item.specs.declared.parts.Part.{Part}
use Rattle.one_item.specs.ItemMoves.{IsShiftedPart}
use Rattle.one_item.proofs.shifting.shift_parts.Goals as goal

pub shift_part-requires : goal.shift_part-requires
shift_part-requires c =
    subst (λ (p : Part). core_stays c.args.by.dx c.args.by.dy p.shape.core ≡ true) (sym (not_yet (IsShiftedPart c.args.by.dx c.args.by.dy) c.loop-part.part-index c.args.parts.now c.loop-part.parts c.loop-part.invariant _))
    (all_at (λ (p : Part). core_stays c.args.by.dx c.args.by.dy p.shape.core) c.args.parts.now c.loop-part.part-index _ (omega arith) c.requires)

pub loop-part-preserved : goal.loop-part-preserved
loop-part-preserved c = one_written (IsShiftedPart c.args.by.dx c.args.by.dy) c.loop-part.part-index c.args.parts.now c.loop-part.parts _ c.shift_part.new.part c.loop-part.invariant (omega arith) c.shift_part.ensures

pub returns : goal.returns
returns c = all_written (IsShiftedPart c.args.by.dx c.args.by.dy) c.loop-part.part-index c.args.parts.now c.loop-part.parts c.loop-part.invariant (omega arith)
