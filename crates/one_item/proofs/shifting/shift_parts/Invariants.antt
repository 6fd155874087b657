use Rattle.geo_seg.proofs.Rewritten.{Rewritten}
use Rattle.one_item.specs.ItemMoves.{IsShiftedPart}
use Rattle.one_item.proofs.shifting.shift_parts.Given as goal

abbrev pub invariant-loop-part : goal.invariant-loop-part
invariant-loop-part l = Rewritten (IsShiftedPart l.by.dx l.by.dy) l.part-index l.fn.parts l.parts
