use Rattle.std.proofs.Common.{◌++◌, pos, List, IfSome, take}
use Rattle.geo_seg.specs.Boxes.{FitsWithin}
use Rattle.one_item.specs.declared.parts.Part.{Part}
use Rattle.one_item.specs.Extents.{AreBoundsOf}
use Rattle.one_item.proofs.extents.around.Given as goal

abbrev pub invariant-loop-part : goal.invariant-loop-part
invariant-loop-part l = IfSome l.so_far (FitsWithin (pos 1500000000))
    × ((before : List Part) → AreBoundsOf before l.fn.found → AreBoundsOf (before ++ take l.part-index l.parts) l.so_far)
