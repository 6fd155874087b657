use Rattle.std.proofs.Common.{pos, take, All}
use Rattle.geo_seg.specs.Boxes.{FitsWithin}
use Rattle.drc_session.proofs.Looked.{HasBoxes}
use Rattle.drc_session.proofs.looking.push_boxes.Given as goal

abbrev pub invariant-loop-id : goal.invariant-loop-id
invariant-loop-id l = record {
  boxes : HasBoxes l.board (take l.id-index l.ids) l.fn.boxes.items l.boxes.items;
  fit : All (FitsWithin (pos 2000000000)) l.fn.boxes.items → All (FitsWithin (pos 2000000000)) l.boxes.items;
}
