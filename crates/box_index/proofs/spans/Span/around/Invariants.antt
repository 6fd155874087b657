use Rattle.std.proofs.Common.{take}
use Rattle.box_index.specs.Tiles.{is_met_by}
use Rattle.box_index.specs.TileRanges.{HasAll}
use Rattle.box_index.proofs.spans.Span.around.Given as goal

abbrev pub invariant-loop-bounds : goal.invariant-loop-bounds
invariant-loop-bounds l = HasAll (is_met_by l.margin (take l.bounds-index l.boxes)) l.span
