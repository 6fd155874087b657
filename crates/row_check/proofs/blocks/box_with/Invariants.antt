use Rattle.std.proofs.Common.{All, ◌∷◌, take}
use Rattle.geo_seg.specs.Boxes.{IsPartOf}
use Rattle.row_check.proofs.blocks.box_with.Given as goal

abbrev pub invariant-loop-entry : goal.invariant-loop-entry
invariant-loop-entry l = All (λ e. IsPartOf e.bounds l.bounds) (l.first ∷ take l.entry-index l.others)
