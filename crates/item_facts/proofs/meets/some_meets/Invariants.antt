use Rattle.std.specs.List.{AllWithin}
use Rattle.geo_seg.specs.Distances.{Meet}
use Rattle.item_facts.proofs.meets.some_meets.Given as goal

abbrev pub invariant-loop-part : goal.invariant-loop-part
invariant-loop-part l = AllWithin (λ part. ¬ (Meet part.shape l.area.shape)) l.parts 0 l.part-index
