use Rattle.std.proofs.Common.{IsTrue}
use Rattle.std.specs.List.{AllWithin}
use Rattle.geo_seg.specs.Distances.{Meet}
use Rattle.item_copper.specs.MeasuredSides.{is_taken}
use Rattle.item_copper.proofs.measured_pair.meets_listed.Given as goal

abbrev pub invariant-loop-other : goal.invariant-loop-other
invariant-loop-other l = AllWithin (λ other. IsTrue (is_taken l.listed.layer other) → ¬ (Meet l.shape other.shape)) l.listed.parts.now 0 l.other-index
