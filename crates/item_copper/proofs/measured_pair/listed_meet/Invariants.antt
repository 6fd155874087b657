use Rattle.std.proofs.Common.{IsTrue}
use Rattle.std.specs.List.{Any, AllWithin}
use Rattle.geo_seg.specs.Distances.{Meet}
use Rattle.item_copper.specs.MeasuredSides.{is_taken, parts_at}
use Rattle.item_copper.proofs.measured_pair.listed_meet.Given as goal

abbrev pub invariant-loop-part : goal.invariant-loop-part
invariant-loop-part l = AllWithin (λ part. IsTrue (is_taken l.listed.layer part) → ¬ (Any (λ other. Meet part.shape other.shape) (parts_at l.side))) l.listed.parts.now 0 l.part-index
