use Rattle.std.proofs.Common.{IsTrue}
use Rattle.std.specs.List.{Any, AllWithin}
use Rattle.geo_seg.specs.Distances.{Meet}
use Rattle.copper_layers.specs.Layers.{has_layer}
use Rattle.item_facts.proofs.meets.some_meet_on.Given as goal

abbrev pub invariant-loop-part : goal.invariant-loop-part
invariant-loop-part l = AllWithin (λ part. IsTrue (has_layer part.layers l.layer) → ¬ (Any (λ other. Meet part.shape other.shape) l.others)) l.parts 0 l.part-index
