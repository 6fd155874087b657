use Rattle.std.specs.List.{AllWithin}
use Rattle.geo_seg.specs.Distances.{Meet}
use Rattle.item_facts.proofs.meets.meets_some.Given as goal

abbrev pub invariant-loop-other : goal.invariant-loop-other
invariant-loop-other l = AllWithin (λ other. ¬ (Meet l.shape other.shape)) l.others 0 l.other-index
