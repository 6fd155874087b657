use Rattle.std.specs.List.{AllWithin}
use Rattle.one_item.specs.CopperPairs.{PartsMeet}
use Rattle.item_facts.proofs.meets.some_touches.Given as goal

abbrev pub invariant-loop-part : goal.invariant-loop-part
invariant-loop-part l = AllWithin (λ part. ¬ (PartsMeet part l.area)) l.parts 0 l.part-index
