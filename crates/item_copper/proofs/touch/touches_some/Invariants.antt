use Rattle.std.specs.List.{AllWithin}
use Rattle.one_item.specs.CopperPairs.{PartsMeet}
use Rattle.item_copper.proofs.touch.touches_some.Given as goal

abbrev pub invariant-loop-other : goal.invariant-loop-other
invariant-loop-other l = AllWithin (λ other. ¬ (PartsMeet l.part other)) l.others 0 l.other-index
