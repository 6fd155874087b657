use Rattle.std.proofs.Common.{◌*◌}
use Rattle.box_index.specs.AreaWalks.{IsFilled}
use Rattle.box_index.proofs.fills.filled.Given as goal

abbrev pub invariant-loop : goal.invariant-loop
invariant-loop g l = IsFilled (l.counter * 125) l.fn.value l.values.items
