use Rattle.std.proofs.Common.{◌≡◌}
use Rattle.footprint_read.specs.FootprintOf.{items_of}
use Rattle.footprint_read.proofs.footprint.items_of.Given as goal

-- the items so far
abbrev pub invariant-loop-given : goal.invariant-loop-given
invariant-loop-given l = l.items.items ≡ items_of l.yielded
