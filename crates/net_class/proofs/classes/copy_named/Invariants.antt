use Rattle.std.proofs.Common.{◌≡◌, map, drop, ◌++◌}
use Rattle.net_class.specs.ClassValues.{plain_class}
use Rattle.net_class.proofs.classes.copy_named.Given as goal

abbrev pub invariant-loop-class : goal.invariant-loop-class
invariant-loop-class l = map plain_class l.named ≡ map plain_class l.list.items ++ map plain_class (drop l.class-index l.named)
