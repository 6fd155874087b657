use Rattle.std.proofs.Common.{◌≡◌, drop, map}
use Rattle.net_class.specs.NetClasses.{greatest_of}
use Rattle.net_class.specs.ClassValues.{plain_class}
use Rattle.net_class.proofs.classes.greatest_of.Given as goal

-- the greatest so far, and what is left, give what all gives
abbrev pub invariant-loop-class : goal.invariant-loop-class
invariant-loop-class l = greatest_of l.greatest.clearance (map plain_class (drop l.class-index l.named)) ≡ greatest_of l.default.clearance (map plain_class l.named)
