use Rattle.std.proofs.Common.{◌≡◌, drop, map, bytes_eq}
use Rattle.std.specs.Prelude.{find}
use Rattle.net_class.specs.ClassValues.{plain_class}
use Rattle.net_class.proofs.classes.class_named.Given as goal

-- the first among those that are left is the first of all
abbrev pub invariant-loop-class : goal.invariant-loop-class
invariant-loop-class l = find (λ c. bytes_eq c.name l.name) (map plain_class (drop l.class-index l.named)) ≡ find (λ c. bytes_eq c.name l.name) (map plain_class l.named)
