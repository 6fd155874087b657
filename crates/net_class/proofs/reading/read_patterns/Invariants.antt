use Rattle.std.proofs.Common.{◌≡◌, [], map}
use Rattle.json_exact.specs.Json.{items}
use Rattle.json_exact.specs.Handles.{json_of, items_left}
use Rattle.net_class.specs.ProjectWalk.{with_patterns}
use Rattle.net_class.specs.ClassValues.{plain_pattern}
use Rattle.net_class.proofs.reading.read_patterns.Given as goal

-- the patterns so far, and what is left, give what all gives
abbrev pub invariant-loop-v : goal.invariant-loop-v
invariant-loop-v l = with_patterns (map plain_pattern l.patterns.items) (items_left l.v-iterator) ≡ with_patterns [] (items (json_of l.list))
