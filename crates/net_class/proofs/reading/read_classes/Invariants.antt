use Rattle.std.proofs.Common.{◌≡◌, []}
use Rattle.json_exact.specs.Json.{items}
use Rattle.json_exact.specs.Handles.{json_of, items_left}
use Rattle.net_class.specs.ProjectWalk.{with_classes}
use Rattle.net_class.proofs.reading.read_classes.Given as goal

-- the classes so far, and what is left, give what all gives
abbrev pub invariant-loop-v : goal.invariant-loop-v
invariant-loop-v l = with_classes l.drafts (items_left l.v-iterator) ≡ with_classes [] (items (json_of l.list))
