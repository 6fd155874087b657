use Rattle.std.proofs.Common.{◌≡◌, ◌++◌}
use Rattle.footprint_read.specs.FootprintOf.{given_at}
use Rattle.footprint_read.proofs.contents.append_items.Given as goal

-- those so far stand behind the old ones
abbrev pub invariant-loop-item : goal.invariant-loop-item
invariant-loop-item l = l.list.items ≡ l.initial.list.items ++ given_at l.place l.yielded
