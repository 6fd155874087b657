use Rattle.std.proofs.Common.{◌≡◌, ◌++◌}
use Rattle.footprint_read.proofs.contents.append_given.Given as goal

-- those so far stand behind the old ones
abbrev pub invariant-loop-given : goal.invariant-loop-given
invariant-loop-given l = l.list.items ≡ l.initial.list.items ++ l.yielded
